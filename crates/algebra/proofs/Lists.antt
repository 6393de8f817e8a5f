-- Tests of a whole list, and how many elements pass one.
use Rattle.std.proofs.Common.{◌≡◌, ℕ, zero, suc, ◌<◌, ◌≤◌, Bool, true, cond, ◌||◌, List, [], ◌∷◌, ◌++◌, map, length, get_or, count_by, filter, refl, ap, inl, inr, arith}
use Rattle.std.specs.List.{ContainsAt as Has, AllByRecursion}
use Rattle.std.proofs.ByRecursion.{has_get_or}
use Rattle.std.proofs.lemmas.List.Folds.{list_any-append}
use Rattle.std.proofs.lemmas.List.Sums.{sum_by-cons, get_or-le-sum_by}
use Rattle.std.proofs.lemmas.Bool.{and_parts, or_cases, or_left, or_right, false≢true, cases_Bool}
use Rattle.algebra.specs.Lists.{all, some}

-- 1 where a test passes, and 0 where it does not
abbrev pub bit : Bool → ℕ
bit b = cond b 1 0

pub all_true : {X : Type 0} (p : X → Bool) (xs : List X) → all p xs ≡ true → AllByRecursion (λ x. p x ≡ true) xs
all_true p [] h = tt
all_true p (x ∷ xs) h = let hs = and_parts (p x) (all p xs) h in (hs.0, all_true p xs hs.1)

pub some-append : {X : Type 0} (p : X → Bool) (xs ys : List X) → some p (xs ++ ys) ≡ (some p xs || some p ys)
some-append p xs ys = list_any-append p xs ys

pub some-map : {X Y : Type 0} (p : Y → Bool) (m : X → Y) (xs : List X) → some p (map m xs) ≡ some (λ x. p (m x)) xs
some-map p m [] = refl
some-map p m (x ∷ xs) = ap (λ b. p (m x) || b) (some-map p m xs)

pub some_weaker : {X : Type 0} (p q : X → Bool) → ((x : X) → p x ≡ true → q x ≡ true) → (xs : List X) → some p xs ≡ true → some q xs ≡ true
some_weaker p q w [] h = h
some_weaker p q w (x ∷ xs) h = elim (or_cases (p x) (some p xs) h) [ inl e ↦ or_left (q x) (some q xs) (w x e) | inr e ↦ or_right (q x) (some q xs) (some_weaker p q w xs e) ]

-- a test that all pass
pub some_any : {X : Type 0} (p : X → Bool) → ((x : X) → p x ≡ true) → (xs : List X) → 1 ≤ length xs → some p xs ≡ true
some_any p h [] l = absurd (omega arith)
some_any p h (x ∷ xs) l = or_left (p x) (some p xs) (h x)

pub some_kept : {X : Type 0} (p : X → Bool) (xs : List X) → some p xs ≡ true → 1 ≤ length (filter p xs)
some_kept p (x ∷ xs) h = elim (cases_Bool (p x)) [ inl e ↦ rw e (omega arith) | inr e ↦ rw e (some_kept p xs (rw e at h)) ]
some_kept p [] h = absurd (false≢true h)

pub all_both : {X : Type 0} (A B C : X → Type 0) → ((x : X) → A x → B x → C x) → (xs : List X) → AllByRecursion A xs → AllByRecursion B xs → AllByRecursion C xs
all_both A B C f [] a b = tt
all_both A B C f (x ∷ xs) a b = (f x a.0 b.0, all_both A B C f xs a.1 b.1)

-- ---- how many pass

-- what is counted is there
pub counted : {X : Type 0} (p : X → Bool) (xs : List X) → 1 ≤ count_by p xs → (k : ℕ) × (k < length xs) × ((d : X) → p (get_or xs k d) ≡ true)
counted p [] h = absurd (omega arith)
counted p (x ∷ xs) h = elim (cases_Bool (p x)) [
  | inl e ↦ (0, omega arith, λ d. e)
  | inr e ↦
      let r = counted p xs (omega (arith, sum_by-cons (λ x. bit (p x)) x xs, ap bit e)) in
      (suc r.0, omega (arith, r.1), r.2)
]

-- what is there is counted
pub counts : {X : Type 0} (p : X → Bool) (xs : List X) (x : X) → Has xs x → p x ≡ true → 1 ≤ count_by p xs
counts {X} p xs x h e = omega (arith, get_or-le-sum_by (λ x. bit (p x)) xs h.0 x h.1, ap (λ (y : X). bit (p y)) (h.2 x), ap bit e)

-- what is counted at most once is at one place
pub only_one : {X : Type 0} (p : X → Bool) (xs : List X) (d : X) (i j : ℕ) → count_by p xs ≤ 1 → i < length xs → j < length xs → p (get_or xs i d) ≡ true → p (get_or xs j d) ≡ true → i ≡ j
only_one p [] d i j c a b e f = absurd (omega arith)
only_one p (x ∷ xs) d zero zero c a b e f = refl
only_one p (x ∷ xs) d zero (suc j) c a b e f = absurd (omega (arith, sum_by-cons (λ x. bit (p x)) x xs, ap bit e, counts p xs (get_or xs j d) (has_get_or xs j d (omega arith)) f))
only_one p (x ∷ xs) d (suc i) zero c a b e f = absurd (omega (arith, sum_by-cons (λ x. bit (p x)) x xs, ap bit f, counts p xs (get_or xs i d) (has_get_or xs i d (omega arith)) e))
only_one p (x ∷ xs) d (suc i) (suc j) c a b e f = ap suc (only_one p xs d i j (omega (arith, sum_by-cons (λ x. bit (p x)) x xs)) (omega arith) (omega arith) e f)
