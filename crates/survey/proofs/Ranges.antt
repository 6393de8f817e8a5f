-- Tests of all numbers below another and of all elements, in the words of std's chains.
use Rattle.std.proofs.Common.{◌≡◌, ℕ, zero, suc, ◌+◌, ◌<◌, ◌≤◌, Bool, true, false, cond, ◌&&◌, List, [], ◌∷◌, ◌++◌, map, length, count_by, Some, None, Option, Decides, refl, sym, ap, subst, ◌∙◌, inl, inr, arith}
use Rattle.std.proofs.lemmas.List.Folds.{list_all-append, list_all-map, list_all_at}
use Rattle.std.proofs.lemmas.Bool.{and_from, both_ways, cases_Bool, cases_eq}
use Rattle.std.proofs.lemmas.Bool.Decides.{Decides-below_and}
use Rattle.std.specs.Bool.{MatchBool}
use Rattle.std.proofs.lemmas.List.Sums.{sum_by_push}
use Rattle.std.specs.List.{AllWithin, HoldsAt, find, list_all, range_with_len}
use Rattle.algebra.specs.Lists.{all}
use Rattle.algebra.proofs.Sums.{sum_by-map}
use Rattle.mesh.specs.Added.{rank}
use Rattle.mesh.proofs.Ranks.{every_more, rank_more}
use Rattle.mesh.specs.Records.{every}

-- one number more
range_more : (a n : ℕ) → range_with_len a (suc n) ≡ range_with_len a n ++ (a + n) ∷ []
range_more a zero = let e : a ≡ a + 0 = omega arith in ap (λ (x : ℕ). x ∷ []) e
range_more a (suc n) = let e : a + 1 + n ≡ a + suc n = omega arith in ap (λ (xs : List ℕ). a ∷ xs) (range_more (a + 1) n ∙ ap (λ (x : ℕ). range_with_len (a + 1) n ++ x ∷ []) e)

range_up : (n : ℕ) → range_with_len 0 (suc n) ≡ range_with_len 0 n ++ n ∷ []
range_up n = let e : 0 + n ≡ n = omega arith in range_more 0 n ∙ ap (λ (x : ℕ). range_with_len 0 n ++ x ∷ []) e

last_first : (a b : Bool) → (a && b) ≡ (b && (a && true))
last_first a b = grind arith

-- each number below n passes
pub every_listed : (p : ℕ → Bool) (n : ℕ) → list_all p (range_with_len 0 n) ≡ every p n
every_listed p zero = refl
every_listed p (suc n) = ap (list_all p) (range_up n) ∙ list_all-append p (range_with_len 0 n) (n ∷ []) ∙ sym (last_first (p n) (list_all p (range_with_len 0 n))) ∙ ap (λ (b : Bool). p n && b) (every_listed p n)

pub every_tells : (p : ℕ → Bool) (n : ℕ) → Decides (every p n) ((k : ℕ) → k < n → p k ≡ true)
every_tells p n = Decides-below_and p (λ k. p k ≡ true) (every p) (λ k. (λ e. e, λ e. e)) refl (λ _. refl) n

-- one more that passes, and one that fails
pub every_yes : (p : ℕ → Bool) (k : ℕ) → every p k ≡ true → p k ≡ true → every p (k + 1) ≡ true
every_yes p k h e = every_more p k ∙ and_from (p k) (every p k) e h

pub every_fails : (p : ℕ → Bool) (n k : ℕ) → k < n → p k ≡ false → every p n ≡ false
every_fails p n k l e = elim (cases_Bool (every p n)) [
  | inl all ↦ absurd (both_ways (p k) e ((every_tells p n).0 all k l))
  | inr fails ↦ fails
]

pub all_listed : {X : Type 0} (p : X → Bool) (xs : List X) → all p xs ≡ list_all p xs
all_listed p [] = refl
all_listed p (x ∷ xs) = ap (λ (b : Bool). p x && b) (all_listed p xs)

-- a test of what stands for each element
pub all_mapped : {X Y : Type 0} (p : Y → Bool) (f : X → Y) (xs : List X) → all p (map f xs) ≡ list_all (λ x. p (f x)) xs
all_mapped p f xs = all_listed p (map f xs) ∙ list_all-map p f xs

pub count_mapped : {X Y : Type 0} (p : Y → Bool) (f : X → Y) (xs : List X) → count_by p (map f xs) ≡ count_by (λ x. p (f x)) xs
count_mapped p f xs = sum_by-map (λ y. cond (p y) 1 0) f xs

all_true : {X : Type 0} (p : X → Bool) (xs : List X) → AllWithin (λ x. p x ≡ true) xs 0 (length xs) → list_all p xs ≡ true
all_true p [] h = refl
all_true p (x ∷ xs) h = and_from (p x) (list_all p xs) (h 0 x (omega arith) (omega arith)) (all_true p xs (λ k d l m. h (suc k) d (omega arith) (omega arith)))

one_false : {X : Type 0} (p : X → Bool) (xs : List X) (k : ℕ) → k < length xs → HoldsAt (λ x. p x ≡ false) xs k → list_all p xs ≡ false
one_false p [] k l h = absurd (omega arith)
one_false p (x ∷ xs) k l h = list_all_at p (x ∷ xs) k x l (h x)

-- what `all` answers of a list: each element passes, or one fails
pub told_all : {X : Type 0} (p : X → Bool) (xs : List X) (r : Bool) → MatchBool r (AllWithin (λ x. p x ≡ true) xs 0 (length xs)) ((k : ℕ) × (k < length xs) × HoldsAt (λ x. p x ≡ false) xs k) → r ≡ list_all p xs
told_all p xs true h = sym (all_true p xs h)
told_all p xs false h = sym (one_false p xs h.0 h.1 h.2)

-- how many of the n numbers behind the first a pass
pub rank_ahead : (p : ℕ → Bool) (a n : ℕ) → rank p a + count_by (λ i. p (a + i)) (range_with_len 0 n) ≡ rank p (a + n)
rank_ahead p a zero = let e : a + 0 ≡ a = omega arith in rw e (omega arith)
rank_ahead p a (suc n) =
    let q : ℕ → Bool = λ i. p (a + i) in
    let e : a + suc n ≡ a + n + 1 = omega arith in
    let more : count_by q (range_with_len 0 (suc n)) ≡ count_by q (range_with_len 0 n) + cond (p (a + n)) 1 0 = ap (count_by q) (range_up n) ∙ sum_by_push (λ i. cond (q i) 1 0) (range_with_len 0 n) n in
    rw e (omega (arith, more, rank_more p (a + n), rank_ahead p a n))

-- ---- the first of them

module _ (p : ℕ → Bool) where
  -- of the n numbers from a on, the first that passes
  abbrev pub First : (a n : ℕ) → Option ℕ → Type 0
  First a n (Some k) = (a ≤ k) × (k < a + n) × (p k ≡ true) × ((j : ℕ) → a ≤ j → j < k → p j ≡ false)
  First a n None = (j : ℕ) → a ≤ j → j < a + n → p j ≡ false

  later : (a n : ℕ) (o : Option ℕ) → p a ≡ false → First (a + 1) n o → First a (suc n) o
  later a n (Some k) e h = (
    omega (arith, h.0),
    omega (arith, h.1),
    h.2,
    λ j l m. elim (cases_eq j a) [
      | inl same ↦ ap p same ∙ e
      | inr other ↦ h.3 j (omega arith) m
    ],
  )
  later a n None e h = λ j l m. elim (cases_eq j a) [
    | inl same ↦ ap p same ∙ e
    | inr other ↦ h j (omega arith) (omega arith)
  ]

  pub first_found : (a n : ℕ) → First a n (find p (range_with_len a n))
  first_found a zero = λ j l m. absurd (omega arith)
  first_found a (suc n) = elim (cases_Bool (p a)) [
    | inl e ↦ subst (λ (b : Bool). First a (suc n) (cond b (Some a) (find p (range_with_len (a + 1) n)))) (sym e) (omega arith, omega arith, e, λ j l m. absurd (omega arith))
    | inr e ↦ subst (λ (b : Bool). First a (suc n) (cond b (Some a) (find p (range_with_len (a + 1) n)))) (sym e) (later a n (find p (range_with_len (a + 1) n)) e (first_found (a + 1) n))
  ]
