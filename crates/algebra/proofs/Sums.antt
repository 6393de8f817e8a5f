-- Sums over lists: of equal terms, of parts, and of terms that cancel in pairs.
use Rattle.std.proofs.Common.{◌≡◌, ℕ, ◌+◌, ◌≤◌, Bool, true, false, cond, not, List, [], ◌∷◌, ◌++◌, map, length, ℤ, pos, ◌+ℤ◌, neg_ℤ, ◌<ℤ◌, sum_by, count_by, filter, sym, refl, ap, ◌∙◌, inl, inr, arith}
use mathlib.Core.Path.{fun_ext}
use Rattle.std.specs.List.{AllByRecursion}
use Rattle.std.proofs.lemmas.Int.{ints}
use Rattle.std.proofs.lemmas.List.Filters.{sum_by-filter_both}
use Rattle.std.proofs.lemmas.List.Sums.{sum_by-cons}
use Rattle.std.proofs.lemmas.Bool.{cases_Bool}
use Rattle.algebra.specs.Sums.{sum_z, Paired}
use Rattle.algebra.proofs.Lists.{bit}

-- ---- sums of natural numbers

-- terms that are equal wherever P holds
pub sum_by_same : {X : Type 0} (P : X → Type 0) (f g : X → ℕ) → ((x : X) → P x → f x ≡ g x) → (xs : List X) → AllByRecursion P xs → sum_by f xs ≡ sum_by g xs
sum_by_same P f g e [] h = refl
sum_by_same P f g e (x ∷ xs) h = omega (arith, sum_by-cons f x xs, sum_by-cons g x xs, e x h.0, sum_by_same P f g e xs h.1)

pub sum_by_alike : {X : Type 0} (f g : X → ℕ) → ((x : X) → f x ≡ g x) → (xs : List X) → sum_by f xs ≡ sum_by g xs
sum_by_alike {X} f g h xs = ap (λ (k : X → ℕ). sum_by k xs) (fun_ext h)

pub sum_by_zero : {X : Type 0} (P : X → Type 0) (f : X → ℕ) → ((x : X) → P x → f x ≡ 0) → (xs : List X) → AllByRecursion P xs → sum_by f xs ≡ 0
sum_by_zero P f e [] h = refl
sum_by_zero P f e (x ∷ xs) h = omega (arith, sum_by-cons f x xs, e x h.0, sum_by_zero P f e xs h.1)

pub sum_by_add : {X : Type 0} (f g : X → ℕ) (xs : List X) → sum_by (λ x. f x + g x) xs ≡ sum_by f xs + sum_by g xs
sum_by_add f g [] = refl
sum_by_add f g (x ∷ xs) = omega (arith, sum_by-cons f x xs, sum_by-cons g x xs, sum_by-cons (λ x. f x + g x) x xs, sum_by_add f g xs)

pub sum_by-map : {X Y : Type 0} (f : Y → ℕ) (m : X → Y) (xs : List X) → sum_by f (map m xs) ≡ sum_by (λ x. f (m x)) xs
sum_by-map f m [] = refl
sum_by-map f m (x ∷ xs) = omega (arith, sum_by-cons f (m x) (map m xs), sum_by-cons (λ x. f (m x)) x xs, sum_by-map f m xs)

-- a list is what a test keeps and what it drops
pub sum_by_split : {X : Type 0} (f : X → ℕ) (p : X → Bool) (xs : List X) → sum_by f xs ≡ sum_by f (filter (λ x. not (p x)) xs) + sum_by f (filter p xs)
sum_by_split f p xs = omega (arith, sum_by-filter_both p (λ x. not (p x)) (λ x. refl) f xs)

-- ---- sums of whole numbers

pub sum_z_same : {X : Type 0} (P : X → Type 0) (f g : X → ℤ) → ((x : X) → P x → f x ≡ g x) → (xs : List X) → AllByRecursion P xs → sum_z f xs ≡ sum_z g xs
sum_z_same P f g e [] h = refl
sum_z_same P f g e (x ∷ xs) h = omega (arith, ints, e x h.0, sum_z_same P f g e xs h.1)

pub sum_z_alike : {X : Type 0} (f g : X → ℤ) → ((x : X) → f x ≡ g x) → (xs : List X) → sum_z f xs ≡ sum_z g xs
sum_z_alike {X} f g h xs = ap (λ (k : X → ℤ). sum_z k xs) (fun_ext h)

pub sum_z_add : {X : Type 0} (f g : X → ℤ) (xs : List X) → sum_z (λ x. f x +ℤ g x) xs ≡ sum_z f xs +ℤ sum_z g xs
sum_z_add f g [] = refl
sum_z_add f g (x ∷ xs) = omega (arith, ints, sum_z_add f g xs)

pub sum_z_neg : {X : Type 0} (f : X → ℤ) (xs : List X) → sum_z (λ x. neg_ℤ (f x)) xs ≡ neg_ℤ (sum_z f xs)
sum_z_neg f [] = refl
sum_z_neg f (x ∷ xs) = omega (arith, ints, sum_z_neg f xs)

pub sum_z_pos : {X : Type 0} (f : X → ℕ) (xs : List X) → sum_z (λ x. pos (f x)) xs ≡ pos (sum_by f xs)
sum_z_pos f [] = refl
sum_z_pos f (x ∷ xs) = omega (arith, ints, sum_z_pos f xs, sum_by-cons f x xs)

sum_z_zero : {X : Type 0} (xs : List X) → sum_z (λ (x : X). pos 0) xs ≡ pos 0
sum_z_zero [] = refl
sum_z_zero (x ∷ xs) = omega (arith, ints, sum_z_zero xs)

pub sum_z_swap : {X Y : Type 0} (f : X → Y → ℤ) (xs : List X) (ys : List Y) → sum_z (λ x. sum_z (f x) ys) xs ≡ sum_z (λ y. sum_z (λ x. f x y) xs) ys
sum_z_swap f [] ys = sym (sum_z_zero ys)
sum_z_swap f (x ∷ xs) ys = omega (arith, ints, sum_z_swap f xs ys, sum_z_add (f x) (λ y. sum_z (λ x. f x y) xs) ys)

pub sum_z_kept : {X : Type 0} (f : X → ℤ) (p : X → Bool) (xs : List X) → sum_z f (filter p xs) ≡ sum_z (λ x. cond (p x) (f x) (pos 0)) xs
sum_z_kept f p [] = refl
sum_z_kept f p (x ∷ xs) = elim (p x) as (λ b. sum_z f (cond b (x ∷ filter p xs) (filter p xs)) ≡ cond b (f x) (pos 0) +ℤ sum_z (λ x. cond (p x) (f x) (pos 0)) xs) [
  | true ↦ omega (arith, ints, sum_z_kept f p xs)
  | false ↦ omega (arith, ints, sum_z_kept f p xs)
]

pub sum_z-append : {X : Type 0} (f : X → ℤ) (xs ys : List X) → sum_z f (xs ++ ys) ≡ sum_z f xs +ℤ sum_z f ys
sum_z-append f [] ys = omega (arith, ints)
sum_z-append f (x ∷ xs) ys = omega (arith, ints, sum_z-append f xs ys)

pub sum_z-map : {X Y : Type 0} (f : Y → ℤ) (m : X → Y) (xs : List X) → sum_z f (map m xs) ≡ sum_z (λ x. f (m x)) xs
sum_z-map f m [] = refl
sum_z-map f m (x ∷ xs) = ap (λ z. f (m x) +ℤ z) (sum_z-map f m xs)

-- a list is what a test keeps and what it drops
pub sum_z_split : {X : Type 0} (f : X → ℤ) (p : X → Bool) (xs : List X) → sum_z f xs ≡ sum_z f (filter (λ x. not (p x)) xs) +ℤ sum_z f (filter p xs)
sum_z_split f p [] = refl
sum_z_split f p (x ∷ xs) = elim (p x) as (λ b. sum_z f (x ∷ xs) ≡ sum_z f (cond (not b) (x ∷ filter (λ x. not (p x)) xs) (filter (λ x. not (p x)) xs)) +ℤ sum_z f (cond b (x ∷ filter p xs) (filter p xs))) [
  | true ↦ omega (arith, ints, sum_z_split f p xs)
  | false ↦ omega (arith, ints, sum_z_split f p xs)
]

-- terms above zero
pub sum_z_positive : {X : Type 0} (f : X → ℤ) (xs : List X) → AllByRecursion (λ x. pos 0 <ℤ f x) xs → 1 ≤ length xs → pos 0 <ℤ sum_z f xs
sum_z_positive f [] h l = absurd (omega arith)
sum_z_positive f (x ∷ []) h l = omega (arith, ints, h.0)
sum_z_positive f (x ∷ y ∷ xs) h l = omega (arith, ints, h.0, sum_z_positive f (y ∷ xs) h.1 (omega arith))

pub sum_z_some : {X : Type 0} (f : X → ℤ) (xs : List X) → pos 0 <ℤ sum_z f xs → 1 ≤ length xs
sum_z_some f [] h = absurd (omega (arith, ints))
sum_z_some f (x ∷ xs) h = omega arith

-- one term, as often as a test passes
picked : {X : Type 0} (p : X → Bool) (a : ℤ) (xs : List X) → (count_by p xs ≡ 0 → sum_z (λ x. cond (p x) a (pos 0)) xs ≡ pos 0) × (count_by p xs ≡ 1 → sum_z (λ x. cond (p x) a (pos 0)) xs ≡ a)
picked p a [] = (λ h. refl, λ h. absurd (omega arith))
picked p a (x ∷ xs) = go (p x) (sum_by-cons (λ x. bit (p x)) x xs) (picked p a xs)
  where
    rest : ℤ
    rest = sum_z (λ x. cond (p x) a (pos 0)) xs

    go : (b : Bool) → count_by p (x ∷ xs) ≡ cond b 1 0 + count_by p xs → (count_by p xs ≡ 0 → rest ≡ pos 0) × (count_by p xs ≡ 1 → rest ≡ a)
        → (count_by p (x ∷ xs) ≡ 0 → cond b a (pos 0) +ℤ rest ≡ pos 0) × (count_by p (x ∷ xs) ≡ 1 → cond b a (pos 0) +ℤ rest ≡ a)
    go true e ih = (λ h. absurd (omega arith), λ h. omega (arith, ints, ih.0 (omega arith)))
    go false e ih = (λ h. omega (arith, ints, ih.0 (omega arith)), λ h. omega (arith, ints, ih.1 (omega arith)))

-- Terms of which each that is not kept has one partner, its negative, do not count.
pub cancel : {X : Type 0} (mate : X → X → Bool) (keep : X → Bool) (g : X → ℤ) (xs : List X)
    → ((p q : X) → mate p q ≡ mate q p) → ((p q : X) → mate p q ≡ true → g p ≡ neg_ℤ (g q))
    → AllByRecursion (Paired mate keep xs) xs → sum_z g (filter keep xs) ≡ sum_z g xs
cancel {X} mate keep g xs both minus split =
    omega (
      arith,
      ints,
      sum_z_kept g keep xs,
      none,
      sum_z_add kept (λ p. sum_z (term p) xs) xs,
      sum_z_same (Paired mate keep xs) g (λ p. kept p +ℤ sum_z (term p) xs) parts xs split,
    )
  where
    kept : X → ℤ
    kept p = cond (keep p) (g p) (pos 0)

    term : X → X → ℤ
    term p q = cond (mate p q) (g p) (pos 0)

    parts : (p : X) → Paired mate keep xs p → g p ≡ kept p +ℤ sum_z (term p) xs
    parts p (inl h) = rw h.0 (omega (arith, ints, (picked (mate p) (g p) xs).0 h.1))
    parts p (inr h) = rw h.0 (omega (arith, ints, (picked (mate p) (g p) xs).1 h.1))

    turn : (p q : X) → term p q ≡ neg_ℤ (term q p)
    turn p q = elim (cases_Bool (mate p q)) [
      | inl e ↦ let f = sym (both p q) ∙ e in simp (e, f) (minus p q e)
      | inr e ↦ let f = sym (both p q) ∙ e in simp (e, f)
    ]

    none : sum_z (λ p. sum_z (term p) xs) xs ≡ pos 0
    none = omega (
      arith,
      ints,
      sum_z_swap term xs xs,
      sum_z_alike (λ q. sum_z (λ p. term p q) xs) (λ q. neg_ℤ (sum_z (term q) xs)) (λ q. sum_z_alike (λ p. term p q) (λ p. neg_ℤ (term q p)) (λ p. turn p q) xs ∙ sum_z_neg (term q) xs) xs,
      sum_z_neg (λ q. sum_z (term q) xs) xs,
    )
