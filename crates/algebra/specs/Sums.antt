-- Sums of whole numbers over a list.
use Rattle.std.specs.Prelude.{◌≡◌, Bool, true, false, not, ◌⊎◌, List, [], ◌∷◌, ◌++◌, ℤ, pos, ◌+ℤ◌, neg_ℤ, count_by, filter}
use Rattle.std.specs.List.{AllByRecursion}

abbrev pub sum_z : {X : Type 0} → (X → ℤ) → List X → ℤ
sum_z f [] = pos 0
sum_z f (x ∷ xs) = f x +ℤ sum_z f xs

-- an element is kept and has no mate in the list, or is not kept and has exactly one
abbrev pub Paired : {X : Type 0} → (mate : X → X → Bool) (keep : X → Bool) → List X → X → Type 0
Paired mate keep xs p = ((keep p ≡ true) × (count_by (mate p) xs ≡ 0)) ⊎ ((keep p ≡ false) × (count_by (mate p) xs ≡ 1))

pub record SumLaws (X : Type 0) : Type 0 where
  pub append : (f : X → ℤ) (xs ys : List X) → sum_z f (xs ++ ys) ≡ sum_z f xs +ℤ sum_z f ys
  -- a list is what a test keeps and what it drops
  pub split : (f : X → ℤ) (p : X → Bool) (xs : List X) → sum_z f xs ≡ sum_z f (filter (λ x. not (p x)) xs) +ℤ sum_z f (filter p xs)
  -- elements whose mate has the opposite value do not count
  pub cancel : (mate : X → X → Bool) (keep : X → Bool) (g : X → ℤ) (xs : List X)
      → ((p q : X) → mate p q ≡ mate q p) → ((p q : X) → mate p q ≡ true → g p ≡ neg_ℤ (g q))
      → AllByRecursion (Paired mate keep xs) xs → sum_z g (filter keep xs) ≡ sum_z g xs
