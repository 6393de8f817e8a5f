-- The test of an owner, step by step, and that it tells the owners.
use Rattle.std.proofs.Common.{◌≡◌, ℕ, zero, suc, ◌<◌, Bool, true, false, cond, List, [], ◌∷◌, map, ℤ, pos, negsuc, ◌-ℤ◌, ◌<ℤ◌, Decides, Ordering, Less, Equal, Greater, Some, Option, sym, refl, ap, ◌∙◌, arith}
use Rattle.std.proofs.lemmas.Int.{ints}
use Rattle.std.proofs.lemmas.Bool.Decides.{Decides-at, Decides-like}
use Rattle.geometry.specs.declared.point.Point.{Point}
use Rattle.geometry.specs.Points.{spot}
use Rattle.geometry.specs.Spots.{Spot}
use Rattle.mesh.specs.Owners.{Owns, figures_at, leads, moved, side_with}
use Rattle.mesh.specs.Records.{every, slot_at}
use Rattle.mesh.specs.Tetrahedra.{Tet, Slot, first, second, third, fourth}
use Rattle.std.specs.List.{find}
use Rattle.std.specs.Option.{option_eq}
use Rattle.std.specs.Ordering.{MatchOrdering, int_cmp, is_ne}
use Rattle.std.specs.Cmp.{int_ranks}
use Rattle.survey.specs.Owners.{owned, steps, within}
use Rattle.survey.proofs.Ranges.{every_listed, every_tells}

-- ---- the first number that is not zero

leads_above : (z : ℤ) (zs : List ℤ) → pos 0 <ℤ z → leads (z ∷ zs) ≡ true
leads_above (pos zero) zs h = absurd (omega (arith, ints))
leads_above (pos (suc n)) zs h = refl
leads_above (negsuc n) zs h = absurd (omega (arith, ints))

leads_below : (z : ℤ) (zs : List ℤ) → z <ℤ pos 0 → leads (z ∷ zs) ≡ false
leads_below (pos n) zs h = absurd (omega (arith, ints))
leads_below (negsuc n) zs h = refl

-- how the number of a point is to zero
abbrev order : (Spot → ℤ) → Point → Ordering
order f g = int_cmp (f (spot g)) (pos 0)

leads_more : (f : Spot → ℤ) (E : Ordering → Ordering → Bool) → E Less Greater ≡ false → E Greater Greater ≡ true → (g : Point) (gs : List Point)
    → (o : Ordering) → MatchOrdering o (f (spot g) <ℤ pos 0) (f (spot g) ≡ pos 0) (pos 0 <ℤ f (spot g)) → option_eq E (find is_ne (map (order f) gs)) (Some Greater) ≡ leads (map f (map spot gs))
    → option_eq E (cond (is_ne o) (Some o) (find is_ne (map (order f) gs))) (Some Greater) ≡ leads (f (spot g) ∷ map f (map spot gs))
leads_more f E less greater g gs Less h e = less ∙ sym (leads_below (f (spot g)) (map f (map spot gs)) h)
leads_more f E less greater g gs Equal h e = e ∙ ap (λ (z : ℤ). leads (z ∷ map f (map spot gs))) (sym h)
leads_more f E less greater g gs Greater h e = greater ∙ sym (leads_above (f (spot g)) (map f (map spot gs)) h)

leads_first : (f : Spot → ℤ) (E : Ordering → Ordering → Bool) → E Less Greater ≡ false → E Greater Greater ≡ true → (gs : List Point) → option_eq E (find is_ne (map (order f) gs)) (Some Greater) ≡ leads (map f (map spot gs))
leads_first f E less greater [] = refl
leads_first f E less greater (g ∷ gs) = leads_more f E less greater g gs (order f g) (int_ranks (f (spot g)) (pos 0)) (leads_first f E less greater gs)

-- the numbers of some points lead above zero where the first that is not zero is above it
pub leading : (E : Ordering → Ordering → Bool) {o : Option Ordering} {r : Bool} (f : Spot → ℤ) (gs : List Point) → r ≡ option_eq E o (Some Greater) → o ≡ find is_ne (map (order f) gs)
    → E Less Greater ≡ false → E Greater Greater ≡ true → r ≡ leads (map f (map spot gs))
leading E f gs is found less greater = is ∙ ap (λ (o : Option Ordering). option_eq E o (Some Greater)) found ∙ leads_first f E less greater gs

-- ---- owners

-- where the first number is zero, the others are their own changes
changes : (a b c d : ℤ) → leads (a ∷ b ∷ c ∷ d ∷ []) ≡ leads (a ∷ (b -ℤ a) ∷ (c -ℤ a) ∷ (d -ℤ a) ∷ [])
changes (pos zero) b c d = λ i. leads (less b i ∷ less c i ∷ less d i ∷ [])
  where
    less : (z : ℤ) → z ≡ z -ℤ pos 0
    less z = omega (arith, ints)
changes (pos (suc n)) b c d = refl
changes (negsuc n) b c d = refl

module _ (ps : List Spot) (g : Spot) (t : Tet) where
  within_figures : (s : Slot) → within ps (steps g) t s ≡ leads (figures_at ps g t s)
  within_figures s = changes (side_with ps t s g) (side_with ps t s (moved g 1 0 0)) (side_with ps t s (moved g 0 1 0)) (side_with ps t s (moved g 0 0 1))

  -- the test passes exactly where the tetrahedron owns the place
  pub owned_tells : Decides (owned ps (steps g) t) (Owns ps g t)
  unfolding owned
  owned_tells =
      Decides-at (owned ps (steps g) t) (every test 4) (every_listed test 4)
      (Decides-like (every test 4) there back (every_tells test 4))
    where
      test : ℕ → Bool
      test i = within ps (steps g) t (slot_at i)

      there : ((k : ℕ) → k < 4 → test k ≡ true) → Owns ps g t
      there h first = sym (within_figures first) ∙ h 0 (omega arith)
      there h second = sym (within_figures second) ∙ h 1 (omega arith)
      there h third = sym (within_figures third) ∙ h 2 (omega arith)
      there h fourth = sym (within_figures fourth) ∙ h 3 (omega arith)

      back : Owns ps g t → (k : ℕ) → k < 4 → test k ≡ true
      back h k l = within_figures (slot_at k) ∙ h (slot_at k)
