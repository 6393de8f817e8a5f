-- Identities of Depth, each by the ring solver over the coordinates of its points in order.
use Rattle.std.proofs.Common.{◌≡◌, [], ◌∷◌, pos, ◌-ℤ◌, ◌*ℤ◌, neg_ℤ}
use Rattle.algebra.specs.Rings.{num, neg, ◌⊖◌, ◌⊗◌, agree}
use Rattle.algebra.proofs.Rings.{ring}
use Rattle.geometry.specs.Depths.{depth}
use Rattle.geometry.specs.Lifts.{Lifted}
use Rattle.geometry.specs.Sides.{det, side}
use Rattle.geometry.proofs.Symbols.{coordinates, S, D}

-- ---- rearrangements of the tetrahedron: the last three points turned, two of them swapped, and each of the last three moved to the front

pub depth_turn : (w x y z q : Lifted) → depth w x y z q ≡ depth w y z x q
unfolding agree depth side det
depth_turn w x y z q = ring (coordinates (w ∷ x ∷ y ∷ z ∷ q ∷ [])) (D 0 1 2 3 4) (D 0 2 3 1 4) tt

pub depth_swap : (w x y z q : Lifted) → depth w y x z q ≡ neg_ℤ (depth w x y z q)
unfolding agree depth side det
depth_swap w x y z q = ring (coordinates (w ∷ x ∷ y ∷ z ∷ q ∷ [])) (D 0 2 1 3 4) (neg (D 0 1 2 3 4)) tt

pub depth_second : (a b c d q : Lifted) → depth a b c d q ≡ depth b a d c q
unfolding agree depth side det
depth_second a b c d q = ring (coordinates (a ∷ b ∷ c ∷ d ∷ q ∷ [])) (D 0 1 2 3 4) (D 1 0 3 2 4) tt

pub depth_third : (a b c d q : Lifted) → depth a b c d q ≡ depth c a b d q
unfolding agree depth side det
depth_third a b c d q = ring (coordinates (a ∷ b ∷ c ∷ d ∷ q ∷ [])) (D 0 1 2 3 4) (D 2 0 1 3 4) tt

pub depth_fourth : (a b c d q : Lifted) → depth a b c d q ≡ depth d a c b q
unfolding agree depth side det
depth_fourth a b c d q = ring (coordinates (a ∷ b ∷ c ∷ d ∷ q ∷ [])) (D 0 1 2 3 4) (D 3 0 2 1 4) tt

-- ---- the points of the tetrahedron lie at Depth zero

pub on_first : (a b c d : Lifted) → depth a b c d a ≡ pos 0
unfolding agree depth side det
on_first a b c d = ring (coordinates (a ∷ b ∷ c ∷ d ∷ [])) (D 0 1 2 3 0) (num (pos 0)) tt

pub on_second : (a b c d : Lifted) → depth a b c d b ≡ pos 0
unfolding agree depth side det
on_second a b c d = ring (coordinates (a ∷ b ∷ c ∷ d ∷ [])) (D 0 1 2 3 1) (num (pos 0)) tt

pub on_third : (a b c d : Lifted) → depth a b c d c ≡ pos 0
unfolding agree depth side det
on_third a b c d = ring (coordinates (a ∷ b ∷ c ∷ d ∷ [])) (D 0 1 2 3 2) (num (pos 0)) tt

pub on_fourth : (a b c d : Lifted) → depth a b c d d ≡ pos 0
unfolding agree depth side det
on_fourth a b c d = ring (coordinates (a ∷ b ∷ c ∷ d ∷ [])) (D 0 1 2 3 3) (num (pos 0)) tt

-- ---- how the Depths of q under two tetrahedra on one face x y z differ

pub blend : (w x y z p q : Lifted) → side w x y z *ℤ depth p x y z q ≡ side p x y z *ℤ depth w x y z q -ℤ depth w x y z p *ℤ side q x y z
unfolding agree depth side det
blend w x y z p q = ring (coordinates (w ∷ x ∷ y ∷ z ∷ p ∷ q ∷ [])) (S 0 1 2 3 ⊗ D 4 1 2 3 5) (S 4 1 2 3 ⊗ D 0 1 2 3 5 ⊖ D 0 1 2 3 4 ⊗ S 5 1 2 3) tt
