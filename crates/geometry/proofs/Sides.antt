-- Identities of Side, each by the ring solver over the coordinates of its points in order.
use Rattle.std.proofs.Common.{◌≡◌, [], ◌∷◌, ◌+ℤ◌, neg_ℤ, refl}
use Rattle.algebra.specs.Rings.{neg, ◌⊕◌, agree}
use Rattle.algebra.proofs.Rings.{ring}
use Rattle.geometry.specs.Lifts.{Lift, Lifted, lifted, ground}
use Rattle.geometry.specs.Sides.{det, side}
use Rattle.geometry.specs.Spots.{Spot}
use Rattle.geometry.proofs.Symbols.{coordinates, S}

-- Side does not look at the lift
pub side_ground : (L : Lift) (a b c d : Spot) → side (lifted L a) (lifted L b) (lifted L c) (lifted L d) ≡ side (ground a) (ground b) (ground c) (ground d)
unfolding side
side_ground L a b c d = refl

-- ---- a swap of two points negates Side

pub swap_12 : (a b c d : Lifted) → side b a c d ≡ neg_ℤ (side a b c d)
unfolding agree side det
swap_12 a b c d = ring (coordinates (a ∷ b ∷ c ∷ d ∷ [])) (S 1 0 2 3) (neg (S 0 1 2 3)) tt

pub swap_13 : (a b c d : Lifted) → side c b a d ≡ neg_ℤ (side a b c d)
unfolding agree side det
swap_13 a b c d = ring (coordinates (a ∷ b ∷ c ∷ d ∷ [])) (S 2 1 0 3) (neg (S 0 1 2 3)) tt

pub swap_14 : (a b c d : Lifted) → side d b c a ≡ neg_ℤ (side a b c d)
unfolding agree side det
swap_14 a b c d = ring (coordinates (a ∷ b ∷ c ∷ d ∷ [])) (S 3 1 2 0) (neg (S 0 1 2 3)) tt

pub swap_23 : (a b c d : Lifted) → side a c b d ≡ neg_ℤ (side a b c d)
unfolding agree side det
swap_23 a b c d = ring (coordinates (a ∷ b ∷ c ∷ d ∷ [])) (S 0 2 1 3) (neg (S 0 1 2 3)) tt

pub swap_24 : (a b c d : Lifted) → side a d c b ≡ neg_ℤ (side a b c d)
unfolding agree side det
swap_24 a b c d = ring (coordinates (a ∷ b ∷ c ∷ d ∷ [])) (S 0 3 2 1) (neg (S 0 1 2 3)) tt

pub swap_34 : (a b c d : Lifted) → side a b d c ≡ neg_ℤ (side a b c d)
unfolding agree side det
swap_34 a b c d = ring (coordinates (a ∷ b ∷ c ∷ d ∷ [])) (S 0 1 3 2) (neg (S 0 1 2 3)) tt

-- ---- even rearrangements keep it: the last three points turned, and each of them moved to the front

pub side_turn : (w x y z : Lifted) → side w x y z ≡ side w y z x
unfolding agree side det
side_turn w x y z = ring (coordinates (w ∷ x ∷ y ∷ z ∷ [])) (S 0 1 2 3) (S 0 2 3 1) tt

pub side_second : (a b c d : Lifted) → side a b c d ≡ side b a d c
unfolding agree side det
side_second a b c d = ring (coordinates (a ∷ b ∷ c ∷ d ∷ [])) (S 0 1 2 3) (S 1 0 3 2) tt

pub side_third : (a b c d : Lifted) → side a b c d ≡ side c a b d
unfolding agree side det
side_third a b c d = ring (coordinates (a ∷ b ∷ c ∷ d ∷ [])) (S 0 1 2 3) (S 2 0 1 3) tt

pub side_fourth : (a b c d : Lifted) → side a b c d ≡ side d a c b
unfolding agree side det
side_fourth a b c d = ring (coordinates (a ∷ b ∷ c ∷ d ∷ [])) (S 0 1 2 3) (S 3 0 2 1) tt

-- ---- a fifth point, put for each of the four in turn, splits it

pub split : (a b c d p : Lifted) → side a b c d ≡ side p b c d +ℤ side a p c d +ℤ side a b p d +ℤ side a b c p
unfolding agree side det
split a b c d p = ring (coordinates (a ∷ b ∷ c ∷ d ∷ p ∷ [])) (S 0 1 2 3) (S 4 1 2 3 ⊕ S 0 4 2 3 ⊕ S 0 1 4 3 ⊕ S 0 1 2 4) tt
