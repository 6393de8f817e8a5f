-- Spots: the numbers of a point as they are given, within the limits or not.
use Rattle.std.specs.Prelude.{ℕ, List, [], ◌∷◌}
use Rattle.geometry.specs.Limits.{Near, Light}

-- three coordinates in decimetres, and a penalty
pub record Spot : Type 0 where
  pub x : ℕ
  pub y : ℕ
  pub z : ℕ
  pub penalty : ℕ

-- a point with these numbers may exist
pub record InLimits (s : Spot) : Type 0 where
  pub near : Near s.x s.y s.z
  pub light : Light s.penalty

-- a spot without a penalty
abbrev pub bare : (x y z : ℕ) → Spot
bare x y z = record { x = x; y = y; z = z; penalty = 0 }

-- the corners of the big tetrahedron, which are points 0 to 3
abbrev pub corners : List Spot
corners = bare 0 0 0 ∷ bare 2560 0 0 ∷ bare 0 2560 0 ∷ bare 0 0 2560 ∷ []

-- the same place with another penalty
abbrev pub with_penalty : ℕ → Spot → Spot
with_penalty n s = record { x = s.x; y = s.y; z = s.z; penalty = n }
