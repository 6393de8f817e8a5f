-- Points of the code, read as spots.
use Rattle.std.specs.Prelude.{◌≡◌, Some, None, Option}
use Rattle.geometry.specs.declared.point.Point.{Point}
use Rattle.geometry.specs.Spots.{Spot, InLimits}

-- the numbers of a point
abbrev pub spot : Point → Spot
spot p = record { x = p.x; y = p.y; z = p.z; penalty = p.penalty }

-- a point is made of a spot exactly where the spot is within the limits, and then has its numbers
abbrev pub Made : Spot → Option Point → Type 0
Made s (Some p) = (spot p ≡ s) × InLimits s
Made s None = InLimits s → ⊥
