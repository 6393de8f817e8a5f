-- Lifts, and places in space that carry one.
use Rattle.std.specs.Prelude.{◌≡◌, ℕ, ℤ, pos}
use Rattle.geometry.specs.Spots.{Spot, with_penalty}

-- what a measure means: one whole number for each spot
abbrev pub Lift : Type 0
Lift = Spot → ℕ

-- a place in space, and the number to which a measure lifts the point there
pub record Lifted : Type 0 where
  pub x : ℤ
  pub y : ℤ
  pub z : ℤ
  pub lift : ℤ

-- the place of a spot, lifted
abbrev pub lifted : Lift → Spot → Lifted
lifted L s = record { x = pos s.x; y = pos s.y; z = pos s.z; lift = pos (L s) }

-- a place alone, for what does not look at the lift
abbrev pub ground : Spot → Lifted
ground = lifted (λ _. 0)

-- whatever its penalty, a point keeps its place and its lift, and so every Side and Depth that it takes part in
abbrev pub IgnoresPenalties : Lift → Type 0
IgnoresPenalties L = (s : Spot) (n : ℕ) → lifted L (with_penalty n s) ≡ lifted L s
