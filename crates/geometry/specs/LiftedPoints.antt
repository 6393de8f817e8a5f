-- Lifted points of the code, read as places with a lift.
use Rattle.std.specs.Prelude.{◌≡◌, ℕ, pos, Some, None, Option}
use Rattle.geometry.specs.declared.lifted.LiftedPoint.{LiftedPoint}
use Rattle.geometry.specs.declared.point.Point.{Point}
use Rattle.geometry.specs.Lifts.{Lifted}
use Rattle.geometry.specs.Limits.{Low}

-- the place of its point, and its lift
abbrev pub raised : LiftedPoint → Lifted
raised p = record { x = pos p.point.x; y = pos p.point.y; z = pos p.point.z; lift = pos p.lift }

-- a point is lifted exactly where the lift is within its limit
abbrev pub Raised : Point → ℕ → Option LiftedPoint → Type 0
Raised p n (Some l) = (l.point ≡ p) × (l.lift ≡ n) × Low n
Raised p n None = Low n → ⊥
