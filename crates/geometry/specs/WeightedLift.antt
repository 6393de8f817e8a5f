-- The weighted lift: the square of the distance from the origin, and the penalty.
use Rattle.std.specs.Prelude.{◌+◌}
use Rattle.geometry.specs.Lifts.{Lift}
use Rattle.geometry.specs.PlainLift.{plain}

abbrev pub weighted : Lift
weighted s = plain s + s.penalty
