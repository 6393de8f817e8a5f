-- The plain lift: the square of the distance from the origin.
use Rattle.std.specs.Prelude.{◌+◌, ◌*◌}
use Rattle.geometry.specs.Lifts.{Lift}

abbrev pub plain : Lift
plain s = s.x * s.x + s.y * s.y + s.z * s.z
