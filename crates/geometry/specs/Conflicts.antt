-- When a point conflicts with a tetrahedron.
use Rattle.std.specs.Prelude.{Bool, pos, int_lt}
use Rattle.geometry.specs.Depths.{depth}
use Rattle.geometry.specs.Lifts.{Lift, Lifted, lifted}
use Rattle.geometry.specs.Spots.{Spot}

-- e conflicts with the tetrahedron where its Depth is above zero, and not only at it
abbrev pub conflict : (a b c d e : Lifted) → Bool
conflict a b c d e = int_lt (pos 0) (depth a b c d e)

-- the same of spots, by a lift
abbrev pub conflict_by : Lift → (a b c d e : Spot) → Bool
conflict_by L a b c d e = conflict (lifted L a) (lifted L b) (lifted L c) (lifted L d) (lifted L e)
