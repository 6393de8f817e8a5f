-- Which sites have a place.
use Rattle.std.specs.Prelude.{ℕ, Bool, not, ◌&&◌, List, drop, ◌==◌}
use Rattle.std.specs.List.{list_any}
use Rattle.survey.specs.declared.record.PointRecord.{PointRecord}

-- a record has the coordinates of a place
abbrev pub same_place : (x y z : ℕ) → PointRecord → Bool
same_place x y z r = r.x == x && r.y == y && r.z == z

-- a site has a place
abbrev pub taken : List PointRecord → (x y z : ℕ) → Bool
taken ps x y z = list_any (same_place x y z) (drop 4 ps)

-- no site has it
abbrev pub untaken : List PointRecord → (x y z : ℕ) → Bool
untaken ps x y z = not (taken ps x y z)
