-- The corners of the big tetrahedron in the point table.
use Rattle.std.specs.Prelude.{ℕ, Bool, ◌&&◌, List, map, ◌==◌, slice_index_or}
use Rattle.geometry.specs.Spots.{Spot, bare, corners}
use Rattle.survey.specs.declared.record.PointRecord.{PointRecord}

-- the record of a spot, with mark 0
abbrev pub record_of : Spot → PointRecord
record_of s = record { x = s.x; y = s.y; z = s.z; penalty = s.penalty; mark = 0 }

-- the records of points 0 to 3
abbrev pub corner_records : List PointRecord
corner_records = map record_of corners

-- the spot of corner k
abbrev pub corner : (k : ℕ) → Spot
corner k = slice_index_or corners k (bare 0 0 0)

-- the record has the place and the penalty of corner k
abbrev pub is_corner : (k : ℕ) → PointRecord → Bool
is_corner k p = p.x == (corner k).x && p.y == (corner k).y && p.z == (corner k).z && p.penalty == (corner k).penalty
