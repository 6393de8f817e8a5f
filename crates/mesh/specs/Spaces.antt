-- Tetrahedra over a list of points, in which their point numbers are looked up.
use Rattle.std.specs.Prelude.{ℕ, Bool, List, ℤ, slice_index_or}
use Rattle.geometry.specs.Conflicts.{conflict_by}
use Rattle.geometry.specs.Depths.{depth_by}
use Rattle.geometry.specs.Lifts.{Lift, ground}
use Rattle.geometry.specs.Sides.{side}
use Rattle.geometry.specs.Spots.{Spot, bare}
use Rattle.mesh.specs.Tetrahedra.{Tet}

module _ (ps : List Spot) where
  -- the point of a number
  abbrev pub numbered : ℕ → Spot
  numbered i = slice_index_or ps i (bare 0 0 0)

  -- Side of a tetrahedron
  abbrev pub side_of : Tet → ℤ
  side_of t = side (ground (numbered t.a)) (ground (numbered t.b)) (ground (numbered t.c)) (ground (numbered t.d))

  -- Depth of e under a tetrahedron
  abbrev pub depth_of : Lift → Tet → (e : Spot) → ℤ
  depth_of L t e = depth_by L (numbered t.a) (numbered t.b) (numbered t.c) (numbered t.d) e

  -- e conflicts with a tetrahedron: its Depth is above zero
  abbrev pub conflicting : Lift → (e : Spot) → Tet → Bool
  conflicting L e t = conflict_by L (numbered t.a) (numbered t.b) (numbered t.c) (numbered t.d) e
