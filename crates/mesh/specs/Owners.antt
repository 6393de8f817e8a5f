-- Which tetrahedron owns a place. The rule is meant to single out one of those that touch it: as if the place lay a little
-- further along x, far less along y, and far less again along z.
use Rattle.std.specs.Prelude.{◌≡◌, ℕ, zero, suc, ◌+◌, Bool, true, false, List, [], ◌∷◌, ℤ, pos, negsuc, ◌-ℤ◌}
use Rattle.geometry.specs.Lifts.{ground}
use Rattle.geometry.specs.Sides.{side}
use Rattle.geometry.specs.Spots.{Spot, bare}
use Rattle.mesh.specs.Spaces.{numbered}
use Rattle.mesh.specs.Tetrahedra.{Tet, Slot, first, second, third, fourth}

-- Side with the point at a slot replaced by g
abbrev pub side_with : List Spot → Tet → Slot → (g : Spot) → ℤ
side_with ps t first g = side (ground g) (ground (numbered ps t.b)) (ground (numbered ps t.c)) (ground (numbered ps t.d))
side_with ps t second g = side (ground (numbered ps t.a)) (ground g) (ground (numbered ps t.c)) (ground (numbered ps t.d))
side_with ps t third g = side (ground (numbered ps t.a)) (ground (numbered ps t.b)) (ground g) (ground (numbered ps t.d))
side_with ps t fourth g = side (ground (numbered ps t.a)) (ground (numbered ps t.b)) (ground (numbered ps t.c)) (ground g)

-- a place moved by so much along each axis
abbrev pub moved : Spot → (x y z : ℕ) → Spot
moved g x y z = bare (g.x + x) (g.y + y) (g.z + z)

-- above zero where the numbers first differ from zero, and not where they are all zero
abbrev pub leads : List ℤ → Bool
leads [] = false
leads (pos zero ∷ zs) = leads zs
leads (pos (suc n) ∷ zs) = true
leads (negsuc n ∷ zs) = false

-- the four numbers of a face: Side with g put in, and how much that grows with a step of g along x, along y and along z
abbrev pub figures_at : List Spot → (g : Spot) → Tet → Slot → List ℤ
figures_at ps g t s = side_with ps t s g ∷ change 1 0 0 ∷ change 0 1 0 ∷ change 0 0 1 ∷ []
  where
    change : (x y z : ℕ) → ℤ
    change x y z = side_with ps t s (moved g x y z) -ℤ side_with ps t s g

-- a tetrahedron owns g where this is so at each face
abbrev pub Owns : List Spot → (g : Spot) → Tet → Type 0
Owns ps g t = (s : Slot) → leads (figures_at ps g t s) ≡ true
