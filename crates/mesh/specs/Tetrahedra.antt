-- Meshes: lists of tetrahedra, each four point numbers in order, and what adding a point drops, keeps and makes. Where the
-- points lie is not looked at here.
use Rattle.std.specs.Prelude.{ℕ, Bool, not, ◌&&◌, ◌||◌, List, [], ◌∷◌, ◌++◌, map, count_by, filter, ◌==◌, nat_eq}
use Rattle.algebra.specs.Lists.{all, some}

-- ---- tetrahedra and their faces

-- four point numbers in order
pub record Tet : Type 0 where
  pub a : ℕ
  pub b : ℕ
  pub c : ℕ
  pub d : ℕ

-- the tetrahedron of the four corners, which are points 0 to 3
abbrev pub big : Tet
big = record { a = 0; b = 1; c = 2; d = 3 }

-- where a point stands in a tetrahedron
pub data Slot : Type 0 where
  first second third fourth : Slot

abbrev pub slots : List Slot
slots = first ∷ second ∷ third ∷ fourth ∷ []

abbrev pub at : Tet → Slot → ℕ
at t first = t.a
at t second = t.b
at t third = t.c
at t fourth = t.d

-- the tetrahedron with point p at a slot, in place of the one there
abbrev pub put : Tet → Slot → (p : ℕ) → Tet
put t first p = record { a = p; b = t.b; c = t.c; d = t.d }
put t second p = record { a = t.a; b = p; c = t.c; d = t.d }
put t third p = record { a = t.a; b = t.b; c = p; d = t.d }
put t fourth p = record { a = t.a; b = t.b; c = t.c; d = p }

-- three point numbers in order
pub record Triple : Type 0 where
  pub x : ℕ
  pub y : ℕ
  pub z : ℕ

-- The face that lacks the point at a slot. Its order is such that this point, followed by the face, is an even
-- rearrangement of the tetrahedron, so that it has the same Side.
abbrev pub face : Tet → Slot → Triple
face t first = record { x = t.b; y = t.c; z = t.d }
face t second = record { x = t.a; y = t.d; z = t.c }
face t third = record { x = t.a; y = t.b; z = t.d }
face t fourth = record { x = t.a; y = t.c; z = t.b }

-- the point is one of the tetrahedron's
abbrev pub has : (p : ℕ) → Tet → Bool
has p t = p == t.a || p == t.b || p == t.c || p == t.d

-- the point is one of the face's
abbrev pub on : (p : ℕ) → Triple → Bool
on p f = p == f.x || p == f.y || p == f.z

-- the face belongs to the tetrahedron: that one has its three points, in whatever order
abbrev pub has_face : Triple → Tet → Bool
has_face f t = has f.x t && has f.y t && has f.z t

-- ---- shells

-- one of a tetrahedron's four faces, by the slot whose point it lacks; two tetrahedra that meet have a facet each
pub record Facet : Type 0 where
  pub of : Tet
  pub lacks : Slot

-- its three points
abbrev pub triple : Facet → Triple
triple p = face p.of p.lacks

-- the facets of some tetrahedra, by tetrahedron and then by slot
abbrev pub facets : List Tet → List Facet
facets [] = []
facets (t ∷ ts) = map (λ s. record { of = t; lacks = s }) slots ++ facets ts

-- the shell of some tetrahedra: the faces that belong to only one of them
abbrev pub shell : List Tet → List Facet
shell ts = filter (λ p. nat_eq (count_by (has_face (triple p)) ts) 1) (facets ts)

-- how many of some faces have both points of an edge
abbrev pub around : (u v : ℕ) → List Facet → ℕ
around u v ps = count_by (λ p. on u (triple p) && on v (triple p)) ps

-- each edge of some faces lies in exactly two of them
abbrev pub closed : List Facet → Bool
closed ps = all (λ p. twice (triple p).x (triple p).y && twice (triple p).y (triple p).z && twice (triple p).z (triple p).x) ps
  where
    twice : ℕ → ℕ → Bool
    twice u v = around u v ps == 2

-- ---- adding point number n, where a test tells the tetrahedra that conflict with it

-- a face joined to the point: its tetrahedron with the point that the face lacks replaced
abbrev pub joined : (n : ℕ) → Facet → Tet
joined n p = put p.of p.lacks n

module _ (conflict : Tet → Bool) (ts : List Tet) where
  -- the tetrahedra that go, and those that stay, each in their order
  abbrev pub dropped : List Tet
  dropped = filter conflict ts

  abbrev pub kept : List Tet
  kept = filter (λ t. not (conflict t)) ts

  -- the mesh then: the kept ones, and behind them the faces of the shell joined to the point
  abbrev pub after : (n : ℕ) → List Tet
  after n = kept ++ map (joined n) (shell dropped)

  -- a tetrahedron of that mesh has point q: a kept one, or one over a face of the shell
  abbrev pub stays : (q : ℕ) → Bool
  stays q = some (has q) kept || some (λ p. on q (triple p)) (shell dropped)
