-- The figures of a statement: a line for each class, and the margin.
use Rattle.std.specs.Prelude.{ℕ, Bool, false, ◌||◌, List, [], ◌∷◌, map, length, ℤ, Some, None, filter, Option, ◌==◌, nat_lt}
use Rattle.algebra.specs.Sums.{sum_z}
use Rattle.mesh.specs.Spaces.{side_of}
use Rattle.mesh.specs.Surveys.{Grading, Line, State, points, reading}
use Rattle.mesh.specs.Tetrahedra.{Tet}

-- one of the points is a corner
abbrev pub cornered : Tet → Bool
cornered t = nat_lt t.a 4 || nat_lt t.b 4 || nat_lt t.c 4 || nat_lt t.d 4

-- the class of four readings, if all are there
abbrev pub graded : {R : Type 0} → Grading R → (a b c d : Option R) → Option ℕ
graded G None b c d = None
graded G (Some a) None c d = None
graded G (Some a) (Some b) None d = None
graded G (Some a) (Some b) (Some c) None = None
graded G (Some a) (Some b) (Some c) (Some d) = Some (G.class a b c d)

abbrev pub is_class : (k : ℕ) → Option ℕ → Bool
is_class k None = false
is_class k (Some c) = c == k

abbrev pub classes : List ℕ
classes = 0 ∷ 1 ∷ 2 ∷ 3 ∷ 4 ∷ 5 ∷ 6 ∷ 7 ∷ []

-- the Sides of some tetrahedra of a state, added up
abbrev pub units : {R : Type 0} → State R → List Tet → ℤ
units s ts = sum_z (side_of (points s)) ts

-- the margin: the units of the tetrahedra with a corner
abbrev pub margin : {R : Type 0} → State R → ℤ
margin s = units s (filter cornered s.mesh)

module _ {R : Type 0} (G : Grading R) (s : State R) where
  -- the class of a tetrahedron without corners
  abbrev pub class_of : Tet → Option ℕ
  class_of t = graded G (reading s t.a) (reading s t.b) (reading s t.c) (reading s t.d)

  -- line k: the number and the units of the tetrahedra of class k
  abbrev pub line : (k : ℕ) → Line
  line k = let ts = filter (λ t. is_class k (class_of t)) s.mesh in record { tetrahedra = length ts; units = units s ts }

  abbrev pub lines : List Line
  lines = map line classes
