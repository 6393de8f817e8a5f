-- Sums over a shell.
use Rattle.std.specs.Prelude.{◌≡◌, ℕ, ◌≤◌, List, ℤ, neg_ℤ}
use Rattle.std.specs.List.{AllByRecursion}
use Rattle.algebra.specs.Sums.{sum_z}
use Rattle.mesh.specs.Orientations.{Proper, orientations}
use Rattle.mesh.specs.Tetrahedra.{Tet, Triple, triple, facets, shell}

-- a face in the same direction from its next point on, and in the opposite direction
abbrev pub turned : Triple → Triple
turned f = record { x = f.y; y = f.z; z = f.x }

abbrev pub flipped : Triple → Triple
flipped f = record { x = f.y; y = f.x; z = f.z }

-- the same however a face is turned, and opposite where it is flipped
pub record Antisymmetric (g : Triple → ℤ) : Type 0 where
  pub turn : (f : Triple) → g (turned f) ≡ g f
  pub flip : (f : Triple) → g (flipped f) ≡ neg_ℤ (g f)

-- Over the shell of tetrahedra of which no two have one oriented face, what is antisymmetric has the same sum as over all
-- their faces: the faces within cancel in pairs.
abbrev pub ShellSum : Type 0
ShellSum = (ts : List Tet) → AllByRecursion Proper ts → ((x y z : ℕ) → orientations ts x y z ≤ 1)
    → (g : Triple → ℤ) → Antisymmetric g → sum_z (λ p. g (triple p)) (shell ts) ≡ sum_z (λ p. g (triple p)) (facets ts)
