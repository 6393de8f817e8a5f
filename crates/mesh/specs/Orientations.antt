-- Oriented faces. Around each tetrahedron they are so directed that two tetrahedra which meet in a face have it in
-- opposite directions; a mesh in which all faces match in this way is balanced.
use Rattle.std.specs.Prelude.{◌≡◌, ℕ, ◌+◌, ◌<◌, ◌≤◌, Bool, ◌&&◌, ◌||◌, ◌≢◌, List, [], ◌∷◌, count_by, ◌==◌}
use Rattle.mesh.specs.Tetrahedra.{Tet, first, second, third, fourth, Triple, face, big}

-- ---- tetrahedra of four different points

-- the four numbers differ
pub record Proper (t : Tet) : Type 0 where
  pub ab : t.a ≢ t.b
  pub ac : t.a ≢ t.c
  pub ad : t.a ≢ t.d
  pub bc : t.b ≢ t.c
  pub bd : t.b ≢ t.d
  pub cd : t.c ≢ t.d

-- the four numbers are below n
pub record Under (n : ℕ) (t : Tet) : Type 0 where
  pub a : t.a < n
  pub b : t.b < n
  pub c : t.c < n
  pub d : t.d < n

-- four different points with numbers below n
pub record WellFormed (n : ℕ) (t : Tet) : Type 0 where
  pub proper : Proper t
  pub under : Under n t

-- ---- oriented faces

-- the face is x y z, in this order or turned
abbrev pub turns : Triple → (x y z : ℕ) → Bool
turns f x y z = (f.x == x && f.y == y && f.z == z) || (f.y == x && f.z == y && f.x == z) || (f.z == x && f.x == y && f.y == z)

-- a face of the tetrahedron is x y z, in this order or turned
abbrev pub oriented : Tet → (x y z : ℕ) → Bool
oriented t x y z = turns (face t first) x y z || turns (face t second) x y z || turns (face t third) x y z || turns (face t fourth) x y z

-- how many tetrahedra have the oriented face x y z
abbrev pub orientations : List Tet → (x y z : ℕ) → ℕ
orientations ts x y z = count_by (λ t. oriented t x y z) ts

-- No two tetrahedra have one oriented face, and a face and its reverse come equally often but on the outside of the big one.
pub record Balanced (ts : List Tet) : Type 0 where
  pub once : (x y z : ℕ) → orientations ts x y z ≤ 1
  pub boundary : (x y z : ℕ) → orientations ts x y z + orientations (big ∷ []) y x z ≡ orientations ts y x z + orientations (big ∷ []) x y z
