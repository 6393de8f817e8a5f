-- The sphere through the four points of a tetrahedron. Its centre has whole coordinates over twice the Side, so places are
-- compared here 2 Side times as far from the origin, where the centre is whole too.
use Rattle.std.specs.Prelude.{◌≡◌, Bool, ℤ, pos, ◌+ℤ◌, ◌-ℤ◌, ◌*ℤ◌, ◌<ℤ◌, int_lt}
use Rattle.geometry.specs.Lifts.{Lifted, ground}
use Rattle.geometry.specs.Sides.{det, side}
use Rattle.geometry.specs.Spots.{Spot}

-- the square of the distance from a to b
abbrev pub apart : (a b : Lifted) → ℤ
apart a b = (b.x -ℤ a.x) *ℤ (b.x -ℤ a.x) +ℤ (b.y -ℤ a.y) *ℤ (b.y -ℤ a.y) +ℤ (b.z -ℤ a.z) *ℤ (b.z -ℤ a.z)

-- 2 Side times the way from a to the centre, by Cramer's rule: Side's determinant with the squares of the rows' lengths for one column
abbrev pub way_x : (a b c d : Lifted) → ℤ
way_x a b c d = det (apart a b) (b.y -ℤ a.y) (b.z -ℤ a.z) (apart a c) (c.y -ℤ a.y) (c.z -ℤ a.z) (apart a d) (d.y -ℤ a.y) (d.z -ℤ a.z)

abbrev pub way_y : (a b c d : Lifted) → ℤ
way_y a b c d = det (b.x -ℤ a.x) (apart a b) (b.z -ℤ a.z) (c.x -ℤ a.x) (apart a c) (c.z -ℤ a.z) (d.x -ℤ a.x) (apart a d) (d.z -ℤ a.z)

abbrev pub way_z : (a b c d : Lifted) → ℤ
way_z a b c d = det (b.x -ℤ a.x) (b.y -ℤ a.y) (apart a b) (c.x -ℤ a.x) (c.y -ℤ a.y) (apart a c) (d.x -ℤ a.x) (d.y -ℤ a.y) (apart a d)

-- a whole place
pub record Centre : Type 0 where
  pub x : ℤ
  pub y : ℤ
  pub z : ℤ

-- 2 Side times the centre
abbrev pub centre : (a b c d : Lifted) → Centre
centre a b c d = record {
  x = pos 2 *ℤ side a b c d *ℤ a.x +ℤ way_x a b c d;
  y = pos 2 *ℤ side a b c d *ℤ a.y +ℤ way_y a b c d;
  z = pos 2 *ℤ side a b c d *ℤ a.z +ℤ way_z a b c d;
}

-- the square of the distance from the centre m to v, when m is 2 s times the centre and v is moved 2 s times as far out
abbrev pub from_centre : (s : ℤ) (m : Centre) (v : Lifted) → ℤ
from_centre s m v =
    (pos 2 *ℤ s *ℤ v.x -ℤ m.x) *ℤ (pos 2 *ℤ s *ℤ v.x -ℤ m.x)
    +ℤ (pos 2 *ℤ s *ℤ v.y -ℤ m.y) *ℤ (pos 2 *ℤ s *ℤ v.y -ℤ m.y)
    +ℤ (pos 2 *ℤ s *ℤ v.z -ℤ m.z) *ℤ (pos 2 *ℤ s *ℤ v.z -ℤ m.z)

-- how far v is from the centre of the sphere through a, b, c and d: the square of 2 Side times the distance
unfoldable pub distance : (a b c d v : Lifted) → ℤ
unfolding side
distance a b c d v = from_centre (side a b c d) (centre a b c d) v

-- the four points of a tetrahedron are equally far from the centre
pub record Circumscribed (a b c d : Lifted) : Type 0 where
  pub second : distance a b c d b ≡ distance a b c d a
  pub third : distance a b c d c ≡ distance a b c d a
  pub fourth : distance a b c d d ≡ distance a b c d a

-- the same of four spots
abbrev pub Circumsphere : (a b c d : Spot) → Type 0
Circumsphere a b c d = Circumscribed (ground a) (ground b) (ground c) (ground d)

-- where the tetrahedron's Side is above zero, the answer is whether e is strictly nearer to the centre than its points are
abbrev pub NearerInside : (a b c d e : Spot) → Bool → Type 0
NearerInside a b c d e r = pos 0 <ℤ side (ground a) (ground b) (ground c) (ground d) → r ≡ int_lt (away e) (away a)
  where
    away : Spot → ℤ
    away v = distance (ground a) (ground b) (ground c) (ground d) (ground v)
