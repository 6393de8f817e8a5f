-- The way from one point to another, and the determinant of three ways.
use Rattle.std.specs.Prelude.{◌≡◌, ℤ, pos, ◌+ℤ◌, ◌-ℤ◌, ◌*ℤ◌}
use Rattle.geometry.specs.declared.offset.Row.{Row}
use Rattle.geometry.specs.declared.point.Point.{Point}
use Rattle.geometry.specs.Sides.{det}

-- the way from one point to another, and the minors of two ways
abbrev pub Offset : Type 0
Offset = Row 2560

abbrev pub Minors : Type 0
Minors = Row 13107200

-- the coordinates of b less those of a
pub record Between (a b : Point) (u : Offset) : Type 0 where
  pub x : u.x ≡ pos b.x -ℤ pos a.x
  pub y : u.y ≡ pos b.y -ℤ pos a.y
  pub z : u.z ≡ pos b.z -ℤ pos a.z

-- the determinant of the rows (a b) and (c d)
abbrev pub minor : (a b c d : ℤ) → ℤ
minor a b c d = a *ℤ d -ℤ b *ℤ c

-- the minors of v and w, each by the column that it leaves out
pub record MinorsOf (v w : Offset) (m : Minors) : Type 0 where
  pub x : m.x ≡ minor v.y v.z w.y w.z
  pub y : m.y ≡ minor v.x v.z w.x w.z
  pub z : m.z ≡ minor v.x v.y w.x w.y

-- a determinant along its first row
abbrev pub expansion : Offset → Minors → ℤ
expansion u m = u.x *ℤ m.x -ℤ u.y *ℤ m.y +ℤ u.z *ℤ m.z

-- the determinant whose rows are the three ways
abbrev pub rows : Offset → Offset → Offset → ℤ
rows u v w = det u.x u.y u.z v.x v.y v.z w.x w.y w.z
