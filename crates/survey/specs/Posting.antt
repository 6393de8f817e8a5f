-- Figures of a statement, and posting to one of its lines.
use Rattle.std.specs.Prelude.{ℕ, ◌+◌, ◌<◌, ◌≤◌, replicate, ℤ, pos, ◌+ℤ◌, Some, None, Option, slice_index_or, slice_set, unsigned_abs}
use Rattle.survey.specs.declared.statement.Line.{Line}
use Rattle.survey.specs.declared.statement.Statement.{Statement}

-- a line without tetrahedra
abbrev pub blank_line : Line
blank_line = record { tetrahedra = 0; units = pos 0 }

-- a statement without tetrahedra
abbrev pub blank_statement : Statement
blank_statement = record { lines = replicate 8 blank_line; margin = pos 0 }

-- one tetrahedron more
abbrev pub posted : Line → ℤ → Line
posted l u = record { tetrahedra = l.tetrahedra + 1; units = l.units +ℤ u }

-- one tetrahedron more in line k; the other lines and the margin keep their figures
abbrev pub post_to : (k : ℕ) → ℤ → Statement → Statement
post_to k u s = record { lines = slice_set s.lines k (posted (slice_index_or s.lines k blank_line) u); margin = s.margin }

-- the same in the line of a class, if there is one
abbrev pub post_class : Option ℕ → ℤ → Statement → Statement
post_class None u s = s
post_class (Some k) u s = post_to k u s

-- units of one tetrahedron more in the margin
abbrev pub post_margin : ℤ → Statement → Statement
post_margin u s = record { lines = s.lines; margin = s.margin +ℤ u }

-- Side is at most 6 × 2560³ in size
abbrev pub Sized : ℤ → Type 0
Sized u = unsigned_abs u ≤ 100663296000

-- a sum of at most 16,384 Sides
abbrev pub SizedSum : ℤ → Type 0
SizedSum u = unsigned_abs u ≤ 1649267441664000

-- figures of at most 16,384 tetrahedra
pub record Roomy (l : Line) : Type 0 where
  pub tetrahedra : l.tetrahedra ≤ 16384
  pub units : SizedSum l.units

-- the lines and the margin of such a statement
pub record RoomyStatement (s : Statement) : Type 0 where
  pub lines : (k : ℕ) → k < 8 → Roomy (slice_index_or s.lines k blank_line)
  pub margin : SizedSum s.margin
