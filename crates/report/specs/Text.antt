-- The text of a statement. Assumes nothing.
use Rattle.std.specs.Prelude.{ℕ, ◌+◌, List, [], ◌∷◌, ◌++◌, ℤ, codes, decimal}
use Rattle.std.specs.Fmt.{signed_decimal}
use Rattle.survey.specs.declared.statement.Line.{Line}
use Rattle.survey.specs.declared.statement.Statement.{Statement}

-- the class, its tetrahedra and their units
abbrev pub class_line : (class : ℕ) → Line → List ℕ
class_line class l = decimal class ++ (codes " " ++ (decimal l.tetrahedra ++ (codes " " ++ (signed_decimal l.units ++ codes "\n"))))

abbrev pub margin_line : ℤ → List ℕ
margin_line units = codes "margin " ++ (signed_decimal units ++ codes "\n")

-- a line for each class, from this one on
abbrev pub class_lines : (class : ℕ) → List Line → List ℕ
class_lines class [] = []
class_lines class (l ∷ ls) = class_line class l ++ class_lines (class + 1) ls

-- the lines of the classes from 0 on, and the margin
abbrev pub statement_text : Statement → List ℕ
statement_text s = class_lines 0 s.lines ++ margin_line s.margin
