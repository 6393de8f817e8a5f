-- What stating a sealed survey answers, and the figures that it leaves.
use Rattle.std.specs.Prelude.{◌≡◌, ℕ, Bool, cond, List, map, length, ℤ, None, Ok, Err, filter, Option, Result, nat_lt}
use Rattle.std.specs.List.{slice_get}
use Rattle.algebra.specs.Sums.{sum_z}
use Rattle.geometry.specs.Spots.{Spot}
use Rattle.mesh.specs.Records.{mesh_of}
use Rattle.mesh.specs.Spaces.{side_of}
use Rattle.mesh.specs.Statements.{classes, cornered, graded, is_class}
use Rattle.mesh.specs.Surveys.{Grading, Line as ToldLine}
use Rattle.mesh.specs.Tetrahedra.{Tet}
use Rattle.survey.specs.declared.counts.Counts.{Counts}
use Rattle.survey.specs.declared.refusal.Refusal.{Refusal}
use Rattle.survey.specs.declared.refusal.Refusal.TheVariants.{NotWhole}
use Rattle.survey.specs.declared.statement.Line.{Line}
use Rattle.survey.specs.declared.statement.Statement.{Statement}
use Rattle.survey.specs.Posting.{post_class, post_margin}
use Rattle.survey.specs.Tables.{Lent, spots, used_tets}
use Rattle.survey.specs.Wholeness.{WholeTables}

-- what a grading means to a survey, by what its trait says of it
abbrev pub meaning : {S R : Type 0} → (S → R → Bool) → (S → R → R → R → R → ℕ) → S → Grading R
meaning admitted classed g = record { admits = admitted g; class = classed g }

-- the reading at a site's number, and none at a corner's
abbrev pub reading_at : {R : Type 0} → List R → ℕ → Option R
reading_at rs q = cond (nat_lt q 4) None (slice_get rs q)

-- the class of a tetrahedron without corners, by the readings in the table
abbrev pub class_at : {R : Type 0} → Grading R → List R → Tet → Option ℕ
class_at G rs t = graded G (reading_at rs t.a) (reading_at rs t.b) (reading_at rs t.c) (reading_at rs t.d)

module _ {R : Type 0} (G : Grading R) (ss : List Spot) (rs : List R) where
  -- line k: the number and the summed Side of the tetrahedra of class k
  abbrev pub line_at : List Tet → (k : ℕ) → Line
  line_at ts k = let us = filter (λ t. is_class k (class_at G rs t)) ts in record { tetrahedra = length us; units = sum_z (side_of ss) us }

  -- the margin: the summed Side of the tetrahedra with a corner
  abbrev pub margin_at : List Tet → ℤ
  margin_at ts = sum_z (side_of ss) (filter cornered ts)

  abbrev pub figures : List Tet → Statement
  figures ts = record { lines = map (line_at ts) classes; margin = margin_at ts }

  -- one tetrahedron more: in the margin where it has a corner, and in the line of its class otherwise
  abbrev pub entered : Tet → Statement → Statement
  entered t s = cond (cornered t) (post_margin (side_of ss t) s) (post_class (class_at G rs t) (side_of ss t) s)

-- a line of the code as the rules tell it
abbrev pub as_told : Line → ToldLine
as_told l = record { tetrahedra = l.tetrahedra; units = l.units }

-- Whole tables replace the statement s by their figures; others are refused, and leave it as it is.
abbrev pub Stated : {R : Type 0} → Grading R → Counts → Lent R → (s s' : Statement) → Result (Unit {0}) Refusal → Type 0
Stated G c t s s' (Ok _) = WholeTables c t.points (length t.readings) t.tets × (s' ≡ figures G (spots c t.points) t.readings (mesh_of (used_tets c t.tets)))
Stated G c t s s' (Err e) = (e ≡ NotWhole) × (WholeTables c t.points (length t.readings) t.tets → ⊥) × (s' ≡ s)
