-- What locating a place in a sealed survey answers.
use Rattle.std.specs.Prelude.{ℕ, ◌<◌, List, length, Ok, Err, Result}
use Rattle.geometry.specs.Spots.{bare}
use Rattle.mesh.specs.declared.record.TetRecord.{TetRecord}
use Rattle.mesh.specs.Owners.{Owns}
use Rattle.mesh.specs.Records.{row, tet_of}
use Rattle.mesh.specs.Surveys.{Answer, found, refused, OnGrid}
use Rattle.survey.specs.declared.counts.Counts.{Counts}
use Rattle.survey.specs.declared.record.PointRecord.{PointRecord}
use Rattle.survey.specs.declared.refusal.Refusal.{Refusal}
use Rattle.survey.specs.declared.refusal.Refusal.TheVariants.{NotWhole, OffGrid, Unowned}
use Rattle.survey.specs.Refusals.{number_of}
use Rattle.survey.specs.Tables.{Lent, spots, used_tets}
use Rattle.survey.specs.Wholeness.{WholeTables}

-- used record k owns the place
abbrev pub OwnsAt : Counts → List PointRecord → List TetRecord → (x y z k : ℕ) → Type 0
OwnsAt c ps ts x y z k = Owns (spots c ps) (bare x y z) (tet_of (row (used_tets c ts) k))

-- Given the counts, the tables and the place, the answer is the refusal of the first question that is answered no, or the lowest
-- used record that owns the place. Of the readings only the number is looked at.
module _ {R : Type 0} (c : Counts) (t : Lent R) (x y z : ℕ) where
  pub data Located : Result ℕ Refusal → Type 0 where
    not_whole : ¬ WholeTables c t.points (length t.readings) t.tets → Located (Err NotWhole)
    off_grid : WholeTables c t.points (length t.readings) t.tets → ¬ OnGrid (bare x y z) → Located (Err OffGrid)
    unowned : WholeTables c t.points (length t.readings) t.tets → OnGrid (bare x y z) → ((k : ℕ) → k < c.tets → ¬ OwnsAt c t.points t.tets x y z k) → Located (Err Unowned)
    lowest_owner : WholeTables c t.points (length t.readings) t.tets → OnGrid (bare x y z) → (k : ℕ) → k < c.tets → OwnsAt c t.points t.tets x y z k → ((j : ℕ) → j < k → ¬ OwnsAt c t.points t.tets x y z j) → Located (Ok k)

-- the answer as the rules tell it
abbrev pub located_answer : Result ℕ Refusal → Answer
located_answer (Ok k) = found k
located_answer (Err e) = refused (number_of e)
