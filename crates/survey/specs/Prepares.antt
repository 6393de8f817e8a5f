-- Questions 7 to 10 of adding, of the hole that the site makes, and the records that fill it.
use Rattle.std.specs.Prelude.{◌≡◌, ℕ, ◌+◌, ◌<◌, ◌≤◌, Bool, false, ◌||◌, List, [], ◌∷◌, length, Ok, Err, Result, nat_le}
use Rattle.algebra.specs.Lists.{some}
use Rattle.mesh.specs.Added.{drops, kept_rows, records_after, shell_faces}
use Rattle.mesh.specs.Records.{every, row, tet_of}
use Rattle.mesh.specs.Tetrahedra.{Tet, has}
use Rattle.mesh.specs.declared.record.TetRecord.{TetRecord}
use Rattle.survey.specs.declared.prepare.Prepared.{Prepared}
use Rattle.survey.specs.declared.refusal.Refusal.{Refusal}
use Rattle.survey.specs.declared.refusal.Refusal.TheVariants.{PointTable, TetTable, NotWhole, OffGrid, Penalty, Reading, PointsFull, PlaceTaken, NoConflict, TetsFull, ShellOpen, Vanishes, Unowned}
use Rattle.survey.specs.Questions.{first_no}
use Rattle.survey.specs.Conflicts.{some_below}
use Rattle.survey.specs.Edges.{edges_twice}
use Rattle.survey.specs.Refusals.{number_of}
use Rattle.survey.specs.Stay.{faces_have}

module _ (conflict : Tet → Bool) (us : List TetRecord) where
  -- point q belongs to a kept record or to a shell face
  abbrev pub stays_in : (q : ℕ) → Bool
  stays_in q = some (λ k. has q (tet_of (row us k))) (kept_rows conflict us) || faces_have us (shell_faces conflict us) q

  -- is a record dropped; do the used records and the shell faces fit; are the edges in two shell faces each; do all n points stay
  abbrev pub hole_questions : (n room : ℕ) → List Bool
  hole_questions n room =
      some_below (drops conflict us) (length us)
      ∷ nat_le (length us + length (shell_faces conflict us)) room
      ∷ edges_twice us (shell_faces conflict us)
      ∷ every stays_in n
      ∷ []

  -- a refusal over a point names one that does not stay
  abbrev pub NamesLost : (n : ℕ) → Refusal → Type 0
  NamesLost n PointTable = Unit {0}
  NamesLost n TetTable = Unit {0}
  NamesLost n NotWhole = Unit {0}
  NamesLost n OffGrid = Unit {0}
  NamesLost n Penalty = Unit {0}
  NamesLost n Reading = Unit {0}
  NamesLost n PointsFull = Unit {0}
  NamesLost n PlaceTaken = Unit {0}
  NamesLost n NoConflict = Unit {0}
  NamesLost n TetsFull = Unit {0}
  NamesLost n ShellOpen = Unit {0}
  NamesLost n (Vanishes q) = (q < n) × (stays_in q ≡ false)
  NamesLost n Unowned = Unit {0}

  -- the records that are used when point n has been added, and how many the add writes or clears
  pub record Filled (n room : ℕ) (p : Prepared) : Type 0 where
    pub asked : first_no (hole_questions n room) ≡ 4
    pub records : p.records.now ≡ records_after conflict us n
    pub end : p.end ≡ length us + length (shell_faces conflict us)
    pub fewer : length p.records.now ≤ p.end
    pub fits : p.end ≤ room

  abbrev pub PreparedBy : (n room : ℕ) → Result Prepared Refusal → Type 0
  PreparedBy n room (Ok p) = Filled n room p
  PreparedBy n room (Err e) = (number_of e ≡ 9 + first_no (hole_questions n room)) × (first_no (hole_questions n room) < 4) × NamesLost n e
