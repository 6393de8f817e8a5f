-- What is known of an add when its records are made.
use Rattle.std.specs.Prelude.{ℕ, ◌+◌, ◌-◌, ◌%◌, Bool, cond, List, ◌++◌, length, take, drop, replicate, ◌==◌}
use Rattle.mesh.specs.Added.{across, beside, face_of, records_after, renumbered, shell_faces}
use Rattle.mesh.specs.Records.{fours}
use Rattle.mesh.specs.Tetrahedra.{Tet}
use Rattle.mesh.specs.declared.record.TetRecord.{TetRecord}
use Rattle.survey.specs.Cavity.{Flagged}
use Rattle.survey.specs.declared.cavity.plan.Plan.{Plan}

abbrev pub records : Plan → List TetRecord
records p = p.shell.cavity.used.now

abbrev pub flags : Plan → List Bool
flags p = p.shell.cavity.dropped.now

-- it holds of any test of conflict that the plan's flags tell
abbrev pub ForConflict : Plan → ((conflict : Tet → Bool) → Type 0) → Type 0
ForConflict p P = (conflict : Tet → Bool) → Flagged conflict (records p) (flags p) → P conflict

-- neighbour j of the new record over shell face q
abbrev pub new_neighbour : (conflict : Tet → Bool) → List TetRecord → (q j : ℕ) → ℕ
new_neighbour conflict rs q j = cond (j == q % 4) (renumbered conflict rs (face_of rs q) (across rs q)) (beside conflict rs q j)

-- a record of zero words
abbrev pub zero_record : TetRecord
zero_record = record { points = fours (λ i. 0); neighbours = fours (λ i. 0); mark = 0 }

-- A table of which the first `used` records were in use, when point n has been added: the used records then, zero words up to the old
-- count plus the shell faces, and the rest as it was.
abbrev pub table_after : (conflict : Tet → Bool) → (table : List TetRecord) → (used n : ℕ) → List TetRecord
table_after conflict table used n =
    let rs = take used table in
    let end = used + length (shell_faces conflict rs) in
    records_after conflict rs n ++ replicate (end - length (records_after conflict rs n)) zero_record ++ drop end table
