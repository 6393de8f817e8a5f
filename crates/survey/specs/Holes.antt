-- Questions 7 to 10 of adding, of the hole that the site makes, and the plan of the add when each is answered yes.
use Rattle.std.specs.Prelude.{◌≡◌, ℕ, ◌+◌, ◌<◌, Bool, List, Ok, Err, Result}
use Rattle.mesh.specs.Tetrahedra.{Tet}
use Rattle.mesh.specs.declared.record.TetRecord.{TetRecord}
use Rattle.survey.specs.declared.cavity.plan.Plan.{Plan}
use Rattle.survey.specs.declared.refusal.Refusal.{Refusal}
use Rattle.survey.specs.Cavity.{Flagged}
use Rattle.survey.specs.Plans.{flags, records}
use Rattle.survey.specs.Prepares.{NamesLost, hole_questions}
use Rattle.survey.specs.Questions.{first_no}
use Rattle.survey.specs.Refusals.{number_of}

module _ (conflict : Tet → Bool) (us : List TetRecord) where
  -- four times yes, with a plan over the records and over flags for those that conflict; or the refusal of the first no
  abbrev pub HoleAsked : (n room : ℕ) → Result Plan Refusal → Type 0
  HoleAsked n room (Ok p) = (first_no (hole_questions conflict us n room) ≡ 4) × (records p ≡ us) × Flagged conflict us (flags p)
  HoleAsked n room (Err e) = (number_of e ≡ 9 + first_no (hole_questions conflict us n room)) × (first_no (hole_questions conflict us n room) < 4) × NamesLost conflict us n e
