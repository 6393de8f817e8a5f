-- What each exported call answers, by what the survey's own calls answer.
use Rattle.std.specs.Prelude.{◌≡◌, ℕ, false, ◌⊎◌, Ok, Err, Result}
use Rattle.geometry.specs.PlainLift.{plain}
use Rattle.geometry.specs.Spots.{Spot}
use Rattle.geometry.specs.declared.plain.Plain.{Plain}
use Rattle.mesh.specs.Surveys.{Answer as Told, Call, Grading, add, locate, state}
use Rattle.survey.specs.Adds.{AddsTo}
use Rattle.survey.specs.Creates.{Created}
use Rattle.survey.specs.Locates.{Located, located_answer}
use Rattle.survey.specs.Pasts.{Survey, add_told, closed, opened, state_told}
use Rattle.survey.specs.States.{Stated}
use Rattle.survey.specs.Tables.{Lent}
use Rattle.survey.specs.Upheld.{Continues, Starts}
use Rattle.survey.specs.declared.open.Open.{Open}
use Rattle.survey.specs.declared.refusal.Refusal.{Refusal}
use Rattle.survey.specs.declared.sealed.Sealed.{Sealed}
use Rattle.survey.specs.declared.statement.Statement.{Statement}
use Rattle.mubdrax_c.specs.Answers.{answer_of, done_or_refused, no_survey, refusal_answer}
use Rattle.mubdrax_c.specs.Kept.{Stand, possible_counts}
use Rattle.mubdrax_c.specs.Readings.{admitted_record, record_class}
use Rattle.mubdrax_c.specs.declared.answer.Answer.{Answer}
use Rattle.mubdrax_c.specs.declared.counts.KeptCounts.{KeptCounts}
use Rattle.mubdrax_c.specs.declared.reading.ReadingRecord.{ReadingRecord}
use Rattle.mubdrax_c.specs.declared.reading.RecordAssay.{RecordAssay}

abbrev pub Tables : Type 0
Tables = Lent ReadingRecord

-- the grading of the records
abbrev pub assay : Grading ReadingRecord
assay = record { admits = admitted_record; class = record_class }

-- open and sealed surveys under the plain measure, graded so
abbrev pub OpenSurvey : Type 0
OpenSurvey = Open Plain RecordAssay

abbrev pub SealedSurvey : Type 0
SealedSurvey = Sealed Plain RecordAssay

-- whatever past the survey and the tables had, they have it with this call behind it, and the survey's promise holds of it
abbrev pub CarriesOn : Survey Plain RecordAssay → Tables → Call ReadingRecord × Told → Survey Plain RecordAssay → Tables → Type 0
CarriesOn = Continues (λ _. plain) (λ _. admitted_record) (λ _. record_class)

-- ---- creating

-- the survey's counts are kept; a refusal leaves what stood there
abbrev pub Begins : KeptCounts → KeptCounts → Result OpenSurvey Refusal → Answer → Type 0
Begins k k' (Ok o) a = Stand k' o.counts × (a ≡ record { refusal = 0; value = 0 })
Begins k k' (Err e) a = (k' ≡ k) × (a ≡ refusal_answer e)

-- what the survey's creating answers
pub record CreatedFor (k k' : KeptCounts) (t t' : Tables) (a : Answer) : Type 0 where
  pub measure : Plain
  pub grading : RecordAssay
  pub result : Result OpenSurvey Refusal
  pub created : Created measure grading t t' result
  pub starts : Starts (λ _. plain) (λ _. admitted_record) (λ _. record_class) t' result
  pub begins : Begins k k' result a

-- ---- adding

-- no survey has the kept counts, and nothing has changed
pub record Unknown (k k' : KeptCounts) (t t' : Tables) (a : Answer) : Type 0 where
  pub impossible : possible_counts k ≡ false
  pub answer : a ≡ no_survey
  pub counts : k' ≡ k
  pub tables : t' ≡ t

-- what the survey with the kept counts answers, and the counts that it has then
pub record Added (k k' : KeptCounts) (t t' : Tables) (s : Spot) (r : ReadingRecord) (a : Answer) : Type 0 where
  pub before : OpenSurvey
  pub after : OpenSurvey
  pub result : Result ℕ Refusal
  pub counts : Stand k before.counts
  pub counts_after : Stand k' after.counts
  pub adds : AddsTo plain admitted_record before.counts t s r after.counts t' result
  pub carries_on : CarriesOn (opened before) t (add s r, add_told result) (opened after) t'
  pub answer : a ≡ answer_of result

abbrev pub AddedFor : (k k' : KeptCounts) (t t' : Tables) → Spot → ReadingRecord → Answer → Type 0
AddedFor k k' t t' s r a = Unknown k k' t t' a ⊎ Added k k' t t' s r a

-- ---- locating

-- what the sealed survey with the kept counts answers
pub record Found (k : KeptCounts) (t : Tables) (x y z : ℕ) (a : Answer) : Type 0 where
  pub survey : SealedSurvey
  pub result : Result ℕ Refusal
  pub counts : Stand k survey.counts
  pub located : Located survey.counts t x y z result
  pub carries_on : CarriesOn (closed survey) t (locate x y z, located_answer result) (closed survey) t
  pub answer : a ≡ answer_of result

abbrev pub LocatedFor : KeptCounts → Tables → (x y z : ℕ) → Answer → Type 0
LocatedFor k t x y z a = Unknown k k t t a ⊎ Found k t x y z a

-- ---- stating

-- what the sealed survey with the kept counts answers, and the statement f' that it leaves in place of f
pub record Figured (k : KeptCounts) (t : Tables) (f f' : Statement) (a : Answer) : Type 0 where
  pub survey : SealedSurvey
  pub result : Result (Unit {0}) Refusal
  pub counts : Stand k survey.counts
  pub figures : Stated assay survey.counts t f f' result
  pub carries_on : CarriesOn (closed survey) t (state, state_told f' result) (closed survey) t
  pub answer : a ≡ done_or_refused result

abbrev pub StatedFor : KeptCounts → Tables → (f f' : Statement) → Answer → Type 0
StatedFor k t f f' a = (Unknown k k t t a × (f' ≡ f)) ⊎ Figured k t f f' a
