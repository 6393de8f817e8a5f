-- What becomes of a survey file: the statement of the survey that it gives, or why there is none. Assumes nothing.
use Rattle.std.specs.Prelude.{◌≡◌, ℕ, Bool, true, false, List, [], ◌∷◌, length, Some, None, Ok, Err, Option, Result, String, string_bytes}
use Rattle.std.specs.Global.{Global}
use Rattle.geometry.specs.PlainLift.{plain}
use Rattle.geometry.specs.declared.plain.Plain.{Plain}
use Rattle.grading.specs.Assay.{admitted_reading, assay_class, reading_of}
use Rattle.grading.specs.declared.assay.Assay.{Assay}
use Rattle.grading.specs.declared.assay.Reading.{Reading}
use Rattle.mesh.specs.Surveys.{Answer, Call, Grading, seal, sealed, state}
use Rattle.survey.specs.declared.open.Open.{Open}
use Rattle.survey.specs.declared.refusal.Refusal.{Refusal as Refused}
use Rattle.survey.specs.declared.sealed.Sealed.{Sealed}
use Rattle.survey.specs.declared.statement.Statement.{Statement}
use Rattle.survey.specs.Creates.{Created, unfit}
use Rattle.survey.specs.Pasts.{Survey, closed, opened, state_told}
use Rattle.survey.specs.Posting.{blank_statement}
use Rattle.survey.specs.Seals.{SealedAs}
use Rattle.survey.specs.States.{Stated}
use Rattle.survey.specs.Tables.{Lent}
use Rattle.survey.specs.Upheld.{EveryPast, Kept}
use Rattle.words.specs.declared.fault.Fault.{Fault}
use Rattle.words.specs.declared.refusal.Refusal.{Refusal}
use Rattle.words.specs.Contents.{Ending, complete, refused, label_text}
use Rattle.words.specs.Fault.{refused_site}
use Rattle.words.specs.Feed.{FedBy, after_adds, store}
use Rattle.words.specs.Refusal.{refusal_text}
use Rattle.report.specs.Text.{statement_text}
use Rattle.report.specs.declared.error.ReportError.{ReportError}
use Rattle.report.specs.declared.error.ReportError.TheVariants.{Refused as RefusedBy, OutOfMemory}

-- ---- what comes of a file

-- a statement, or a fault with the last label before it
pub data Outcome : Type 0 where
  stated : Statement → Outcome
  faulty : Fault → Option (List ℕ) → Outcome

abbrev pub outcome_of : Result Statement Refusal → Outcome
outcome_of (Ok s) = stated s
outcome_of (Err r) = faulty r.fault (label_text r.label)

-- a refusal that no word of the file brought about
abbrev pub outside : Refused → Fault
outside e = refused_site e 0

-- what the assay means to a survey
abbrev pub assay : Grading Reading
assay = record { admits = admitted_reading; class = assay_class }

-- the file takes a plain survey with the assay from o and its tables t to o' and t'
abbrev pub FedFrom : List ℕ → (o : Open Plain Assay) (t : Lent Reading) (o' : Open Plain Assay) (t' : Lent Reading) → Ending → Type 0
FedFrom b o t o' t' z = FedBy plain admitted_reading reading_of b (store o t) (store o' t') z

-- such a survey and its tables have a past, after which the promise holds
abbrev pub KeptBy : List (Call Reading × Answer) → Survey Plain Assay → Lent Reading → Type 0
KeptBy = Kept (λ _. plain) (λ _. admitted_reading) (λ _. assay_class)

-- it holds after every past of such a survey
abbrev pub Promised : Type 0
Promised = EveryPast {M = Plain} {G = Assay} (λ _. plain) (λ _. admitted_reading) (λ _. assay_class)

-- What comes of a file from a survey and its tables on: a fault stops it, with the adds of the file behind it; or it is fed to its
-- end, sealed and stated, which is never refused. The figures are the answer of the past's last call, so that they add up.
pub data Ends (b : List ℕ) (o : Open Plain Assay) (t : Lent Reading) : Outcome → Type 0 where
  stops : (o' : Open Plain Assay) (t' : Lent Reading) (f : Fault) (l : Option (List ℕ)) (fed : FedFrom b o t o' t' (refused f l)) → KeptBy (after_adds fed.adds []) (opened o') t' → Ends b o t (faulty f l)
  states : (o' : Open Plain Assay) (s : Sealed Plain Assay) (t' : Lent Reading) (told : Statement) (fed : FedFrom b o t o' t' complete) → SealedAs o' s
      → Stated assay s.counts t' blank_statement told (Ok tt)
      → KeptBy ((state, state_told told (Ok tt)) ∷ (seal, sealed) ∷ after_adds fed.adds []) (closed s) t'
      → Ends b o t (stated told)

-- what comes of a file over the tables t: no survey is created, or one with the tables t', and what comes of the file then
pub data Comes (b : List ℕ) (t : Lent Reading) : Outcome → Type 0 where
  uncreated : (e : Refused) → unfit (length t.points) (length t.readings) (length t.tets) ≡ Some e → Comes b t (faulty (outside e) None)
  created : (m : Plain) (g : Assay) (o : Open Plain Assay) (t' : Lent Reading) (z : Outcome) → Created m g t t' (Ok o) → Ends b o t' z → Comes b t z

-- ---- what is printed

abbrev pub text_of : Outcome → List ℕ
text_of (stated s) = statement_text s
text_of (faulty f l) = refusal_text f l

abbrev pub is_faulty : Outcome → Bool
is_faulty (stated s) = false
is_faulty (faulty f l) = true

-- what is printed of an outcome, and whether it is a refusal
pub record Printed (z : Outcome) (text : List ℕ) (refused : Bool) : Type 0 where
  pub text_is : text ≡ text_of z
  pub flag_is : refused ≡ is_faulty z

-- what an answer prints of an outcome; of memory that ran out nothing is said
abbrev pub PrintedAs : Outcome → Result (String Global) ReportError → Type 0
PrintedAs z (Ok text) = Printed z (string_bytes text) false
PrintedAs z (Err (RefusedBy line)) = Printed z (string_bytes line) true
PrintedAs z (Err (OutOfMemory _)) = Unit {0}

-- over some tables of 256 point records, as many readings and 2,048 tetrahedron records a survey is created, and what comes of the
-- file is printed
pub record Reported (b : List ℕ) (text : List ℕ) (refused : Bool) : Type 0 where
  pub tables : Lent Reading
  pub point_records : length tables.points ≡ 256
  pub reading_records : length tables.readings ≡ 256
  pub tet_records : length tables.tets ≡ 2048
  pub measure : Plain
  pub grading : Assay
  pub survey : Open Plain Assay
  pub start : Lent Reading
  pub created : Created measure grading tables start (Ok survey)
  pub came : Outcome
  pub ends : Ends b survey start came
  pub printed : Printed came text refused

-- a text is what is printed of the file, and a refusal where it comes as an error; of memory that ran out nothing is said
abbrev pub ReportedAs : List ℕ → Result (String Global) ReportError → Type 0
ReportedAs b (Ok text) = Reported b (string_bytes text) false
ReportedAs b (Err (RefusedBy line)) = Reported b (string_bytes line) true
ReportedAs b (Err (OutOfMemory _)) = Unit {0}
