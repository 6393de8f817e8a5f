-- The past of a survey: what creating did, and one call after the other, each by the definition that its contract cites and
-- each from the survey and the tables that the one before it left, refused or not.
use Rattle.std.specs.Prelude.{◌≡◌, ℕ, Bool, true, false, List, [], ◌∷◌, map, Ok, Err, Result}
use Rattle.geometry.specs.Lifts.{Lift}
use Rattle.geometry.specs.Spots.{Spot}
use Rattle.mesh.specs.Surveys.{Call, add, locate, seal, state, Answer, accepted, refused, refused_over, sealed, stated}
use Rattle.survey.specs.declared.counts.Counts.{Counts}
use Rattle.survey.specs.declared.open.Open.{Open}
use Rattle.survey.specs.declared.refusal.Refusal.{Refusal}
use Rattle.survey.specs.declared.refusal.Refusal.TheVariants.{PointTable, TetTable, NotWhole, OffGrid, Penalty, Reading, PointsFull, PlaceTaken, NoConflict, TetsFull, ShellOpen, Vanishes, Unowned}
use Rattle.survey.specs.declared.sealed.Sealed.{Sealed}
use Rattle.survey.specs.declared.statement.Statement.{Statement}
use Rattle.survey.specs.Adds.{AddsTo}
use Rattle.survey.specs.Creates.{Created}
use Rattle.survey.specs.Locates.{Located, located_answer}
use Rattle.survey.specs.Seals.{SealedAs}
use Rattle.survey.specs.States.{Stated, as_told, meaning}
use Rattle.survey.specs.Tables.{Lent}

-- ---- answers of the calls, as the rules tell them

abbrev pub refusal_told : Refusal → Answer
refusal_told PointTable = refused 1
refusal_told TetTable = refused 2
refusal_told NotWhole = refused 3
refusal_told OffGrid = refused 4
refusal_told Penalty = refused 5
refusal_told Reading = refused 6
refusal_told PointsFull = refused 7
refusal_told PlaceTaken = refused 8
refusal_told NoConflict = refused 9
refusal_told TetsFull = refused 10
refusal_told ShellOpen = refused 11
refusal_told (Vanishes q) = refused_over 12 q
refusal_told Unowned = refused 13

abbrev pub add_told : Result ℕ Refusal → Answer
add_told (Ok n) = accepted n
add_told (Err e) = refusal_told e

-- by the figures that stand in the caller's place
abbrev pub state_told : Statement → Result (Unit {0}) Refusal → Answer
state_told s (Ok _) = stated (map as_told s.lines) s.margin
state_told s (Err e) = refusal_told e

-- ---- pasts

-- a survey, open or sealed
pub data Survey (M G : Type 0) : Type 0 where
  opened : Open M G → Survey M G
  closed : Sealed M G → Survey M G

module _ {M G : Type 0} where
  abbrev pub is_open : Survey M G → Bool
  is_open (opened o) = true
  is_open (closed s) = false

  -- what it remembers
  abbrev pub counts_in : Survey M G → Counts
  counts_in (opened o) = o.counts
  counts_in (closed s) = s.counts

  abbrev pub measure_in : Survey M G → M
  measure_in (opened o) = o.measure
  measure_in (closed s) = s.measure

  abbrev pub grading_in : Survey M G → G
  grading_in (opened o) = o.grading
  grading_in (closed s) = s.grading

module _ {M G R : Type 0} (lifts : M → Lift) (admitted : G → R → Bool) (classed : G → R → R → R → R → ℕ) where
  -- A survey and its tables have a past: its calls with their answers, the newest first. Which calls, with which arguments and in
  -- which order, and which of them are refused, is free; the measure and the grading are those of the creation throughout.
  pub data Ran : List (Call R × Answer) → Survey M G → Lent R → Type 0 where
    creates : (m : M) (g : G) (o : Open M G) (before after : Lent R)
        → Created m g before after (Ok o)
        → Ran [] (opened o) after
    adds : {past : List (Call R × Answer)} (o o' : Open M G) (before after : Lent R) (s : Spot) (r : R) (a : Result ℕ Refusal) → Ran past (opened o) before
        → AddsTo (lifts o.measure) (admitted o.grading) o.counts before s r o'.counts after a
        → o'.measure ≡ o.measure → o'.grading ≡ o.grading
        → Ran ((add s r, add_told a) ∷ past) (opened o') after
    seals : {past : List (Call R × Answer)} (o : Open M G) (s : Sealed M G) (tables : Lent R) → Ran past (opened o) tables → SealedAs o s → Ran ((seal, sealed) ∷ past) (closed s) tables
    locates : {past : List (Call R × Answer)} (s : Sealed M G) (tables : Lent R) (x y z : ℕ) (a : Result ℕ Refusal) → Ran past (closed s) tables
        → Located s.counts tables x y z a
        → Ran ((locate x y z, located_answer a) ∷ past) (closed s) tables
    states : {past : List (Call R × Answer)} (s : Sealed M G) (tables : Lent R) (f f' : Statement) (a : Result (Unit {0}) Refusal) → Ran past (closed s) tables
        → Stated (meaning admitted classed s.grading) s.counts tables f f' a
        → Ran ((state, state_told f' a) ∷ past) (closed s) tables
