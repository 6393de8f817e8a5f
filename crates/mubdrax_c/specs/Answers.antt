-- Answers as plain data.
use Rattle.std.specs.Prelude.{ℕ, Ok, Err, Result}
use Rattle.survey.specs.Refusals.{number_of}
use Rattle.survey.specs.declared.refusal.Refusal.{Refusal}
use Rattle.survey.specs.declared.refusal.Refusal.TheVariants.{PointTable, TetTable, NotWhole, OffGrid, Penalty, Reading, PointsFull, PlaceTaken, NoConflict, TetsFull, ShellOpen, Vanishes, Unowned}
use Rattle.mubdrax_c.specs.declared.answer.Answer.{Answer}

-- the point that comes with refusal 12; the others come with none
abbrev pub named : Refusal → ℕ
named PointTable = 0
named TetTable = 0
named NotWhole = 0
named OffGrid = 0
named Penalty = 0
named Reading = 0
named PointsFull = 0
named PlaceTaken = 0
named NoConflict = 0
named TetsFull = 0
named ShellOpen = 0
named (Vanishes q) = q
named Unowned = 0

abbrev pub refusal_answer : Refusal → Answer
refusal_answer e = record { refusal = number_of e; value = named e }

-- a number, or a refusal
abbrev pub answer_of : Result ℕ Refusal → Answer
answer_of (Ok n) = record { refusal = 0; value = n }
answer_of (Err e) = refusal_answer e

-- nothing to return, or a refusal
abbrev pub done_or_refused : Result (Unit {0}) Refusal → Answer
done_or_refused (Ok _) = record { refusal = 0; value = 0 }
done_or_refused (Err e) = refusal_answer e

-- no survey has the counts that were handed in
abbrev pub no_survey : Answer
no_survey = record { refusal = 15; value = 0 }
