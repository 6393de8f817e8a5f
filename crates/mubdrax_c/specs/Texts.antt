-- The report on a survey file, written into the caller's room.
use Rattle.std.specs.Prelude.{◌≡◌, ℕ, ◌<◌, ◌≤◌, Bool, cond, List, ◌++◌, length, drop}
use Rattle.report.specs.Report.{Reported}
use Rattle.mubdrax_c.specs.declared.reporting.TextAnswer.{TextAnswer}

-- a text is written to the front of the room, or is longer than the room, which then stays as it is
pub data Wrote (text : List ℕ) (refused : Bool) (room room' : List ℕ) (a : TextAnswer) : Type 0 where
  written : length text ≤ length room → room' ≡ text ++ drop (length text) room → a ≡ record { status = cond refused 1 0; length = length text } → Wrote text refused room room' a
  no_room : length room < length text → room' ≡ room → a ≡ record { status = 2; length = length text } → Wrote text refused room room' a

-- what is printed of the file is written so; or memory ran out, which can always happen, and nothing is written
pub data ReportedFor (file : List ℕ) (room room' : List ℕ) (a : TextAnswer) : Type 0 where
  reported : (text : List ℕ) (refused : Bool) → Reported file text refused → Wrote text refused room room' a → ReportedFor file room room' a
  no_memory : room' ≡ room → a ≡ record { status = 3; length = 0 } → ReportedFor file room room' a
