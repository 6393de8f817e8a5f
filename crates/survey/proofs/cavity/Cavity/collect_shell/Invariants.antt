use Rattle.std.proofs.Common.{◌+◌, ◌*◌, take}
use Rattle.survey.specs.Cavity.{bare, face_number, Placed}
use Rattle.survey.proofs.Holes.{Gathered}
use Rattle.survey.proofs.cavity.Cavity.collect_shell.Given as goal

abbrev pub invariant-loop-k : goal.invariant-loop-k
invariant-loop-k l = Gathered face_number (bare l.self.used.now l.self.dropped.now) l.room l.count (4 * l.k) × Placed l.self.used.now (take l.count l.room)

abbrev pub invariant-loop-slot : goal.invariant-loop-slot
invariant-loop-slot l = Gathered face_number (bare l.self.used.now l.self.dropped.now) l.room l.count (4 * l.k + l.slot) × Placed l.self.used.now (take l.count l.room)
