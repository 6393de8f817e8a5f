use Rattle.std.proofs.Common.{◌≡◌, ◌*◌}
use Rattle.mesh.specs.Added.{rank}
use Rattle.survey.specs.Cavity.{bare, left, Noted}
use Rattle.survey.proofs.cavity.Cavity.number.Given as goal

abbrev pub invariant-loop-k : goal.invariant-loop-k
invariant-loop-k l = (l.kept ≡ rank (left l.self.dropped.now) l.k) × (l.shell ≡ rank (bare l.self.used.now l.self.dropped.now) (4 * l.k)) × Noted l.self.used.now l.self.dropped.now l.k l.numbers
