use Rattle.std.proofs.Common.{length, refl, arith}
use Rattle.survey.proofs.Flags.{some_told}
use Rattle.survey.proofs.conflict.mark_conflicts.Goals as goal

pub returns-clause-some : goal.returns-clause-some
returns-clause-some g c = some_told _ c.loop-k.flags (length c.args.whole.now.tets.now) c.contains.result c.contains.ensures.value refl refl (omega arith)
