use Rattle.std.proofs.Common.{[], rules}
use Rattle.survey.specs.Pasts.{creates}
use Rattle.survey.specs.Tables.{lent}
use Rattle.survey.proofs.AnyRun.{kept}
use Rattle.survey.proofs.open.Open.create.Goals as goal

pub returns-clause-starts : goal.returns-clause-starts
returns-clause-starts g c =
    kept g.M.Measure.lifts g.G.Grading.admitted g.G.Grading.classed g.met.G.Grading.eight [] _ _
    (creates c.args.measure c.args.grading _ (lent c.args.tables.now) _ (search rules))
