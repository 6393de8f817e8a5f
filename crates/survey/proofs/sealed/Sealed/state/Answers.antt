use Rattle.std.proofs.Common.{Ok, Err, rules}
use Rattle.std.proofs.lemmas.Result.{err_from_is_err_and}
use Rattle.survey.specs.declared.refusal.Refusal.TheVariants.{NotWhole}
use Rattle.survey.specs.Pasts.{states}
use Rattle.survey.proofs.AnyRun.{kept}
use Rattle.survey.proofs.sealed.Sealed.state.Goals as goal

pub returns-in_err-whole-clause-continues : goal.returns-in_err-whole-clause-continues
returns-in_err-whole-clause-continues g c past ran =
    let p = err_from_is_err_and c.from_residual.result c.from_residual.ensures.1 in
    rw (p.1, p.2, c.in_err-whole.ensures.used.0) (kept g.M.Measure.lifts g.G.Grading.admitted g.G.Grading.classed g.met.G.Grading.eight _ _ _
    (states c.args.self.now _ c.args.statement.now c.args.statement.now (Err NotWhole) ran (search rules)))

pub returns-clause-continues : goal.returns-clause-continues
returns-clause-continues g c past ran =
    kept g.M.Measure.lifts g.G.Grading.admitted g.G.Grading.classed g.met.G.Grading.eight _ _ _
    (states c.args.self.now _ c.args.statement.now _ (Ok tt) ran (search rules))
