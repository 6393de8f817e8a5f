use Rattle.survey.proofs.AnyRun.{every_past}
use Rattle.survey.proofs.promise.every_past_is_upheld.Goals as goal

pub returns : goal.returns
returns g c = every_past g.M.Measure.lifts g.G.Grading.admitted g.G.Grading.classed g.met.G.Grading.eight
