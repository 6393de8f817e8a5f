use Rattle.std.proofs.Common.{◌∷◌, rules}
use Rattle.mesh.specs.Surveys.{seal, sealed}
use Rattle.survey.specs.Pasts.{seals}
use Rattle.survey.proofs.AnyRun.{kept}
use Rattle.survey.proofs.open.Open.seal.Goals as goal

pub returns : goal.returns
returns g c = record {
  seals = search rules;
  continues = λ tables past ran.
      kept g.M.Measure.lifts g.G.Grading.admitted g.G.Grading.classed g.met.G.Grading.eight ((seal, sealed) ∷ past) _ tables (seals c.args.self _ tables ran (search rules));
}
