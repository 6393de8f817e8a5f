use Rattle.std.proofs.Common.{Ok, refl, subst, rules}
use Rattle.survey.specs.Adds.{Examined}
use Rattle.survey.specs.Pasts.{adds}
use Rattle.survey.specs.Sites.{site_spot}
use Rattle.survey.specs.Tables.{Lent, lent}
use Rattle.survey.proofs.AddSteps.{accepted}
use Rattle.survey.proofs.AnyRun.{kept}
use Rattle.survey.proofs.open.Open.add.Goals as goal

pub returns : goal.returns
returns g c =
    let site = site_spot c.args.site in
    let self = c.args.self.now in
    let L = g.M.Measure.lifts self.measure in
    -- the tables that were examined are those that were lent
    let ready = subst (λ (t : Lent _). Examined L self.counts t site c.admits-admitted.result (Ok c.in_ok-prepared.prepared)) c.shared.ensures c.in_ok-prepared.ensures in
    let done =
    accepted L (g.G.Grading.admitted self.grading) self.counts (lent c.args.tables.now) site c.args.reading c.in_ok-prepared.prepared (rw (← c.admits-admitted.ensures) ready)
    _ _ _ c.into.ensures c.write_records.ensures refl refl refl refl in
    record {
      adds = done;
      measure = refl;
      grading = refl;
      same_tables = (refl, refl, refl);
      same_lengths = search rules;
      continues = λ past ran.
          kept g.M.Measure.lifts g.G.Grading.admitted g.G.Grading.classed g.met.G.Grading.eight _ _ _
          (adds self _ _ _ site c.args.reading (Ok self.counts.points) ran done refl refl);
    }

pub returns-in_err-prepared-clause-continues : goal.returns-in_err-prepared-clause-continues
returns-in_err-prepared-clause-continues g c =
    λ past ran.
    kept g.M.Measure.lifts g.G.Grading.admitted g.G.Grading.classed g.met.G.Grading.eight _ _ _
    (adds c.args.self.now _ _ _ (site_spot c.args.site) c.args.reading c.from_residual.result ran (search rules) (search rules) (search rules))
