use Rattle.std.proofs.Common.{false, map, Err, refl, rules, ◌∙◌}
use Rattle.std.proofs.lemmas.Bool.{both_ways}
use Rattle.std.proofs.lemmas.Result.{err_from_is_err_and}
use Rattle.geometry.specs.Points.{spot}
use Rattle.survey.specs.declared.refusal.Refusal.TheVariants.{NotWhole, OffGrid}
use Rattle.survey.specs.Locates.{Located, not_whole, off_grid}
use Rattle.survey.specs.Owners.{first_owned}
use Rattle.survey.specs.Pasts.{locates}
use Rattle.survey.specs.Tables.{shown, spot_of}
use Rattle.survey.proofs.AnyRun.{kept}
use Rattle.survey.proofs.Locating.{located}
use Rattle.survey.proofs.sealed.Sealed.locate.Goals as goal

pub returns-in_err-whole : goal.returns-in_err-whole
returns-in_err-whole g c =
    let p = err_from_is_err_and c.from_residual.result c.from_residual.ensures.1 in
    let why = c.in_err-whole.ensures.used in
    let told : Located c.args.self.now.counts (shown c.args.tables.now) c.args.place.x c.args.place.y c.args.place.z (Err NotWhole) = not_whole why.1 in
    rw (p.1, p.2, why.0) record {
      locates = told;
      continues = λ past ran.
          kept g.M.Measure.lifts g.G.Grading.admitted g.G.Grading.classed g.met.G.Grading.eight _ _ _
          (locates c.args.self.now _ c.args.place.x c.args.place.y c.args.place.z (Err NotWhole) ran told);
    }

pub returns-then-not-is_on_grid : goal.returns-then-not-is_on_grid
returns-then-not-is_on_grid g c =
    let told : Located c.args.self.now.counts (shown c.args.tables.now) c.args.place.x c.args.place.y c.args.place.z (Err OffGrid) =
    off_grid (search rules) (λ on. both_ways false refl (c.if-not-is_on_grid.ensures.tells.1 on)) in
    record {
      locates = told;
      continues = λ past ran.
          kept g.M.Measure.lifts g.G.Grading.admitted g.G.Grading.classed g.met.G.Grading.eight _ _ _
          (locates c.args.self.now _ c.args.place.x c.args.place.y c.args.place.z (Err OffGrid) ran told);
    }

pub returns : goal.returns
returns g c =
    let made = c.in_ok-whole.ensures.used in
    let told =
    located c.args.self.now.counts (shown c.args.tables.now) c.args.place.x c.args.place.y c.args.place.z
    made.0 (c.if-not-is_on_grid.ensures.tells.0 refl)
    (map spot c.steps_from.result) c.first_owner.result c.ok_or.result c.steps_from.ensures c.ok_or.ensures.value
    (c.first_owner.ensures ∙ (λ i. first_owned (map spot_of (made.1 i)) (map spot c.steps_from.result) (made.2 i))) in
    record {
      locates = told;
      continues = λ past ran.
          kept g.M.Measure.lifts g.G.Grading.admitted g.G.Grading.classed g.met.G.Grading.eight _ _ _
          (locates c.args.self.now _ c.args.place.x c.args.place.y c.args.place.z c.ok_or.result ran told);
    }
