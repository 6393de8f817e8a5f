use Rattle.std.proofs.Common.{◌+◌, Bool, List, map, length, refl, sym, ap, subst, ◌∙◌, rules, length-take-le}
use Rattle.mesh.specs.Added.{records_after}
use Rattle.geometry.specs.Points.{spot}
use Rattle.mesh.specs.Spaces.{conflicting}
use Rattle.mesh.specs.Tetrahedra.{Tet}
use Rattle.mesh.specs.declared.record.TetRecord.{TetRecord}
use Rattle.survey.specs.Cavity.{Flagged}
use Rattle.survey.specs.Plans.{flags, records}
use Rattle.survey.specs.Tables.{spot_of}
use Rattle.survey.specs.declared.cavity.plan.Plan.{Plan}
use Rattle.survey.proofs.Preparing.{filled_over}
use Rattle.survey.proofs.prepare.prepare.Goals as goal

pub returns : goal.returns
returns g c =
    let p : Plan = c.in_ok-plan.plan in
    let conflict : Tet → Bool = conflicting (map spot_of c.args.whole.now.points.records.now) (g.M.Measure.lifts c.args.measure.now) (spot c.args.site.now) in
    let told = c.in_ok-plan.ensures in
    let flagged = subst (λ (us : List TetRecord). Flagged conflict us (flags p)) (sym told.1) told.2 in
    let long = length-take-le (p.kept + length p.shell.faces.now) c.fill_records.new.out (search rules) in
    filled_over conflict p _ _ _ (sym told.1) told.2 told.0 _
    (c.fill_records.ensures conflict flagged ∙ ap (records_after conflict (records p)) c.len.ensures) long refl
