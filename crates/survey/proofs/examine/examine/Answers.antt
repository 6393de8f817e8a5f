use Rattle.std.proofs.Common.{List, length, map, ap, subst, arith}
use Rattle.std.proofs.lemmas.Result.{err_from_is_err_and}
use Rattle.geometry.specs.Points.{spot}
use Rattle.mesh.specs.Spaces.{conflicting}
use Rattle.mesh.specs.declared.record.TetRecord.{TetRecord}
use Rattle.survey.specs.declared.record.PointRecord.{PointRecord}
use Rattle.survey.specs.Prepares.{PreparedBy}
use Rattle.survey.specs.Sites.{site_spot}
use Rattle.survey.specs.Tables.{shown, spot_of, used_tets}
use Rattle.survey.proofs.AddSteps.{examined, site_refused, whole}
use Rattle.survey.proofs.WholeUses.{used_tets_length}
use Rattle.survey.proofs.examine.examine.Goals as goal

pub returns-in_err-whole : goal.returns-in_err-whole
returns-in_err-whole g c =
    let p = err_from_is_err_and c.from_residual.result c.from_residual.ensures.1 in
    let told = c.in_err-whole.ensures in
    rw (p.1, p.2) (site_refused (g.M.Measure.lifts c.args.measure.now) c.args.counts.now (shown c.args.tables.now) (site_spot c.args.site) c.args.admitted c.in_err-whole.field-0.0 told.0 told.1)

pub prepare-requires : goal.prepare-requires
prepare-requires g c =
    let n = c.args.counts.now in
    let t = shown c.args.tables.now in
    let asked = c.in_ok-whole.ensures in
    let w = whole (g.M.Measure.lifts c.args.measure.now) n t (site_spot c.args.site) c.args.admitted asked.0 in
    let same = ap (λ (ts : List TetRecord). length ts) asked.3 in
    (omega (arith, same, used_tets_length n t.points (length t.readings) t.tets w), omega arith)

pub returns : goal.returns
returns g c =
    let n = c.args.counts.now in
    let t = shown c.args.tables.now in
    let asked = c.in_ok-whole.ensures in
    let given : List PointRecord → List TetRecord → Type 0 = λ ps us.
    PreparedBy (conflicting (map spot_of ps) (g.M.Measure.lifts c.args.measure.now) (spot c.in_ok-whole.site)) us (length ps) n.tet_records c.prepare.result in
    let used = subst (λ (us : List TetRecord). given c.in_ok-whole.whole.points.records.now us) asked.3 c.prepare.ensures in
    examined (g.M.Measure.lifts c.args.measure.now) n t (site_spot c.args.site) c.args.admitted asked.0
    _ _ asked.1 (subst (λ (ps : List PointRecord). given ps (used_tets n t.tets)) asked.2 used)
