use Rattle.std.proofs.Common.{◌∙◌}
use Rattle.report.proofs.Outcomes.{reported_as}
use Rattle.report.proofs.report.report_on.Goals as goal

pub returns-clause-reported : goal.returns-clause-reported
returns-clause-reported c =
    let points = c.as_mut_slice.ensures.len ∙ c.in_ok-points.ensures.len in
    let readings = c.as_mut_slice-2.ensures.len ∙ c.in_ok-readings.ensures.len in
    let tets = c.as_mut_slice-3.ensures.len ∙ c.in_ok-tets.ensures.len in
    reported_as _ _ points readings tets _ c.statement_of-outcome.ensures _ c.printed.ensures
