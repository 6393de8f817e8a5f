use Rattle.std.proofs.Common.{Ok, subst, rules}
use Rattle.survey.specs.Tables.{lent}
use Rattle.mubdrax_c.specs.Calls.{CreatedFor, Tables}
use Rattle.mubdrax_c.proofs.create.mubdrax_create.Goals as goal

-- the tables are what the survey left behind the references
pub returns-in-Ok : goal.returns-in-Ok
returns-in-Ok c =
    subst (λ (t : Tables). CreatedFor c.args.counts.now c.from.result (record { points = c.args.points.now; readings = c.args.readings.now; tets = c.args.tets.now }) t c.accepted.result)
    {x = lent c.create.new.tables} (search rules)
    (record { measure = _; grading = _; result = Ok c.in-Ok.survey; created = c.in-Ok.ensures.creates; starts = c.in-Ok.ensures.starts; begins = search rules })
