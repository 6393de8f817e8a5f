use Rattle.std.proofs.Common.{subst, inr, rules}
use Rattle.geometry.specs.Spots.{Spot}
use Rattle.survey.specs.Tables.{lent}
use Rattle.mubdrax_c.specs.Calls.{Added, Tables}
use Rattle.mubdrax_c.specs.Kept.{Stand}
use Rattle.mubdrax_c.proofs.add.mubdrax_add.Goals as goal

-- the tables are what the survey left behind the references
pub returns : goal.returns
returns c =
    let before : Tables = record { points = c.args.points.now; readings = c.args.readings.now; tets = c.args.tets.now } in
    let site : Spot = record { x = c.args.x; y = c.args.y; z = c.args.z; penalty = c.args.penalty } in
    inr (subst (λ (t : Tables). Added c.args.counts.now c.from.result before t site c.args.reading c.from-2.result) {x = lent c.add-outcome.new.tables} (search rules)
    (record {
      before = c.in-Some.survey;
      after = c.add-outcome.new.self;
      result = c.add-outcome.result;
      counts = c.in-Some.ensures.1;
      counts_after = subst (λ x. Stand c.from.result x) c.counts.ensures c.from.ensures;
      adds = c.add-outcome.ensures.adds;
      carries_on = c.add-outcome.ensures.continues;
      answer = c.from-2.ensures;
    }))
