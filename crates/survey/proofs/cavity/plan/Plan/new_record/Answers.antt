use Rattle.std.proofs.Common.{◌∷◌, []}
use Rattle.survey.specs.Plans.{records, flags}
use Rattle.survey.proofs.Renumbering.{new_record_is}
use Rattle.survey.proofs.cavity.plan.Plan.new_record.Goals as goal

pub returns : goal.returns
returns c = λ conflict flagged.
    new_record_is conflict (records c.args.self.now) (flags c.args.self.now) flagged c.args.self.now.shell.cavity.ready c.args.site c.args.face _ _ c.replaced.ensures
    (λ i. c.new_neighbour.ensures conflict flagged i ∷ c.new_neighbour-2.ensures conflict flagged i ∷ c.new_neighbour-3.ensures conflict flagged i ∷ c.new_neighbour-4.ensures conflict flagged i ∷ [])
