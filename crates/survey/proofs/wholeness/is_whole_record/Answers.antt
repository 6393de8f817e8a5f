use Rattle.std.proofs.Common.{◌≡◌, ◌∙◌, rules}
use Rattle.mesh.specs.Records.{every, linked}
use Rattle.survey.proofs.Ranges.{every_listed}
use Rattle.survey.proofs.wholeness.is_whole_record.Goals as goal

pub returns-then-is_under : goal.returns-then-is_under
returns-then-is_under c =
    let linked_all : c.is_linked_all_round.result ≡ every (linked c.args.tets.now c.args.k) 4 = c.is_linked_all_round.ensures ∙ every_listed (linked c.args.tets.now c.args.k) 4 in
    search rules
