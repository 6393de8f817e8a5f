use Rattle.std.proofs.Common.{◌≡◌, length, rules}
use Rattle.survey.proofs.Renumbering.{point_replaced}
use Rattle.survey.proofs.cavity.plan.replaced.Goals as goal

pub returns : goal.returns
returns c =
    let four : length c.args.points ≡ 4 = search rules in
    point_replaced c.args.points c.args.site c.args.slot four c.requires
