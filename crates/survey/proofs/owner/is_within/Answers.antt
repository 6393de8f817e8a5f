use Rattle.std.proofs.Common.{refl}
use Rattle.mesh.specs.Owners.{side_with}
use Rattle.mesh.specs.Records.{slot_at}
use Rattle.survey.specs.Wholes.{shape, space}
use Rattle.survey.proofs.Owning.{leading}
use Rattle.survey.proofs.owner.is_within.Goals as goal

pub returns : goal.returns
returns c = leading _ (side_with (space c.args.tet.now) (shape c.args.tet.now) (slot_at c.args.slot)) c.args.steps.now c.eq.ensures c.first_order.ensures refl refl
