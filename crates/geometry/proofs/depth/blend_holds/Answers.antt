use Rattle.geometry.proofs.Depths.{blend}
use Rattle.geometry.proofs.depth.blend_holds.Goals as goal

pub returns : goal.returns
returns c = blend
