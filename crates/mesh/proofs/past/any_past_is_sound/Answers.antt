use Rattle.mesh.proofs.AnyPast.{law}
use Rattle.mesh.proofs.past.any_past_is_sound.Goals as goal

pub returns : goal.returns
returns g c = law _
