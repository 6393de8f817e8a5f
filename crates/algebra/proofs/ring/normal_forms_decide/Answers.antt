use Rattle.algebra.proofs.Rings.{ring}
use Rattle.algebra.proofs.ring.normal_forms_decide.Goals as goal

pub returns : goal.returns
returns c = ring
