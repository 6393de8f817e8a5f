use Rattle.mesh.proofs.record.wholeness_is_decided.Goals as goal
use Rattle.mesh.proofs.WholeTests.{whole_tells}

pub returns : goal.returns
returns c = whole_tells
