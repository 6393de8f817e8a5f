use Rattle.mesh.proofs.adding.added_records_are_whole.Goals as goal
use Rattle.mesh.proofs.RecordLinks.{add_laws}

pub returns : goal.returns
returns c = add_laws
