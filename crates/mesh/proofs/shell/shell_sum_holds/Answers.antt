use Rattle.mesh.proofs.shell.shell_sum_holds.Goals as goal
use Rattle.mesh.proofs.Shells.{shell_sum}

pub returns : goal.returns
returns c = shell_sum
