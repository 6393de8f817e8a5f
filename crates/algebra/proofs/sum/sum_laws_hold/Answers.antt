use Rattle.algebra.proofs.Sums.{sum_z-append, sum_z_split, cancel}
use Rattle.algebra.proofs.sum.sum_laws_hold.Goals as goal

pub returns : goal.returns
returns g c = record { append = sum_z-append; split = sum_z_split; cancel = cancel }
