use Rattle.geometry.proofs.Sides.{swap_12, swap_13, swap_14, swap_23, swap_24, swap_34, split}
use Rattle.geometry.proofs.side.side_laws_hold.Goals as goal

pub returns : goal.returns
returns c = record { swap_12 = swap_12; swap_13 = swap_13; swap_14 = swap_14; swap_23 = swap_23; swap_24 = swap_24; swap_34 = swap_34; split = split }
