use Rattle.std.proofs.Common.{arith}
use Rattle.std.proofs.lemmas.Int.{ints}
use Rattle.geometry.proofs.offset.rows.offset.Goals as goal

pub returns : goal.returns
returns c = record { x = omega (arith, ints); y = omega (arith, ints); z = omega (arith, ints) }
