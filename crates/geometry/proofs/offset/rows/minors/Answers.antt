use Rattle.std.proofs.Common.{arith, rules}
use Rattle.geometry.proofs.Offsets.{row_fits}
use Rattle.geometry.proofs.offset.rows.minors.Goals as goal

pub returns : goal.returns
returns c = let v = row_fits c.args.v.now (omega arith) in let w = row_fits c.args.w.now (omega arith) in search rules
