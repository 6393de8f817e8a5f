use Rattle.std.proofs.Common.{rules}
use Rattle.geometry.proofs.Offsets.{minor_fits}
use Rattle.geometry.proofs.offset.rows.minor.Goals as goal

pub overflow_sub-result : goal.overflow_sub-result
overflow_sub-result c = let k = minor_fits c.args.a c.args.b c.args.c c.args.d c.requires.0 c.requires.1 c.requires.2 c.requires.3 in search rules

pub returns : goal.returns
returns c = let k = minor_fits c.args.a c.args.b c.args.c c.args.d c.requires.0 c.requires.1 c.requires.2 c.requires.3 in search rules
