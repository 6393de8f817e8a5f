use Rattle.std.proofs.Common.{rules}
use Rattle.geometry.proofs.Offsets.{expansion_fits}
use Rattle.geometry.proofs.offset.rows.expanded.Goals as goal

pub overflow_mul-result : goal.overflow_mul-result
overflow_mul-result c = let k = expansion_fits c.args.u.now c.args.m.now in search rules

pub overflow_mul-result-2 : goal.overflow_mul-result-2
overflow_mul-result-2 c = let k = expansion_fits c.args.u.now c.args.m.now in search rules

pub overflow_mul-result-3 : goal.overflow_mul-result-3
overflow_mul-result-3 c = let k = expansion_fits c.args.u.now c.args.m.now in search rules

pub overflow_sub-result : goal.overflow_sub-result
overflow_sub-result c = let k = expansion_fits c.args.u.now c.args.m.now in search rules

pub overflow_add-result : goal.overflow_add-result
overflow_add-result c = let k = expansion_fits c.args.u.now c.args.m.now in search rules

pub returns : goal.returns
returns c = let k = expansion_fits c.args.u.now c.args.m.now in search rules
