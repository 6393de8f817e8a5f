use Rattle.std.proofs.Common.{rules}
use Rattle.geometry.proofs.DepthFits.{product_fits}
use Rattle.geometry.proofs.depth.product.Goals as goal

pub overflow_mul-result : goal.overflow_mul-result
overflow_mul-result c = let k = product_fits c.args.side c.args.a.now.lift c.args.e.now.lift c.requires c.args.a.now.low c.args.e.now.low in search rules

pub returns : goal.returns
returns c = let k = product_fits c.args.side c.args.a.now.lift c.args.e.now.lift c.requires c.args.a.now.low c.args.e.now.low in search rules
