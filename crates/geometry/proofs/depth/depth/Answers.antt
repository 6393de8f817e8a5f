use Rattle.std.proofs.Common.{rules}
use Rattle.geometry.specs.Sides.{side}
use Rattle.geometry.specs.Depths.{depth}
use Rattle.geometry.proofs.DepthFits.{SumFits, sum_fits}
use Rattle.geometry.proofs.depth.depth.Goals as goal

-- of the four products that the calls returned
sums : (c : goal.After-product-at_d) → SumFits c.product-at_a.result c.product-at_b.result c.product-at_c.result c.product-at_d.result
sums c = sum_fits c.product-at_a.result c.product-at_b.result c.product-at_c.result c.product-at_d.result c.product-at_a.ensures.size c.product-at_b.ensures.size c.product-at_c.ensures.size c.product-at_d.ensures.size

pub overflow_add-result : goal.overflow_add-result
overflow_add-result c = let k = sums c in search rules

pub overflow_add-result-2 : goal.overflow_add-result-2
overflow_add-result-2 c = let k = sums c in search rules

pub overflow_add-result-3 : goal.overflow_add-result-3
overflow_add-result-3 c = let k = sums c in search rules

pub returns : goal.returns
unfolding depth side
returns c = let k = sums c in search rules
