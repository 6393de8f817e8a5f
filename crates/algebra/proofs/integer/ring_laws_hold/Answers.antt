use Rattle.algebra.proofs.Integers.{add_mul, mul_add, neg_mul, mul_assoc}
use Rattle.algebra.proofs.integer.ring_laws_hold.Goals as goal

pub returns : goal.returns
returns c = record { add_mul = add_mul; mul_add = mul_add; neg_mul = neg_mul; mul_assoc = mul_assoc }
