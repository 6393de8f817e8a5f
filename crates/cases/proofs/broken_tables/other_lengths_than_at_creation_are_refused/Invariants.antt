use Rattle.std.proofs.Common.{◌≡◌, length}
use Rattle.cases.proofs.broken_tables.other_lengths_than_at_creation_are_refused.Given as goal

abbrev pub invariant-loop-lent : goal.invariant-loop-lent
invariant-loop-lent g l = (length l.points ≡ 7) × (length l.readings ≡ 7) × (length l.tets ≡ 6)
