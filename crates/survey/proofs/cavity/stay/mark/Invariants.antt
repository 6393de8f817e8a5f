use Rattle.std.proofs.Common.{◌≡◌, ℕ, false, ◌||◌, eqb, get_or, take}
use Rattle.std.specs.List.{list_any}
use Rattle.survey.proofs.cavity.stay.mark.Given as goal

abbrev pub invariant-loop-point : goal.invariant-loop-point
invariant-loop-point l = (q : ℕ) → get_or l.marks q false ≡ (list_any (λ p. eqb q p) (take l.point-index l.points) || get_or l.initial.marks q false)
