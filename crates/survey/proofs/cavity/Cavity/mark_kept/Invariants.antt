use Rattle.std.proofs.Common.{◌≡◌, ℕ, false, ◌||◌, length, get_or}
use Rattle.survey.specs.Stay.{kept_has}
use Rattle.survey.proofs.cavity.Cavity.mark_kept.Given as goal

abbrev pub invariant-loop-tet : goal.invariant-loop-tet
invariant-loop-tet l = (q : ℕ) → get_or l.marks q false ≡ (kept_has l.self.used.now l.self.dropped.now (length l.yielded) q || get_or l.initial.marks q false)
