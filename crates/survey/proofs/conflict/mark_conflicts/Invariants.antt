use Rattle.std.proofs.Common.{◌≡◌, ℕ, ◌<◌, false, get_or}
use Rattle.geometry.specs.Points.{spot}
use Rattle.mesh.specs.Added.{drops}
use Rattle.mesh.specs.Spaces.{conflicting}
use Rattle.survey.specs.Views.{spots_in}
use Rattle.survey.proofs.conflict.mark_conflicts.Given as goal

abbrev pub invariant-loop-k : goal.invariant-loop-k
invariant-loop-k g l = (j : ℕ) → j < l.k → get_or l.flags j false ≡ drops (conflicting (spots_in l.whole.points) (g.M.Measure.lifts l.measure) (spot l.site)) l.whole.tets.now j
