use Rattle.std.proofs.Common.{◌≡◌, Bool, map, take}
use Rattle.mesh.specs.Added.{kept_record, passing, rank}
use Rattle.mesh.specs.Tetrahedra.{Tet}
use Rattle.survey.specs.Cavity.{Flagged, left}
use Rattle.survey.specs.Plans.{records, flags}
use Rattle.survey.proofs.cavity.plan.Plan.fill_kept.Given as goal

abbrev pub invariant-loop-k : goal.invariant-loop-k
invariant-loop-k l =
    (conflict : Tet → Bool) → Flagged conflict (records l.self) (flags l.self)
    → take (rank (left (flags l.self)) l.k) l.out ≡ map (kept_record conflict (records l.self)) (passing (left (flags l.self)) l.k)
