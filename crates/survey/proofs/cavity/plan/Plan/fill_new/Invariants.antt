use Rattle.std.proofs.Common.{◌≡◌, ◌+◌, Bool, ◌++◌, map, take}
use Rattle.mesh.specs.Added.{new_record}
use Rattle.mesh.specs.Tetrahedra.{Tet}
use Rattle.survey.specs.Cavity.{Flagged, face_number}
use Rattle.survey.specs.Plans.{records, flags}
use Rattle.survey.proofs.cavity.plan.Plan.fill_new.Given as goal

abbrev pub invariant-loop-m : goal.invariant-loop-m
invariant-loop-m l =
    (conflict : Tet → Bool) → Flagged conflict (records l.self) (flags l.self)
    → take (l.self.kept + l.m) l.out ≡ take l.self.kept l.initial.out ++ map (λ f. new_record conflict (records l.self) l.site (face_number f)) (take l.m l.self.shell.faces.now)
