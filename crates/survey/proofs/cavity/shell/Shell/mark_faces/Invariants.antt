use Rattle.std.proofs.Common.{◌≡◌, ℕ, false, ◌||◌, map, get_or, take}
use Rattle.survey.specs.Cavity.{face_number}
use Rattle.survey.specs.Stay.{faces_have}
use Rattle.survey.proofs.cavity.shell.Shell.mark_faces.Given as goal

abbrev pub invariant-loop-face : goal.invariant-loop-face
invariant-loop-face l = (q : ℕ) → get_or l.marks q false ≡ (faces_have l.self.cavity.used.now (map face_number (take l.face-index l.self.faces.now)) q || get_or l.initial.marks q false)
