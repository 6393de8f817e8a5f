use Rattle.std.proofs.Common.{Bool, false, ◌||◌, map, length, get_or, replicate, ap, ◌∙◌}
use Rattle.survey.specs.Cavity.{face_number, gone}
use Rattle.survey.specs.Stay.{Failing, kept_has, faces_have, remains}
use Rattle.survey.proofs.Marks.{unmarked, kept_or_face, failing_same}
use Rattle.survey.proofs.Searching.{failing_tells}
use Rattle.survey.proofs.cavity.shell.Shell.vanishing_point.Goals as goal

pub returns : goal.returns
returns c =
    let rs = c.args.self.now.cavity.used.now in
    let fs = c.args.self.now.cavity.dropped.now in
    let shell = map face_number c.args.self.now.faces.now in
    let found : Failing (remains rs fs shell) c.args.points c.first_unmarked.result = failing_same (gone c.mark_faces.new.marks) (remains rs fs shell) c.args.points c.first_unmarked.result
    (λ q.
    c.mark_faces.ensures q
    ∙ ap (λ (b : Bool). faces_have rs shell q || b) (c.mark_kept.ensures q)
    ∙ kept_or_face (faces_have rs shell q) (kept_has rs fs (length rs) q) (get_or (replicate 1024 false) q false) (unmarked 1024 q))
    c.first_unmarked.ensures in
    record { point = found; test = failing_tells _ _ _ found }
