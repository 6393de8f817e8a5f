use Rattle.std.proofs.Common.{◌≡◌, ℕ, ◌<◌, Bool, false, ◌||◌, List, length, map, eqb, get_or, take, sym, ap, ◌∙◌, subst, rules, arith}
use Rattle.std.proofs.lemmas.List.{take_all}
use Rattle.std.specs.List.{list_any}
use Rattle.mesh.specs.Added.{face_of}
use Rattle.mesh.specs.Tetrahedra.{Triple, on}
use Rattle.survey.specs.Cavity.{face_number}
use Rattle.survey.specs.Faces.{triple_of}
use Rattle.survey.specs.Stay.{faces_have}
use Rattle.survey.specs.declared.cavity.shell_face.ShellFace.{ShellFace}
use Rattle.survey.proofs.Marks.{faces_have_none, faces_have_more, listed_below, on_points, or_assoc, shell_face_below}
use Rattle.survey.proofs.cavity.shell.Shell.mark_faces.Goals as goal

pub loop-face-init : goal.loop-face-init
loop-face-init c = λ q. ap (λ (b : Bool). b || get_or c.args.marks.now q false) (sym (faces_have_none c.args.self.now.cavity.used.now q))

pub mark-requires : goal.mark-requires
mark-requires c =
    let rs = c.args.self.now.cavity.used.now in
    let n = length c.loop-face.marks in
    let f = c.face-item.result in
    let long : n ≡ 1024 = omega arith in
    let placed : f.record < length rs = search rules in
    let below : (t : Triple) → t ≡ face_of rs (face_number f) → (t.x < n) × (t.y < n) × (t.z < n) =
    λ t e. subst (λ (t : Triple). (t.x < n) × (t.y < n) × (t.z < n)) (sym e) (subst (λ (n : ℕ). ((face_of rs (face_number f)).x < n) × ((face_of rs (face_number f)).y < n) × ((face_of rs (face_number f)).z < n)) (sym long) (shell_face_below 1024 rs f c.args.self.now.cavity.low placed)) in
    subst (λ (xs : List ℕ). (i : ℕ) → i < length xs → get_or xs i 0 < n) (sym c.numbers.ensures) (listed_below n (triple_of c.points.result) (below (triple_of c.points.result) c.points.ensures))

pub loop-face-preserved : goal.loop-face-preserved
loop-face-preserved c = λ q.
    let rs = c.args.self.now.cavity.used.now in
    let ss = c.args.self.now.faces.now in
    let i = c.loop-face.face-index in
    let old = get_or c.args.marks.now q false in
    let before = faces_have rs (map face_number (take i ss)) q in
    let here = on q (face_of rs (face_number c.face-item.result)) in
    let same : list_any (λ p. eqb q p) c.numbers.result ≡ here = ap (list_any (λ p. eqb q p)) c.numbers.ensures ∙ on_points q (triple_of c.points.result) ∙ ap (on q) c.points.ensures in
    c.mark.ensures q
    ∙ ap (λ (b : Bool). b || get_or c.loop-face.marks q false) same
    ∙ ap (λ (b : Bool). here || b) (c.loop-face.invariant q)
    ∙ or_assoc here before old
    ∙ ap (λ (f : ShellFace). (on q (face_of rs (face_number f)) || before) || old) c.face-item.is
    ∙ ap (λ (b : Bool). b || old) (sym (faces_have_more rs ss i q c.face-item.result c.loop-face-test.true))

pub returns : goal.returns
returns c = λ q.
    c.loop-face.invariant q
    ∙ ap (λ (ss : List ShellFace). faces_have c.args.self.now.cavity.used.now (map face_number ss) q || get_or c.args.marks.now q false) (take_all c.loop-face.face-index c.args.self.now.faces.now c.loop-face-test.false)
