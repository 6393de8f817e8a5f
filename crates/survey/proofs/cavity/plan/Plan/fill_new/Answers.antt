use Rattle.std.proofs.Common.{◌≡◌, ℕ, ◌+◌, ◌<◌, List, ◌++◌, map, length, take, sym, refl, ap, ◌∙◌, arith}
use mathlib.Core.List.{map-map}
use Rattle.std.proofs.lemmas.List.{take_all}
use Rattle.mesh.specs.Added.{new_record}
use Rattle.mesh.specs.declared.record.TetRecord.{TetRecord}
use Rattle.survey.specs.Cavity.{face_number}
use Rattle.survey.specs.Plans.{records, flags}
use Rattle.survey.specs.declared.cavity.shell_face.ShellFace.{ShellFace}
use Rattle.survey.proofs.Filling.{filled_more}
use Rattle.survey.proofs.Renumbering.{shell_same}
use Rattle.survey.proofs.cavity.plan.Plan.fill_new.Goals as goal

pub loop-m-preserved : goal.loop-m-preserved
loop-m-preserved c = λ conflict flagged.
    let rs = records c.args.self.now in
    let ss = c.args.self.now.shell.faces.now in
    let room : c.args.self.now.kept + c.loop-m.m < length c.loop-m.out = omega (arith, c.requires, c.loop-m-test.true, c.loop-m.auto.out) in
    filled_more (λ f. new_record conflict rs c.args.site (face_number f)) (take c.args.self.now.kept c.args.out.now) c.loop-m.out ss c.args.self.now.kept c.loop-m.m c.new_record.result c.face-item.result
    c.loop-m-test.true room refl (c.new_record.ensures conflict flagged ∙ ap (λ (f : ShellFace). new_record conflict rs c.args.site (face_number f)) c.face-item.is) (c.loop-m.invariant conflict flagged)

pub returns : goal.returns
returns c = λ conflict flagged.
    let rs = records c.args.self.now in
    let fs = flags c.args.self.now in
    let ss = c.args.self.now.shell.faces.now in
    let kept = c.args.self.now.kept in
    let front = take c.args.self.now.kept c.args.out.now in
    let end : length c.args.self.now.shell.faces.now ≡ c.loop-m.m = omega arith in
    ap (λ (n : ℕ). take (kept + n) c.loop-m.out) end
    ∙ c.loop-m.invariant conflict flagged
    ∙ ap (λ (xs : List ShellFace). front ++ map (λ f. new_record conflict rs c.args.site (face_number f)) xs) (take_all c.loop-m.m ss c.loop-m-test.false)
    ∙ ap (λ (xs : List TetRecord). front ++ xs) (
    sym (map-map (new_record conflict rs c.args.site) face_number ss)
    ∙ ap (map (new_record conflict rs c.args.site)) (c.args.self.now.shell.complete ∙ sym (shell_same conflict rs fs flagged c.args.self.now.shell.cavity.ready))
    )
