use Rattle.std.proofs.Common.{◌≡◌, ℕ, Bool, true, false, ◌||◌, eqb, map, count_by, refl, sym, ap, ◌∙◌, rules}
use Rattle.std.proofs.lemmas.Iterator.{YieldsList-from_range, cases_from_all}
use Rattle.std.specs.List.{range_with_len}
use borrow.Author.Tests.{tests}
use Rattle.mesh.specs.Records.{every}
use Rattle.survey.specs.Cavity.{face_number}
use Rattle.survey.specs.Edges.{has_edge, twice_at}
use Rattle.survey.proofs.Ranges.{every_listed, told_all}
use Rattle.survey.proofs.Sharing.{slot_of}
use Rattle.survey.proofs.cavity.shell.Shell.closed_at.Goals as goal

pub returns : goal.returns
unfolding twice_at
returns c =
    let twice : (i : ℕ) → ℕ → Bool = λ i j. eqb j i || eqb (count_by (has_edge c.args.self.now.cavity.used.now (face_number c.args.face) j) (map face_number c.args.self.now.faces.now)) 2 in
    let test : ℕ → Bool = twice c.args.face.slot in
    told_all test (range_with_len 0 4) c.all.result (cases_from_all _ _ _ (λ j. test j ≡ true) (λ j. test j ≡ false) c.all.ensures.ran (YieldsList-from_range 0 4 4 (cc) refl) (λ x q k. search (rules, tests)) (λ x q k. search (rules, tests)))
    ∙ every_listed test 4 ∙ ap (λ (i : ℕ). every (twice i) 4) (sym (slot_of c.args.face))
