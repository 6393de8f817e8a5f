use Rattle.std.proofs.Common.{◌≡◌, ℕ, Bool, true, false, ◌||◌, eqb, refl, ◌∙◌, rules}
use Rattle.std.proofs.lemmas.Iterator.{YieldsList-from_range, cases_from_all}
use Rattle.std.specs.List.{range_with_len}
use borrow.Author.Tests.{tests}
use Rattle.mesh.specs.Records.{point}
use Rattle.mesh.specs.Tetrahedra.{on}
use Rattle.survey.specs.Faces.{triple_of}
use Rattle.survey.proofs.Ranges.{every_listed, told_all}
use Rattle.survey.proofs.cavity.edges.spans.Goals as goal

pub returns : goal.returns
returns c =
    let test : ℕ → Bool = λ h. eqb h c.args.i || eqb h c.args.j || on (point c.args.tet.now h) (triple_of c.args.face.now) in
    told_all test (range_with_len 0 4) c.all.result (cases_from_all _ _ _ (λ h. test h ≡ true) (λ h. test h ≡ false) c.all.ensures.ran (YieldsList-from_range 0 4 4 (cc) refl) (λ x q k. search (rules, tests)) (λ x q k. search (rules, tests)))
    ∙ every_listed test 4
