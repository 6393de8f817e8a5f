use Rattle.std.proofs.Common.{◌≡◌, ◌<◌, true, false, length, map, sym, subst, ◌∙◌, rules}
use Rattle.std.proofs.lemmas.Iterator.{YieldsList-from_slice, cases_from_all}
use Rattle.std.proofs.lemmas.Iterator.Adapters.{serves_from_places}
use borrow.Author.Tests.{tests}
use Rattle.survey.specs.Cavity.{face_number}
use Rattle.survey.specs.Edges.{twice_at}
use Rattle.survey.specs.declared.cavity.shell_face.ShellFace.{ShellFace}
use Rattle.survey.proofs.Ranges.{all_mapped, told_all}
use Rattle.survey.proofs.cavity.shell.Shell.edges_closed.Goals as goal

pub all-requires-clause-callable : goal.all-requires-clause-callable
all-requires-clause-callable c = serves_from_places (YieldsList-from_slice c.args.self.now.faces.now cc) (λ x q k. search rules) (λ x k l is.
    let here : x.now.record < length c.args.self.now.cavity.used.now = subst (λ (f : ShellFace). f.record < length c.args.self.now.cavity.used.now) (sym is) (c.args.self.now.placed k x.now l) in
    search rules)

pub returns : goal.returns
returns c =
    let twice = twice_at c.args.self.now.cavity.used.now (map face_number c.args.self.now.faces.now) in
    told_all (λ f. twice (face_number f)) c.args.self.now.faces.now c.all.result
    (cases_from_all _ _ _ (λ f. twice (face_number f) ≡ true) (λ f. twice (face_number f) ≡ false) c.all.ensures.ran (YieldsList-from_slice c.args.self.now.faces.now cc) (λ x q k. search (rules, tests)) (λ x q k. search (rules, tests)))
    ∙ sym (all_mapped twice face_number c.args.self.now.faces.now)
