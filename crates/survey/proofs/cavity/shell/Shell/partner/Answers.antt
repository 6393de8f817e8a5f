use Rattle.std.proofs.Common.{◌≡◌, true, false, map, sym, rules}
use Rattle.std.proofs.lemmas.Iterator.{YieldsList-from_slice, IsFirst-from_position, index_from_first}
use borrow.Author.Tests.{tests}
use Rattle.survey.specs.Cavity.{face_number}
use Rattle.survey.specs.Edges.{partner}
use Rattle.survey.proofs.Sharing.{beside, partner_none, partner_here, partner_behind}
use Rattle.survey.proofs.cavity.shell.Shell.partner.Goals as goal

pub returns : goal.returns
returns c =
    let rs = c.args.self.now.cavity.used.now in
    let q = face_number c.args.face in
    let j = c.args.j in
    sym (index_from_first (λ ss. partner rs (map face_number ss) q j) (λ f. beside rs q j f ≡ true) (λ f. beside rs q j f ≡ false) (partner_none rs q j) (partner_here rs q j) (partner_behind rs q j) c.args.self.now.faces.now c.position.result
    (IsFirst-from_position _ _ _ (λ f. beside rs q j f ≡ true) (λ f. beside rs q j f ≡ false) c.position.ensures.ran (YieldsList-from_slice c.args.self.now.faces.now cc) (λ x g k. search (rules, tests)) (λ x g k. search (rules, tests))))
