use Rattle.std.proofs.Common.{◌∙◌, arith}
use Rattle.survey.specs.Plans.{records, flags}
use Rattle.survey.specs.Cavity.{face_number}
use Rattle.survey.proofs.Sharing.{partner_within}
use Rattle.survey.proofs.Renumbering.{own_neighbour, new_beside}
use Rattle.survey.proofs.cavity.plan.Plan.new_neighbour.Goals as goal

pub returns-then-j-face : goal.returns-then-j-face
returns-then-j-face c = λ conflict flagged.
    let rs = records c.args.self.now in
    let fs = flags c.args.self.now in
    c.renumbered.ensures conflict flagged ∙ own_neighbour conflict rs fs flagged c.args.self.now.shell.cavity.ready c.args.face c.args.j c.if-j-face.true

pub overflow_add-result : goal.overflow_add-result
overflow_add-result c =
    let here = c.args.self.now in
    omega (arith, c.unwrap_or-beside.ensures, c.partner.ensures, here.room, partner_within (records here) (face_number c.args.face) c.args.j here.shell.faces.now)

pub overflow_cast-result : goal.overflow_cast-result
overflow_cast-result c =
    let here = c.args.self.now in
    omega (arith, c.unwrap_or-beside.ensures, c.partner.ensures, here.room, partner_within (records here) (face_number c.args.face) c.args.j here.shell.faces.now)

pub returns : goal.returns
returns c = λ conflict flagged.
    let rs = records c.args.self.now in
    let fs = flags c.args.self.now in
    omega (arith, c.args.self.now.total, c.partner.ensures, c.unwrap_or-beside.ensures)
    ∙ new_beside conflict rs fs flagged c.args.self.now.shell.cavity.ready c.args.self.now.shell.faces.now c.args.face c.args.j c.args.self.now.shell.complete c.if-j-face.false
