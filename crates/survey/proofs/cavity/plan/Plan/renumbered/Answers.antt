use Rattle.std.proofs.Common.{◌+◌, ◌*◌, length, ap, ◌∙◌, arith}
use Rattle.std.proofs.lemmas.Bool.{cond-true, cond-false}
use Rattle.mesh.specs.Added.{rank}
use Rattle.mesh.specs.Records.{row, neighbour, face_at, opposite, tet_of}
use Rattle.mesh.specs.Tetrahedra.{Triple}
use Rattle.survey.specs.Cavity.{gone, left, bare}
use Rattle.survey.specs.Plans.{records, flags}
use Rattle.survey.proofs.Renumbering.{rank_mono, shell_length, renumbered_kept, renumbered_dropped}
use Rattle.survey.proofs.cavity.plan.Plan.renumbered.Goals as goal

pub returns-then-not-cavity-other : goal.returns-then-not-cavity-other
returns-then-not-cavity-other c = λ conflict flagged.
    let rs = records c.args.self.now in
    let fs = flags c.args.self.now in
    let b = neighbour (row rs c.args.k) c.args.slot in
    let within = c.args.self.now.shell.cavity.ready.named c.args.k c.args.slot c.requires.0 c.requires.1 c.if-across.false in
    c.args.self.now.noted b within
    ∙ cond-false (gone fs b) (rank (bare rs fs) (4 * b)) (rank (left fs) b) c.if-not-cavity-other.true
    ∙ renumbered_kept conflict rs fs flagged c.args.self.now.shell.cavity.ready (face_at (row rs c.args.k) c.args.slot) b c.if-across.false within c.if-not-cavity-other.true

pub overflow_cast-result-2 : goal.overflow_cast-result-2
overflow_cast-result-2 c =
    let rs = records c.args.self.now in
    let fs = flags c.args.self.now in
    let b = neighbour (row rs c.args.k) c.args.slot in
    let within = c.args.self.now.shell.cavity.ready.named c.args.k c.args.slot c.requires.0 c.requires.1 c.if-across.false in
    let noted = c.args.self.now.noted b within ∙ cond-true (gone fs b) (rank (bare rs fs) (4 * b)) (rank (left fs) b) c.if-not-cavity-other.false in
    let most = rank_mono (bare rs fs) (4 * b + c.opposite.result) (4 * length rs) (omega (arith, within, c.opposite.ensures.slot)) in
    omega (arith, noted, most, c.exposed_before-before.ensures.counted, c.args.self.now.room, shell_length rs fs c.args.self.now.shell.faces.now c.args.self.now.shell.complete)

pub returns : goal.returns
returns c = λ conflict flagged.
    let rs = records c.args.self.now in
    let fs = flags c.args.self.now in
    let b = neighbour (row rs c.args.k) c.args.slot in
    let within = c.args.self.now.shell.cavity.ready.named c.args.k c.args.slot c.requires.0 c.requires.1 c.if-across.false in
    let noted = c.args.self.now.noted b within ∙ cond-true (gone fs b) (rank (bare rs fs) (4 * b)) (rank (left fs) b) c.if-not-cavity-other.false in
    let slot = c.opposite.ensures.is ∙ ap (λ (t : Triple). opposite (tet_of (row rs b)) t) c.of-face.ensures in
    omega (arith, noted, c.args.self.now.total, c.exposed_before-before.ensures.counted)
    ∙ renumbered_dropped conflict rs fs flagged c.args.self.now.shell.cavity.ready (face_at (row rs c.args.k) c.args.slot) b c.opposite.result c.if-across.false within c.if-not-cavity-other.false c.opposite.ensures.slot slot
