use Rattle.std.proofs.Common.{◌≡◌, ℕ, ◌<◌, Bool, false, ◌||◌, length, get_or, sym, ap, ◌∙◌, subst, rules, arith, length-append}
use Rattle.std.proofs.lemmas.Bool.{not_from_true, not_from_false}
use Rattle.std.proofs.lemmas.Slice.Zip.{zip_turn, zip_end}
use Rattle.mesh.specs.Records.{row, blank, point, tet_of}
use Rattle.mesh.specs.Tetrahedra.{has}
use Rattle.mesh.specs.declared.record.TetRecord.{TetRecord}
use Rattle.survey.specs.Cavity.{gone}
use Rattle.survey.specs.Stay.{kept_has}
use Rattle.survey.proofs.Marks.{kept_has_none, kept_marked, kept_unmarked, has_points}
use Rattle.survey.proofs.cavity.Cavity.mark_kept.Goals as goal

pub loop-tet-init : goal.loop-tet-init
loop-tet-init c = λ q. ap (λ (b : Bool). b || get_or c.args.marks.now q false) (sym (kept_has_none c.args.self.now.used.now c.args.self.now.dropped.now q))

pub mark-requires : goal.mark-requires
mark-requires c =
    let rs = c.args.self.now.used.now in
    let fs = c.args.self.now.dropped.now in
    let k = length c.loop-tet.yielded in
    let turn = zip_turn rs fs c.loop-tet.yielded c.into_iter-tet-iterator.result c.loop-tet.tet-iterator c.next.new.self c.next.result (search rules) (search rules) c.loop-tet.yielded_by _ c.in-Some.is c.next.ensures.steps in
    let four : length c.in-Some.tet.now.points ≡ 4 = search rules in
    λ i l.
    let below : point (row rs k) i < 1024 = c.args.self.now.low k i turn.0 (omega (arith, l, four)) in
    subst (λ (t : TetRecord). point t i < length c.loop-tet.marks) (sym (turn.2 blank)) (omega (arith, below))

pub loop-tet-preserved-then-not-dropped : goal.loop-tet-preserved-then-not-dropped
loop-tet-preserved-then-not-dropped c = λ q.
    let rs = c.args.self.now.used.now in
    let fs = c.args.self.now.dropped.now in
    let k = length c.loop-tet.yielded in
    let turn = zip_turn rs fs c.loop-tet.yielded c.into_iter-tet-iterator.result c.loop-tet.tet-iterator c.next.new.self c.next.result (search rules) (search rules) c.loop-tet.yielded_by _ c.in-Some.is c.next.ensures.steps in
    let four : length c.in-Some.tet.now.points ≡ 4 = search rules in
    let old = get_or c.args.marks.now q false in
    let here = has_points q c.in-Some.tet.now four ∙ ap (λ (t : TetRecord). has q (tet_of t)) (turn.2 blank) in
    let left = not_from_false (gone fs k) (sym (turn.3 false) ∙ c.if-not-dropped.true) in
    subst (λ (n : ℕ). get_or c.mark.new.marks q false ≡ (kept_has rs fs n q || old)) (sym (length-append c.loop-tet.yielded _)) (kept_marked rs fs k q old _ left here (c.mark.ensures q) (c.loop-tet.invariant q))

pub loop-tet-preserved : goal.loop-tet-preserved
loop-tet-preserved c = λ q.
    let rs = c.args.self.now.used.now in
    let fs = c.args.self.now.dropped.now in
    let k = length c.loop-tet.yielded in
    let turn = zip_turn rs fs c.loop-tet.yielded c.into_iter-tet-iterator.result c.loop-tet.tet-iterator c.next.new.self c.next.result (search rules) (search rules) c.loop-tet.yielded_by _ c.in-Some.is c.next.ensures.steps in
    let old = get_or c.args.marks.now q false in
    let left = not_from_true (gone fs k) (sym (turn.3 false) ∙ c.if-not-dropped.false) in
    subst (λ (n : ℕ). get_or c.loop-tet.marks q false ≡ (kept_has rs fs n q || old)) (sym (length-append c.loop-tet.yielded _)) (kept_unmarked rs fs k q old left (c.loop-tet.invariant q))

pub returns : goal.returns
returns c = λ q.
    let rs = c.args.self.now.used.now in
    let fs = c.args.self.now.dropped.now in
    let old = get_or c.args.marks.now q false in
    let end = zip_end rs fs c.loop-tet.yielded c.into_iter-tet-iterator.result c.loop-tet.tet-iterator c.next.new.self c.next.result (search rules) (search rules) c.loop-tet.yielded_by c.in-None.is c.next.ensures.steps in
    let all : length c.loop-tet.yielded ≡ length rs = omega (arith, end, c.args.self.now.ready.flags) in
    subst (λ (n : ℕ). get_or c.loop-tet.marks q false ≡ (kept_has rs fs n q || old)) all (c.loop-tet.invariant q)
