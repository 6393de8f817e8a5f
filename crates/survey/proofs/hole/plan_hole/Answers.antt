use Rattle.std.proofs.Common.{◌≡◌, ◌+◌, ◌*◌, ◌<◌, Bool, length, map, sym, ap, ◌∙◌, rules, arith, length-take-le}
use Rattle.geometry.specs.Points.{spot}
use Rattle.mesh.specs.Spaces.{conflicting}
use Rattle.mesh.specs.Tetrahedra.{Tet}
use Rattle.survey.specs.Cavity.{Ready, bare, left}
use Rattle.survey.specs.Questions.{first_no}
use Rattle.survey.specs.Refusals.{number_of}
use Rattle.survey.specs.Tables.{spot_of}
use Rattle.survey.specs.declared.refusal.Refusal.TheVariants.{NoConflict, TetsFull, ShellOpen, Vanishes}
use Rattle.survey.proofs.Holes.{rank_le}
use Rattle.survey.proofs.Preparing.{hole_answers, questions_same, refused_same}
use Rattle.survey.proofs.hole.plan_hole.Goals as goal

pub returns-then-not-mark_conflicts : goal.returns-then-not-mark_conflicts
returns-then-not-mark_conflicts g c =
    let us = c.args.whole.now.tets.now in
    let fs = c.mark_conflicts.new.flags in
    let n = length c.args.whole.now.points.records.now in
    let conflict : Tet → Bool = conflicting (map spot_of c.args.whole.now.points.records.now) (g.M.Measure.lifts c.args.measure.now) (spot c.args.site.now) in
    let ready : Ready us fs = record { few = omega arith; flags = omega (arith, c.requires.arrays); named = c.args.whole.now.named } in
    let number : number_of NoConflict ≡ 9 + first_no (hole_answers us fs n c.args.room) = search rules in
    let low : first_no (hole_answers us fs n c.args.room) < 4 = search rules in
    refused_same conflict us fs c.mark_conflicts.ensures.flagged ready n c.args.room NoConflict number low (search rules)

pub overflow_add-used : goal.overflow_add-used
overflow_add-used g c =
    let us = c.args.whole.now.tets.now in
    omega (arith, c.number-totals.ensures.shell, rank_le (bare us c.mark_conflicts.new.flags) (4 * length us), c.args.whole.now.tets_fit)

pub returns-then-used-totals : goal.returns-then-used-totals
returns-then-used-totals g c =
    let us = c.args.whole.now.tets.now in
    let fs = c.mark_conflicts.new.flags in
    let n = length c.args.whole.now.points.records.now in
    let conflict : Tet → Bool = conflicting (map spot_of c.args.whole.now.points.records.now) (g.M.Measure.lifts c.args.measure.now) (spot c.args.site.now) in
    let ready : Ready us fs = record { few = omega arith; flags = omega (arith, c.requires.arrays); named = c.args.whole.now.named } in
    let number : number_of TetsFull ≡ 9 + first_no (hole_answers us fs n c.args.room) = search rules in
    let low : first_no (hole_answers us fs n c.args.room) < 4 = search rules in
    refused_same conflict us fs c.mark_conflicts.ensures.flagged ready n c.args.room TetsFull number low (search rules)

pub returns-then-not-edges_closed : goal.returns-then-not-edges_closed
returns-then-not-edges_closed g c =
    let us = c.args.whole.now.tets.now in
    let fs = c.mark_conflicts.new.flags in
    let n = length c.args.whole.now.points.records.now in
    let conflict : Tet → Bool = conflicting (map spot_of c.args.whole.now.points.records.now) (g.M.Measure.lifts c.args.measure.now) (spot c.args.site.now) in
    let ready : Ready us fs = record { few = omega arith; flags = omega (arith, c.requires.arrays); named = c.args.whole.now.named } in
    let number : number_of ShellOpen ≡ 9 + first_no (hole_answers us fs n c.args.room) = search rules in
    let low : first_no (hole_answers us fs n c.args.room) < 4 = search rules in
    refused_same conflict us fs c.mark_conflicts.ensures.flagged ready n c.args.room ShellOpen number low (search rules)

pub returns-in-Some : goal.returns-in-Some
returns-in-Some g c =
    let us = c.args.whole.now.tets.now in
    let fs = c.mark_conflicts.new.flags in
    let n = length c.args.whole.now.points.records.now in
    let conflict : Tet → Bool = conflicting (map spot_of c.args.whole.now.points.records.now) (g.M.Measure.lifts c.args.measure.now) (spot c.args.site.now) in
    let ready : Ready us fs = record { few = omega arith; flags = omega (arith, c.requires.arrays); named = c.args.whole.now.named } in
    let number : number_of (Vanishes c.in-Some.point) ≡ 9 + first_no (hole_answers us fs n c.args.room) = search rules in
    let low : first_no (hole_answers us fs n c.args.room) < 4 = search rules in
    refused_same conflict us fs c.mark_conflicts.ensures.flagged ready n c.args.room (Vanishes c.in-Some.point) number low (search rules)

pub invariant_of-result : goal.invariant_of-result
invariant_of-result g c =
    let us = c.args.whole.now.tets.now in
    let kept = rank_le (left c.mark_conflicts.new.flags) (length us) in
    let all = length-take-le c.collect_shell-count.result c.collect_shell-count.new.room in
    record {
      long = omega (arith, c.requires.arrays);
      noted = c.number-totals.ensures.noted;
      total = c.number-totals.ensures.kept;
      room = omega (arith, kept, all, c.number-totals.ensures.kept, c.number-totals.ensures.shell, c.collect_shell-count.ensures.count, c.if-used-totals.false, c.requires.room);
    }

pub returns-in-None : goal.returns-in-None
returns-in-None g c =
    let us = c.args.whole.now.tets.now in
    let fs = c.mark_conflicts.new.flags in
    let n = length c.args.whole.now.points.records.now in
    let conflict : Tet → Bool = conflicting (map spot_of c.args.whole.now.points.records.now) (g.M.Measure.lifts c.args.measure.now) (spot c.args.site.now) in
    let ready : Ready us fs = record { few = omega arith; flags = omega (arith, c.requires.arrays); named = c.args.whole.now.named } in
    let yes : first_no (hole_answers us fs n c.args.room) ≡ 4 = search rules in
    let same = questions_same conflict us fs c.mark_conflicts.ensures.flagged ready n c.args.room in
    (ap first_no (sym same) ∙ yes, search rules, c.mark_conflicts.ensures.flagged)
