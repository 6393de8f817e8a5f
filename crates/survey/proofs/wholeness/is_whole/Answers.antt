use Rattle.std.proofs.Common.{sym}
use Rattle.survey.proofs.WholeTables.{points_limits, with_points, without_points}
use Rattle.survey.proofs.wholeness.is_whole.Goals as goal

pub invariant_of-are_whole_tets : goal.invariant_of-are_whole_tets
invariant_of-are_whole_tets g c = record { within = points_limits _ (sym c.if-are_whole_points.ensures) }

pub returns-then-are_whole_points : goal.returns-then-are_whole_points
returns-then-are_whole_points g c =
    let t = with_points _ _ _ _ _ c.if-not-are_as_created.ensures c.if-are_whole_points.ensures c.are_whole_tets.ensures in
    record { is = t.is; tells = t.tells }

pub returns-else-are_whole_points : goal.returns-else-are_whole_points
returns-else-are_whole_points g c =
    let t = without_points _ _ _ _ _ c.if-are_whole_points.false c.if-are_whole_points.ensures in
    record { is = t.is; tells = t.tells }
