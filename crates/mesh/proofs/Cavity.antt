-- A face x y z between a tetrahedron w x y z with which p conflicts and one e y x z with which it does not: p sees the face
-- from within, and no point conflicts with p x y z that conflicts with neither of the two.
use Rattle.std.proofs.Common.{pos, ◌≤ℤ◌, ◌<ℤ◌, arith}
use Rattle.std.proofs.lemmas.Int.{ints, by_lt_z}
use Rattle.algebra.proofs.Signs.{up_right, down_left, down_left'}
use Rattle.geometry.specs.Depths.{depth}
use Rattle.geometry.specs.Lifts.{Lifted}
use Rattle.geometry.specs.Sides.{side}
use Rattle.geometry.proofs.Depths.{depth_swap, blend}
use Rattle.geometry.proofs.Sides.{swap_23}

pub visible : (w x y z e p : Lifted) → pos 0 <ℤ side w x y z → pos 0 <ℤ depth w x y z p → depth e y x z p ≤ℤ pos 0 → depth w x y z e ≤ℤ pos 0 → pos 0 <ℤ side e y x z
    → pos 0 <ℤ side p x y z
visible w x y z e p sw dw de dwe se =
    up_right (side w x y z) (depth e x y z p) (side e x y z) (depth w x y z p) (depth w x y z e) (side p x y z)
    (blend w x y z e p) sw (omega (arith, ints, depth_swap e x y z p)) (omega (arith, ints, swap_23 e x y z)) dw dwe

pub empty_outer : (w x y z p q : Lifted) → pos 0 <ℤ side w x y z → pos 0 <ℤ depth w x y z p → pos 0 <ℤ side p x y z → pos 0 ≤ℤ side q x y z → depth w x y z q ≤ℤ pos 0
    → depth p x y z q ≤ℤ pos 0
empty_outer w x y z p q sw dp sp sq dq =
    down_left (side w x y z) (depth p x y z q) (side p x y z) (depth w x y z q) (depth w x y z p) (side q x y z)
    (blend w x y z p q) sw sp dq dp sq

pub empty : (w x y z e p q : Lifted) → pos 0 <ℤ side w x y z → pos 0 <ℤ depth w x y z p → depth e y x z p ≤ℤ pos 0 → depth w x y z e ≤ℤ pos 0 → pos 0 <ℤ side e y x z
    → depth w x y z q ≤ℤ pos 0 → depth e y x z q ≤ℤ pos 0 → depth p x y z q ≤ℤ pos 0
empty w x y z e p q sw dw de dwe se qw qe = by_lt_z (side q x y z) (pos 0) beyond (λ sq. empty_outer w x y z p q sw dw sp sq qw)
  where
    sp : pos 0 <ℤ side p x y z
    sp = visible w x y z e p sw dw de dwe se

    beyond : side q x y z <ℤ pos 0 → depth p x y z q ≤ℤ pos 0
    beyond sq = down_left' (side e x y z) (depth p x y z q) (side p x y z) (depth e x y z q) (depth e x y z p) (side q x y z)
        (blend e x y z p q) (omega (arith, ints, swap_23 e x y z)) sp (omega (arith, ints, depth_swap e x y z q)) (omega (arith, ints, depth_swap e x y z p)) (omega (arith, ints))
