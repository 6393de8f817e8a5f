-- Depth, which is above zero where a point conflicts with a tetrahedron.
use Rattle.std.specs.Prelude.{◌≡◌, ℤ, ◌+ℤ◌, ◌-ℤ◌, ◌*ℤ◌}
use Rattle.geometry.specs.Lifts.{Lift, Lifted, lifted}
use Rattle.geometry.specs.Sides.{side}
use Rattle.geometry.specs.Spots.{Spot}

-- Each point of the tetrahedron counts by how much higher it is lifted than e, times the Side with e in its place.
unfoldable pub depth : (a b c d e : Lifted) → ℤ
unfolding side
depth a b c d e =
    side e b c d *ℤ (a.lift -ℤ e.lift) +ℤ side a e c d *ℤ (b.lift -ℤ e.lift)
    +ℤ side a b e d *ℤ (c.lift -ℤ e.lift) +ℤ side a b c e *ℤ (d.lift -ℤ e.lift)

-- Depth of spots, by a lift
abbrev pub depth_by : Lift → (a b c d e : Spot) → ℤ
depth_by L a b c d e = depth (lifted L a) (lifted L b) (lifted L c) (lifted L d) (lifted L e)

-- How the Depths of q under two tetrahedra on one face x y z differ: the Side of each, times the Depth under the other.
abbrev pub Blend : Type 0
Blend = (w x y z p q : Lifted) → side w x y z *ℤ depth p x y z q ≡ side p x y z *ℤ depth w x y z q -ℤ depth w x y z p *ℤ side q x y z
