-- Tests of a site's coordinates and penalty.
use Rattle.std.specs.Prelude.{ℕ, Bool, ◌&&◌, nat_le}

-- a coordinate is from 1 to 800
abbrev pub ranged : ℕ → Bool
ranged c = nat_le 1 c && nat_le c 800

abbrev pub on_grid : (x y z : ℕ) → Bool
on_grid x y z = ranged x && ranged y && ranged z

-- a penalty is at most a million
abbrev pub light : ℕ → Bool
light p = nat_le p 1000000
