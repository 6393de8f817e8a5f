-- How high the delivered measures lift a point.
use Rattle.std.specs.Prelude.{ℕ, ◌+◌, ◌*◌, ◌≤◌}
use Rattle.std.proofs.Common.{mul-le-mul, le_refl, arith}
use Rattle.geometry.specs.declared.stretched.Stretched.{Stretched}
use Rattle.geometry.specs.PlainLift.{plain}
use Rattle.geometry.specs.Spots.{Spot, InLimits}
use Rattle.geometry.specs.StretchedLift.{stretched_by}
use Rattle.geometry.specs.WeightedLift.{weighted}

square_low : (n : ℕ) → n ≤ 2560 → n * n ≤ 2560 * n
square_low n h = mul-le-mul h (le_refl n)

-- a stretch is at most 3
pub scaled_low : (k n : ℕ) → k ≤ 3 → n ≤ 2560 → k * (n * n) ≤ 19660800
scaled_low k n h l =
    let m = mul-le-mul h (le_refl (n * n)) in
    omega (arith, square_low n l)

-- since the coordinates add up to at most 2560, their squares add up to at most its square
pub plain_low : (s : Spot) → s.x + s.y + s.z ≤ 2560 → plain s ≤ 6553600
plain_low s h =
    let x = square_low s.x (omega arith) in
    let y = square_low s.y (omega arith) in
    let z = square_low s.z (omega arith) in
    omega arith

pub stretched_low : (m : Stretched) (s : Spot) → s.x + s.y + s.z ≤ 2560 → stretched_by m s ≤ 19660800
stretched_low m s h =
    let low = plain_low s h in
    let x = mul-le-mul m.first.1 (le_refl (s.x * s.x)) in
    let y = mul-le-mul m.second.1 (le_refl (s.y * s.y)) in
    let z = mul-le-mul m.third.1 (le_refl (s.z * s.z)) in
    omega arith

pub plain_bounded : (s : Spot) → InLimits s → plain s ≤ 20000000
plain_bounded s h = omega (arith, plain_low s h.near)

pub weighted_bounded : (s : Spot) → InLimits s → weighted s ≤ 20000000
weighted_bounded s h = omega (arith, plain_low s h.near)

pub stretched_bounded : (m : Stretched) (s : Spot) → InLimits s → stretched_by m s ≤ 20000000
stretched_bounded m s h = omega (arith, stretched_low m s h.near)
