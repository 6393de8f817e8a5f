-- The limits that points, lifts and stretches keep.
use Rattle.std.specs.Prelude.{ℕ, ◌+◌, ◌≤◌, ℤ, unsigned_abs}

-- the coordinates of a point add up to at most 2560
abbrev pub Near : (x y z : ℕ) → Type 0
Near x y z = x + y + z ≤ 2560

-- a whole number is at most this far from zero
abbrev pub Within : ℕ → ℤ → Type 0
Within limit z = unsigned_abs z ≤ limit

-- so two coordinates along one axis are at most 2560 apart
abbrev pub Short : ℤ → Type 0
Short = Within 2560

-- and a minor of two rows of such differences is at most twice the square of that
abbrev pub Small : ℤ → Type 0
Small = Within 13107200

-- a penalty is at most a million
abbrev pub Light : ℕ → Type 0
Light penalty = penalty ≤ 1000000

-- a lift is at most twenty million
abbrev pub Low : ℕ → Type 0
Low lift = lift ≤ 20000000

-- a stretch is 1, 2 or 3
abbrev pub Stretch : ℕ → Type 0
Stretch n = (1 ≤ n) × (n ≤ 3)
