-- How large sums, differences and products of whole numbers can be. The size of a number is its distance from zero.
use Rattle.std.specs.Prelude.{ℕ, ◌+◌, ◌*◌, ◌^◌, ◌<◌, ◌≤◌, ℤ, ◌+ℤ◌, ◌-ℤ◌, ◌*ℤ◌, FitsSigned, unsigned_abs}
use Rattle.std.specs.Int.{w64}

pub record SizeLaws : Type 0 where
  pub of_sum : (m n : ℕ) (a b : ℤ) → unsigned_abs a ≤ m → unsigned_abs b ≤ n → unsigned_abs (a +ℤ b) ≤ m + n
  pub of_difference : (m n : ℕ) (a b : ℤ) → unsigned_abs a ≤ m → unsigned_abs b ≤ n → unsigned_abs (a -ℤ b) ≤ m + n
  pub of_product : (m n : ℕ) (a b : ℤ) → unsigned_abs a ≤ m → unsigned_abs b ≤ n → unsigned_abs (a *ℤ b) ≤ m * n
  -- a number of size below 2 ^ 63 fits a signed word of 64 bits
  pub fits : (z : ℤ) (n : ℕ) → unsigned_abs z ≤ n → n < 2 ^ 63 → FitsSigned w64 z
