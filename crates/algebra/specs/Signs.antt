-- Signs of products of whole numbers.
use Rattle.std.specs.Prelude.{ℤ, pos, ◌*ℤ◌, ◌<ℤ◌}

pub record SignLaws : Type 0 where
  -- a product of numbers above zero is above zero
  pub product : (a b : ℤ) → pos 0 <ℤ a → pos 0 <ℤ b → pos 0 <ℤ (a *ℤ b)
  -- where one factor and the product are above zero, the other factor is
  pub factor : (a b : ℤ) → pos 0 <ℤ a → pos 0 <ℤ (a *ℤ b) → pos 0 <ℤ b
