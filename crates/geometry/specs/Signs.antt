-- Signs, as the numbers -1, 0 and 1.
use Rattle.std.specs.Prelude.{zero, suc, ℤ, pos, negsuc}
use Rattle.geometry.specs.declared.sign.Sign.{Sign}
use Rattle.geometry.specs.declared.sign.Sign.TheVariants.{Negative, Zero, Positive}

-- the number that each case stands for; negsuc 0 is -1
abbrev pub number : Sign → ℤ
number Negative = negsuc 0
number Zero = pos 0
number Positive = pos 1

-- -1 below zero, 0 at zero, 1 above zero
abbrev pub signum : ℤ → ℤ
signum (negsuc n) = negsuc 0
signum (pos zero) = pos 0
signum (pos (suc n)) = pos 1
