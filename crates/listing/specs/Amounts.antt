-- Amounts in decimals. Assumes nothing.
use Rattle.std.specs.Prelude.{ℕ, ◌/◌, ◌%◌, cond, List, [], ◌++◌, codes, decimal, ◌==◌, Float}
use Rattle.std.specs.Float.{binary64}
use Rattle.std.specs.Float.Ieee.{mul, to_unsigned}
use Rattle.grading.specs.Assay.{whole}

-- the decimals of 0 to 3 quarters
abbrev pub fraction : ℕ → List ℕ
fraction q = cond (q == 0) [] (cond (q == 1) (codes ".25") (cond (q == 2) (codes ".5") (codes ".75")))

-- n quarters
abbrev pub quarters_text : ℕ → List ℕ
quarters_text n = decimal (n / 4) ++ fraction (n % 4)

-- how many quarters an amount has, cut to a whole number
abbrev pub quarters_in : Float → ℕ
quarters_in v = to_unsigned 32 (mul binary64 v (whole 4))

abbrev pub amount_text : Float → List ℕ
amount_text v = quarters_text (quarters_in v)
