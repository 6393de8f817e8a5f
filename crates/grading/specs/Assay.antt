-- The assay: which amounts are admitted, what each reading counts as, and the class of four. Assumes nothing.
use Rattle.std.specs.Prelude.{ℕ, Bool, true, cond, ◌&&◌, List, [], ◌∷◌, pos, Some, None, count_by, Option, ◌==◌, is_nan, Float}
use Rattle.std.specs.Float.Ieee.{le, of_int, div}
use Rattle.grading.specs.declared.assay.Reading.{Reading}
use Rattle.grading.specs.declared.assay.Reading.TheVariants.{Measured, Below, Missing}
use Rattle.std.specs.Float.{float_max, binary64}

-- the float that is the whole number n
abbrev pub whole : ℕ → Float
whole n = of_int binary64 (pos n)

-- from 0 to 1,000,000; every comparison with not-a-number is false
abbrev pub admitted_amount : Float → Bool
admitted_amount v = le (whole 0) v && le v (whole 1000000)

abbrev pub admitted_reading : Reading → Bool
admitted_reading (Measured v) = admitted_amount v
admitted_reading (Below v) = admitted_amount v
admitted_reading Missing = true

-- a measured amount counts as itself; not-a-number and the other two cases as zero
abbrev pub counted : Reading → Float
counted (Measured v) = cond (is_nan v) (whole 0) v
counted (Below v) = whole 0
counted Missing = whole 0

abbrev pub limits : List Float
limits = whole 10 ∷ whole 50 ∷ whole 100 ∷ whole 500 ∷ whole 1000 ∷ whole 5000 ∷ whole 10000 ∷ []

-- how many of some limits an amount reaches
abbrev pub reached : List Float → Float → ℕ
reached ls v = count_by (λ l. le l v) ls

abbrev pub largest_counted : Reading → Reading → Reading → Reading → Float
largest_counted a b c d = float_max (float_max (float_max (counted a) (counted b)) (counted c)) (counted d)

-- how many of the seven limits the largest counted value reaches
abbrev pub assay_class : Reading → Reading → Reading → Reading → ℕ
assay_class a b c d = reached limits (largest_counted a b c d)

-- one quarter of a word's value
abbrev pub amount : ℕ → Float
amount n = div binary64 (whole n) (whole 4)

-- tag 0 is measured, tag 1 is below, and tag 2 with value 0 is missing
abbrev pub reading_of : ℕ → ℕ → Option Reading
reading_of tag value =
    cond (tag == 0) (Some (Measured (amount value)))
    (cond (tag == 1) (Some (Below (amount value)))
    (cond (tag == 2 && value == 0) (Some Missing) None))
