-- Four times an amount of a survey word is the word's value, so its decimals are those of its quarters. Assumes nothing.
use Rattle.std.proofs.Common.{◌≡◌, ℕ, ◌*◌, ◌/◌, ◌^◌, ◌<◌, min, true, false, sym, ap, ◌∙◌, true≢false, mul-one, mul-div_cancel, arith, lit<}
use lib.Ieee.{Float, nan, inf, fin, binary64, up, down, mul, of_int, to_unsigned}
use lib.Ieee.Exact.{HasValue}
use lib.Ieee.Fits.{down_pos}
use lib.Ieee.Scale.{round_same}
use Rattle.grading.specs.Assay.{amount, whole}
use Rattle.grading.proofs.Amounts.{quarter_exact, whole_exact}
use Rattle.listing.specs.Amounts.{amount_text, quarters_text}

-- four times a float that is n / 4
times_four : (x : Float) (n : ℕ) → HasValue x false n 4 → mul binary64 x (whole 4) ≡ whole n
unfolding mul of_int
times_four nan n h = absurd h
times_four (inf s) n h = absurd h
times_four (fin true m e) n h = absurd (true≢false h.0)
times_four (fin false m e) n h = round_same binary64 false (m * up e * (1 * 4)) (down e * 1) n 1 (let p = down_pos e in omega arith) (lit< tt) (simp mul-one h.1)

small : (n : ℕ) → n < 2 ^ 32 → min n 4294967295 ≡ n
small n l = omega arith

-- a float that is the whole number n, cut to a whole number
cut_whole : (x : Float) (n : ℕ) → n < 2 ^ 32 → HasValue x false n 1 → to_unsigned 32 x ≡ n
unfolding to_unsigned
cut_whole nan n l h = absurd h
cut_whole (inf s) n l h = absurd h
cut_whole (fin true m e) n l h = absurd (true≢false h.0)
cut_whole (fin false m e) n l h =
    let quotient : m * up e / down e ≡ n = ap (λ (p : ℕ). p / down e) (sym (mul-one (m * up e)) ∙ h.1) ∙ mul-div_cancel n (down_pos e) in
    ap (λ (q : ℕ). min q 4294967295) quotient ∙ small n l

pub quarters_exact : (n : ℕ) → n < 2 ^ 32 → amount_text (amount n) ≡ quarters_text n
quarters_exact n l = ap quarters_text (ap (to_unsigned 32) (times_four (amount n) n (quarter_exact n l)) ∙ cut_whole (whole n) n l (whole_exact n l))
