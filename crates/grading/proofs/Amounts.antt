-- Amounts of the assay: the float literals of the code are the whole numbers of the rules, and a quarter is exact. Assumes nothing.
use Rattle.std.proofs.Common.{◌≡◌, T, ⊎_elim, ℕ, suc, ◌+◌, ◌*◌, ◌^◌, ◌<◌, ◌≤◌, true, false, List, [], ◌∷◌, sym, refl, subst, true≢false, lt_of_lt_of_le, mul_assoc, mul-one, mul_left_comm, arith, lit<, lit≤, pow_mono, shl_lt}
use lib.Ieee.{Float, nan, inf, fin, binary64, low, emax, of_bits, of_int, div, round, up, down}
use lib.Ieee.Exact.{HasValue, round_exact}
use lib.Ieee.Fits.{down_pos}
use lib.Ieee.Scale.{round_same}
use lib.Ieee.{lt, eq, le}
use Rattle.std.specs.Ordering.{partial_le, float_partial_cmp, is_some_and, is_le}
use Rattle.std.specs.Prelude.{Bool, cond, Some, None}
use Rattle.std.specs.declared.cmp.Ordering.TheVariants.{Less, Equal, Greater}
use Rattle.std.specs.Float.Order.{le_of_lt, le_of_eq, lt-or-eq}
use Rattle.grading.specs.Assay.{whole, limits, amount}

-- ---- the literals

pub literal_zero : of_bits binary64 0 ≡ whole 0
unfolding of_bits of_int
literal_zero = refl

pub literal_million : of_bits binary64 4696837146684686336 ≡ whole 1000000
unfolding of_bits of_int
literal_million = refl

pub literal_four : of_bits binary64 4616189618054758400 ≡ whole 4
unfolding of_bits of_int
literal_four = refl

pub literal_limits : ◌≡◌ {A = List Float} (of_bits binary64 4621819117588971520 ∷ of_bits binary64 4632233691727265792 ∷ of_bits binary64 4636737291354636288 ∷ of_bits binary64 4647503709213818880 ∷ of_bits binary64 4652007308841189376 ∷ of_bits binary64 4662219572839972864 ∷ of_bits binary64 4666723172467343360 ∷ []) limits
unfolding of_bits of_int
literal_limits = refl

-- ---- quarters

-- values of survey words lie far below the largest float
room : (n j : ℕ) → n < 2 ^ 32 → 32 + j ≤ low binary64 + suc (emax binary64) → n * 2 ^ j < 2 ^ (low binary64 + suc (emax binary64))
room n j h k = lt_of_lt_of_le (shl_lt 32 j h) (pow_mono k)

-- n and n / 4 are held without rounding
pub whole_exact : (n : ℕ) → n < 2 ^ 32 → HasValue (whole n) false n 1
unfolding of_int
whole_exact n h = round_exact binary64 false n 1 n 1074 (lit< tt) (omega arith) (room n 1074 h (lit≤ tt)) (sym (mul-one _))

quarter_round : (n : ℕ) → n < 2 ^ 32 → HasValue (round binary64 false n 4) false n 4
quarter_round n h = round_exact binary64 false n 4 n 1072 (lit< tt) (omega arith) (room n 1072 h (lit≤ tt)) (sym (mul_assoc n (2 ^ 1072) 4))

-- the quotient of a float of value n by 4
divided : (x : Float) (n : ℕ) → HasValue x false n 1 → div binary64 x (whole 4) ≡ round binary64 false n 4
unfolding div of_int
divided nan n h = absurd h
divided (inf s) n h = absurd h
divided (fin true m e) n h = absurd (true≢false h.0)
divided (fin false m e) n h = round_same binary64 false (m * up e * 1) (1 * 4 * down e) n 4 (let p = down_pos e in omega arith) (lit< tt) (omega (arith, h.1, mul_left_comm n 4 (down e)))

pub quarter_exact : (n : ℕ) → n < 2 ^ 32 → HasValue (amount n) false n 4
quarter_exact n h = subst (λ (x : Float). HasValue x false n 4) (sym (divided (whole n) n (whole_exact n h))) (quarter_round n h)

-- ---- comparisons

-- the order of floats that ranges use says at most where `le` does
pub at_most : (x y : Float) → partial_le float_partial_cmp x y ≡ le x y
at_most x y = go (lt x y) (eq x y) (lt y x) (le x y) refl refl refl
  where
    go : (less same more most : Bool) → lt x y ≡ less → eq x y ≡ same → le x y ≡ most
        → is_some_and is_le (cond less (Some Less) (cond same (Some Equal) (cond more (Some Greater) None))) ≡ most
    go true same more true h k l = refl
    go true same more false h k l = absurd (subst T l (le_of_lt x y (subst T (sym h) tt)))
    go false true more true h k l = refl
    go false true more false h k l = absurd (subst T l (le_of_eq x y (subst T (sym k) tt)))
    go false false more true h k l = absurd (⊎_elim (λ t. subst T h t) (λ t. subst T k t) (lt-or-eq x y (subst T (sym l) tt)))
    go false false true false h k l = refl
    go false false false false h k l = refl
