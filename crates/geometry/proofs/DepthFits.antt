-- The numbers on the way to a Depth fit 64 bits.
use Rattle.std.proofs.Common.{ℕ, ◌≤◌, ℤ, pos, ◌+ℤ◌, ◌-ℤ◌, ◌*ℤ◌, nat_abs, arith, w64, SFits}
use Rattle.std.proofs.lemmas.Int.{ints}
use Rattle.algebra.proofs.Sizes.{abs_add, abs_mul, fits}

pub record ProductFits (s d : ℤ) : Type 0 where
  pub rise : SFits w64 d
  pub whole : SFits w64 (s *ℤ d)
  pub size : nat_abs (s *ℤ d) ≤ 2013265920000000000

-- of a Side and the difference of two lifts
pub product_fits : (s : ℤ) (m n : ℕ) → nat_abs s ≤ 100663296000 → m ≤ 20000000 → n ≤ 20000000 → ProductFits s (pos m -ℤ pos n)
product_fits s m n hs hm hn =
    let d : nat_abs (pos m -ℤ pos n) ≤ 20000000 = omega (arith, ints) in
    let t = abs_mul s (pos m -ℤ pos n) hs d in
    record {
      rise = fits (pos m -ℤ pos n) 20000000 d (omega arith);
      whole = fits (s *ℤ (pos m -ℤ pos n)) 2013265920000000000 t (omega arith);
      size = t;
    }

pub record SumFits (a b c d : ℤ) : Type 0 where
  pub two : SFits w64 (a +ℤ b)
  pub three : SFits w64 (a +ℤ b +ℤ c)
  pub four : SFits w64 (a +ℤ b +ℤ c +ℤ d)
  pub size : nat_abs (a +ℤ b +ℤ c +ℤ d) ≤ 8053063680000000000

-- of the four products
pub sum_fits : (a b c d : ℤ) → nat_abs a ≤ 2013265920000000000 → nat_abs b ≤ 2013265920000000000 → nat_abs c ≤ 2013265920000000000 → nat_abs d ≤ 2013265920000000000 → SumFits a b c d
sum_fits a b c d ha hb hc hd =
    let k = abs_add a b ha hb in
    let l = abs_add (a +ℤ b) c k hc in
    let m = abs_add (a +ℤ b +ℤ c) d l hd in
    record {
      two = fits (a +ℤ b) 4026531840000000000 k (omega arith);
      three = fits (a +ℤ b +ℤ c) 6039797760000000000 l (omega arith);
      four = fits (a +ℤ b +ℤ c +ℤ d) 8053063680000000000 m (omega arith);
      size = m;
    }
