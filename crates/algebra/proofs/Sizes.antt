-- How large a sum, a difference and a product can be.
use Rattle.std.proofs.Common.{◌≡◌, ℕ, zero, suc, ◌+◌, ◌*◌, ◌^◌, ◌<◌, ◌≤◌, ℤ, pos, negsuc, ◌+ℤ◌, ◌-ℤ◌, ◌*ℤ◌, neg_ℤ, nat_abs, refl, mul-le-mul, arith, w64, SFits}
use Rattle.std.proofs.lemmas.Int.{ints}

pub abs_add : {A B : ℕ} (a b : ℤ) → nat_abs a ≤ A → nat_abs b ≤ B → nat_abs (a +ℤ b) ≤ A + B
abs_add a b p q = omega (arith, ints)

pub abs_sub : {A B : ℕ} (a b : ℤ) → nat_abs a ≤ A → nat_abs b ≤ B → nat_abs (a -ℤ b) ≤ A + B
abs_sub a b p q = omega (arith, ints)

abs_neg : (n : ℕ) → nat_abs (neg_ℤ (pos n)) ≡ n
abs_neg zero = refl
abs_neg (suc n) = refl

abs_times : (a b : ℤ) → nat_abs (a *ℤ b) ≡ nat_abs a * nat_abs b
abs_times (pos a) (pos b) = refl
abs_times (pos a) (negsuc b) = abs_neg (a * suc b)
abs_times (negsuc a) (pos b) = abs_neg (suc a * b)
abs_times (negsuc a) (negsuc b) = refl

pub abs_mul : {A B : ℕ} (a b : ℤ) → nat_abs a ≤ A → nat_abs b ≤ B → nat_abs (a *ℤ b) ≤ A * B
abs_mul a b p q = rw abs_times (mul-le-mul p q)

pub fits : (z : ℤ) (n : ℕ) → nat_abs z ≤ n → n < 2 ^ 63 → SFits w64 z
fits z n p q = omega (arith, ints)
