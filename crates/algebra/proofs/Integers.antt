-- The laws of a ring, by induction one up and one down.
use Rattle.std.proofs.Common.{◌≡◌, zero, suc, ℤ, pos, negsuc, ◌+ℤ◌, ◌-ℤ◌, ◌*ℤ◌, neg_ℤ, sym, ap, ◌∙◌}
use lib.IntN.{suc_ℤ, pred_ℤ, +ℤ_assoc, +ℤ_idl, +ℤ_idr, +ℤ_invr, +ℤ_invl, +ℤ-suc_ℤ, +ℤ-pred_ℤ, suc_ℤ-*ℤ, pred_ℤ-*ℤ, *ℤ_comm, zero-*ℤ}

-- what holds of zero, and passes from each number to its neighbours, holds of all
up_down : (P : ℤ → Type 0) → P (pos zero) → ((k : ℤ) → P k → P (suc_ℤ k)) → ((k : ℤ) → P k → P (pred_ℤ k)) → (k : ℤ) → P k
up_down P z s p (pos zero) = z
up_down P z s p (pos (suc n)) = s (pos n) (up_down P z s p (pos n))
up_down P z s p (negsuc zero) = p (pos zero) z
up_down P z s p (negsuc (suc n)) = p (negsuc n) (up_down P z s p (negsuc n))

pub add_mul : (a b c : ℤ) → (a +ℤ b) *ℤ c ≡ a *ℤ c +ℤ b *ℤ c
add_mul a b c = up_down (λ b. (a +ℤ b) *ℤ c ≡ a *ℤ c +ℤ b *ℤ c)
    (ap (λ (x : ℤ). x *ℤ c) (+ℤ_idr a) ∙ sym (+ℤ_idr (a *ℤ c)) ∙ ap (λ (x : ℤ). a *ℤ c +ℤ x) (sym (zero-*ℤ c)))
    (λ k h. ap (λ (x : ℤ). x *ℤ c) (+ℤ-suc_ℤ a k) ∙ suc_ℤ-*ℤ (a +ℤ k) c ∙ ap (λ (x : ℤ). x +ℤ c) h ∙ +ℤ_assoc (a *ℤ c) (k *ℤ c) c ∙ ap (λ (x : ℤ). a *ℤ c +ℤ x) (sym (suc_ℤ-*ℤ k c)))
    (λ k h. ap (λ (x : ℤ). x *ℤ c) (+ℤ-pred_ℤ a k) ∙ pred_ℤ-*ℤ (a +ℤ k) c ∙ ap (λ (x : ℤ). x -ℤ c) h ∙ +ℤ_assoc (a *ℤ c) (k *ℤ c) (neg_ℤ c) ∙ ap (λ (x : ℤ). a *ℤ c +ℤ x) (sym (pred_ℤ-*ℤ k c)))
    b

pub mul_add : (a b c : ℤ) → a *ℤ (b +ℤ c) ≡ a *ℤ b +ℤ a *ℤ c
mul_add a b c = *ℤ_comm a (b +ℤ c) ∙ add_mul b c a ∙ ap (λ (x : ℤ). x +ℤ c *ℤ a) (*ℤ_comm b a) ∙ ap (λ (x : ℤ). a *ℤ b +ℤ x) (*ℤ_comm c a)

-- a + b = 0 makes a the negation of b
minus_unique : (a b : ℤ) → a +ℤ b ≡ pos zero → a ≡ neg_ℤ b
minus_unique a b h = sym (+ℤ_idr a) ∙ ap (λ (x : ℤ). a +ℤ x) (sym (+ℤ_invr b)) ∙ sym (+ℤ_assoc a b (neg_ℤ b)) ∙ ap (λ (x : ℤ). x +ℤ neg_ℤ b) h ∙ +ℤ_idl (neg_ℤ b)

pub neg_mul : (a b : ℤ) → neg_ℤ a *ℤ b ≡ neg_ℤ (a *ℤ b)
neg_mul a b = minus_unique (neg_ℤ a *ℤ b) (a *ℤ b) (sym (add_mul (neg_ℤ a) a b) ∙ ap (λ (x : ℤ). x *ℤ b) (+ℤ_invl a) ∙ zero-*ℤ b)

pub mul_assoc : (a b c : ℤ) → (a *ℤ b) *ℤ c ≡ a *ℤ (b *ℤ c)
mul_assoc a b c = up_down (λ a. (a *ℤ b) *ℤ c ≡ a *ℤ (b *ℤ c))
    (ap (λ (x : ℤ). x *ℤ c) (zero-*ℤ b) ∙ zero-*ℤ c ∙ sym (zero-*ℤ (b *ℤ c)))
    (λ k h. ap (λ (x : ℤ). x *ℤ c) (suc_ℤ-*ℤ k b) ∙ add_mul (k *ℤ b) b c ∙ ap (λ (x : ℤ). x +ℤ b *ℤ c) h ∙ sym (suc_ℤ-*ℤ k (b *ℤ c)))
    (λ k h. ap (λ (x : ℤ). x *ℤ c) (pred_ℤ-*ℤ k b) ∙ add_mul (k *ℤ b) (neg_ℤ b) c ∙ ap (λ (x : ℤ). (k *ℤ b) *ℤ c +ℤ x) (neg_mul b c) ∙ ap (λ (x : ℤ). x -ℤ b *ℤ c) h ∙ sym (pred_ℤ-*ℤ k (b *ℤ c)))
    a
