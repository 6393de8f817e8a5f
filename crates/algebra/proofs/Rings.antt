-- Why expressions with one normal form have one value: each step towards the normal form keeps the value.
use Rattle.std.proofs.Common.{◌≡◌, ℕ, Bool, true, false, T, List, get_or, ℤ, pos, negsuc, ◌+ℤ◌, ◌-ℤ◌, ◌*ℤ◌, neg_ℤ, sym, refl, ap, ◌∙◌, eqb→eq}
use Prim.Native.Nat.{compare, Ordering}
use lib.Dec.{compare_is_eq}
use lib.IntN.{one, +ℤ_assoc, +ℤ_comm, +ℤ_idl, +ℤ_idr, +ℤ_invr, *ℤ_comm, zero-*ℤ, *ℤ-zero, *ℤ-one}
use Rattle.algebra.specs.Rings.{Expr, var, num, neg, ◌⊕◌, ◌⊖◌, ◌⊗◌, eval, Mono, unit, times, mono, Poly, nil, term, poly, insert_var, mul_mono, compare_mono, is_zero, keep, merge_term, add_poly, scale, mul_poly, norm, is_nil, agree, Sound}
use Rattle.algebra.proofs.Integers.{add_mul, mul_add, neg_mul, mul_assoc}

swap_front : (a b c : ℤ) → a *ℤ (b *ℤ c) ≡ b *ℤ (a *ℤ c)
swap_front a b c = sym (mul_assoc a b c) ∙ ap (λ (x : ℤ). x *ℤ c) (*ℤ_comm a b) ∙ mul_assoc b a c

swap_add : (a b c : ℤ) → a +ℤ (b +ℤ c) ≡ b +ℤ (a +ℤ c)
swap_add a b c = sym (+ℤ_assoc a b c) ∙ ap (λ (x : ℤ). x +ℤ c) (+ℤ_comm a b) ∙ +ℤ_assoc b a c

insert_var_value : (ρ : List ℤ) (i : ℕ) (m : Mono) → mono ρ (insert_var i m) ≡ get_or ρ i (pos 0) *ℤ mono ρ m
unfolding mono insert_var
insert_var_value ρ i unit = refl
insert_var_value ρ i (times j m) =
    elim (compare i j) as (λ o. mono ρ (elim o [ Ordering.lt ↦ times i (times j m) | Ordering.eq ↦ times i (times j m) | Ordering.gt ↦ times j (insert_var i m) ]) ≡ get_or ρ i (pos 0) *ℤ mono ρ (times j m)) [
      | Ordering.lt ↦ refl
      | Ordering.eq ↦ refl
      | Ordering.gt ↦ ap (λ (x : ℤ). get_or ρ j (pos 0) *ℤ x) (insert_var_value ρ i m) ∙ swap_front (get_or ρ j (pos 0)) (get_or ρ i (pos 0)) (mono ρ m)
    ]

one_mul : (a : ℤ) → pos 1 *ℤ a ≡ a
unfolding one
one_mul a = *ℤ_comm (pos 1) a ∙ *ℤ-one a

mul_mono_value : (ρ : List ℤ) (m n : Mono) → mono ρ (mul_mono m n) ≡ mono ρ m *ℤ mono ρ n
unfolding mono mul_mono
mul_mono_value ρ unit n = sym (one_mul (mono ρ n))
mul_mono_value ρ (times i m) n =
    insert_var_value ρ i (mul_mono m n) ∙ ap (λ (x : ℤ). get_or ρ i (pos 0) *ℤ x) (mul_mono_value ρ m n) ∙ sym (mul_assoc (get_or ρ i (pos 0)) (mono ρ m) (mono ρ n))

-- what an answer of eq says
Same : Mono → Mono → Ordering → Type 0
Same m n Ordering.lt = Unit {0}
Same m n Ordering.eq = m ≡ n
Same m n Ordering.gt = Unit {0}

compare_same : (i j : ℕ) → compare i j ≡ Ordering.eq → i ≡ j
compare_same i j e = eqb→eq i j (let t : T (compare_is_eq (compare i j)) = rw e tt in t)

compare_mono_same : (m n : Mono) → Same m n (compare_mono m n)
unfolding Same compare_mono
compare_mono_same unit unit = refl
compare_mono_same unit (times j n) = tt
compare_mono_same (times i m) unit = tt
compare_mono_same (times i m) (times j n) = go (compare i j) refl (compare_mono m n) (compare_mono_same m n)
  where
    heads : (q : Ordering) → i ≡ j → Same m n q → Same (times i m) (times j n) q
    heads Ordering.lt e h = tt
    heads Ordering.eq e h = ap (λ (k : ℕ). times k m) e ∙ ap (times j) h
    heads Ordering.gt e h = tt

    go : (o : Ordering) → compare i j ≡ o → (q : Ordering) → Same m n q → Same (times i m) (times j n) (elim o [ Ordering.lt ↦ Ordering.lt | Ordering.eq ↦ q | Ordering.gt ↦ Ordering.gt ])
    go Ordering.lt e q h = tt
    go Ordering.eq e q h = heads q (compare_same i j e) h
    go Ordering.gt e q h = tt

is_zero_value : (z : ℤ) → T (is_zero z) → z ≡ pos 0
unfolding is_zero
is_zero_value (pos n) h = ap pos (eqb→eq n 0 h)
is_zero_value (negsuc n) h = absurd h

keep_value : (ρ : List ℤ) (c : ℤ) (m : Mono) (p : Poly) → poly ρ (keep c m p) ≡ c *ℤ mono ρ m +ℤ poly ρ p
unfolding poly keep
keep_value ρ c m p = go (is_zero c) (is_zero_value c)
  where
    go : (b : Bool) → (T b → c ≡ pos 0) → poly ρ (elim b [ true ↦ p | false ↦ term c m p ]) ≡ c *ℤ mono ρ m +ℤ poly ρ p
    go true e = sym (ap (λ (x : ℤ). x *ℤ mono ρ m +ℤ poly ρ p) (e tt) ∙ ap (λ (x : ℤ). x +ℤ poly ρ p) (zero-*ℤ (mono ρ m)) ∙ +ℤ_idl (poly ρ p))
    go false e = refl

merge_term_value : (ρ : List ℤ) (c : ℤ) (m : Mono) (p : Poly) (rest : Poly → Poly) → ((q : Poly) → poly ρ (rest q) ≡ poly ρ p +ℤ poly ρ q)
    → (q : Poly) → poly ρ (merge_term c m rest q) ≡ c *ℤ mono ρ m +ℤ poly ρ p +ℤ poly ρ q
unfolding poly merge_term Same
merge_term_value ρ c m p rest adds nil = ap (λ (x : ℤ). c *ℤ mono ρ m +ℤ x) (adds nil) ∙ sym (+ℤ_assoc (c *ℤ mono ρ m) (poly ρ p) (pos 0))
merge_term_value ρ c m p rest adds (term d n q) = go (compare_mono m n) (compare_mono_same m n) (merge_term_value ρ c m p rest adds q)
  where
    cm : ℤ
    cm = c *ℤ mono ρ m

    dn : ℤ
    dn = d *ℤ mono ρ n

    sum : ℤ
    sum = poly ρ p

    go : (o : Ordering) → Same m n o → poly ρ (merge_term c m rest q) ≡ cm +ℤ sum +ℤ poly ρ q
        → poly ρ (elim o [ Ordering.lt ↦ term c m (rest (term d n q)) | Ordering.eq ↦ keep (c +ℤ d) n (rest q) | Ordering.gt ↦ term d n (merge_term c m rest q) ]) ≡ cm +ℤ sum +ℤ (dn +ℤ poly ρ q)
    go Ordering.lt s ih = ap (λ (x : ℤ). cm +ℤ x) (adds (term d n q)) ∙ sym (+ℤ_assoc cm sum (dn +ℤ poly ρ q))
    go Ordering.eq s ih = keep_value ρ (c +ℤ d) n (rest q)
        ∙ ap (λ (x : ℤ). x +ℤ poly ρ (rest q)) (add_mul c d (mono ρ n) ∙ ap (λ (k : Mono). c *ℤ mono ρ k +ℤ dn) (sym s))
        ∙ ap (λ (x : ℤ). cm +ℤ dn +ℤ x) (adds q)
        ∙ +ℤ_assoc cm dn (sum +ℤ poly ρ q) ∙ ap (λ (x : ℤ). cm +ℤ x) (swap_add dn sum (poly ρ q)) ∙ sym (+ℤ_assoc cm sum (dn +ℤ poly ρ q))
    go Ordering.gt s ih = ap (λ (x : ℤ). dn +ℤ x) ih ∙ swap_add dn (cm +ℤ sum) (poly ρ q)

add_poly_value : (ρ : List ℤ) (p q : Poly) → poly ρ (add_poly p q) ≡ poly ρ p +ℤ poly ρ q
unfolding poly add_poly
add_poly_value ρ nil q = sym (+ℤ_idl (poly ρ q))
add_poly_value ρ (term c m p) q = merge_term_value ρ c m p (add_poly p) (add_poly_value ρ p) q

inter_change : (c d m n : ℤ) → (c *ℤ d) *ℤ (m *ℤ n) ≡ (c *ℤ m) *ℤ (d *ℤ n)
inter_change c d m n = mul_assoc c d (m *ℤ n) ∙ ap (λ (x : ℤ). c *ℤ x) (swap_front d m n) ∙ sym (mul_assoc c m (d *ℤ n))

scale_value : (ρ : List ℤ) (c : ℤ) (m : Mono) (p : Poly) → poly ρ (scale c m p) ≡ (c *ℤ mono ρ m) *ℤ poly ρ p
unfolding poly scale
scale_value ρ c m nil = sym (*ℤ-zero (c *ℤ mono ρ m))
scale_value ρ c m (term d n p) =
    ap (λ (x : ℤ). (c *ℤ d) *ℤ x +ℤ poly ρ (scale c m p)) (mul_mono_value ρ m n)
    ∙ ap (λ (x : ℤ). x +ℤ poly ρ (scale c m p)) (inter_change c d (mono ρ m) (mono ρ n))
    ∙ ap (λ (x : ℤ). (c *ℤ mono ρ m) *ℤ (d *ℤ mono ρ n) +ℤ x) (scale_value ρ c m p)
    ∙ sym (mul_add (c *ℤ mono ρ m) (d *ℤ mono ρ n) (poly ρ p))

mul_poly_value : (ρ : List ℤ) (p q : Poly) → poly ρ (mul_poly p q) ≡ poly ρ p *ℤ poly ρ q
unfolding poly mul_poly
mul_poly_value ρ nil q = sym (zero-*ℤ (poly ρ q))
mul_poly_value ρ (term c m p) q =
    add_poly_value ρ (scale c m q) (mul_poly p q) ∙ ap (λ (x : ℤ). x +ℤ poly ρ (mul_poly p q)) (scale_value ρ c m q)
    ∙ ap (λ (x : ℤ). (c *ℤ mono ρ m) *ℤ poly ρ q +ℤ x) (mul_poly_value ρ p q) ∙ sym (add_mul (c *ℤ mono ρ m) (poly ρ p) (poly ρ q))

norm_value : (ρ : List ℤ) (e : Expr) → poly ρ (norm e) ≡ eval ρ e
unfolding poly norm mono
norm_value ρ (var i) = +ℤ_idr (pos 1 *ℤ (get_or ρ i (pos 0) *ℤ pos 1)) ∙ one_mul (get_or ρ i (pos 0) *ℤ pos 1) ∙ *ℤ_comm (get_or ρ i (pos 0)) (pos 1) ∙ one_mul (get_or ρ i (pos 0))
norm_value ρ (num z) = keep_value ρ z unit nil ∙ +ℤ_idr (z *ℤ pos 1) ∙ *ℤ_comm z (pos 1) ∙ one_mul z
norm_value ρ (neg a) = scale_value ρ (negsuc 0) unit (norm a) ∙ neg_mul (pos 1) (poly ρ (norm a)) ∙ ap neg_ℤ (one_mul (poly ρ (norm a)) ∙ norm_value ρ a)
norm_value ρ (a ⊕ b) = add_poly_value ρ (norm a) (norm b) ∙ ap (λ (x : ℤ). x +ℤ poly ρ (norm b)) (norm_value ρ a) ∙ ap (λ (x : ℤ). eval ρ a +ℤ x) (norm_value ρ b)
norm_value ρ (a ⊗ b) = mul_poly_value ρ (norm a) (norm b) ∙ ap (λ (x : ℤ). x *ℤ poly ρ (norm b)) (norm_value ρ a) ∙ ap (λ (x : ℤ). eval ρ a *ℤ x) (norm_value ρ b)

is_nil_value : (ρ : List ℤ) (p : Poly) → T (is_nil p) → poly ρ p ≡ pos 0
unfolding poly is_nil
is_nil_value ρ nil h = refl
is_nil_value ρ (term c m p) h = absurd h

sub_zero : (a b : ℤ) → a -ℤ b ≡ pos 0 → a ≡ b
sub_zero a b h = sym (+ℤ_idr a) ∙ ap (λ (x : ℤ). a +ℤ x) (sym (+ℤ_comm (neg_ℤ b) b ∙ +ℤ_invr b)) ∙ sym (+ℤ_assoc a (neg_ℤ b) b) ∙ ap (λ (x : ℤ). x +ℤ b) h ∙ +ℤ_idl b

pub ring : Sound
unfolding agree
ring ρ a b h = sub_zero (eval ρ a) (eval ρ b) (sym (norm_value ρ (a ⊖ b)) ∙ is_nil_value ρ (norm (a ⊖ b)) h)
