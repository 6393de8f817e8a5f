-- Polynomial identities over the whole numbers, decided by normal forms.
use Rattle.std.specs.Prelude.{◌≡◌, ℕ, Bool, true, false, T, List, ℤ, pos, negsuc, ◌+ℤ◌, ◌*ℤ◌, neg_ℤ, ◌==◌, slice_index_or}
use Prim.Native.Nat.{compare, Ordering}

-- an expression in variables that are numbered from 0
infixl 6 ◌⊕◌
infixl 6 ◌⊖◌
infixl 7 ◌⊗◌
pub data Expr : Type 0 where
  var : ℕ → Expr
  num : ℤ → Expr
  neg : Expr → Expr
  ◌⊕◌ ◌⊗◌ : Expr → Expr → Expr

abbrev pub ◌⊖◌ : Expr → Expr → Expr
a ⊖ b = a ⊕ neg b

-- the value at the list of the variables
abbrev pub eval : List ℤ → Expr → ℤ
eval ρ (var i) = slice_index_or ρ i (pos 0)
eval ρ (num z) = z
eval ρ (neg a) = neg_ℤ (eval ρ a)
eval ρ (a ⊕ b) = eval ρ a +ℤ eval ρ b
eval ρ (a ⊗ b) = eval ρ a *ℤ eval ρ b

-- a product of variables, in order
pub data Mono : Type 0 where
  unit : Mono
  times : ℕ → Mono → Mono

unfoldable pub mono : List ℤ → Mono → ℤ
mono ρ unit = pos 1
mono ρ (times i m) = slice_index_or ρ i (pos 0) *ℤ mono ρ m

-- a sum of terms, in the order of their monomials, with no zero coefficient
pub data Poly : Type 0 where
  nil : Poly
  term : ℤ → Mono → Poly → Poly

unfoldable pub poly : List ℤ → Poly → ℤ
unfolding mono
poly ρ nil = pos 0
poly ρ (term c m p) = c *ℤ mono ρ m +ℤ poly ρ p

-- one variable more, in its place
unfoldable pub insert_var : ℕ → Mono → Mono
insert_var i unit = times i unit
insert_var i (times j m) = elim (compare i j) [ Ordering.lt ↦ times i (times j m) | Ordering.eq ↦ times i (times j m) | Ordering.gt ↦ times j (insert_var i m) ]

unfoldable pub mul_mono : Mono → Mono → Mono
unfolding insert_var
mul_mono unit n = n
mul_mono (times i m) n = insert_var i (mul_mono m n)

-- an order that a factor keeps, so that `scale` keeps a list in order
unfoldable pub compare_mono : Mono → Mono → Ordering
compare_mono unit unit = Ordering.eq
compare_mono unit (times j n) = Ordering.gt
compare_mono (times i m) unit = Ordering.lt
compare_mono (times i m) (times j n) = elim (compare i j) [ Ordering.lt ↦ Ordering.lt | Ordering.eq ↦ compare_mono m n | Ordering.gt ↦ Ordering.gt ]

unfoldable pub is_zero : ℤ → Bool
is_zero (pos n) = n == 0
is_zero (negsuc n) = false

-- a term in front, unless its coefficient is zero
unfoldable pub keep : ℤ → Mono → Poly → Poly
unfolding is_zero
keep c m p = elim (is_zero c) [ true ↦ p | false ↦ term c m p ]

-- one term and what `rest` adds, put into a list
unfoldable pub merge_term : ℤ → Mono → (Poly → Poly) → Poly → Poly
unfolding compare_mono keep
merge_term c m rest nil = term c m (rest nil)
merge_term c m rest (term d n q) = elim (compare_mono m n) [ Ordering.lt ↦ term c m (rest (term d n q)) | Ordering.eq ↦ keep (c +ℤ d) n (rest q) | Ordering.gt ↦ term d n (merge_term c m rest q) ]

unfoldable pub add_poly : Poly → Poly → Poly
unfolding merge_term
add_poly nil q = q
add_poly (term c m p) q = merge_term c m (add_poly p) q

unfoldable pub scale : ℤ → Mono → Poly → Poly
unfolding mul_mono
scale c m nil = nil
scale c m (term d n p) = term (c *ℤ d) (mul_mono m n) (scale c m p)

unfoldable pub mul_poly : Poly → Poly → Poly
unfolding add_poly scale
mul_poly nil q = nil
mul_poly (term c m p) q = add_poly (scale c m q) (mul_poly p q)

unfoldable pub norm : Expr → Poly
unfolding add_poly scale mul_poly keep
norm (var i) = term (pos 1) (times i unit) nil
norm (num z) = keep z unit nil
norm (neg a) = scale (negsuc 0) unit (norm a)
norm (a ⊕ b) = add_poly (norm a) (norm b)
norm (a ⊗ b) = mul_poly (norm a) (norm b)

unfoldable pub is_nil : Poly → Bool
is_nil nil = true
is_nil (term c m p) = false

-- the two expressions have one normal form
unfoldable pub agree : Expr → Expr → Bool
unfolding is_nil norm is_zero keep add_poly scale mul_poly merge_term mul_mono insert_var compare_mono
agree a b = is_nil (norm (a ⊖ b))

-- such expressions have one value, at any values of the variables
abbrev pub Sound : Type 0
Sound = (ρ : List ℤ) (a b : Expr) → T (agree a b) → eval ρ a ≡ eval ρ b
