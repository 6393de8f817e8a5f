-- The largest of some amounts reaches a limit exactly where one of them does, so the class of four readings is the same in every order.
-- Assumes nothing.
use Rattle.std.specs.Prelude.{◌≡◌, ℕ, ◌+◌, ◌*◌, ◌<◌, Bool, true, false, cond, not, ◌&&◌, ◌||◌, T, List, [], ◌∷◌, ◌==◌, ◌≢◌, nat_lt, refl, Float}
use Rattle.std.proofs.Common.{sym, ap, ◌∙◌, subst, mul-pos, arith, ltb→lt}
use Rattle.std.specs.Float.Ieee.{up, down, le, is_nan, of_int}
use Rattle.std.specs.Float.Ieee.Fits.{up_pos, down_pos}
use Rattle.std.specs.Float.Ieee.Positive.{positive, above, above_of_le, le_trans_positive}
use Rattle.std.specs.Float.{float_max, nan, inf, fin}
use Rattle.std.proofs.lemmas.List.Sums.{sum_by-cons}
use Rattle.std.proofs.Math.Bool.{or_comm}
use Rattle.std.proofs.lemmas.Float.{T_from_true}
use Rattle.std.proofs.lemmas.Bool.{ltb-false, or_parts}
use Rattle.std.proofs.lemmas.Bool.Decides.{nat_tests}
use Rattle.grading.specs.declared.assay.Reading.{Reading}
use Rattle.grading.specs.Assay.{limits, counted, reached, assay_class}

-- a test that holds is true
passes : (b : Bool) → T b → b ≡ true
passes true t = refl
passes false t = absurd t

-- ---- a positive limit

reaches_infinity : (l : Float) → T (positive l) → T (le l (inf false))
unfolding le
reaches_infinity nan p = absurd p
reaches_infinity (inf s) p = absurd p
reaches_infinity (fin true m e) p = absurd p
reaches_infinity (fin false m e) p = tt

-- x reaches the limit, and y is no smaller
pub reached_beyond : (l x y : Float) → T (positive l) → T (le l x) → T (le x y) → T (le l y)
unfolding le
reached_beyond l x y p h k = go x y (above_of_le l x p h) h k
  where
    on : (x y : Float) → T (positive x) → T (above y) → T (le l x) → T (le x y) → T (le l y)
    on x nan q a h k = absurd a
    on x (inf true) q a h k = absurd a
    on x (inf false) q a h k = reaches_infinity l p
    on x (fin true n d) q a h k = absurd a
    on x (fin false n d) q a h k = le_trans_positive l x (fin false n d) p q a h k

    top : (y : Float) → T (le (inf false) y) → T (le l y)
    top nan k = absurd k
    top (inf true) k = absurd k
    top (inf false) k = reaches_infinity l p
    top (fin t n d) k = absurd k

    go : (x y : Float) → T (above x) → T (le l x) → T (le x y) → T (le l y)
    go nan y a h k = absurd a
    go (inf true) y a h k = absurd a
    go (inf false) y a h k = top y k
    go (fin true m e) y a h k = absurd a
    go (fin false m e) y a h k = on (fin false m e) y a (above_of_le (fin false m e) y a k) h k

-- how the magnitudes of two floats compare where one is not at most the other
never_below : (a b : ℕ) (x : Bool) → 0 < b → (nat_lt 0 (a + b) || x) ≢ false
never_below a b x h e = let n = ltb-false 0 (a + b) (or_parts _ _ e).0 in omega arith

at_least : (a b : ℕ) → (nat_lt a b || (a == b && true)) ≡ false → T (nat_lt b a || (b == a && true))
at_least a b e = let h : (nat_lt b a || (b == a && true)) ≡ true = grind (arith, nat_tests) in T_from_true _ h

-- a number that is not at most x, which is above zero, is at least x
no_smaller : (x y : Float) → T (above x) → is_nan y ≡ false → le y x ≡ false → T (le x y)
unfolding le is_nan
no_smaller nan y a n h = absurd a
no_smaller (inf true) y a n h = absurd a
no_smaller (inf false) nan a n h = absurd (subst T n tt)
no_smaller (inf false) (inf true) a n h = absurd (subst T h tt)
no_smaller (inf false) (inf false) a n h = tt
no_smaller (inf false) (fin t n d) a k h = absurd (subst T h tt)
no_smaller (fin true m e) y a n h = absurd a
no_smaller (fin false m e) nan a n h = absurd (subst T n tt)
no_smaller (fin false m e) (inf true) a n h = absurd (subst T h tt)
no_smaller (fin false m e) (inf false) a n h = tt
no_smaller (fin false m e) (fin true n d) a k h = absurd (never_below (n * up d * down e) (m * up e * down d) _ (mul-pos (mul-pos (ltb→lt 0 m a) (up_pos e)) (down_pos d)) h)
no_smaller (fin false m e) (fin false n d) a k h = at_least (n * up d * down e) (m * up e * down d) h

-- ---- the largest of two

absorbed : (a b : Bool) → (T b → T a) → a ≡ (a || b)
absorbed true b h = refl
absorbed false true h = absurd (h tt)
absorbed false false h = refl

absorbed_left : (a b : Bool) → (T a → T b) → b ≡ (a || b)
absorbed_left false b h = refl
absorbed_left true true h = refl
absorbed_left true false h = absurd (h tt)

reached_number : (l y : Float) → T (positive l) → T (le l y) → is_nan y ≢ true
unfolding is_nan
reached_number l nan p h n = above_of_le l nan p h
reached_number l (inf s) p h n = subst (λ (b : Bool). T (not b)) n tt
reached_number l (fin s m e) p h n = subst (λ (b : Bool). T (not b)) n tt

pub most_reaches : (l x y : Float) → T (positive l) → le l (float_max x y) ≡ (le l x || le l y)
most_reaches l x y p = go (le y x) (is_nan y) refl refl
  where
    go : (b n : Bool) → le y x ≡ b → is_nan y ≡ n → le l (cond (b || n) x y) ≡ (le l x || le l y)
    go true n h k = absorbed _ _ (λ t. reached_beyond l y x p t (T_from_true _ h))
    go false true h k = absorbed _ _ (λ t. absurd (reached_number l y p t k))
    go false false h k = absorbed_left _ _ (λ t. reached_beyond l x y p t (no_smaller x y (above_of_le l x p t) k h))

-- ---- the largest of four, in every order

Positive : List Float → Type 0
Positive [] = Unit {0}
Positive (l ∷ ls) = T (positive l) × Positive ls

limits_positive : Positive limits
unfolding Positive of_int
limits_positive = (tt, (tt, (tt, (tt, (tt, (tt, (tt, tt)))))))

-- amounts that reach the same limits reach as many
same_reached : (ls : List Float) (v w : Float) → Positive ls → ((l : Float) → T (positive l) → le l v ≡ le l w) → reached ls v ≡ reached ls w
unfolding Positive
same_reached [] v w p h = refl
same_reached (l ∷ ls) v w p h =
    sum_by-cons (λ k. cond (le k v) 1 0) l ls
    ∙ (λ i. cond (h l p.0 i) 1 0 + same_reached ls v w p.1 h i)
    ∙ sym (sum_by-cons (λ k. cond (le k w) 1 0) l ls)

-- a limit is reached by the largest of four where one of them reaches it
four_reach : (l a b c d : Float) → T (positive l) → le l (float_max (float_max (float_max a b) c) d) ≡ (((le l a || le l b) || le l c) || le l d)
four_reach l a b c d p =
    most_reaches l (float_max (float_max a b) c) d p
    ∙ ap (λ t. t || le l d) (most_reaches l (float_max a b) c p ∙ ap (λ t. t || le l c) (most_reaches l a b p))

-- where the four tests come out the same in two orders, so does the class
same_class : (a b c d a' b' c' d' : Float)
    → ((l : Float) → (((le l a || le l b) || le l c) || le l d) ≡ (((le l a' || le l b') || le l c') || le l d'))
    → reached limits (float_max (float_max (float_max a b) c) d) ≡ reached limits (float_max (float_max (float_max a' b') c') d')
same_class a b c d a' b' c' d' h =
    same_reached limits _ _ limits_positive (λ l p. four_reach l a b c d p ∙ h l ∙ sym (four_reach l a' b' c' d' p))

or_swap : (p q r : Bool) → ((p || q) || r) ≡ ((p || r) || q)
or_swap true q r = refl
or_swap false q r = or_comm q r

pub front_swap : (a b c d : Reading) → assay_class b a c d ≡ assay_class a b c d
front_swap a b c d = same_class (counted b) (counted a) (counted c) (counted d) (counted a) (counted b) (counted c) (counted d) (λ l. ap (λ t. (t || le l (counted c)) || le l (counted d)) (or_comm (le l (counted b)) (le l (counted a))))

pub middle_swap : (a b c d : Reading) → assay_class a c b d ≡ assay_class a b c d
middle_swap a b c d = same_class (counted a) (counted c) (counted b) (counted d) (counted a) (counted b) (counted c) (counted d) (λ l. ap (λ t. t || le l (counted d)) (or_swap (le l (counted a)) (le l (counted c)) (le l (counted b))))

pub back_swap : (a b c d : Reading) → assay_class a b d c ≡ assay_class a b c d
back_swap a b c d = same_class (counted a) (counted b) (counted d) (counted c) (counted a) (counted b) (counted c) (counted d) (λ l. or_swap (le l (counted a) || le l (counted b)) (le l (counted d)) (le l (counted c)))
