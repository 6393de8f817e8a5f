-- What Depth says where each point's lift is the square of its distance from the origin: whether a point lies within the sphere
-- through the four points of a tetrahedron.
use Rattle.std.proofs.Common.{◌≡◌, ℕ, Bool, true, false, T, ◌↔◌, [], ◌∷◌, ℤ, pos, ◌+ℤ◌, ◌-ℤ◌, ◌*ℤ◌, neg_ℤ, ◌<ℤ◌, refl, arith}
use lib.IntN.{*ℤ-zero}
use Rattle.std.proofs.lemmas.Int.{ints}
use Rattle.algebra.specs.Rings.{Expr, var, num, neg, ◌⊕◌, ◌⊖◌, ◌⊗◌, agree}
use Rattle.algebra.proofs.Rings.{ring}
use Rattle.algebra.proofs.Signs.{mul_positive, cut_positive}
use Rattle.geometry.specs.Circumspheres.{apart, way_x, way_y, way_z, Centre, from_centre, distance, Circumscribed, Circumsphere, NearerInside}
use Rattle.geometry.specs.Conflicts.{conflict_by}
use Rattle.geometry.specs.Depths.{depth}
use Rattle.geometry.specs.Lifts.{Lifted, lifted}
use Rattle.geometry.specs.PlainLift.{plain}
use Rattle.geometry.specs.Sides.{det, side}
use Rattle.geometry.specs.Spots.{Spot}
use Rattle.geometry.proofs.Depths.{on_second, on_third, on_fourth}
use Rattle.geometry.proofs.Symbols.{Symbol, symbol, coordinates, det_expr, side_expr, depth_expr}

-- the lift is the square of the distance from the origin
abbrev pub Plain : Lifted → Type 0
Plain v = v.lift ≡ v.x *ℤ v.x +ℤ v.y *ℤ v.y +ℤ v.z *ℤ v.z

-- ---- as expressions

abbrev square : Expr → Expr
square e = e ⊗ e

-- a point with a plain lift, in the list of all coordinates
abbrev flat : ℕ → Symbol
flat n = record { x = (symbol n).x; y = (symbol n).y; z = (symbol n).z; lift = square (symbol n).x ⊕ square (symbol n).y ⊕ square (symbol n).z }

abbrev apart_expr : (a b : Symbol) → Expr
apart_expr a b = square (b.x ⊖ a.x) ⊕ square (b.y ⊖ a.y) ⊕ square (b.z ⊖ a.z)

-- the way from a to the centre, along the way from a to e
abbrev way_expr : (a b c d e : Symbol) → Expr
way_expr a b c d e =
    (e.x ⊖ a.x) ⊗ det_expr (apart_expr a b) (b.y ⊖ a.y) (b.z ⊖ a.z) (apart_expr a c) (c.y ⊖ a.y) (c.z ⊖ a.z) (apart_expr a d) (d.y ⊖ a.y) (d.z ⊖ a.z)
    ⊕ (e.y ⊖ a.y) ⊗ det_expr (b.x ⊖ a.x) (apart_expr a b) (b.z ⊖ a.z) (c.x ⊖ a.x) (apart_expr a c) (c.z ⊖ a.z) (d.x ⊖ a.x) (apart_expr a d) (d.z ⊖ a.z)
    ⊕ (e.z ⊖ a.z) ⊗ det_expr (b.x ⊖ a.x) (b.y ⊖ a.y) (apart_expr a b) (c.x ⊖ a.x) (c.y ⊖ a.y) (apart_expr a c) (d.x ⊖ a.x) (d.y ⊖ a.y) (apart_expr a d)

abbrev from_expr : (s i j k : Expr) (a v : Symbol) → Expr
from_expr s i j k a v =
    square (num (pos 2) ⊗ s ⊗ v.x ⊖ (num (pos 2) ⊗ s ⊗ a.x ⊕ i))
    ⊕ square (num (pos 2) ⊗ s ⊗ v.y ⊖ (num (pos 2) ⊗ s ⊗ a.y ⊕ j))
    ⊕ square (num (pos 2) ⊗ s ⊗ v.z ⊖ (num (pos 2) ⊗ s ⊗ a.z ⊕ k))

-- ---- the identities

-- Depth by the way to the centre
depth_way : (a b c d e : Lifted) → Plain a → Plain b → Plain c → Plain d → Plain e
    → depth a b c d e ≡ (e.x -ℤ a.x) *ℤ way_x a b c d +ℤ (e.y -ℤ a.y) *ℤ way_y a b c d +ℤ (e.z -ℤ a.z) *ℤ way_z a b c d -ℤ side a b c d *ℤ apart a e
unfolding agree depth side det
depth_way a b c d e pa pb pc pd pe = rw (pa, pb, pc, pd, pe) (ring (coordinates (a ∷ b ∷ c ∷ d ∷ e ∷ []))
    (depth_expr (flat 0) (flat 1) (flat 2) (flat 3) (flat 4))
    (way_expr (symbol 0) (symbol 1) (symbol 2) (symbol 3) (symbol 4) ⊖ side_expr (symbol 0) (symbol 1) (symbol 2) (symbol 3) ⊗ apart_expr (symbol 0) (symbol 4)) tt)

-- 2 s times the centre, which lies (i, j, k) from 2 s a
abbrev middle : (s i j k : ℤ) (a : Lifted) → Centre
middle s i j k a = record { x = pos 2 *ℤ s *ℤ a.x +ℤ i; y = pos 2 *ℤ s *ℤ a.y +ℤ j; z = pos 2 *ℤ s *ℤ a.z +ℤ k }

-- how much farther from it e is than a
farther : (s i j k : ℤ) (a e : Lifted)
    → from_centre s (middle s i j k a) e -ℤ from_centre s (middle s i j k a) a ≡ neg_ℤ (pos 4 *ℤ (s *ℤ ((e.x -ℤ a.x) *ℤ i +ℤ (e.y -ℤ a.y) *ℤ j +ℤ (e.z -ℤ a.z) *ℤ k -ℤ s *ℤ apart a e)))
unfolding agree
farther s i j k a e =
    let S = var 0 in let I = var 1 in let J = var 2 in let K = var 3 in let A = symbol 1 in let E = symbol 2 in
    ring (s ∷ i ∷ j ∷ k ∷ coordinates (a ∷ e ∷ []))
    (from_expr S I J K A E ⊖ from_expr S I J K A A)
    (neg (num (pos 4) ⊗ (S ⊗ ((E.x ⊖ A.x) ⊗ I ⊕ (E.y ⊖ A.y) ⊗ J ⊕ (E.z ⊖ A.z) ⊗ K ⊖ S ⊗ apart_expr A E)))) tt

-- so Depth says how much nearer it is
nearer : (a b c d e : Lifted) → Plain a → Plain b → Plain c → Plain d → Plain e
    → distance a b c d e -ℤ distance a b c d a ≡ neg_ℤ (pos 4 *ℤ (side a b c d *ℤ depth a b c d e))
unfolding distance
nearer a b c d e pa pb pc pd pe = rw (depth_way a b c d e pa pb pc pd pe) (farther (side a b c d) (way_x a b c d) (way_y a b c d) (way_z a b c d) a e)

equal_at : (m n s d : ℤ) → m -ℤ n ≡ neg_ℤ (pos 4 *ℤ (s *ℤ d)) → d ≡ pos 0 → m ≡ n
equal_at m n s d e z = omega (arith, ints, rw (z, *ℤ-zero s) at e)

less_at : (m n s d : ℤ) → m -ℤ n ≡ neg_ℤ (pos 4 *ℤ (s *ℤ d)) → pos 0 <ℤ s → pos 0 <ℤ d ↔ m <ℤ n
less_at m n s d e h = (λ k. omega (arith, ints, mul_positive s d h k), λ k. cut_positive s d h (omega (arith, ints)))

-- ---- what they come to

pub circumscribed : (a b c d : Lifted) → Plain a → Plain b → Plain c → Plain d → Circumscribed a b c d
circumscribed a b c d pa pb pc pd = record {
  second = at b (nearer a b c d b pa pb pc pd pb) (on_second a b c d);
  third = at c (nearer a b c d c pa pb pc pd pc) (on_third a b c d);
  fourth = at d (nearer a b c d d pa pb pc pd pd) (on_fourth a b c d);
}
  where
    at : (e : Lifted) → distance a b c d e -ℤ distance a b c d a ≡ neg_ℤ (pos 4 *ℤ (side a b c d *ℤ depth a b c d e)) → depth a b c d e ≡ pos 0 → distance a b c d e ≡ distance a b c d a
    at e = equal_at (distance a b c d e) (distance a b c d a) (side a b c d) (depth a b c d e)

pub inside : (a b c d e : Lifted) → Plain a → Plain b → Plain c → Plain d → Plain e → pos 0 <ℤ side a b c d → pos 0 <ℤ depth a b c d e ↔ distance a b c d e <ℤ distance a b c d a
inside a b c d e pa pb pc pd pe h = less_at (distance a b c d e) (distance a b c d a) (side a b c d) (depth a b c d e) (nearer a b c d e pa pb pc pd pe) h

-- ---- the same of spots, by the plain lift

same_test : (p q : Bool) → (T p → T q) → (T q → T p) → p ≡ q
same_test true true to from = refl
same_test true false to from = absurd (to tt)
same_test false true to from = absurd (from tt)
same_test false false to from = refl

pub circumsphere : (a b c d : Spot) → Circumsphere a b c d
unfolding distance side
circumsphere a b c d =
    let k = circumscribed (lifted plain a) (lifted plain b) (lifted plain c) (lifted plain d) refl refl refl refl in
    record { second = k.second; third = k.third; fourth = k.fourth }

pub nearer_inside : (a b c d e : Spot) → NearerInside a b c d e (conflict_by plain a b c d e)
unfolding distance side
nearer_inside a b c d e h =
    let k = inside (lifted plain a) (lifted plain b) (lifted plain c) (lifted plain d) (lifted plain e) refl refl refl refl refl h in
    same_test _ _ (λ t. (k.0 (record { lt = t })).lt) (λ t. (k.1 (record { lt = t })).lt)
