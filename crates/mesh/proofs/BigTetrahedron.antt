-- Points of the big tetrahedron see each of its faces from within.
use Rattle.std.proofs.Common.{◌≡◌, ℕ, true, [], ◌∷◌, ℤ, pos, ◌+ℤ◌, ◌-ℤ◌, ◌*ℤ◌, ◌≤ℤ◌, ◌<ℤ◌, sym, ◌∙◌, arith}
use Rattle.std.proofs.lemmas.Int.{ints}
use Rattle.algebra.specs.Rings.{Expr, var, num, ◌⊖◌, ◌⊗◌, agree}
use Rattle.algebra.proofs.Rings.{ring}
use Rattle.geometry.specs.Lifts.{Lifted}
use Rattle.geometry.specs.Sides.{det, side}
use Rattle.geometry.proofs.Symbols.{Symbol, symbol, coordinates, side_expr}
use Rattle.mesh.specs.Orientations.{oriented}
use Rattle.mesh.specs.Tetrahedra.{Slot, first, second, third, fourth, face, big}
use Rattle.mesh.proofs.FaceSides.{face_side, faced, side_face}

abbrev pub corner : (x y z : ℕ) → ℤ → Lifted
corner x y z l = record { x = pos x; y = pos y; z = pos z; lift = l }

pub record Corners (P : ℕ → Lifted) : Type 0 where
  pub p0 : P 0 ≡ corner 0 0 0 (P 0).lift
  pub p1 : P 1 ≡ corner 2560 0 0 (P 1).lift
  pub p2 : P 2 ≡ corner 0 2560 0 (P 2).lift
  pub p3 : P 3 ≡ corner 0 0 2560 (P 3).lift

pub record Within (q : Lifted) : Type 0 where
  pub x : pos 0 ≤ℤ q.x
  pub y : pos 0 ≤ℤ q.y
  pub z : pos 0 ≤ℤ q.z
  pub sum : (q.x +ℤ q.y +ℤ q.z) ≤ℤ pos 2560

pub record Inside (q : Lifted) : Type 0 where
  pub x : pos 0 <ℤ q.x
  pub y : pos 0 <ℤ q.y
  pub z : pos 0 <ℤ q.z
  pub sum : (q.x +ℤ q.y +ℤ q.z) <ℤ pos 2560

-- Side of a point and the face that lacks a corner is 2560 squared times this
abbrev height : Slot → Lifted → ℤ
height first q = pos 2560 -ℤ q.x -ℤ q.y -ℤ q.z
height second q = q.x
height third q = q.y
height fourth q = q.z

height_within : (s : Slot) (q : Lifted) → Within q → pos 0 ≤ℤ height s q
height_within first q h = omega (arith, ints)
height_within second q h = h.x
height_within third q h = h.y
height_within fourth q h = h.z

height_inside : (s : Slot) (q : Lifted) → Inside q → pos 0 <ℤ height s q
height_inside first q h = omega (arith, ints)
height_inside second q h = h.x
height_inside third q h = h.y
height_inside fourth q h = h.z

abbrev fixed : (x y z : ℕ) → Symbol
fixed x y z = record { x = num (pos x); y = num (pos y); z = num (pos z); lift = num (pos 0) }

-- side of the one point of a list and three fixed points
abbrev S : (a b c : Symbol) → Expr
S = side_expr (symbol 0)

side_height : (P : ℕ → Lifted) → Corners P → (s : Slot) (q : Lifted) → face_side P q (face big s) ≡ pos 6553600 *ℤ height s q
unfolding agree side det
side_height P c first q = rw (c.p1, c.p2, c.p3) (ring (coordinates (q ∷ [])) (S (fixed 2560 0 0) (fixed 0 2560 0) (fixed 0 0 2560)) (num (pos 6553600) ⊗ (num (pos 2560) ⊖ var 0 ⊖ var 1 ⊖ var 2)) tt)
side_height P c second q = rw (c.p0, c.p3, c.p2) (ring (coordinates (q ∷ [])) (S (fixed 0 0 0) (fixed 0 0 2560) (fixed 0 2560 0)) (num (pos 6553600) ⊗ var 0) tt)
side_height P c third q = rw (c.p0, c.p1, c.p3) (ring (coordinates (q ∷ [])) (S (fixed 0 0 0) (fixed 2560 0 0) (fixed 0 0 2560)) (num (pos 6553600) ⊗ var 1) tt)
side_height P c fourth q = rw (c.p0, c.p2, c.p1) (ring (coordinates (q ∷ [])) (S (fixed 0 0 0) (fixed 0 2560 0) (fixed 2560 0 0)) (num (pos 6553600) ⊗ var 2) tt)

-- the same by the oriented face x y z
module _ (P : ℕ → Lifted) (c : Corners P) (x y z : ℕ) (h : oriented big x y z ≡ true) where
  side_oriented : (q : Lifted) → side q (P x) (P y) (P z) ≡ pos 6553600 *ℤ height (faced big x y z h).slot q
  side_oriented q = sym (side_face P big x y z (faced big x y z h) q) ∙ side_height P c (faced big x y z h).slot q

  pub side_within : (q : Lifted) → Within q → pos 0 ≤ℤ side q (P x) (P y) (P z)
  side_within q i = omega (arith, ints, side_oriented q, height_within (faced big x y z h).slot q i)

  pub side_inside : (p : Lifted) → Inside p → pos 0 <ℤ side p (P x) (P y) (P z)
  side_inside p i = omega (arith, ints, side_oriented p, height_inside (faced big x y z h).slot p i)
