-- The slots of a tetrahedron: its points, its faces, and a point put in place of another.
use Rattle.std.proofs.Common.{◌≡◌, ℕ, ◌<◌, true, false, eqb, refl, arith}
use Rattle.std.proofs.lemmas.Bool.Decides.{nat_tests}
use Rattle.mesh.specs.Orientations.{Under}
use Rattle.mesh.specs.Tetrahedra.{Tet, Slot, first, second, third, fourth, at, put, face, on, has, has_face}

-- ---- points and faces

pub own_face : (t : Tet) (s : Slot) → has_face (face t s) t ≡ true
own_face t first = grind (arith, nat_tests)
own_face t second = grind (arith, nat_tests)
own_face t third = grind (arith, nat_tests)
own_face t fourth = grind (arith, nat_tests)

-- a point of the tetrahedron other than the one at a slot is on the face that lacks the slot
pub on_other_face : (u : Tet) (s : Slot) (p : ℕ) → has p u ≡ true → eqb p (at u s) ≡ false → on p (face u s) ≡ true
on_other_face u first p h e = grind arith
on_other_face u second p h e = grind arith
on_other_face u third p h e = grind arith
on_other_face u fourth p h e = grind arith

pub put_at : (t : Tet) (s : Slot) → put t s (at t s) ≡ t
put_at t first = refl
put_at t second = refl
put_at t third = refl
put_at t fourth = refl

-- ---- a tetrahedron with a point replaced by n

pub face_put : (t : Tet) (s : Slot) (n : ℕ) → face (put t s n) s ≡ face t s
face_put t first n = refl
face_put t second n = refl
face_put t third n = refl
face_put t fourth n = refl

pub put_new : (t : Tet) (s : Slot) (n : ℕ) → has n (put t s n) ≡ true
put_new t first n = grind (arith, nat_tests)
put_new t second n = grind (arith, nat_tests)
put_new t third n = grind (arith, nat_tests)
put_new t fourth n = grind (arith, nat_tests)

pub put_on : (t : Tet) (s : Slot) (n p : ℕ) → on p (face t s) ≡ true → has p (put t s n) ≡ true
put_on t first n p e = grind arith
put_on t second n p e = grind arith
put_on t third n p e = grind arith
put_on t fourth n p e = grind arith

pub put_has : (t : Tet) (s : Slot) (n p : ℕ) → p < n → has p (put t s n) ≡ on p (face t s)
put_has t first n p l = grind (arith, nat_tests)
put_has t second n p l = grind (arith, nat_tests)
put_has t third n p l = grind (arith, nat_tests)
put_has t fourth n p l = grind (arith, nat_tests)

pub under_lacks : (n : ℕ) (t : Tet) → Under n t → has n t ≡ false
under_lacks n t h = grind (arith, nat_tests)

pub under_at : (n : ℕ) (t : Tet) → Under n t → (s : Slot) → at t s < n
under_at n t h first = h.a
under_at n t h second = h.b
under_at n t h third = h.c
under_at n t h fourth = h.d
