-- Faces by their points: what a tetrahedron that has a face has opposite its remaining point.
use Rattle.std.proofs.Common.{◌≡◌, ℕ, zero, suc, ◌<◌, Bool, true, false, cond, ◌&&◌, ◌||◌, eqb, ltb, sym, refl, ap, ◌∙◌, ⊎_elim, arith}
use Rattle.std.proofs.lemmas.Bool.{eqb-true, ne_eqb, and_parts, and_from, or_cases, both_ways}
use Rattle.std.proofs.lemmas.Bool.Decides.{nat_tests}
use Rattle.mesh.specs.Orientations.{oriented, Proper}
use Rattle.mesh.specs.Records.{is_outer, opposite, slot_at}
use Rattle.mesh.specs.Tetrahedra.{Tet, at, face, Triple, on, has, has_face, big}
use Rattle.mesh.proofs.Slots.{on_other_face}

-- ---- points of a face

-- a test that passes at the three points of a face
abbrev pub at_three : (ℕ → Bool) → Triple → Bool
at_three t f = t f.x && t f.y && t f.z

pub each_point : (t : ℕ → Bool) (f : Triple) → at_three t f ≡ true → (p : ℕ) → on p f ≡ true → t p ≡ true
each_point t f h p e =
    let ends = and_parts (t f.x && t f.y) (t f.z) h in
    let starts = and_parts (t f.x) (t f.y) ends.0 in
    ⊎_elim (λ k. ⊎_elim (to f.x starts.0) (to f.y starts.1) (or_cases (eqb p f.x) (eqb p f.y) k)) (to f.z ends.1) (or_cases (eqb p f.x || eqb p f.y) (eqb p f.z) e)
  where
    to : (q : ℕ) → t q ≡ true → eqb p q ≡ true → t p ≡ true
    to q i j = ap t (eqb-true p q j) ∙ i

pub by_points : (t : ℕ → Bool) (f : Triple) → ((p : ℕ) → on p f ≡ true → t p ≡ true) → at_three t f ≡ true
by_points t f h = and_from (t f.x && t f.y) (t f.z) (and_from (t f.x) (t f.y) (h f.x (grind (arith, nat_tests))) (h f.y (grind (arith, nat_tests)))) (h f.z (grind (arith, nat_tests)))

-- each point of f is on g
abbrev pub Part : Triple → Triple → Type 0
Part f g = (p : ℕ) → on p f ≡ true → on p g ≡ true

pub part_has : (u : Tet) (f g : Triple) → Part f g → has_face g u ≡ true → has_face f u ≡ true
part_has u f g i h = by_points (λ p. has p u) f (λ p e. each_point (λ p. has p u) g h p (i p e))

pub part_outer : (f g : Triple) → Part f g → is_outer g ≡ true → is_outer f ≡ true
part_outer f g i h = by_points (λ p. ltb p 4) f (λ p e. each_point (λ p. ltb p 4) g h p (i p e))

-- ---- the slot opposite a face

pub opposite_four : (u : Tet) (f : Triple) → opposite u f < 4
opposite_four u f = go (on u.a f) (on u.b f) (on u.c f)
  where
    go : (x y z : Bool) → cond x (cond y (cond z 3 2) 1) 0 < 4
    go x y z = grind arith

all_on : (u : Tet) → Proper u → (f : Triple) → on u.a f ≡ true → on u.b f ≡ true → on u.c f ≡ true → on u.d f ≡ false
all_on u h f a b c = grind (arith, nat_tests)

opposite_off : (u : Tet) → Proper u → (f : Triple) → on (at u (slot_at (opposite u f))) f ≡ false
opposite_off u h f = go (on u.a f) (on u.b f) (on u.c f) refl refl refl
  where
    go : (x y z : Bool) → on u.a f ≡ x → on u.b f ≡ y → on u.c f ≡ z → on (at u (slot_at (cond x (cond y (cond z 3 2) 1) 0))) f ≡ false
    go false y z a b c = a
    go true false z a b c = b
    go true true false a b c = c
    go true true true a b c = all_on u h f a b c

-- a face of a tetrahedron is the one that lacks the point opposite it
pub opposite_face : (u : Tet) → Proper u → (f : Triple) → has_face f u ≡ true → Part f (face u (slot_at (opposite u f)))
opposite_face u h f i p e =
    let s = slot_at (opposite u f) in
    on_other_face u s p (each_point (λ p. has p u) f i p e) (ne_eqb p (at u s) (λ k. both_ways (on (at u s) f) (opposite_off u h f) (ap (λ (q : ℕ). on q f) (sym k) ∙ e)))

-- and back again: the slot opposite the same face of the first is the one that we came from
pub opposite_back : (t u : Tet) → Proper t → Proper u → (i : ℕ) → i < 4 → has_face (face t (slot_at i)) u ≡ true → opposite t (face u (slot_at (opposite u (face t (slot_at i))))) ≡ i
opposite_back t u ht hu i l h = go i l (opposite_face u hu (face t (slot_at i)) h)
  where
    g : Triple
    g = face u (slot_at (opposite u (face t (slot_at i))))

    go : (i : ℕ) → i < 4 → Part (face t (slot_at i)) g → opposite t g ≡ i
    go zero l part = rw (all_on (record { a = t.b; b = t.c; c = t.d; d = t.a }) (omega arith) g (part t.b (grind (arith, nat_tests))) (part t.c (grind (arith, nat_tests))) (part t.d (grind (arith, nat_tests))))
    go (suc zero) l part =
        let a = part t.a (grind (arith, nat_tests)) in
        rw (a, all_on (record { a = t.a; b = t.c; c = t.d; d = t.b }) (omega arith) g a (part t.c (grind (arith, nat_tests))) (part t.d (grind (arith, nat_tests))))
    go (suc (suc zero)) l part =
        let a = part t.a (grind (arith, nat_tests)) in
        let b = part t.b (grind (arith, nat_tests)) in
        rw (a, b, all_on (record { a = t.a; b = t.b; c = t.d; d = t.c }) (omega arith) g a b (part t.d (grind (arith, nat_tests))))
    go (suc (suc (suc zero))) l part = rw (part t.a (grind (arith, nat_tests)), part t.b (grind (arith, nat_tests)), part t.c (grind (arith, nat_tests)))
    go (suc (suc (suc (suc i)))) l part = absurd (omega arith)

-- ---- a face of the big tetrahedron is one of three corners

pub oriented_outer : (f : Triple) → oriented big f.x f.y f.z ≡ true → is_outer f ≡ true
oriented_outer f h = grind (arith, nat_tests)

low_has : (p : ℕ) → ltb p 4 ≡ true → has p big ≡ true
low_has p h = grind (arith, nat_tests)

pub outer_has : (f : Triple) → is_outer f ≡ true → has_face f big ≡ true
outer_has f h = by_points (λ p. has p big) f (λ p e. low_has p (each_point (λ p. ltb p 4) f h p e))
