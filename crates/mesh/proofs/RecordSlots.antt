-- The slots of a record that holds a new point, and its faces by their points.
use Rattle.std.proofs.Common.{◌≡◌, ℕ, zero, suc, ◌<◌, Bool, true, false, cond, ◌&&◌, ◌||◌, eqb, List, get_or, refl, ap, ◌∙◌, arith}
use Rattle.std.proofs.lemmas.Bool.{or_right}
use Rattle.mesh.specs.Added.{edge_on}
use Rattle.mesh.specs.Records.{TetRecord, fours, every, point, tet_of, slot_at, face_at}
use Rattle.mesh.specs.Tetrahedra.{Tet, at, face, Triple, on, has, has_face}

pub fours_at : {X : Type 0} (f : ℕ → X) (i : ℕ) (d : X) → i < 4 → get_or (fours f) i d ≡ f i
fours_at f zero d l = refl
fours_at f (suc zero) d l = refl
fours_at f (suc (suc zero)) d l = refl
fours_at f (suc (suc (suc zero))) d l = refl
fours_at f (suc (suc (suc (suc i)))) d l = absurd (omega arith)

pub at_point : (r : TetRecord) (i : ℕ) → i < 4 → at (tet_of r) (slot_at i) ≡ point r i
at_point r zero l = refl
at_point r (suc zero) l = refl
at_point r (suc (suc zero)) l = refl
at_point r (suc (suc (suc zero))) l = refl
at_point r (suc (suc (suc (suc i)))) l = absurd (omega arith)

-- ---- a face point by point

in_order : (x y z : Bool) → (x && y && z) ≡ (z && (y && (x && true)))
in_order x y z = grind arith

swapped : (x y z : Bool) → (x && z && y) ≡ (z && (y && (x && true)))
swapped x y z = grind arith

face_all : (t u : Tet) (j : ℕ) → j < 4 → has_face (face t (slot_at j)) u ≡ every (λ h. eqb h j || has (at t (slot_at h)) u) 4
face_all t u zero l = in_order (has t.b u) (has t.c u) (has t.d u)
face_all t u (suc zero) l = swapped (has t.a u) (has t.c u) (has t.d u)
face_all t u (suc (suc zero)) l = in_order (has t.a u) (has t.b u) (has t.d u)
face_all t u (suc (suc (suc zero))) l = swapped (has t.a u) (has t.b u) (has t.c u)
face_all t u (suc (suc (suc (suc j)))) l = absurd (omega arith)

-- a tetrahedron that has n has a face at n where it has the two points of the edge
pub edge_face : (r : TetRecord) (n s j : ℕ) (bs : List ℕ) (u : Tet) (f : Triple) → j < 4 → has n u ≡ true
    → has (point r 0) u ≡ on (point r 0) f → has (point r 1) u ≡ on (point r 1) f → has (point r 2) u ≡ on (point r 2) f → has (point r 3) u ≡ on (point r 3) f
    → has_face (face_at (record { points = fours (λ h. cond (eqb h s) n (point r h)); neighbours = bs; mark = 0 }) j) u ≡ edge_on r s j f
edge_face r n s j bs u f l new e0 e1 e2 e3 = face_all (tet_of (record { points = fours (λ h. cond (eqb h s) n (point r h)); neighbours = bs; mark = 0 })) u j l
    ∙ rw (one 0 e0, one 1 e1, one 2 e2, one 3 e3)
  where
    one : (h : ℕ) → has (point r h) u ≡ on (point r h) f → (eqb h j || has (cond (eqb h s) n (point r h)) u) ≡ (eqb h s || eqb h j || on (point r h) f)
    one h e = go (eqb h s) (eqb h j)
      where
        go : (x y : Bool) → (y || has (cond x n (point r h)) u) ≡ (x || y || on (point r h) f)
        go true y = or_right y (has n u) new
        go false y = ap (λ (z : Bool). y || z) e
