-- Side and Depth of a tetrahedron by one of its faces.
use Rattle.std.proofs.Common.{◌≡◌, ℕ, true, ℤ, sym, refl, ap, ◌∙◌, ⊎_elim}
use Rattle.std.proofs.lemmas.Bool.{or_cases}
use Rattle.geometry.specs.Depths.{depth}
use Rattle.geometry.specs.Lifts.{Lifted}
use Rattle.geometry.specs.Sides.{side}
use Rattle.geometry.proofs.Depths.{depth_turn, depth_second, depth_third, depth_fourth}
use Rattle.geometry.proofs.Sides.{side_turn, side_second, side_third, side_fourth}
use Rattle.mesh.specs.Orientations.{turns, oriented}
use Rattle.mesh.specs.Tetrahedra.{Tet, Slot, first, second, third, fourth, at, put, Triple, face}
use Rattle.mesh.proofs.Likeness.{turns_same}
use Rattle.mesh.proofs.Slots.{put_at}

-- Side and Depth of a tetrahedron over lifted points
abbrev pub tet_side : (ℕ → Lifted) → Tet → ℤ
tet_side P t = side (P t.a) (P t.b) (P t.c) (P t.d)

abbrev pub tet_depth : (ℕ → Lifted) → Tet → Lifted → ℤ
tet_depth P t q = depth (P t.a) (P t.b) (P t.c) (P t.d) q

-- Side and Depth of a point and a face
abbrev pub face_side : (ℕ → Lifted) → Lifted → Triple → ℤ
face_side P w f = side w (P f.x) (P f.y) (P f.z)

abbrev pub face_depth : (ℕ → Lifted) → Lifted → Triple → Lifted → ℤ
face_depth P w f q = depth w (P f.x) (P f.y) (P f.z) q

pub side_put : (P : ℕ → Lifted) (t : Tet) (s : Slot) (n : ℕ) → tet_side P (put t s n) ≡ face_side P (P n) (face t s)
side_put P t first n = refl
side_put P t second n = side_second (P t.a) (P n) (P t.c) (P t.d)
side_put P t third n = side_third (P t.a) (P t.b) (P n) (P t.d)
side_put P t fourth n = side_fourth (P t.a) (P t.b) (P t.c) (P n)

pub depth_put : (P : ℕ → Lifted) (t : Tet) (s : Slot) (n : ℕ) (q : Lifted) → tet_depth P (put t s n) q ≡ face_depth P (P n) (face t s) q
depth_put P t first n q = refl
depth_put P t second n q = depth_second (P t.a) (P n) (P t.c) (P t.d) q
depth_put P t third n q = depth_third (P t.a) (P t.b) (P n) (P t.d) q
depth_put P t fourth n q = depth_fourth (P t.a) (P t.b) (P t.c) (P n) q

pub side_at : (P : ℕ → Lifted) (t : Tet) (s : Slot) → tet_side P t ≡ face_side P (P (at t s)) (face t s)
side_at P t s = ap (tet_side P) (sym (put_at t s)) ∙ side_put P t s (at t s)

pub depth_at : (P : ℕ → Lifted) (t : Tet) (s : Slot) (q : Lifted) → tet_depth P t q ≡ face_depth P (P (at t s)) (face t s) q
depth_at P t s q = ap (λ (t : Tet). tet_depth P t q) (sym (put_at t s)) ∙ depth_put P t s (at t s) q

-- a slot whose face is x y z, in this order or turned
pub record Faced (t : Tet) (x y z : ℕ) : Type 0 where
  pub slot : Slot
  pub turning : turns (face t slot) x y z ≡ true

pub faced : (t : Tet) (x y z : ℕ) → oriented t x y z ≡ true → Faced t x y z
faced t x y z h = ⊎_elim (λ k. ⊎_elim (λ l. ⊎_elim (by first) (by second) (or_cases _ _ l)) (by third) (or_cases _ _ k)) (by fourth) (or_cases _ _ h)
  where
    by : (s : Slot) → turns (face t s) x y z ≡ true → Faced t x y z
    by s e = record { slot = s; turning = e }

-- then Side and Depth are those of the point at the slot and x y z, and so with another point in the slot
module _ (P : ℕ → Lifted) (t : Tet) (x y z : ℕ) (f : Faced t x y z) where
  pub side_face : (w : Lifted) → face_side P w (face t f.slot) ≡ side w (P x) (P y) (P z)
  side_face w = turns_same (λ h. face_side P w h) (λ h. sym (side_turn w (P h.x) (P h.y) (P h.z))) (face t f.slot) x y z f.turning

  pub depth_face : (w q : Lifted) → face_depth P w (face t f.slot) q ≡ depth w (P x) (P y) (P z) q
  depth_face w q = turns_same (λ h. face_depth P w h q) (λ h. sym (depth_turn w (P h.x) (P h.y) (P h.z) q)) (face t f.slot) x y z f.turning

  pub side_faced : tet_side P t ≡ side (P (at t f.slot)) (P x) (P y) (P z)
  side_faced = side_at P t f.slot ∙ side_face (P (at t f.slot))

  pub depth_faced : (q : Lifted) → tet_depth P t q ≡ depth (P (at t f.slot)) (P x) (P y) (P z) q
  depth_faced q = depth_at P t f.slot q ∙ depth_face (P (at t f.slot)) q

  pub side_joined : (n : ℕ) → tet_side P (put t f.slot n) ≡ side (P n) (P x) (P y) (P z)
  side_joined n = side_put P t f.slot n ∙ side_face (P n)

  pub depth_joined : (n : ℕ) (q : Lifted) → tet_depth P (put t f.slot n) q ≡ depth (P n) (P x) (P y) (P z) q
  depth_joined n q = depth_put P t f.slot n q ∙ depth_face (P n) q
