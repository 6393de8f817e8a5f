-- A mesh that keeps the invariant is sound: its tetrahedra meet face to face.
use Rattle.std.proofs.Common.{◌≡◌, ℕ, ◌<◌, true, false, List, length, get_or, ℤ, pos, ◌≤ℤ◌, ◌<ℤ◌, sym, ◌∙◌, inl, inr, arith}
use lib.Signed.{lt_z}
use Rattle.std.specs.List.{AllByRecursion}
use Rattle.std.proofs.ByRecursion.{All-weaker, All-get_or, All-from_get_or}
use Rattle.std.proofs.lemmas.Int.{ints}
use Rattle.std.proofs.lemmas.Bool.Decides.{nat_tests}
use Rattle.algebra.proofs.Sums.{sum_z_alike}
use Rattle.geometry.specs.Lifts.{Lift, Lifted, lifted}
use Rattle.geometry.specs.Spots.{Spot, bare}
use Rattle.geometry.proofs.Sides.{side_ground, swap_23}
use Rattle.mesh.specs.Orientations.{Proper, WellFormed, turns, oriented}
use Rattle.mesh.specs.Soundness.{OuterFace, SharedFace, SoundMesh}
use Rattle.mesh.specs.Spaces.{numbered, side_of, conflicting}
use Rattle.mesh.specs.Tetrahedra.{Tet, Slot, first, second, third, fourth, at, put, face, on, big}
use Rattle.mesh.proofs.Across.{Outer, Inner, outer_or_inner}
use Rattle.mesh.proofs.FaceSides.{tet_side, tet_depth, side_put, faced, side_faced}
use Rattle.mesh.proofs.Growth.{Fit, Invariant}
use Rattle.mesh.proofs.Likeness.{tri}

-- the points of a face of the big tetrahedron are corners
corner_face : (x y z : ℕ) → oriented big x y z ≡ true → (x < 4) × (y < 4) × (z < 4)
corner_face x y z h = grind (arith, nat_tests)

-- the point of a slot is not one of the face that lacks it
off_face : (t : Tet) → Proper t → (s : Slot) (x y z : ℕ) → turns (face t s) y x z ≡ true → on (at t s) (tri x y z) ≡ false
off_face t h first x y z e = grind (arith, nat_tests)
off_face t h second x y z e = grind (arith, nat_tests)
off_face t h third x y z e = grind (arith, nat_tests)
off_face t h fourth x y z e = grind (arith, nat_tests)

not_positive : (z : ℤ) → z ≤ℤ pos 0 → lt_z (pos 0) z ≡ false
not_positive z h = grind (arith, ints)

module _ (L : Lift) (ps : List Spot) where
  -- the points, lifted
  abbrev pub placed : ℕ → Lifted
  placed i = lifted L (numbered ps i)

  pub side_placed : (t : Tet) → side_of ps t ≡ tet_side placed t
  side_placed t = sym (side_ground L (numbered ps t.a) (numbered ps t.b) (numbered ps t.c) (numbered ps t.d))

  module _ (ts : List Tet) (g : Invariant placed (length ps) ts) where
    propers : AllByRecursion Proper ts
    propers = All-weaker (WellFormed (length ps)) Proper (λ t s. s.proper) ts g.formed

    outer : (r : ℕ) (s : Slot) → Outer ts r (face (get_or ts r big) s) → OuterFace L ps ts r s
    outer r s o = let f = face (get_or ts r big) s in let c = corner_face f.x f.y f.z o.outer in record { x = c.0; y = c.1; z = c.2; only = o.only }

    shared : (r : ℕ) (s : Slot) → Inner ts r (face (get_or ts r big) s) → SharedFace L ps ts r s
    shared r s i =
        let t = get_or ts r big in
        let f = face t s in
        let u = get_or ts i.at big in
        let h = faced u f.y f.x f.z i.against in
        let e = placed (at u h.slot) in
        record {
          other = i.at;
          used = i.within;
          apart = i.other;
          shares = i.shares;
          only = i.only;
          fourth = h.slot;
          off = off_face u (All-get_or Proper ts i.at big i.within propers) h.slot f.x f.y f.z h.turning;
          opposite = omega (
            arith,
            ints,
            side_placed (put t s (at u h.slot)),
            side_put placed t s (at u h.slot),
            swap_23 e (placed f.x) (placed f.y) (placed f.z),
            side_faced placed u f.y f.x f.z h,
            (All-get_or (Fit placed (length ps)) ts i.at big i.within g.fit).positive,
          );
        }

    pub invariant_sound : SoundMesh L ps ts
    invariant_sound = record {
      positive = All-weaker (Fit placed (length ps)) (λ t. pos 0 <ℤ side_of ps t) (λ t f. rw (side_placed t) f.positive) ts g.fit;
      faces = λ r l s. elim (outer_or_inner ts propers g.balanced r l s) [ inl o ↦ inl (outer r s o) | inr i ↦ inr (shared r s i) ];
      clear = All-weaker (Fit placed (length ps)) (λ t. AllByRecursion (λ e. conflicting ps L e t ≡ false) ps) (λ t f. All-from_get_or (λ e. conflicting ps L e t ≡ false) ps (bare 0 0 0) (λ q l. not_positive (tet_depth placed t (placed q)) (f.clear q l))) ts g.fit;
      member = g.member;
      total = sum_z_alike (side_of ps) (tet_side placed) side_placed ts ∙ g.total;
    }
