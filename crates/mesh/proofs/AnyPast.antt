-- The mesh is sound after any past.
use Rattle.std.proofs.Common.{◌≡◌, ℕ, zero, suc, ◌+◌, ◌<◌, true, ◌⊎◌, List, [], ◌∷◌, ◌++◌, length, pos, ◌≤ℤ◌, sym, refl, ap, ◌∙◌, subst, inl, inr, arith, lit≤}
use lib.Signed.{lt_z}
use Rattle.std.specs.List.{AllByRecursion}
use Rattle.std.proofs.ByRecursion.{All-weaker}
use Rattle.std.proofs.lemmas.List.{map_push, length_push, get_or_append_left, get_or_push}
use Rattle.std.proofs.lemmas.Int.{ints}
use Rattle.algebra.specs.Lists.{some}
use Rattle.algebra.proofs.Sums.{sum_z_alike}
use Rattle.geometry.specs.Lifts.{Lifted, Lift, lifted}
use Rattle.geometry.specs.Sides.{side, det}
use Rattle.geometry.specs.Spots.{Spot, bare, corners}
use Rattle.geometry.proofs.Depths.{on_first, on_second, on_third, on_fourth}
use Rattle.mesh.specs.Adding.{conflicts, shell_at, with_site, Adds, off_grid, unpermitted, unadmitted, points_full, place_taken, no_conflict, tetrahedra_full, shell_open, point_vanishes, added}
use Rattle.mesh.specs.Orientations.{WellFormed, Under}
use Rattle.mesh.specs.Past.{Locates, Step, Allowed, nowhere, no_owner, lowest_owner, adds, seals, locates, states}
use Rattle.mesh.specs.Soundness.{whole_side, AddsUp, Refusal, SoundMesh, Law}
use Rattle.mesh.specs.Spaces.{numbered, side_of}
use Rattle.mesh.specs.Surveys.{Grading, Tables, Call, Answer, accepted, refused, refused_over, sealed, found, stated, State, OnGrid, points, count, Eightfold}
use Rattle.mesh.specs.Tetrahedra.{Tet, has, closed, stays, big}
use Rattle.mesh.proofs.Balance.{big_formed, big_balanced}
use Rattle.mesh.proofs.BigTetrahedron.{Within, Inside}
use Rattle.mesh.proofs.FaceSides.{tet_side, tet_depth}
use Rattle.mesh.proofs.FaceToFace.{placed, side_placed, invariant_sound}
use Rattle.mesh.proofs.Growth.{Invariant, depth_same, carry, after_invariant}
use Rattle.mesh.proofs.OneAnswer.{one_answer}
use Rattle.mesh.proofs.SomeAnswer.{some_answer}
use Rattle.mesh.proofs.StatementSums.{statement_sum}

-- ---- a survey as it is created

module _ (L : Lift) where
  abbrev corner : ℕ → Lifted
  corner = placed L corners

  corner_within : (q : ℕ) → q < 4 → Within (corner q)
  corner_within zero l = omega (arith, ints)
  corner_within (suc zero) l = omega (arith, ints)
  corner_within (suc (suc zero)) l = omega (arith, ints)
  corner_within (suc (suc (suc zero))) l = omega (arith, ints)
  corner_within (suc (suc (suc (suc q)))) l = absurd (omega arith)

  corner_clear : (q : ℕ) → q < 4 → tet_depth corner big (corner q) ≤ℤ pos 0
  corner_clear zero l = omega (arith, ints, on_first (corner 0) (corner 1) (corner 2) (corner 3))
  corner_clear (suc zero) l = omega (arith, ints, on_second (corner 0) (corner 1) (corner 2) (corner 3))
  corner_clear (suc (suc zero)) l = omega (arith, ints, on_third (corner 0) (corner 1) (corner 2) (corner 3))
  corner_clear (suc (suc (suc zero))) l = omega (arith, ints, on_fourth (corner 0) (corner 1) (corner 2) (corner 3))
  corner_clear (suc (suc (suc (suc q)))) l = absurd (omega arith)

  corner_member : (q : ℕ) → q < 4 → some (has q) (big ∷ []) ≡ true
  corner_member zero l = refl
  corner_member (suc zero) l = refl
  corner_member (suc (suc zero)) l = refl
  corner_member (suc (suc (suc zero))) l = refl
  corner_member (suc (suc (suc (suc q)))) l = absurd (omega arith)

  corner_side : tet_side corner big ≡ whole_side
  unfolding side det
  corner_side = refl

  pub corner_invariant : Invariant corner 4 (big ∷ [])
  corner_invariant = record {
    four = lit≤ tt;
    corners = record { p0 = refl; p1 = refl; p2 = refl; p3 = refl };
    within = corner_within;
    formed = (big_formed 4 (lit≤ tt), tt);
    balanced = big_balanced;
    fit = (record { positive = omega (arith, ints, corner_side); clear = corner_clear }, tt);
    member = corner_member;
    total = omega (arith, ints, corner_side);
  }

-- ---- adding

on_grid_inside : (L : Lift) (p : Spot) → OnGrid p → Inside (lifted L p)
on_grid_inside L p h = omega (arith, ints)

module _ {R : Type 0} (L : Lift) (s : State R) where
  -- the mesh of the state keeps the invariant over its points
  abbrev pub InOrder : Type 0
  InOrder = Invariant (placed L (points s)) (count s) s.mesh

  module _ (p : Spot) (r : R) where
    pub points_pushed : points (with_site L s p r) ≡ points s ++ p ∷ []
    points_pushed = ap (λ (ps : List Spot). corners ++ ps) (map_push (λ a. a.place) s.sites (record { place = p; reading = r }))

    pub count_more : count (with_site L s p r) ≡ count s + 1
    count_more = ap length points_pushed ∙ length_push (points s) p

    pub numbered_same : (i : ℕ) → i < count s → numbered (points (with_site L s p r)) i ≡ numbered (points s) i
    numbered_same i l = ap (λ (ps : List Spot). numbered ps i) points_pushed ∙ get_or_append_left (points s) (p ∷ []) _ i l

    pub numbered_new : numbered (points (with_site L s p r)) (count s) ≡ p
    numbered_new = ap (λ (ps : List Spot). numbered ps (count s)) points_pushed ∙ get_or_push (points s) p _ (count s) refl

    placed_same : (i : ℕ) → i < count s → placed L (points (with_site L s p r)) i ≡ placed L (points s) i
    placed_same i l = ap (lifted L) (numbered_same i l)

    placed_new : placed L (points (with_site L s p r)) (count s) ≡ lifted L p
    placed_new = ap (lifted L) numbered_new

    -- the test for conflicts reads the points before the site
    told : (t : Tet) → Under (count s) t → conflicts L s p t ≡ lt_z (pos 0) (tet_depth (placed L (points (with_site L s p r))) t (placed L (points (with_site L s p r)) (count s)))
    told t u =
        let P = placed L (points s) in let Q = placed L (points (with_site L s p r)) in
        ap (lt_z (pos 0)) (sym (depth_same P Q (count s) placed_same t u (Q (count s)) ∙ ap (tet_depth P t) placed_new))

    add_keeps_order : InOrder → OnGrid p → some (conflicts L s p) s.mesh ≡ true → closed (shell_at L s p) ≡ true → ((q : ℕ) → q < count s → stays (conflicts L s p) s.mesh q ≡ true)
        → Invariant (placed L (points (with_site L s p r))) (count (with_site L s p r)) (with_site L s p r).mesh
    add_keeps_order g gridded conflicting shut left =
        let Q = placed L (points (with_site L s p r)) in
        rw count_more (after_invariant Q (count s) s.mesh (conflicts L s p) (carry (placed L (points s)) Q (count s) placed_same s.mesh g) (subst Inside (sym placed_new) (on_grid_inside L p gridded))
        (All-weaker (WellFormed (count s)) (λ t. conflicts L s p t ≡ lt_z (pos 0) (tet_depth Q t (Q (count s)))) (λ t k. told t k.under) s.mesh g.formed) conflicting left shut)

-- ---- every call

module _ {R : Type 0} (L : Lift) (G : Grading R) (tables : Tables) where
  -- what makes an add accepted, as far as it is needed here
  record Taken (s : State R) (p : Spot) (r : R) (a : Answer) (e : State R) : Type 0 where
    answer : a ≡ accepted (count s)
    state : e ≡ with_site L s p r
    gridded : OnGrid p
    conflicting : some (conflicts L s p) s.mesh ≡ true
    shut : closed (shell_at L s p) ≡ true
    left : (q : ℕ) → q < count s → stays (conflicts L s p) s.mesh q ≡ true

  outcome : (s : State R) (p : Spot) (r : R) (a : Answer) (e : State R) → Adds L G tables s p r a e → (Refusal a × (e ≡ s)) ⊎ Taken s p r a e
  outcome s p r a e (off_grid h) = inl (tt, refl)
  outcome s p r a e (unpermitted h4 h) = inl (tt, refl)
  outcome s p r a e (unadmitted h4 h5 h) = inl (tt, refl)
  outcome s p r a e (points_full h4 h5 h6 h) = inl (tt, refl)
  outcome s p r a e (place_taken h4 h5 h6 h7 h) = inl (tt, refl)
  outcome s p r a e (no_conflict h4 h5 h6 h7 h8 h) = inl (tt, refl)
  outcome s p r a e (tetrahedra_full h4 h5 h6 h7 h8 h9 h) = inl (tt, refl)
  outcome s p r a e (shell_open h4 h5 h6 h7 h8 h9 h10 h) = inl (tt, refl)
  outcome s p r a e (point_vanishes h4 h5 h6 h7 h8 h9 h10 h11 q l h) = inl (tt, refl)
  outcome s p r a e (added h4 h5 h6 h7 h8 h9 h10 h11 h12) = inr (record { answer = refl; state = refl; gridded = h4; conflicting = h9; shut = h11; left = h12 })

  pub step_keeps_order : (s : State R) (c : Call R) (a : Answer) (e : State R) → Step L G tables s c a e → InOrder L s → InOrder L e
  step_keeps_order s c a e (adds {p} {r} o h) g = elim (outcome s p r a e h) [ inl k ↦ rw k.1 g | inr k ↦ rw k.state (add_keeps_order L s p r g k.gridded k.conflicting k.shut k.left) ]
  step_keeps_order s c a e (seals o) g = g
  step_keeps_order s c a e (locates o h) g = g
  step_keeps_order s c a e (states o) g = g

  pub step_refused : (s : State R) (c : Call R) (a : Answer) (e : State R) → Step L G tables s c a e → Refusal a → e ≡ s
  step_refused s c a e (adds {p} {r} o h) n = elim (outcome s p r a e h) [ inl k ↦ k.1 | inr k ↦ absurd (subst Refusal k.answer n) ]
  step_refused s c a e (seals o) n = absurd n
  step_refused s c a e (locates o h) n = refl
  step_refused s c a e (states o) n = refl

  refusal_adds_up : (a : Answer) → Refusal a → AddsUp a
  refusal_adds_up (accepted n) h = tt
  refusal_adds_up (refused n) h = tt
  refusal_adds_up (refused_over n q) h = tt
  refusal_adds_up sealed h = tt
  refusal_adds_up (found k) h = tt
  refusal_adds_up (stated ls m) h = absurd h

  locate_adds_up : (s : State R) (p : Spot) (a : Answer) → Locates s p a → AddsUp a
  locate_adds_up s p a (nowhere h) = tt
  locate_adds_up s p a (no_owner h k) = tt
  locate_adds_up s p a (lowest_owner h k l o f) = tt

  step_adds_up : Eightfold G → (s : State R) (c : Call R) (a : Answer) (e : State R) → Step L G tables s c a e → InOrder L s → AddsUp a
  step_adds_up k s c a e (adds {p} {r} o h) g = elim (outcome s p r a e h) [ inl k ↦ refusal_adds_up a k.0 | inr k ↦ rw k.answer tt ]
  step_adds_up k s c a e (seals o) g = tt
  step_adds_up k s c a e (locates {x} {y} {z} o h) g = locate_adds_up s (bare x y z) a h
  step_adds_up k s c a e (states o) g = statement_sum G s k (All-weaker (WellFormed (count s)) (Under (count s)) (λ t h. h.under) s.mesh g.formed) ∙ sum_z_alike (side_of (points s)) (tet_side (placed L (points s))) (side_placed L (points s)) s.mesh ∙ g.total

  -- ---- every past

  pub past_keeps_order : (past : List (Call R × Answer)) (s : State R) → Allowed L G tables past s → InOrder L s
  past_keeps_order [] s h = rw h (corner_invariant L)
  past_keeps_order (x ∷ past) s h = step_keeps_order h.0 x.0 x.1 s h.2 (past_keeps_order past h.0 h.1)

  pub past_sound : (past : List (Call R × Answer)) (s : State R) → Allowed L G tables past s → SoundMesh L (points s) s.mesh
  past_sound past s h = invariant_sound L (points s) s.mesh (past_keeps_order past s h)

  pub past_adds_up : Eightfold G → (past : List (Call R × Answer)) (s : State R) → Allowed L G tables past s → AllByRecursion (λ x. AddsUp x.1) past
  past_adds_up k [] s h = tt
  past_adds_up k (x ∷ past) s h = (step_adds_up k h.0 x.0 x.1 s h.2 (past_keeps_order past h.0 h.1), past_adds_up k past h.0 h.1)

pub law : (R : Type 0) → Law R
law R = record { sound = past_sound; statements = past_adds_up; refusals = step_refused; answered = some_answer; determined = one_answer }
