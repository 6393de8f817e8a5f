-- Adding a point inside the big tetrahedron keeps the invariant of a mesh.
use Rattle.std.proofs.Common.{◌≡◌, ℕ, ◌+◌, ◌<◌, ◌≤◌, Bool, true, false, not, ◌||◌, List, map, length, ℤ, pos, ◌≤ℤ◌, ◌<ℤ◌, sym, ◌∙◌, inl, inr, arith, below_more}
use lib.Signed.{lt_z}
use Rattle.std.specs.List.{ContainsAt as Has, AllByRecursion}
use Rattle.std.proofs.ByRecursion.{All-weaker, All-append, All-map, all-has, all_has_itself, all_kept_by, kept_by_passes}
use Rattle.std.proofs.lemmas.Int.{ints}
use Rattle.std.proofs.lemmas.Bool.{not-true, or_cases, or_left, or_right}
use Rattle.algebra.specs.Lists.{some}
use Rattle.algebra.specs.Sums.{sum_z}
use Rattle.algebra.proofs.Lists.{some-append, some-map, some_weaker, some_any, some_kept, all_both}
use Rattle.algebra.proofs.Sums.{sum_z_same, sum_z_alike, sum_z-append, sum_z-map, sum_z_split, sum_z_positive, sum_z_some}
use Rattle.geometry.specs.Depths.{depth}
use Rattle.geometry.specs.Lifts.{Lifted}
use Rattle.geometry.specs.Sides.{side}
use Rattle.geometry.proofs.Depths.{on_first}
use Rattle.geometry.proofs.Sides.{split, side_turn, swap_23}
use Rattle.mesh.specs.Orientations.{Proper, Under, WellFormed, Balanced}
use Rattle.mesh.specs.Soundness.{whole_side}
use Rattle.mesh.specs.Tetrahedra.{Tet, second, third, fourth, slots, at, Triple, face, Facet, triple, has, on, shell, closed, joined, after, stays, kept, dropped}
use Rattle.mesh.proofs.Across.{beyond}
use Rattle.mesh.proofs.Balance.{dropped_once, all_shell, after_formed, after_balanced}
use Rattle.mesh.proofs.BigTetrahedron.{Corners, Within, Inside, side_within, side_inside}
use Rattle.mesh.proofs.Cavity.{visible, empty, empty_outer}
use Rattle.mesh.proofs.FaceSides.{tet_side, tet_depth, face_side, face_depth, side_at, depth_at, side_put, depth_put, faced, side_faced, depth_faced}
use Rattle.mesh.proofs.Shells.{sum_z_facets, shell_sum}
use Rattle.mesh.proofs.Slots.{under_at, put_on, put_new}

-- a tetrahedron of positive Side with which no point below n conflicts
pub record Fit (P : ℕ → Lifted) (n : ℕ) (t : Tet) : Type 0 where
  pub positive : pos 0 <ℤ tet_side P t
  pub clear : (q : ℕ) → q < n → tet_depth P t (P q) ≤ℤ pos 0

-- The invariant of a mesh over the points below n. It says more than soundness where faces are concerned.
pub record Invariant (P : ℕ → Lifted) (n : ℕ) (ts : List Tet) : Type 0 where
  pub four : 4 ≤ n
  pub corners : Corners P
  pub within : (q : ℕ) → q < n → Within (P q)
  pub formed : AllByRecursion (WellFormed n) ts
  pub balanced : Balanced ts
  pub fit : AllByRecursion (Fit P n) ts
  pub member : (q : ℕ) → q < n → some (has q) ts ≡ true
  pub total : sum_z (tet_side P) ts ≡ whole_side

-- ---- the same of points that agree below n

module _ (P Q : ℕ → Lifted) (n : ℕ) (same : (i : ℕ) → i < n → Q i ≡ P i) where
  pub side_same : (t : Tet) → Under n t → tet_side Q t ≡ tet_side P t
  side_same t u = rw (same t.a u.a, same t.b u.b, same t.c u.c, same t.d u.d)

  pub depth_same : (t : Tet) → Under n t → (e : Lifted) → tet_depth Q t e ≡ tet_depth P t e
  depth_same t u e = rw (same t.a u.a, same t.b u.b, same t.c u.c, same t.d u.d)

  pub carry : (ts : List Tet) → Invariant P n ts → Invariant Q n ts
  carry ts g = record {
    four = g.four;
    corners = record { p0 = rw (same 0 (omega (arith, g.four))) g.corners.p0; p1 = rw (same 1 (omega (arith, g.four))) g.corners.p1; p2 = rw (same 2 (omega (arith, g.four))) g.corners.p2; p3 = rw (same 3 (omega (arith, g.four))) g.corners.p3 };
    within = λ q l. rw (same q l) (g.within q l);
    formed = g.formed;
    balanced = g.balanced;
    fit = all_both (WellFormed n) (Fit P n) (Fit Q n) (λ t s f. record {
      positive = rw (side_same t s.under) f.positive;
      clear = λ q l. rw (depth_same t s.under (Q q), same q l) (f.clear q l);
    }) ts g.formed g.fit;
    member = g.member;
    total = sum_z_same (WellFormed n) (tet_side Q) (tet_side P) (λ t s. side_same t s.under) ts g.formed ∙ g.total;
  }

-- Side by the four faces and any point
side_parts : (P : ℕ → Lifted) (n : ℕ) (t : Tet) → tet_side P t ≡ sum_z (λ s. face_side P (P n) (face t s)) slots
side_parts P n t = omega (
  arith,
  ints,
  split (P t.a) (P t.b) (P t.c) (P t.d) (P n),
  side_put P t second n,
  side_put P t third n,
  side_put P t fourth n,
)

above : (z : ℤ) → lt_z (pos 0) z ≡ true → pos 0 <ℤ z
above z h = grind (arith, ints)

not_above : (z : ℤ) → lt_z (pos 0) z ≡ false → z ≤ℤ pos 0
not_above z h = grind (arith, ints)

inside_within : (q : Lifted) → Inside q → Within q
inside_within q h = omega (arith, ints)

-- ---- point n is added

-- what is known of a tetrahedron, and that the test tells whether the point conflicts with it
record Known (P : ℕ → Lifted) (n : ℕ) (conflict : Tet → Bool) (t : Tet) : Type 0 where
  formed : WellFormed n t
  fit : Fit P n t
  told : conflict t ≡ lt_z (pos 0) (tet_depth P t (P n))

-- one that goes and one that stays
record Goes (P : ℕ → Lifted) (n : ℕ) (t : Tet) : Type 0 where
  fit : Fit P n t
  hit : pos 0 <ℤ tet_depth P t (P n)

record Stays (P : ℕ → Lifted) (n : ℕ) (t : Tet) : Type 0 where
  under : Under n t
  fit : Fit P n t
  apart : tet_depth P t (P n) ≤ℤ pos 0

goes : (P : ℕ → Lifted) (n : ℕ) (conflict : Tet → Bool) (t : Tet) → Known P n conflict t → conflict t ≡ true → Goes P n t
goes P n conflict t k e = record { fit = k.fit; hit = above (tet_depth P t (P n)) (sym k.told ∙ e) }

keeps : (P : ℕ → Lifted) (n : ℕ) (conflict : Tet → Bool) (t : Tet) → Known P n conflict t → not (conflict t) ≡ true → Stays P n t
keeps P n conflict t k e = record { under = k.formed.under; fit = k.fit; apart = not_above (tet_depth P t (P n)) (sym k.told ∙ not-true (conflict t) e) }

-- and then no point up to n conflicts with it
fit_kept : (P : ℕ → Lifted) (n : ℕ) (t : Tet) → Stays P n t → Fit P (n + 1) t
fit_kept P n t h = record { positive = h.fit.positive; clear = below_more (λ q. tet_depth P t (P q) ≤ℤ pos 0) n h.fit.clear h.apart }

-- point n and a face make a tetrahedron that is fit
record New (P : ℕ → Lifted) (n : ℕ) (f : Triple) : Type 0 where
  positive : pos 0 <ℤ face_side P (P n) f
  clear : (q : ℕ) → q < n → face_depth P (P n) f (P q) ≤ℤ pos 0

fit_joined : (P : ℕ → Lifted) (n : ℕ) (p : Facet) → New P n (triple p) → Fit P (n + 1) (joined n p)
fit_joined P n p h = record {
  positive = rw (side_put P p.of p.lacks n) h.positive;
  clear = λ q l. rw (depth_put P p.of p.lacks n (P q)) (below_more (λ q. face_depth P (P n) (triple p) (P q) ≤ℤ pos 0) n h.clear (omega (arith, ints, on_first (P n) (P (triple p).x) (P (triple p).y) (P (triple p).z))) q l);
}

-- the faces around what goes
abbrev rim : (Tet → Bool) → List Tet → List Facet
rim conflict ts = shell (dropped conflict ts)

module _ (P : ℕ → Lifted) (n : ℕ) (ts : List Tet) (conflict : Tet → Bool) (g : Invariant P n ts) (inside : Inside (P n)) (told : AllByRecursion (λ t. conflict t ≡ lt_z (pos 0) (tet_depth P t (P n))) ts) where
  known : AllByRecursion (Known P n conflict) ts
  known =
      let both : Tet → Type 0 = λ t. WellFormed n t × Fit P n t in
      all_both both (λ t. conflict t ≡ lt_z (pos 0) (tet_depth P t (P n))) (Known P n conflict) (λ t b e. record { formed = b.0; fit = b.1; told = e }) ts
      (all_both (WellFormed n) (Fit P n) both (λ t s f. (s, f)) ts g.formed g.fit) told

  going : AllByRecursion (Goes P n) (dropped conflict ts)
  going = all_both (Known P n conflict) (λ t. conflict t ≡ true) (Goes P n) (goes P n conflict) (dropped conflict ts) (all_kept_by conflict (Known P n conflict) ts known) (kept_by_passes conflict ts)

  staying : AllByRecursion (Stays P n) (kept conflict ts)
  staying = all_both (Known P n conflict) (λ t. not (conflict t) ≡ true) (Stays P n) (keeps P n conflict) (kept conflict ts) (all_kept_by (λ t. not (conflict t)) (Known P n conflict) ts known) (kept_by_passes (λ t. not (conflict t)) ts)

  propers : AllByRecursion Proper ts
  propers = All-weaker (WellFormed n) Proper (λ t s. s.proper) ts g.formed

  -- a face around what goes, by what lies beyond it
  new : (p : Facet) → Has (rim conflict ts) p → Goes P n p.of → New P n (triple p)
  new p m h = elim (beyond conflict ts propers g.balanced p m) [
    | inl b ↦ let sp = side_inside P g.corners x y z b (P n) inside in record {
      positive = sp;
      clear = λ q l. empty_outer w (P x) (P y) (P z) (P n) (P q) sw dw sp (side_within P g.corners x y z b (P q) (g.within q l)) (dq q l);
    }
    | inr b ↦
        let u = b.0 in
        let k = all-has (Stays P n) (kept conflict ts) u staying b.1 in
        let f = faced u y x z b.2 in
        let e = P (at u f.slot) in
        let se : pos 0 <ℤ side e (P y) (P x) (P z) = omega (arith, ints, k.fit.positive, side_faced P u y x z f) in
        let de : depth e (P y) (P x) (P z) (P n) ≤ℤ pos 0 = omega (arith, ints, k.apart, depth_faced P u y x z f (P n)) in
        let dwe = dq (at u f.slot) (under_at n u k.under f.slot) in
        record {
          positive = visible w (P x) (P y) (P z) e (P n) sw dw de dwe se;
          clear = λ q l. empty w (P x) (P y) (P z) e (P n) (P q) sw dw de dwe se (dq q l) (omega (arith, ints, k.fit.clear q l, depth_faced P u y x z f (P q)));
        }
  ]
    where
      x : ℕ
      x = (triple p).x

      y : ℕ
      y = (triple p).y

      z : ℕ
      z = (triple p).z

      w : Lifted
      w = P (at p.of p.lacks)

      sw : pos 0 <ℤ side w (P x) (P y) (P z)
      sw = omega (arith, ints, h.fit.positive, side_at P p.of p.lacks)

      dw : pos 0 <ℤ depth w (P x) (P y) (P z) (P n)
      dw = omega (arith, ints, h.hit, depth_at P p.of p.lacks (P n))

      dq : (q : ℕ) → q < n → depth w (P x) (P y) (P z) (P q) ≤ℤ pos 0
      dq q l = omega (arith, ints, h.fit.clear q l, depth_at P p.of p.lacks (P q))

  fresh : AllByRecursion (λ p. New P n (triple p)) (rim conflict ts)
  fresh = all_both (Has (rim conflict ts)) (λ p. Goes P n p.of) (λ p. New P n (triple p)) new (rim conflict ts) (all_has_itself (rim conflict ts)) (all_shell (Goes P n) (dropped conflict ts) going)

  after_fit : AllByRecursion (Fit P (n + 1)) (after conflict ts n)
  after_fit = All-append (Fit P (n + 1)) (kept conflict ts) (map (joined n) (rim conflict ts))
      (All-weaker (Stays P n) (Fit P (n + 1)) (fit_kept P n) (kept conflict ts) staying)
      (All-map (Fit P (n + 1)) (joined n) (rim conflict ts) (All-weaker (λ p. New P n (triple p)) (λ p. Fit P (n + 1) (joined n p)) (fit_joined P n) (rim conflict ts) fresh))

  -- ---- the sum

  -- Side over the faces around what goes is Side of what goes
  rim_side : sum_z (λ p. face_side P (P n) (triple p)) (rim conflict ts) ≡ sum_z (tet_side P) (dropped conflict ts)
  rim_side =
      shell_sum (dropped conflict ts) (all_kept_by conflict Proper ts propers) (dropped_once conflict ts g.balanced) (face_side P (P n)) (record { turn = λ f. sym (side_turn (P n) (P f.x) (P f.y) (P f.z)); flip = λ f. swap_23 (P n) (P f.x) (P f.y) (P f.z) })
      ∙ sum_z_facets (face_side P (P n)) (dropped conflict ts)
      ∙ sym (sum_z_alike (tet_side P) (λ t. sum_z (λ s. face_side P (P n) (face t s)) slots) (side_parts P n) (dropped conflict ts))

  after_total : sum_z (tet_side P) (after conflict ts n) ≡ whole_side
  after_total = omega (
    arith,
    ints,
    g.total,
    rim_side,
    sum_z_split (tet_side P) conflict ts,
    sum_z-append (tet_side P) (kept conflict ts) (map (joined n) (rim conflict ts)),
    sum_z-map (tet_side P) (joined n) (rim conflict ts),
    sum_z_alike (λ p. tet_side P (joined n p)) (λ p. face_side P (P n) (triple p)) (λ p. side_put P p.of p.lacks n) (rim conflict ts),
  )

  -- ---- each point has a tetrahedron

  module _ (clash : some conflict ts ≡ true) (left : (q : ℕ) → q < n → stays conflict ts q ≡ true) where
    -- there is a face around what goes, since what goes has volume
    rim_some : 1 ≤ length (rim conflict ts)
    rim_some = sum_z_some (λ p. face_side P (P n) (triple p)) (rim conflict ts)
        (rw rim_side (sum_z_positive (tet_side P) (dropped conflict ts) (All-weaker (Goes P n) (λ t. pos 0 <ℤ tet_side P t) (λ t h. h.fit.positive) (dropped conflict ts) going) (some_kept conflict ts clash)))

    after_some : (q : ℕ) → (some (has q) (kept conflict ts) || some (λ p. has q (joined n p)) (rim conflict ts)) ≡ true → some (has q) (after conflict ts n) ≡ true
    after_some q h = rw (some-append (has q) (kept conflict ts) (map (joined n) (rim conflict ts)), some-map (has q) (joined n) (rim conflict ts)) h

    old_member : (q : ℕ) → q < n → some (has q) (after conflict ts n) ≡ true
    old_member q l = after_some q (elim (or_cases (some (has q) (kept conflict ts)) (some (λ p. on q (triple p)) (rim conflict ts)) (left q l)) [
      | inl e ↦ or_left (some (has q) (kept conflict ts)) _ e
      | inr e ↦ or_right (some (has q) (kept conflict ts)) _ (some_weaker (λ p. on q (triple p)) (λ p. has q (joined n p)) (λ p k. put_on p.of p.lacks n q k) (rim conflict ts) e)
    ])

    new_member : some (has n) (after conflict ts n) ≡ true
    new_member = after_some n (or_right (some (has n) (kept conflict ts)) _ (some_any (λ p. has n (joined n p)) (λ p. put_new p.of p.lacks n) (rim conflict ts) rim_some))

    pub after_invariant : closed (shell (dropped conflict ts)) ≡ true → Invariant P (n + 1) (after conflict ts n)
    after_invariant shut = record {
      four = omega (arith, g.four);
      corners = g.corners;
      within = below_more (λ q. Within (P q)) n g.within (inside_within (P n) inside);
      formed = after_formed conflict ts n g.formed;
      balanced = after_balanced conflict ts n g.formed g.four g.balanced shut;
      fit = after_fit;
      member = below_more (λ q. some (has q) (after conflict ts n) ≡ true) n old_member new_member;
      total = after_total;
    }
