-- Whole records that read as a sound, balanced mesh are sound themselves: across each face they name the one other record that has it.
use Rattle.std.proofs.Common.{◌≡◌, ℕ, suc, ◌<◌, Bool, true, false, ◌≢◌, ◌⊎◌, List, [], ◌∷◌, length, get_or, pos, ◌<ℤ◌, sym, refl, ap, ◌∙◌, subst, inl, inr, arith}
use Rattle.std.specs.List.{AllByRecursion}
use Rattle.std.proofs.ByRecursion.{All-get_or}
use Rattle.std.proofs.lemmas.List.{length-map}
use Rattle.std.proofs.lemmas.Bool.{both_ways, cases_Bool, cases_eq, or_cases}
use Rattle.std.proofs.lemmas.Bool.Decides.{nat_tests}
use Rattle.algebra.specs.Lists.{some}
use Rattle.algebra.proofs.Lists.{some-map}
use Rattle.geometry.specs.Lifts.{Lift}
use Rattle.geometry.specs.Spots.{Spot, bare}
use Rattle.mesh.specs.Orientations.{Balanced}
use Rattle.mesh.specs.Records.{Whole, blank, face_at, is_outer, mesh_of, neighbour, opposite, point, row, slot_at, tet_of}
use Rattle.mesh.specs.Soundness.{SoundMesh}
use Rattle.mesh.specs.Spaces.{conflicting, numbered, side_of}
use Rattle.mesh.specs.Tetrahedra.{Slot, Tet, Triple, at, big, face, first, fourth, has, has_face, on, put, second, third}
use Rattle.mesh.specs.declared.record.TetRecord.{TetRecord}
use Rattle.mesh.proofs.FacePoints.{opposite_four}
use Rattle.mesh.proofs.RecordSlots.{at_point}
use Rattle.mesh.proofs.Sharing.{Shares, all_formed, shares_rows, tet_row}
use Rattle.mesh.proofs.Shells.{Distinct, distinct}
use Rattle.survey.specs.Upheld.{OuterFace, SharedFace, Sound}

-- ---- the fourth point

-- three different points do not stand among two
crowded : (x y z p q : ℕ) → x ≢ y → x ≢ z → y ≢ z → (x ≡ p) ⊎ (x ≡ q) → (y ≡ p) ⊎ (y ≡ q) → (z ≡ p) ⊎ (z ≡ q) → ⊥
crowded x y z p q xy xz yz ex ey ez = grind arith

-- a point that is on a face is not one that is off it
apart : (p q : ℕ) (f : Triple) → on p f ≡ true → on q f ≡ false → p ≢ q
apart p q f a b e = both_ways (on q f) b (ap (λ (n : ℕ). on n f) (sym e) ∙ a)

own_points : (f : Triple) → (on f.x f ≡ true) × (on f.y f ≡ true) × (on f.z f ≡ true)
own_points f = (grind (arith, nat_tests), grind (arith, nat_tests), grind (arith, nat_tests))

module _ (u : Tet) (f : Triple) (d : Distinct f) (h : has_face f u ≡ true) where
  -- two slots whose points are both off the face have one point
  one_off : (a b p q : ℕ) → ((x : ℕ) → has x u ≡ true → (x ≡ a) ⊎ ((x ≡ b) ⊎ ((x ≡ p) ⊎ (x ≡ q)))) → on a f ≡ false → on b f ≡ false → ⊥
  one_off a b p q from oa ob =
      let o = own_points f in
      let hx : has f.x u ≡ true = grind (arith, nat_tests) in
      let hy : has f.y u ≡ true = grind (arith, nat_tests) in
      let hz : has f.z u ≡ true = grind (arith, nat_tests) in
      crowded f.x f.y f.z p q d.xy d.xz d.yz (left f.x o.0 (from f.x hx)) (left f.y o.1 (from f.y hy)) (left f.z o.2 (from f.z hz))
    where
      left : (x : ℕ) → on x f ≡ true → (x ≡ a) ⊎ ((x ≡ b) ⊎ ((x ≡ p) ⊎ (x ≡ q))) → (x ≡ p) ⊎ (x ≡ q)
      left x i (inl e) = absurd (apart x a f i oa e)
      left x i (inr (inl e)) = absurd (apart x b f i ob e)
      left x i (inr (inr e)) = e

  -- a point of the tetrahedron that is off its face is the one opposite the face
  fourth_point : (q : Slot) → on (at u q) f ≡ false → at u q ≡ at u (slot_at (opposite u f))
  fourth_point first e = rw e refl
  fourth_point second e = elim (cases_Bool (on u.a f)) [
    | inl a ↦ rw (a, e) refl
    | inr a ↦ absurd (one_off u.a u.b u.c u.d (λ x i. grind (arith, nat_tests)) a e)
  ]
  fourth_point third e = elim (cases_Bool (on u.a f)) [
    | inr a ↦ absurd (one_off u.a u.c u.b u.d (λ x i. grind (arith, nat_tests)) a e)
    | inl a ↦ elim (cases_Bool (on u.b f)) [
      | inr b ↦ absurd (one_off u.b u.c u.a u.d (λ x i. grind (arith, nat_tests)) b e)
      | inl b ↦ rw (a, b, e) refl
    ]
  ]
  fourth_point fourth e = elim (cases_Bool (on u.a f)) [
    | inr a ↦ absurd (one_off u.a u.d u.b u.c (λ x i. grind (arith, nat_tests)) a e)
    | inl a ↦ elim (cases_Bool (on u.b f)) [
      | inr b ↦ absurd (one_off u.b u.d u.a u.c (λ x i. grind (arith, nat_tests)) b e)
      | inl b ↦ elim (cases_Bool (on u.c f)) [
        | inr c ↦ absurd (one_off u.c u.d u.a u.b (λ x i. grind (arith, nat_tests)) c e)
        | inl c ↦ rw (a, b, c) refl
      ]
    ]
  ]

-- ---- records

some_at : {X : Type 0} (p : X → Bool) (d : X) (xs : List X) → some p xs ≡ true → (k : ℕ) × (k < length xs) × (p (get_or xs k d) ≡ true)
some_at p d [] h = absurd (both_ways false refl h)
some_at p d (x ∷ xs) h = elim (or_cases (p x) (some p xs) h) [
  | inl e ↦ (0, omega arith, e)
  | inr e ↦ (let r = some_at p d xs e in (suc r.0, omega (arith, r.1), r.2))
]

outer_corners : (f : Triple) → f.x < 4 → f.y < 4 → f.z < 4 → is_outer f ≡ true
outer_corners f x y z = grind (arith, nat_tests)

module _ (L : Lift) (ps : List Spot) (n : ℕ) (rs : List TetRecord) (w : Whole n rs) (b : Balanced (mesh_of rs)) (m : SoundMesh L ps (mesh_of rs)) where
  shared : Shares (length rs) (λ k. tet_of (row rs k))
  shared = shares_rows n rs (all_formed n rs w) b

  many : length (mesh_of rs) ≡ length rs
  many = length-map rs tet_of

  -- the sound mesh, read record by record
  abbrev tet : ℕ → Tet
  tet k = get_or (mesh_of rs) k big

  opposed : (k i : ℕ) → k < length rs → i < 4 → is_outer (face_at (row rs k) i) ≡ false
      → side_of ps (put (tet_of (row rs k)) (slot_at i) (point (row rs (neighbour (row rs k) i)) (opposite (tet_of (row rs (neighbour (row rs k) i))) (face_at (row rs k) i)))) <ℤ pos 0
  opposed k i l j e = elim (m.faces k (omega (arith, l, many)) (slot_at i)) [
    | inl o ↦ absurd (both_ways (is_outer (face_at (row rs k) i)) e
        (subst (λ (t : Tet). is_outer (face t (slot_at i)) ≡ true) here (outer_corners (face (tet k) (slot_at i)) o.x o.y o.z)))
    | inr o ↦
        (let link = (w k l).inner i j e in
        let other : neighbour (row rs k) i ≡ o.other =
        o.only (neighbour (row rs k) i) (omega (arith, link.within, many)) link.other
        (subst (λ (t : Tet). has_face (face t (slot_at i)) (tet (neighbour (row rs k) i)) ≡ true) (sym here)
        (subst (λ (t : Tet). has_face (face_at (row rs k) i) t ≡ true) (sym (tet_row rs (neighbour (row rs k) i) link.within)) link.shares)) in
        let u = tet_of (row rs (neighbour (row rs k) i)) in
        let there : tet o.other ≡ u = ap tet (sym other) ∙ tet_row rs (neighbour (row rs k) i) link.within in
        let off : on (at u o.fourth) (face_at (row rs k) i) ≡ false =
        subst (λ (t : Tet). on (at u o.fourth) (face t (slot_at i)) ≡ false) here
        (subst (λ (v : Tet). on (at v o.fourth) (face (tet k) (slot_at i)) ≡ false) there o.off) in
        let far : side_of ps (put (tet_of (row rs k)) (slot_at i) (at u o.fourth)) <ℤ pos 0 =
        subst (λ (t : Tet). side_of ps (put t (slot_at i) (at u o.fourth)) <ℤ pos 0) here
        (subst (λ (v : Tet). side_of ps (put (tet k) (slot_at i) (at v o.fourth)) <ℤ pos 0) there o.opposite) in
        subst (λ (q : ℕ). side_of ps (put (tet_of (row rs k)) (slot_at i) q) <ℤ pos 0)
        (fourth_point u (face_at (row rs k) i) (distinct (tet_of (row rs k)) (w k l).formed.proper (slot_at i)) link.shares o.fourth off
        ∙ at_point (row rs (neighbour (row rs k) i)) (opposite u (face_at (row rs k) i)) (opposite_four u (face_at (row rs k) i)))
        far)
  ]
    where
      here : tet k ≡ tet_of (row rs k)
      here = tet_row rs k l

  faces : (k i : ℕ) → k < length rs → i < 4 → OuterFace L ps rs k i ⊎ SharedFace L ps rs k i
  faces k i l j = elim (cases_Bool (is_outer (face_at (row rs k) i))) [
    | inl e ↦ inl (record { corners = e; alone = (w k l).outer i j e; only = λ q u h. shared.sole k q (slot_at i) l u e h })
    | inr e ↦
        (let link = (w k l).inner i j e in
        inr (record {
          inner = e;
          used = link.within;
          apart = link.other;
          shares = link.shares;
          only = λ q u h. elim (cases_eq q k) [
            | inl same ↦ inl same
            | inr other ↦ inr (shared.same k q (neighbour (row rs k) i) (slot_at i) l u link.within e other link.other h link.shares)
          ];
          back = link.back;
          opposed = opposed k i l j e;
        }))
  ]

  pub sound_tables : Sound L ps rs
  sound_tables = record {
    positive = λ k l. subst (λ (t : Tet). pos 0 <ℤ side_of ps t) (tet_row rs k l) (All-get_or (λ t. pos 0 <ℤ side_of ps t) (mesh_of rs) k big (omega (arith, l, many)) m.positive);
    faces = faces;
    clear = λ k q l i.
        subst (λ (t : Tet). conflicting ps L (numbered ps q) t ≡ false) (tet_row rs k l)
        (All-get_or (λ e. conflicting ps L e (tet k) ≡ false) ps q (bare 0 0 0) i (All-get_or (λ t. AllByRecursion (λ e. conflicting ps L e t ≡ false) ps) (mesh_of rs) k big (omega (arith, l, many)) m.clear));
    member = λ q l. some_at (λ r. has q (tet_of r)) blank rs (sym (some-map (has q) tet_of rs) ∙ m.member q l);
    total = m.total;
  }
