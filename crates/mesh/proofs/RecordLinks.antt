-- The records after an add to whole records of a balanced mesh are whole.
use Rattle.std.proofs.Common.{◌≡◌, ℕ, ◌+◌, ◌-◌, ◌*◌, ◌/◌, ◌%◌, ◌<◌, ◌≤◌, Bool, true, false, cond, not, ◌||◌, eqb, ltb, ◌≢◌, List, map, length, get_or, filter, sym, refl, ap, ◌∙◌, subst, inl, inr, ⊎_elim, arith}
use Rattle.std.specs.List.{prefix_len, AllByRecursion}
use Rattle.std.proofs.ByRecursion.{All-get_or}
use Rattle.std.proofs.lemmas.List.{length-append, length-map, get_or_append_left, get_or-append_right, get_or-map}
use Rattle.std.proofs.lemmas.Bool.{cases_Bool, cases_eq, cases_lt, both_ways, and_from, and_parts, or_cases, or_parts, or_from, or_right, eqb-true, eqb-false, eq-eqb, ne_eqb, not-true, not-false, not_from_true, not_from_false, ltb-true, cond-true, cond-false}
use Rattle.mesh.specs.Added.{rank, edge_on, face_of, across, facet_of, drops, keeps, exposed, kept_rows, shell_faces, kept_number, new_number, renumbered, kept_record, beside, new_record, records_after, AddLaws}
use Rattle.mesh.specs.Orientations.{Under, WellFormed, Balanced}
use Rattle.mesh.specs.Records.{TetRecord, none, blank, row, point, neighbour, tet_of, mesh_of, slot_at, face_at, is_outer, opposite, Linked, WholeAt, Whole}
use Rattle.mesh.specs.Tetrahedra.{Tet, at, put, face, Triple, on, has, has_face, shell, closed, joined}
use Rattle.mesh.proofs.Balance.{after_formed, after_balanced}
use Rattle.mesh.proofs.FacePoints.{each_point, by_points, part_outer, opposite_four, opposite_face, opposite_back}
use Rattle.mesh.proofs.Ranks.{face_row, face_slot, length-passing, passing_pass, passing_at, rank-passing, rank_one, leading_finds}
use Rattle.mesh.proofs.RecordReading.{shell_read, after_read, tet_new}
use Rattle.mesh.proofs.RecordSlots.{fours_at, at_point, edge_face}
use Rattle.mesh.proofs.Sharing.{Shares, all_formed, shares_rows, Meets, whole_from}
use Rattle.mesh.proofs.Slots.{on_other_face, face_put, put_new, put_on, put_has, under_lacks, under_at}

meets_by : (rs : List TetRecord) (k i : ℕ) (r : TetRecord) (f : Triple) (b : ℕ) → row rs k ≡ r → face_at r i ≡ f → neighbour r i ≡ b
    → (is_outer f ≡ true → b ≡ none) → (is_outer f ≡ false → (b < length rs) × (b ≢ k) × (has_face f (tet_of (row rs b)) ≡ true)) → Meets rs k i
meets_by rs k i r f b e g h o n = record { outer = rw (e, g, h) o; inner = rw (e, g, h) n }

module _ (c : Tet → Bool) (n : ℕ) (rs : List TetRecord) where
  -- ---- where the records of the result stand

  abbrev new : List TetRecord
  new = records_after c rs n

  abbrev stay : ℕ
  stay = rank (keeps c rs) (length rs)

  abbrev made : ℕ
  made = rank (exposed c rs) (4 * length rs)

  length-kept : length (map (kept_record c rs) (kept_rows c rs)) ≡ stay
  length-kept = length-map (kept_rows c rs) (kept_record c rs) ∙ length-passing (keeps c rs) (length rs)

  pub length-records_after : length (records_after c rs n) ≡ rank (keeps c rs) (length rs) + rank (exposed c rs) (4 * length rs)
  length-records_after = omega (arith, length-append (map (kept_record c rs) (kept_rows c rs)) (map (new_record c rs n) (shell_faces c rs)), length-kept, length-map (shell_faces c rs) (new_record c rs n), length-passing (exposed c rs) (4 * length rs))

  record Kept (k : ℕ) : Type 0 where
    low : kept_number c rs k < stay
    is : row new (kept_number c rs k) ≡ kept_record c rs k

  kept_at : (k : ℕ) → k < length rs → keeps c rs k ≡ true → Kept k
  kept_at k l e =
      let h = passing_at (keeps c rs) (length rs) k 0 l e in
      record {
        low = h.0;
        is = get_or_append_left (map (kept_record c rs) (kept_rows c rs)) (map (new_record c rs n) (shell_faces c rs)) blank (kept_number c rs k) (omega (arith, h.0, length-kept))
            ∙ get_or-map (kept_record c rs) (kept_rows c rs) (kept_number c rs k) 0 blank (omega (arith, h.0, length-passing (keeps c rs) (length rs)))
            ∙ ap (kept_record c rs) h.1;
      }

  record New (q : ℕ) : Type 0 where
    low : rank (exposed c rs) q < made
    is : row new (new_number c rs q) ≡ new_record c rs n q

  new_at : (q : ℕ) → q < 4 * length rs → exposed c rs q ≡ true → New q
  new_at q l e =
      let h = passing_at (exposed c rs) (4 * length rs) q 0 l e in
      let m : new_number c rs q - stay ≡ rank (exposed c rs) q = omega arith in
      record {
        low = h.0;
        is = get_or-append_right (map (kept_record c rs) (kept_rows c rs)) (map (new_record c rs n) (shell_faces c rs)) stay (new_number c rs q) blank length-kept (omega arith)
            ∙ ap (λ (x : ℕ). get_or (map (new_record c rs n) (shell_faces c rs)) x blank) m
            ∙ get_or-map (new_record c rs n) (shell_faces c rs) (rank (exposed c rs) q) 0 blank (omega (arith, h.0, length-passing (exposed c rs) (4 * length rs)))
            ∙ ap (new_record c rs n) h.1;
      }

  -- each record of the result is one or the other
  each : (P : ℕ → Type 0) → ((k : ℕ) → k < length rs → keeps c rs k ≡ true → P (kept_number c rs k)) → ((q : ℕ) → q < 4 * length rs → exposed c rs q ≡ true → P (new_number c rs q)) → (x : ℕ) → x < length new → P x
  each P old fresh x l = elim (cases_lt x stay) [
    | inl m ↦
        let k = get_or (kept_rows c rs) x 0 in
        let h = All-get_or (λ k. (k < length rs) × (keeps c rs k ≡ true)) (kept_rows c rs) x 0 (omega (arith, length-passing (keeps c rs) (length rs))) (passing_pass (keeps c rs) (length rs)) in
        subst P (rank-passing (keeps c rs) (length rs) x 0 m) (old k h.0 h.1)
    | inr m ↦
        let y = x - stay in
        let i : y < made = omega (arith, length-records_after) in
        let q = get_or (shell_faces c rs) y 0 in
        let h = All-get_or (λ q. (q < 4 * length rs) × (exposed c rs q ≡ true)) (shell_faces c rs) y 0 (omega (arith, length-passing (exposed c rs) (4 * length rs))) (passing_pass (exposed c rs) (4 * length rs)) in
        let e : new_number c rs q ≡ x = omega (arith, rank-passing (exposed c rs) (4 * length rs) y 0 i) in
        subst P e (fresh q h.0 h.1)
  ]

  -- ---- what is written across a face

  face_side : (k i : ℕ) → i < 4 → face_of rs (4 * k + i) ≡ face_at (row rs k) i
  face_side k i l = rw (face_row k i l, face_slot k i l)

  across_side : (k i : ℕ) → i < 4 → across rs (4 * k + i) ≡ neighbour (row rs k) i
  across_side k i l = rw (face_row k i l, face_slot k i l)

  renumbered_none : (f : Triple) (o : ℕ) → o ≡ none → renumbered c rs f o ≡ none
  renumbered_none f o e = rw e

  renumbered_kept : (f : Triple) (o : ℕ) → o ≢ none → keeps c rs o ≡ true → renumbered c rs f o ≡ kept_number c rs o
  renumbered_kept f o e d = rw (ne_eqb o none e, not-true (drops c rs o) d)

  renumbered_new : (f : Triple) (o : ℕ) → o ≢ none → drops c rs o ≡ true → renumbered c rs f o ≡ new_number c rs (4 * o + opposite (tet_of (row rs o)) f)
  renumbered_new f o e d = rw (ne_eqb o none e, d)

  -- a record of the result, other than x, has the face
  abbrev Lands : ℕ → Triple → ℕ → Type 0
  Lands x f y = (y < length new) × (y ≢ x) × (has_face f (tet_of (row new y)) ≡ true)

  lands_kept : (x : ℕ) (f : Triple) (o : ℕ) → o < length rs → keeps c rs o ≡ true → kept_number c rs o ≢ x → has_face f (tet_of (row rs o)) ≡ true → Lands x f (kept_number c rs o)
  lands_kept x f o l e d h =
      let k = kept_at o l e in
      (omega (arith, k.low, length-records_after), d, ap (λ (r : TetRecord). has_face f (tet_of r)) k.is ∙ h)

  lands_new : (x : ℕ) (f : Triple) (q : ℕ) → q < 4 * length rs → exposed c rs q ≡ true → new_number c rs q ≢ x → has_face f (joined n (facet_of rs q)) ≡ true → Lands x f (new_number c rs q)
  lands_new x f q l e d h =
      let k = new_at q l e in
      (omega (arith, k.low, length-records_after), d, ap (λ (r : TetRecord). has_face f (tet_of r)) k.is ∙ ap (has_face f) (tet_new c rs n q) ∙ h)

  module _ (w : Whole n rs) where
    -- ---- a kept record

    meets_kept : (k : ℕ) → k < length rs → keeps c rs k ≡ true → (i : ℕ) → i < 4 → Meets new (kept_number c rs k) i
    meets_kept k l e i m = meets_by new x i (kept_record c rs k) f (renumbered c rs f o) (kept_at k l e).is refl
        (fours_at (λ i. renumbered c rs (face_at (row rs k) i) (neighbour (row rs k) i)) i 0 m)
        (λ z. renumbered_none f o ((w k l).outer i m z))
        (λ z. inside ((w k l).inner i m z))
      where
        x : ℕ
        x = kept_number c rs k

        f : Triple
        f = face_at (row rs k) i

        o : ℕ
        o = neighbour (row rs k) i

        inside : Linked rs k i → Lands x f (renumbered c rs f o)
        inside g = elim (cases_Bool (drops c rs o)) [
          | inl d ↦
              let u = tet_of (row rs o) in
              let j = opposite u f in
              let m = opposite_four u f in
              let part = opposite_face u (w o g.within).formed.proper f g.shares in
              let q = 4 * o + j in
              rw (renumbered_new f o g.some d) (lands_new x f q (omega (arith, g.within))
              (and_from (drops c rs (q / 4)) (eqb (across rs q) none || keeps c rs (across rs q)) (ap (drops c rs) (face_row o j m) ∙ d) (or_right (eqb (across rs q) none) (keeps c rs (across rs q)) (ap (keeps c rs) (across_side o j m ∙ g.back) ∙ e)))
              (omega (arith, (kept_at k l e).low))
              (by_points (λ p. has p (joined n (facet_of rs q))) f (λ p y. put_on (tet_of (row rs (q / 4))) (slot_at (q % 4)) n p (ap (on p) (face_side o j m) ∙ part p y))))
          | inr d ↦
              let stays = not_from_false (drops c rs o) d in
              rw (renumbered_kept f o g.some stays) (lands_kept x f o g.within stays (λ y. g.other (rank_one (keeps c rs) (length rs) o k g.within l stays e y)) g.shares)
        ]

    -- a kept record names the new one over the shell face that it shares
    pub names_back : (q : ℕ) → q < 4 * length rs → exposed c rs q ≡ true → across rs q ≢ none
        → neighbour (kept_record c rs (across rs q)) (opposite (tet_of (row rs (across rs q))) (face_of rs q)) ≡ new_number c rs q
    names_back q l e d =
        fours_at (λ i. renumbered c rs (face_at (row rs o) i) (neighbour (row rs o) i)) j 0 four
        ∙ renumbered_new (face_at (row rs o) j) (neighbour (row rs o) j) there.some (ap (drops c rs) g.back ∙ (and_parts (drops c rs (q / 4)) (eqb o none || keeps c rs o) e).0)
        ∙ ap (λ (k : ℕ). new_number c rs (4 * k + opposite (tet_of (row rs k)) (face_at (row rs o) j))) g.back
        ∙ ap (new_number c rs) same
      where
        o : ℕ
        o = across rs q

        f : Triple
        f = face_of rs q

        u : Tet
        u = tet_of (row rs o)

        j : ℕ
        j = opposite u f

        four : j < 4
        four = opposite_four u f

        here : WholeAt n rs (q / 4)
        here = w (q / 4) (omega arith)

        inner : is_outer f ≡ false
        inner = ⊎_elim (λ z. absurd (d (here.outer (q % 4) (omega arith) z))) (λ z. z) (cases_Bool (is_outer f))

        g : Linked rs (q / 4) (q % 4)
        g = here.inner (q % 4) (omega arith) inner

        beyond : WholeAt n rs o
        beyond = w o g.within

        there : Linked rs o j
        there = beyond.inner j four (⊎_elim (λ z. absurd (both_ways (is_outer f) inner (part_outer f (face_at (row rs o) j) (opposite_face u beyond.formed.proper f g.shares) z))) (λ z. z) (cases_Bool (is_outer (face_at (row rs o) j))))

        same : 4 * (q / 4) + opposite (tet_of (row rs (q / 4))) (face_at (row rs o) j) ≡ q
        same = omega (arith, opposite_back (tet_of (row rs (q / 4))) u here.formed.proper beyond.formed.proper (q % 4) (omega arith) g.shares)

    -- ---- a new record

    module _ (q : ℕ) (l : q < 4 * length rs) (e : exposed c rs q ≡ true) where
      abbrev x : ℕ
      x = new_number c rs q

      abbrev r : TetRecord
      r = row rs (q / 4)

      abbrev s : ℕ
      s = q % 4

      whole : WholeAt n rs (q / 4)
      whole = w (q / 4) (omega arith)

      -- across the shell face
      meets_own : Meets new x s
      meets_own = meets_by new x s (new_record c rs n q) (face_of rs q) (renumbered c rs (face_of rs q) o) (new_at q l e).is
          (ap (λ (t : Tet). face t (slot_at s)) (tet_new c rs n q) ∙ face_put (tet_of r) (slot_at s) n)
          (fours_at (λ j. cond (eqb j s) (renumbered c rs (face_of rs q) o) (beside c rs q j)) s 0 (omega arith) ∙ cond-true (eqb s s) (renumbered c rs (face_of rs q) o) (beside c rs q s) (eq-eqb s s refl))
          (λ z. renumbered_none (face_of rs q) o (whole.outer s (omega arith) z))
          (λ z. inside (whole.inner s (omega arith) z))
        where
          o : ℕ
          o = across rs q

          inside : Linked rs (q / 4) s → Lands x (face_of rs q) (renumbered c rs (face_of rs q) o)
          inside g =
              let stays = ⊎_elim (λ z. absurd (g.some (eqb-true o none z))) (λ z. z) (or_cases (eqb o none) (keeps c rs o) (and_parts (drops c rs (q / 4)) (eqb o none || keeps c rs o) e).1) in
              rw (renumbered_kept (face_of rs q) o g.some stays) (lands_kept x (face_of rs q) o g.within stays (omega (arith, (kept_at o g.within stays).low)) g.shares)

      -- across a face at the new point
      module _ (j : ℕ) (m : j < 4) (apart : j ≢ s) where
        abbrev f : Triple
        f = face_at (new_record c rs n q) j

        lacks : at (tet_of (new_record c rs n q)) (slot_at j) < n
        lacks = rw (at_point (new_record c rs n q) j m ∙ fours_at (λ j. cond (eqb j s) n (point r j)) j 0 m ∙ cond-false (eqb j s) n (point r j) (ne_eqb j s apart) ∙ sym (at_point r j m)) (under_at n (tet_of r) whole.formed.under (slot_at j))

        on_new : on n f ≡ true
        on_new = on_other_face (tet_of (new_record c rs n q)) (slot_at j) n (ap (has n) (tet_new c rs n q) ∙ put_new (tet_of r) (slot_at s) n) (ne_eqb n (at (tet_of (new_record c rs n q)) (slot_at j)) (omega (arith, lacks)))

        edge_is : (p : ℕ) → has_face f (joined n (facet_of rs p)) ≡ edge_on r s j (face_of rs p)
        edge_is p = edge_face r n s j (new_record c rs n q).neighbours (joined n (facet_of rs p)) (face_of rs p) m (put_new t (slot_at (p % 4)) n) (one under.a) (one under.b) (one under.c) (one under.d)
          where
            t : Tet
            t = tet_of (row rs (p / 4))

            under : Under n (tet_of r)
            under = whole.formed.under

            one : {y : ℕ} → y < n → has y (put t (slot_at (p % 4)) n) ≡ on y (face t (slot_at (p % 4)))
            one {y} = put_has t (slot_at (p % 4)) n y

        module _ (low : 4 ≤ n) (shared : Shares (length new) (λ k. tet_of (row new k))) where
          inside : is_outer f ≡ false
          inside = ⊎_elim (λ z. absurd (omega (arith, ltb-true n 4 (each_point (λ p. ltb p 4) f z n on_new)))) (λ z. z) (cases_Bool (is_outer f))

          -- another shell face with the edge
          record Beside : Type 0 where
            face : ℕ
            within : face < 4 * length rs
            shell : exposed c rs face ≡ true
            other : face ≢ q
            edge : edge_on r s j (face_of rs face) ≡ true

          some_beside : Beside
          some_beside = each (λ y. y ≢ x → has_face f (tet_of (row new y)) ≡ true → Beside) old fresh mate.0 mate.1 mate.2 mate.3
            where
              mate : (y : ℕ) × (y < length new) × (y ≢ x) × (has_face f (tet_of (row new y)) ≡ true)
              mate =
                  let is = (new_at q l e).is in
                  subst (λ (r : TetRecord). (y : ℕ) × (y < length new) × (y ≢ x) × (has_face (face_at r j) (tet_of (row new y)) ≡ true)) is
                  (shared.mate x (slot_at j) (omega (arith, (new_at q l e).low, length-records_after)) (ap (λ (r : TetRecord). is_outer (face_at r j)) is ∙ inside))

              old : (k : ℕ) → k < length rs → keeps c rs k ≡ true → kept_number c rs k ≢ x → has_face f (tet_of (row new (kept_number c rs k))) ≡ true → Beside
              old k u v z h =
                  let t = tet_of (row rs k) in
                  absurd (both_ways (has n t) (under_lacks n t (w k u).formed.under) (each_point (λ p. has p t) f (sym (ap (λ (r : TetRecord). has_face f (tet_of r)) (kept_at k u v).is) ∙ h) n on_new))

              fresh : (p : ℕ) → p < 4 * length rs → exposed c rs p ≡ true → new_number c rs p ≢ x → has_face f (tet_of (row new (new_number c rs p))) ≡ true → Beside
              fresh p u v z h = record {
                face = p;
                within = u;
                shell = v;
                other = λ y. z (ap (new_number c rs) y);
                edge = sym (edge_is p) ∙ sym (ap (λ (r : TetRecord). has_face f (tet_of r)) (new_at p u v).is ∙ ap (has_face f) (tet_new c rs n p)) ∙ h;
              }

          lands_beside : Lands x f (beside c rs q j)
          lands_beside =
              let p = some_beside in
              let at = passing_at (exposed c rs) (4 * length rs) p.face 0 p.within p.shell in
              let size = length-passing (exposed c rs) (4 * length rs) in
              let found = leading_finds skip (shell_faces c rs) 0 (rank (exposed c rs) p.face) (omega (arith, at.0, size))
              (ap skip at.1 ∙ or_from (eqb p.face q) (not (edge_on r s j (face_of rs p.face))) (ne_eqb p.face q p.other) (not_from_true (edge_on r s j (face_of rs p.face)) p.edge)) in
              let y = get_or (shell_faces c rs) (prefix_len skip (shell_faces c rs)) 0 in
              let h = All-get_or (λ q. (q < 4 * length rs) × (exposed c rs q ≡ true)) (shell_faces c rs) (prefix_len skip (shell_faces c rs)) 0 found.0 (passing_pass (exposed c rs) (4 * length rs)) in
              let ends = or_parts (eqb y q) (not (edge_on r s j (face_of rs y))) found.1 in
              let number : new_number c rs y ≡ beside c rs q j = ap (λ (k : ℕ). stay + k) (rank-passing (exposed c rs) (4 * length rs) (prefix_len skip (shell_faces c rs)) 0 (omega (arith, found.0, size))) in
              subst (Lands x f) number (lands_new x f y h.0 h.1
              (λ z. eqb-false y q ends.0 (rank_one (exposed c rs) (4 * length rs) y q h.0 l h.1 e (omega arith)))
              (edge_is y ∙ not-false (edge_on r s j (face_of rs y)) ends.1))
            where
              skip : ℕ → Bool
              skip p = eqb p q || not (edge_on r s j (face_of rs p))

          meets_beside : Meets new x j
          meets_beside = meets_by new x j (new_record c rs n q) f (beside c rs q j) (new_at q l e).is refl
              (fours_at (λ j. cond (eqb j s) (renumbered c rs (face_of rs q) (across rs q)) (beside c rs q j)) j 0 m ∙ cond-false (eqb j s) (renumbered c rs (face_of rs q) (across rs q)) (beside c rs q j) (ne_eqb j s apart))
              (λ z. absurd (both_ways (is_outer f) inside z))
              (λ z. lands_beside)

  module _ (w : Whole n rs) (b : Balanced (mesh_of rs)) (low : 4 ≤ n) (shut : closed (shell (filter c (mesh_of rs))) ≡ true) where
    new_formed : AllByRecursion (WellFormed (n + 1)) (mesh_of new)
    new_formed = subst (AllByRecursion (WellFormed (n + 1))) (sym (after_read c n rs w b)) (after_formed c (mesh_of rs) n (all_formed n rs w))

    pub new_balanced : Balanced (mesh_of new)
    new_balanced = subst Balanced (sym (after_read c n rs w b)) (after_balanced c (mesh_of rs) n (all_formed n rs w) low b shut)

    shared : Shares (length new) (λ k. tet_of (row new k))
    shared = shares_rows (n + 1) new new_formed new_balanced

    -- only one other record lies over a shell edge
    pub beside_only : (q : ℕ) → q < 4 * length rs → exposed c rs q ≡ true → (j : ℕ) → j < 4 → j ≢ q % 4
        → (p : ℕ) → p < 4 * length rs → exposed c rs p ≡ true → p ≢ q → edge_on (row rs (q / 4)) (q % 4) j (face_of rs p) ≡ true → new_number c rs p ≡ beside c rs q j
    beside_only q l e j m apart p u v d h =
        let x = new_number c rs q in
        let f = face_at (new_record c rs n q) j in
        let one = lands_new x f p u v (λ z. d (rank_one (exposed c rs) (4 * length rs) p q u l v e (omega arith))) (edge_is w q l e j m apart p ∙ h) in
        let two = lands_beside w q l e j m apart low shared in
        let k = new_at q l e in
        subst (λ (r : TetRecord). is_outer (face_at r j) ≡ false → has_face (face_at r j) (tet_of (row new (new_number c rs p))) ≡ true → has_face (face_at r j) (tet_of (row new (beside c rs q j))) ≡ true → new_number c rs p ≡ beside c rs q j) k.is
        (λ i. shared.same x (new_number c rs p) (beside c rs q j) (slot_at j) (omega (arith, k.low, length-records_after)) one.0 two.0 i one.1 two.1)
        (inside w q l e j m apart low shared) one.2 two.2

    -- the result is whole
    pub whole_records_after : length (records_after c rs n) ≤ none → Whole (n + 1) (records_after c rs n)
    whole_records_after few = whole_from (n + 1) new new_formed new_balanced few
        (each (λ x. (row new x).mark ≡ 0) (λ k l e. ap (λ (r : TetRecord). r.mark) (kept_at k l e).is) (λ q l e. ap (λ (r : TetRecord). r.mark) (new_at q l e).is))
        (λ x i l m. each (λ x. Meets new x i) (λ k u v. meets_kept w k u v i m) (λ q u v. fresh q u v i m) x l)
      where
        fresh : (q : ℕ) → q < 4 * length rs → exposed c rs q ≡ true → (i : ℕ) → i < 4 → Meets new (new_number c rs q) i
        fresh q u v i m = elim (cases_eq i (q % 4)) [
          | inl e ↦ rw e (meets_own w q u v)
          | inr e ↦ meets_beside w q u v i m e low shared
        ]

pub add_laws : AddLaws
add_laws = record {
  shells = λ c n rs w b. sym (shell_read c n rs w b);
  reads = after_read;
  balanced = new_balanced;
  whole = whole_records_after;
}
