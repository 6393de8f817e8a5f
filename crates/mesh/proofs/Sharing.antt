-- Which records of a balanced mesh have a face, and why neighbours that share faces name each other back.
use Rattle.std.proofs.Common.{◌≡◌, ℕ, ◌<◌, ◌≤◌, Bool, true, false, ◌≢◌, List, length, get_or, sym, ap, ◌∙◌, subst, subst₂, inl, inr, arith, lit≤}
use Rattle.std.specs.List.{AllByRecursion}
use Rattle.std.proofs.ByRecursion.{All-get_or, All-from_get_or, All-map, All-weaker, has_get_or}
use Rattle.std.proofs.lemmas.List.{length-map, get_or-map}
use Rattle.std.proofs.lemmas.Bool.{cases_Bool, cases_eq, both_ways}
use Rattle.algebra.proofs.Lists.{bit, counts}
use Rattle.mesh.specs.Orientations.{oriented, Proper, WellFormed, Balanced}
use Rattle.mesh.specs.Records.{TetRecord, none, blank, row, neighbour, tet_of, mesh_of, slot_at, face_at, is_outer, opposite, Whole}
use Rattle.mesh.specs.Tetrahedra.{Tet, Slot, face, has_face, big}
use Rattle.mesh.proofs.Across.{Inner, outer_or_inner}
use Rattle.mesh.proofs.Balance.{big_formed}
use Rattle.mesh.proofs.FacePoints.{part_has, part_outer, opposite_four, opposite_face, oriented_outer, outer_has}
use Rattle.mesh.proofs.Likeness.{has_face_oriented}
use Rattle.mesh.proofs.Shells.{distinct, own_oriented}

-- Of m tetrahedra one has a face of three corners, and two have any other face.
pub record Shares (m : ℕ) (t : ℕ → Tet) : Type 0 where
  pub sole : (k j : ℕ) (s : Slot) → k < m → j < m → is_outer (face (t k) s) ≡ true → has_face (face (t k) s) (t j) ≡ true → j ≡ k
  pub same : (k i j : ℕ) (s : Slot) → k < m → i < m → j < m → is_outer (face (t k) s) ≡ false → i ≢ k → j ≢ k → has_face (face (t k) s) (t i) ≡ true → has_face (face (t k) s) (t j) ≡ true → i ≡ j
  pub mate : (k : ℕ) (s : Slot) → k < m → is_outer (face (t k) s) ≡ false → (j : ℕ) × (j < m) × (j ≢ k) × (has_face (face (t k) s) (t j) ≡ true)

module _ (ts : List Tet) (h : AllByRecursion Proper ts) (b : Balanced ts) where
  inner_apart : (r : ℕ) → r < length ts → (s : Slot) → Inner ts r (face (get_or ts r big) s) → is_outer (face (get_or ts r big) s) ≡ true → ⊥
  inner_apart r l s i e =
      let t = get_or ts r big in
      let f = face t s in
      let d = distinct t (All-get_or Proper ts r big l h) s in
      let one : Tet → Bool = λ u. oriented u f.x f.y f.z in
      let two : Tet → Bool = λ u. oriented u f.y f.x f.z in
      omega (
        arith,
        has_face_oriented big (big_formed 4 (lit≤ tt)).proper f d.xy d.xz d.yz,
        ap bit (outer_has f e),
        counts one ts t (has_get_or ts r big l) (own_oriented t s),
        counts two ts (get_or ts i.at big) (has_get_or ts i.at big i.within) i.against,
        b.once f.x f.y f.z,
        b.once f.y f.x f.z,
        b.boundary f.x f.y f.z,
      )

  pub shares : Shares (length ts) (λ k. get_or ts k big)
  shares = record {
    sole = λ k j s l m e i. elim (outer_or_inner ts h b k l s) [
      | inl o ↦ o.only j m i
      | inr o ↦ absurd (inner_apart k l s o e)
    ];
    same = λ k i j s l m n e p q x y. elim (outer_or_inner ts h b k l s) [
      | inl o ↦ absurd (both_ways (is_outer (face (get_or ts k big) s)) e (oriented_outer (face (get_or ts k big) s) o.outer))
      | inr o ↦ o.only i m p x ∙ sym (o.only j n q y)
    ];
    mate = λ k s l e. elim (outer_or_inner ts h b k l s) [
      | inl o ↦ absurd (both_ways (is_outer (face (get_or ts k big) s)) e (oriented_outer (face (get_or ts k big) s) o.outer))
      | inr o ↦ (o.at, o.within, o.other, o.shares)
    ];
  }

shares_same : (m : ℕ) (t u : ℕ → Tet) → ((k : ℕ) → k < m → t k ≡ u k) → Shares m t → Shares m u
shares_same m t u e h = record {
  sole = λ k j s l i. rw (← (e k l), ← (e j i)) (h.sole k j s l i);
  same = λ k i j s l a b. rw (← (e k l), ← (e i a), ← (e j b)) (h.same k i j s l a b);
  mate = λ k s l c. let r = h.mate k s l (ap (λ (v : Tet). is_outer (face v s)) (e k l) ∙ c) in (r.0, r.1, r.2, subst₂ (λ (v w : Tet). has_face (face v s) w ≡ true) (e k l) (e r.0 r.1) r.3);
}

-- ---- the same of records

pub tet_row : (rs : List TetRecord) (k : ℕ) → k < length rs → get_or (mesh_of rs) k big ≡ tet_of (row rs k)
tet_row rs k l = get_or-map tet_of rs k blank big l

pub all_formed : (n : ℕ) (rs : List TetRecord) → Whole n rs → AllByRecursion (WellFormed n) (mesh_of rs)
all_formed n rs w = All-map (WellFormed n) tet_of rs (All-from_get_or (λ r. WellFormed n (tet_of r)) rs blank (λ k l. (w k l).formed))

pub shares_rows : (n : ℕ) (rs : List TetRecord) → AllByRecursion (WellFormed n) (mesh_of rs) → Balanced (mesh_of rs) → Shares (length rs) (λ k. tet_of (row rs k))
shares_rows n rs h b =
    let propers = All-weaker (WellFormed n) Proper (λ t i. i.proper) (mesh_of rs) h in
    shares_same (length rs) (λ k. get_or (mesh_of rs) k big) (λ k. tet_of (row rs k)) (tet_row rs) (subst (λ (m : ℕ). Shares m (λ k. get_or (mesh_of rs) k big)) (length-map rs tet_of) (shares (mesh_of rs) propers b))

-- what is left of Whole at a face when no neighbour need name another back
pub record Meets (rs : List TetRecord) (k i : ℕ) : Type 0 where
  pub outer : is_outer (face_at (row rs k) i) ≡ true → neighbour (row rs k) i ≡ none
  pub inner : is_outer (face_at (row rs k) i) ≡ false → (neighbour (row rs k) i < length rs) × (neighbour (row rs k) i ≢ k) × (has_face (face_at (row rs k) i) (tet_of (row rs (neighbour (row rs k) i))) ≡ true)

-- on a balanced mesh that is enough
pub whole_from : (n : ℕ) (rs : List TetRecord) → AllByRecursion (WellFormed n) (mesh_of rs) → Balanced (mesh_of rs) → length rs ≤ none
    → ((k : ℕ) → k < length rs → (row rs k).mark ≡ 0) → ((k i : ℕ) → k < length rs → i < 4 → Meets rs k i) → Whole n rs
whole_from n rs h b few marks meets k l = record {
  mark = marks k l;
  formed = formed k l;
  outer = λ i m. (meets k i l m).outer;
  inner = λ i m e.
      let g = (meets k i l m).inner e in
      record { some = omega (arith, g.0); within = g.0; other = g.1; shares = g.2; back = back i m e g };
}
  where
    formed : (k : ℕ) → k < length rs → WellFormed n (tet_of (row rs k))
    formed k l = subst (WellFormed n) (tet_row rs k l) (All-get_or (WellFormed n) (mesh_of rs) k big (omega (arith, length-map rs tet_of)) h)

    shared : Shares (length rs) (λ k. tet_of (row rs k))
    shared = shares_rows n rs h b

    back : (i : ℕ) → i < 4 → is_outer (face_at (row rs k) i) ≡ false
        → (neighbour (row rs k) i < length rs) × (neighbour (row rs k) i ≢ k) × (has_face (face_at (row rs k) i) (tet_of (row rs (neighbour (row rs k) i))) ≡ true)
        → neighbour (row rs (neighbour (row rs k) i)) (opposite (tet_of (row rs (neighbour (row rs k) i))) (face_at (row rs k) i)) ≡ k
    back i m e g =
        let f = face_at (row rs k) i in
        let o = neighbour (row rs k) i in
        let u = tet_of (row rs o) in
        let j = opposite u f in
        let part = opposite_face u (formed o g.0).proper f g.2 in
        let there = meets o j g.0 (opposite_four u f) in
        elim (cases_Bool (is_outer (face_at (row rs o) j))) [
          | inl c ↦ absurd (both_ways (is_outer f) e (part_outer f (face_at (row rs o) j) part c))
          | inr c ↦
              let t = there.inner c in
              elim (cases_eq (neighbour (row rs o) j) k) [
                | inl s ↦ s
                | inr s ↦ absurd (t.1 (shared.same k (neighbour (row rs o) j) o (slot_at i) l t.0 g.0 e s g.1 (part_has (tet_of (row rs (neighbour (row rs o) j))) f (face_at (row rs o) j) part t.2) g.2))
              ]
        ]
