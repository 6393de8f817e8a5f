-- The numbers that records get, read from flags and from the records that conflict.
use Rattle.std.proofs.Common.{◌≡◌, ℕ, zero, suc, ◌+◌, ◌*◌, ◌/◌, ◌%◌, ◌<◌, ◌≤◌, Bool, true, false, cond, not, eqb, ◌≢◌, List, [], ◌∷◌, map, length, get_or, set, sym, refl, ap, ◌∙◌, inl, inr, arith}
use Rattle.std.proofs.lemmas.List.{length-map, map-id}
use Rattle.std.proofs.lemmas.Bool.{cases_eq, eq-eqb, ne_eqb, cond-true, cond-false}
use Rattle.mesh.proofs.Ranks.{length-passing, map-passing}
use Rattle.mesh.specs.Added.{across, beside, drops, exposed, keeps, kept_number, new_number, new_record, passing, rank, renumbered, shell_faces}
use Rattle.mesh.specs.Records.{none, fours, row, point, neighbour, tet_of, face_at, opposite}
use Rattle.mesh.specs.Tetrahedra.{Tet, Triple}
use Rattle.mesh.specs.declared.record.TetRecord.{TetRecord}
use Rattle.survey.specs.Cavity.{Ready, Flagged, gone, left, bare, bare_faces, face_number}
use Rattle.survey.specs.Edges.{has_edge, partner}
use Rattle.survey.proofs.Sharing.{record_of, slot_of}
use Rattle.survey.specs.Plans.{new_neighbour}
use Rattle.survey.specs.declared.cavity.shell_face.ShellFace.{ShellFace}

-- ---- ranks

pub rank_mono : (p : ℕ → Bool) (a b : ℕ) → a ≤ b → rank p a ≤ rank p b
rank_mono p a zero l = let z : a ≡ 0 = omega arith in rw z (omega arith)
rank_mono p a (suc b) l = elim (cases_eq a (suc b)) [
  | inl e ↦ rw e (omega arith)
  | inr n ↦ omega (arith, rank_mono p a b (omega arith))
]

pub rank_same : (p s : ℕ → Bool) (n : ℕ) → ((k : ℕ) → k < n → p k ≡ s k) → rank p n ≡ rank s n
rank_same p s zero h = refl
rank_same p s (suc n) h = rw (rank_same p s n (λ k l. h k (omega arith)), h n (omega arith))

pub passing_same : (p s : ℕ → Bool) (n : ℕ) → ((k : ℕ) → k < n → p k ≡ s k) → passing p n ≡ passing s n
passing_same p s n h = sym (map-id (passing p n)) ∙ map-passing (λ k. k) (λ k. k) p s n (λ k l. refl) h ∙ map-id (passing s n)

pub shell_length : (rs : List TetRecord) (fs : List Bool) (ss : List ShellFace) → map face_number ss ≡ bare_faces rs fs → length ss ≡ rank (bare rs fs) (4 * length rs)
shell_length rs fs ss e = sym (length-map ss face_number) ∙ ap length e ∙ length-passing (bare rs fs) (4 * length rs)

-- ---- the same by the flags and by the test

-- point j of the new record over a face
abbrev pub new_point : (rs : List TetRecord) (n : ℕ) (face : ShellFace) (j : ℕ) → ℕ
new_point rs n face j = cond (eqb j face.slot) n (point (row rs face.record) j)

module _ (conflict : Tet → Bool) (rs : List TetRecord) (fs : List Bool) (flagged : Flagged conflict rs fs) (ready : Ready rs fs) where
  pub keeps_left : (k : ℕ) → k < length rs → keeps conflict rs k ≡ left fs k
  keeps_left k l = ap not (sym (flagged k l))

  pub exposed_bare : (q : ℕ) → q < 4 * length rs → exposed conflict rs q ≡ bare rs fs q
  exposed_bare q l =
      let d = flagged (q / 4) (omega arith) in
      elim (cases_eq (across rs q) none) [
        | inl e ↦ rw (eq-eqb (across rs q) none e, d)
        | inr n ↦ rw (ne_eqb (across rs q) none n, d, flagged (across rs q) (ready.named (q / 4) (q % 4) (omega arith) (omega arith) n))
      ]

  pub rank_kept : (k : ℕ) → k ≤ length rs → rank (keeps conflict rs) k ≡ rank (left fs) k
  rank_kept k l = rank_same (keeps conflict rs) (left fs) k (λ j m. keeps_left j (omega arith))

  pub rank_exposed : (q : ℕ) → q ≤ 4 * length rs → rank (exposed conflict rs) q ≡ rank (bare rs fs) q
  rank_exposed q l = rank_same (exposed conflict rs) (bare rs fs) q (λ j m. exposed_bare j (omega arith))

  pub shell_same : shell_faces conflict rs ≡ bare_faces rs fs
  shell_same = passing_same (exposed conflict rs) (bare rs fs) (4 * length rs) exposed_bare

  pub kept_same : (k : ℕ) → k ≤ length rs → passing (keeps conflict rs) k ≡ passing (left fs) k
  kept_same k l = passing_same (keeps conflict rs) (left fs) k (λ j m. keeps_left j (omega arith))

  -- ---- what is written across a face

  pub renumbered_kept : (f : Triple) (b : ℕ) → b ≢ none → b < length rs → gone fs b ≡ false → rank (left fs) b ≡ renumbered conflict rs f b
  renumbered_kept f b n l e = sym (cond-false (eqb b none) none _ (ne_eqb b none n) ∙ cond-false (drops conflict rs b) _ (kept_number conflict rs b) (sym (flagged b l) ∙ e) ∙ rank_kept b (omega arith))

  pub renumbered_dropped : (f : Triple) (b o : ℕ) → b ≢ none → b < length rs → gone fs b ≡ true → o < 4 → o ≡ opposite (tet_of (row rs b)) f
      → rank (left fs) (length rs) + rank (bare rs fs) (4 * b + o) ≡ renumbered conflict rs f b
  renumbered_dropped f b o n l e m is = sym (
      cond-false (eqb b none) none _ (ne_eqb b none n)
      ∙ cond-true (drops conflict rs b) (new_number conflict rs (4 * b + opposite (tet_of (row rs b)) f)) _ (sym (flagged b l) ∙ e)
      ∙ ap (λ (i : ℕ). new_number conflict rs (4 * b + i)) (sym is)
      ∙ omega (arith, rank_kept (length rs) (omega arith), rank_exposed (4 * b + o) (omega arith))
      )

  -- ---- the neighbours of a new record

  pub own_neighbour : (face : ShellFace) (j : ℕ) → j ≡ face.slot
      → renumbered conflict rs (face_at (row rs face.record) j) (neighbour (row rs face.record) j) ≡ new_neighbour conflict rs (face_number face) j
  own_neighbour face j e =
      let d = record_of face in
      let s = slot_of face in
      sym (cond-true (eqb j (face_number face % 4)) _ (beside conflict rs (face_number face) j) (eq-eqb j (face_number face % 4) (e ∙ sym s)) ∙ rw (d, s, e))

  pub new_beside : (ss : List ShellFace) (face : ShellFace) (j : ℕ) → map face_number ss ≡ bare_faces rs fs → j ≢ face.slot
      → rank (left fs) (length rs) + partner rs (map face_number ss) (face_number face) j ≡ new_neighbour conflict rs (face_number face) j
  unfolding partner has_edge
  new_beside ss face j e n =
      let s = slot_of face in
      sym (
      cond-false (eqb j (face_number face % 4)) _ (beside conflict rs (face_number face) j) (ne_eqb j (face_number face % 4) (λ i. n (i ∙ s)))
      ∙ rw (rank_kept (length rs) (omega arith), shell_same, e)
      )

  -- the points of a new record, and the record
  pub new_record_is : (n : ℕ) (face : ShellFace) (ps ns : List ℕ) → ps ≡ fours (new_point rs n face) → ns ≡ fours (new_neighbour conflict rs (face_number face))
      → record { points = ps; neighbours = ns; mark = 0 } ≡ new_record conflict rs n (face_number face)
  new_record_is n face ps ns e f =
      let d = record_of face in
      let s = slot_of face in
      let points : ps ≡ (new_record conflict rs n (face_number face)).points = e ∙ rw (d, s) in
      λ i. record { points = points i; neighbours = f i; mark = 0 }

-- the points of a record with one replaced
pub point_replaced : (ps : List ℕ) (n slot : ℕ) → length ps ≡ 4 → slot < 4 → set ps slot n ≡ fours (λ j. cond (eqb j slot) n (get_or ps j 0))
point_replaced [] n slot long l = absurd (omega arith)
point_replaced (a ∷ []) n slot long l = absurd (omega arith)
point_replaced (a ∷ b ∷ []) n slot long l = absurd (omega arith)
point_replaced (a ∷ b ∷ c ∷ []) n slot long l = absurd (omega arith)
point_replaced (a ∷ b ∷ c ∷ d ∷ []) n zero long l = refl
point_replaced (a ∷ b ∷ c ∷ d ∷ []) n (suc zero) long l = refl
point_replaced (a ∷ b ∷ c ∷ d ∷ []) n (suc (suc zero)) long l = refl
point_replaced (a ∷ b ∷ c ∷ d ∷ []) n (suc (suc (suc zero))) long l = refl
point_replaced (a ∷ b ∷ c ∷ d ∷ []) n (suc (suc (suc (suc i)))) long l = absurd (omega arith)
point_replaced (a ∷ b ∷ c ∷ d ∷ e ∷ ps) n slot long l = absurd (omega arith)
