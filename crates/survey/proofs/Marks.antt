-- Marks set for points, and the points that belong to kept records and to faces.
use Rattle.std.proofs.Common.{◌≡◌, ℕ, zero, suc, ◌+◌, ◌/◌, ◌%◌, ◌<◌, Bool, true, false, ◌||◌, eqb, List, [], ◌∷◌, ◌++◌, map, length, get_or, take, replicate, Some, None, Option, sym, refl, ap, ◌∙◌, arith}
use Rattle.std.proofs.lemmas.List.{append-nil, map_more}
use Rattle.algebra.proofs.Lists.{some-append}
use Rattle.std.specs.List.{list_any}
use Rattle.algebra.specs.Lists.{some}
use Rattle.mesh.proofs.Ranks.{passing_more}
use Rattle.mesh.specs.Added.{face_of, passing}
use Rattle.mesh.specs.Records.{row, point, tet_of, face_at}
use Rattle.mesh.specs.Tetrahedra.{Triple, has, on}
use Rattle.mesh.specs.declared.record.TetRecord.{TetRecord}
use Rattle.survey.specs.Cavity.{left, face_number}
use Rattle.survey.specs.Stay.{kept_has, faces_have, Failing, PointsBelow}
use Rattle.survey.proofs.Sharing.{record_of}
use Rattle.survey.specs.declared.cavity.shell_face.ShellFace.{ShellFace}

-- ---- marks

pub unmarked : (n q : ℕ) → get_or (replicate n false) q false ≡ false
unmarked zero q = refl
unmarked (suc n) zero = refl
unmarked (suc n) (suc q) = unmarked n q

-- ---- one record or face more

one_more : {X : Type 0} (p : X → Bool) (xs : List X) (x : X) → some p (xs ++ x ∷ []) ≡ (p x || some p xs)
one_more p xs x = some-append p xs (x ∷ []) ∙ swap (some p xs) (p x)
  where
    swap : (a b : Bool) → (a || (b || false)) ≡ (b || a)
    swap a b = grind arith

pub or_assoc : (a b c : Bool) → (a || (b || c)) ≡ (a || b || c)
or_assoc a b c = grind arith

pub kept_has_yes : (rs : List TetRecord) (fs : List Bool) (k q : ℕ) → left fs k ≡ true → kept_has rs fs (k + 1) q ≡ (has q (tet_of (row rs k)) || kept_has rs fs k q)
unfolding kept_has
kept_has_yes rs fs k q e =
    let p : ℕ → Bool = λ k. has q (tet_of (row rs k)) in
    ap (some p) (passing_more (left fs) k ∙ rw e) ∙ one_more p (passing (left fs) k) k

pub kept_has_no : (rs : List TetRecord) (fs : List Bool) (k q : ℕ) → left fs k ≡ false → kept_has rs fs (k + 1) q ≡ kept_has rs fs k q
unfolding kept_has
kept_has_no rs fs k q e = ap (some (λ k. has q (tet_of (row rs k)))) (passing_more (left fs) k ∙ rw e (append-nil (passing (left fs) k)))

-- the marks once a kept record's points are set, and once a dropped one is passed over
module _ (rs : List TetRecord) (fs : List Bool) (k q : ℕ) (old : Bool) where
  pub kept_marked : (is : Bool) {m n : Bool} → left fs k ≡ true → is ≡ has q (tet_of (row rs k)) → n ≡ (is || m) → m ≡ (kept_has rs fs k q || old) → n ≡ (kept_has rs fs (k + 1) q || old)
  kept_marked is e here n_is m_is =
      n_is ∙ rw m_is (or_assoc is (kept_has rs fs k q) old ∙ ap (λ (b : Bool). (b || kept_has rs fs k q) || old) here ∙ ap (λ (b : Bool). b || old) (sym (kept_has_yes rs fs k q e)))

  pub kept_unmarked : {n : Bool} → left fs k ≡ false → n ≡ (kept_has rs fs k q || old) → n ≡ (kept_has rs fs (k + 1) q || old)
  kept_unmarked e n_is = n_is ∙ ap (λ (b : Bool). b || old) (sym (kept_has_no rs fs k q e))

-- the points of a record, one by one
pub has_points : (q : ℕ) (r : TetRecord) → length r.points ≡ 4 → list_any (λ p. eqb q p) r.points ≡ has q (tet_of r)
has_points q r long = go r.points long
  where
    dropped : (a b c d : Bool) → (a || (b || (c || (d || false)))) ≡ (a || b || c || d)
    dropped a b c d = grind arith

    go : (ps : List ℕ) → length ps ≡ 4 → list_any (λ p. eqb q p) ps ≡ (eqb q (get_or ps 0 0) || eqb q (get_or ps 1 0) || eqb q (get_or ps 2 0) || eqb q (get_or ps 3 0))
    go [] l = absurd (omega arith)
    go (a ∷ []) l = absurd (omega arith)
    go (a ∷ b ∷ []) l = absurd (omega arith)
    go (a ∷ b ∷ c ∷ []) l = absurd (omega arith)
    go (a ∷ b ∷ c ∷ d ∷ []) l = dropped (eqb q a) (eqb q b) (eqb q c) (eqb q d)
    go (a ∷ b ∷ c ∷ d ∷ e ∷ ps) l = absurd (omega arith)

pub kept_has_none : (rs : List TetRecord) (fs : List Bool) (q : ℕ) → kept_has rs fs 0 q ≡ false
unfolding kept_has
kept_has_none rs fs q = refl

pub faces_have_none : (rs : List TetRecord) (q : ℕ) → faces_have rs [] q ≡ false
unfolding faces_have
faces_have_none rs q = refl

pub faces_have_more : (rs : List TetRecord) (ss : List ShellFace) (i q : ℕ) (d : ShellFace) → i < length ss
    → faces_have rs (map face_number (take (i + 1) ss)) q ≡ (on q (face_of rs (face_number (get_or ss i d))) || faces_have rs (map face_number (take i ss)) q)
unfolding faces_have
faces_have_more rs ss i q d l =
    ap (some (λ p. on q (face_of rs p))) (map_more face_number ss i d l)
    ∙ one_more (λ p. on q (face_of rs p)) (map face_number (take i ss)) (face_number (get_or ss i d))

-- the points of a face are below what those of its record are
pub face_below : (n : ℕ) (tet : TetRecord) (i : ℕ) → ((h : ℕ) → h < 4 → point tet h < n) → i < 4 → ((face_at tet i).x < n) × ((face_at tet i).y < n) × ((face_at tet i).z < n)
face_below n tet zero h l = (h 1 (omega arith), h 2 (omega arith), h 3 (omega arith))
face_below n tet (suc zero) h l = (h 0 (omega arith), h 3 (omega arith), h 2 (omega arith))
face_below n tet (suc (suc zero)) h l = (h 0 (omega arith), h 1 (omega arith), h 3 (omega arith))
face_below n tet (suc (suc (suc zero))) h l = (h 0 (omega arith), h 2 (omega arith), h 1 (omega arith))
face_below n tet (suc (suc (suc (suc i)))) h l = absurd (omega arith)

pub shell_face_below : (n : ℕ) (rs : List TetRecord) (f : ShellFace) → PointsBelow n rs → f.record < length rs
    → ((face_of rs (face_number f)).x < n) × ((face_of rs (face_number f)).y < n) × ((face_of rs (face_number f)).z < n)
shell_face_below n rs f below l =
    let q = face_number f in
    let at : q / 4 < length rs = omega (arith, record_of f) in
    face_below n (row rs (q / 4)) (q % 4) (λ h m. below (q / 4) h at m) (omega arith)

pub listed_below : (n : ℕ) (t : Triple) → (t.x < n) × (t.y < n) × (t.z < n) → (i : ℕ) → i < 3 → get_or (t.x ∷ t.y ∷ t.z ∷ []) i 0 < n
listed_below n t h zero l = h.0
listed_below n t h (suc zero) l = h.1
listed_below n t h (suc (suc zero)) l = h.2
listed_below n t h (suc (suc (suc i))) l = absurd (omega arith)

pub on_points : (q : ℕ) (t : Triple) → list_any (λ p. eqb q p) (t.x ∷ t.y ∷ t.z ∷ []) ≡ on q t
on_points q t = dropped (eqb q t.x) (eqb q t.y) (eqb q t.z)
  where
    dropped : (a b c : Bool) → (a || (b || (c || false))) ≡ (a || b || c)
    dropped a b c = grind arith

pub kept_or_face : (a b m : Bool) → m ≡ false → (a || (b || m)) ≡ (b || a)
kept_or_face a b m e = rw e (grind arith)

pub failing_same : (p s : ℕ → Bool) (n : ℕ) (r : Option ℕ) → ((q : ℕ) → p q ≡ s q) → Failing p n r → Failing s n r
failing_same p s n None e h = λ q l. sym (e q) ∙ h q l
failing_same p s n (Some q) e h = (h.0, sym (e q) ∙ h.1)
