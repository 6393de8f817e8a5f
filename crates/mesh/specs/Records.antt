-- The table of tetrahedra: its records, and when the used ones are whole.
use Rattle.std.specs.Prelude.{◌≡◌, ℕ, zero, suc, ◌<◌, Bool, true, false, cond, not, ◌&&◌, ◌≢◌, List, [], ◌∷◌, map, length, Decides, ◌==◌, nat_lt, slice_index, slice_index_or}
pub use Rattle.mesh.specs.declared.record.TetRecord.{TetRecord}
use Rattle.mesh.specs.Orientations.{WellFormed}
use Rattle.mesh.specs.Tetrahedra.{Tet, Slot, first, second, third, fourth, face, Triple, on, has_face}

-- ---- records

-- written where a face has no record across it
abbrev pub none : ℕ
none = 65535

-- one value for each slot number
abbrev pub fours : {X : Type 0} → (ℕ → X) → List X
fours f = f 0 ∷ f 1 ∷ f 2 ∷ f 3 ∷ []

-- the record of the big tetrahedron, with which a table begins
abbrev pub big_record : TetRecord
big_record = record { points = fours (λ i. i); neighbours = fours (λ i. none); mark = 0 }

-- what a read past the table gives
abbrev pub blank : TetRecord
blank = record { points = []; neighbours = []; mark = 0 }

abbrev pub row : List TetRecord → (k : ℕ) → TetRecord
row rs k = slice_index_or rs k blank

abbrev pub point : TetRecord → (i : ℕ) → ℕ
point r i = slice_index r.points i

abbrev pub neighbour : TetRecord → (i : ℕ) → ℕ
neighbour r i = slice_index r.neighbours i

-- ---- records read as tetrahedra

abbrev pub tet_of : TetRecord → Tet
tet_of r = record { a = point r 0; b = point r 1; c = point r 2; d = point r 3 }

abbrev pub mesh_of : List TetRecord → List Tet
mesh_of rs = map tet_of rs

-- the slot of a number from 0 to 3
abbrev pub slot_at : ℕ → Slot
slot_at zero = first
slot_at (suc zero) = second
slot_at (suc (suc zero)) = third
slot_at (suc (suc (suc i))) = fourth

-- face i: the three points other than point i
abbrev pub face_at : TetRecord → (i : ℕ) → Triple
face_at r i = face (tet_of r) (slot_at i)

-- the points of the face are corners
abbrev pub is_outer : Triple → Bool
is_outer f = nat_lt f.x 4 && nat_lt f.y 4 && nat_lt f.z 4

-- the slot number of the first point that is not on a face
abbrev pub opposite : Tet → Triple → ℕ
opposite t f = cond (on t.a f) (cond (on t.b f) (cond (on t.c f) 3 2) 1) 0

-- ---- wholeness

-- across face i of record k stands another used record, which has the face too and there names record k
pub record Linked (rs : List TetRecord) (k i : ℕ) : Type 0 where
  pub some : neighbour (row rs k) i ≢ none
  pub within : neighbour (row rs k) i < length rs
  pub other : neighbour (row rs k) i ≢ k
  pub shares : has_face (face_at (row rs k) i) (tet_of (row rs (neighbour (row rs k) i))) ≡ true
  pub back : neighbour (row rs (neighbour (row rs k) i)) (opposite (tet_of (row rs (neighbour (row rs k) i))) (face_at (row rs k) i)) ≡ k

-- record k has mark 0 and four different used points, no neighbour across an outer face, and a linked one across any other
pub record WholeAt (n : ℕ) (rs : List TetRecord) (k : ℕ) : Type 0 where
  pub mark : (row rs k).mark ≡ 0
  pub formed : WellFormed n (tet_of (row rs k))
  pub outer : (i : ℕ) → i < 4 → is_outer (face_at (row rs k) i) ≡ true → neighbour (row rs k) i ≡ none
  pub inner : (i : ℕ) → i < 4 → is_outer (face_at (row rs k) i) ≡ false → Linked rs k i

-- The used records are whole, with points below n. Positive Side is asked where the points are known.
abbrev pub Whole : (n : ℕ) → List TetRecord → Type 0
Whole n rs = (k : ℕ) → k < length rs → WholeAt n rs k

-- ---- the same as tests

-- a test passes at each number below n
abbrev pub every : (ℕ → Bool) → (n : ℕ) → Bool
every p zero = true
every p (suc n) = p n && every p n

abbrev pub proper : Tet → Bool
proper t = not (t.a == t.b) && not (t.a == t.c) && not (t.a == t.d) && not (t.b == t.c) && not (t.b == t.d) && not (t.c == t.d)

abbrev pub under : (n : ℕ) → Tet → Bool
under n t = nat_lt t.a n && nat_lt t.b n && nat_lt t.c n && nat_lt t.d n

abbrev pub linked : List TetRecord → (k i : ℕ) → Bool
linked rs k i =
    let f = face_at (row rs k) i in
    let o = neighbour (row rs k) i in
    let u = tet_of (row rs o) in
    cond (is_outer f) (o == none) (not (o == none) && nat_lt o (length rs) && not (o == k) && has_face f u && neighbour (row rs o) (opposite u f) == k)

abbrev pub whole_at : (n : ℕ) → List TetRecord → (k : ℕ) → Bool
whole_at n rs k = (row rs k).mark == 0 && (proper (tet_of (row rs k)) && under n (tet_of (row rs k))) && every (linked rs k) 4

abbrev pub whole : (n : ℕ) → List TetRecord → Bool
whole n rs = every (whole_at n rs) (length rs)

-- the test passes exactly where the records are whole
abbrev pub WholeDecided : Type 0
WholeDecided = (n : ℕ) (rs : List TetRecord) → Decides (whole n rs) (Whole n rs)
