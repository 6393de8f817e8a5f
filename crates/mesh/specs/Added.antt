-- The used records after an accepted add: the kept ones, moved together, and behind them a new one over each shell face.
use Rattle.std.specs.Prelude.{◌≡◌, ℕ, zero, suc, ◌+◌, ◌*◌, ◌/◌, ◌%◌, ◌≤◌, Bool, true, cond, not, ◌&&◌, ◌||◌, List, [], ◌∷◌, ◌++◌, map, length, ◌==◌}
use Rattle.std.specs.List.{prefix_len}
use Rattle.mesh.specs.Orientations.{Balanced}
use Rattle.mesh.specs.Records.{TetRecord, none, fours, every, row, point, neighbour, tet_of, mesh_of, slot_at, face_at, opposite, Whole}
use Rattle.mesh.specs.Tetrahedra.{Tet, Triple, Facet, on, shell, closed, dropped, after}

-- the numbers below n that pass a test
abbrev pub passing : (ℕ → Bool) → (n : ℕ) → List ℕ
passing p zero = []
passing p (suc n) = passing p n ++ cond (p n) (n ∷ []) []

-- how many they are
abbrev pub rank : (ℕ → Bool) → (n : ℕ) → ℕ
rank p zero = 0
rank p (suc n) = rank p n + cond (p n) 1 0

-- a face has the points of a record other than those at slots i and j
abbrev pub edge_on : TetRecord → (i j : ℕ) → Triple → Bool
edge_on r i j f = every (λ h. (h == i) || h == j || on (point r h) f) 4

-- Face i of record k has number 4 * k + i, so that faces are in order by record and then by slot.
module _ (rs : List TetRecord) where
  abbrev pub face_of : (q : ℕ) → Triple
  face_of q = face_at (row rs (q / 4)) (q % 4)

  -- the number of the record across
  abbrev pub across : (q : ℕ) → ℕ
  across q = neighbour (row rs (q / 4)) (q % 4)

  abbrev pub facet_of : (q : ℕ) → Facet
  facet_of q = record { of = tet_of (row rs (q / 4)); lacks = slot_at (q % 4) }

-- the test tells which tetrahedra conflict with the new point
module _ (conflict : Tet → Bool) (rs : List TetRecord) where
  abbrev pub drops : (k : ℕ) → Bool
  drops k = conflict (tet_of (row rs k))

  abbrev pub keeps : (k : ℕ) → Bool
  keeps k = not (drops k)

  -- a shell face: one of a dropped record whose neighbour is none or is not dropped
  abbrev pub exposed : (q : ℕ) → Bool
  exposed q = drops (q / 4) && (across rs q == none || keeps (across rs q))

  abbrev pub kept_rows : List ℕ
  kept_rows = passing keeps (length rs)

  abbrev pub shell_faces : List ℕ
  shell_faces = passing exposed (4 * length rs)

  -- the same faces, as facets of the tetrahedra
  abbrev pub shell_facets : List Facet
  shell_facets = map (facet_of rs) shell_faces

  -- the new number of a kept record, and of the record over a shell face
  abbrev pub kept_number : (k : ℕ) → ℕ
  kept_number k = rank keeps k

  abbrev pub new_number : (q : ℕ) → ℕ
  new_number q = rank keeps (length rs) + rank exposed q

  -- the number that is written across a face where b was: none stays none, a kept record has its new number, and a dropped
  -- one gives way to the record over the same face
  abbrev pub renumbered : Triple → (b : ℕ) → ℕ
  renumbered f b = cond (b == none) none (cond (drops b) (new_number (4 * b + opposite (tet_of (row rs b)) f)) (kept_number b))

  abbrev pub kept_record : (k : ℕ) → TetRecord
  kept_record k = record {
    points = (row rs k).points;
    neighbours = fours (λ i. renumbered (face_at (row rs k) i) (neighbour (row rs k) i));
    mark = 0;
  }

  -- the number of the first other record over the shell edge of face q that lacks point j
  abbrev pub beside : (q j : ℕ) → ℕ
  beside q j = rank keeps (length rs) + prefix_len (λ p. (p == q) || not (edge_on (row rs (q / 4)) (q % 4) j (face_of rs p))) shell_faces

  -- the record over shell face q, with point n in place of the one that the face lacks
  abbrev pub new_record : (n q : ℕ) → TetRecord
  new_record n q = record {
    points = fours (λ j. cond (j == q % 4) n (point (row rs (q / 4)) j));
    neighbours = fours (λ j. cond (j == q % 4) (renumbered (face_of rs q) (across rs q)) (beside q j));
    mark = 0;
  }

  -- the used records when point n has been added
  abbrev pub records_after : (n : ℕ) → List TetRecord
  records_after n = map kept_record kept_rows ++ map (new_record n) shell_faces

-- what an add makes of whole records of a balanced mesh
pub record AddLaws : Type 0 where
  -- neighbours tell the shell: a face of a dropped record whose neighbour is not dropped is one that no other dropped record has
  pub shells : (conflict : Tet → Bool) (n : ℕ) (rs : List TetRecord) → Whole n rs → Balanced (mesh_of rs) → shell_facets conflict rs ≡ shell (dropped conflict (mesh_of rs))
  -- the records read as the mesh after the add
  pub reads : (conflict : Tet → Bool) (n : ℕ) (rs : List TetRecord) → Whole n rs → Balanced (mesh_of rs) → mesh_of (records_after conflict rs n) ≡ after conflict (mesh_of rs) n
  -- which is balanced, and the records are whole, if the shell is closed
  pub balanced : (conflict : Tet → Bool) (n : ℕ) (rs : List TetRecord) → Whole n rs → Balanced (mesh_of rs) → 4 ≤ n → closed (shell (dropped conflict (mesh_of rs))) ≡ true
      → Balanced (mesh_of (records_after conflict rs n))
  pub whole : (conflict : Tet → Bool) (n : ℕ) (rs : List TetRecord) → Whole n rs → Balanced (mesh_of rs) → 4 ≤ n → closed (shell (dropped conflict (mesh_of rs))) ≡ true
      → length (records_after conflict rs n) ≤ none → Whole (n + 1) (records_after conflict rs n)
