-- What is promised of a survey with a past.
use Rattle.std.specs.Prelude.{◌≡◌, ℕ, ◌<◌, Bool, true, false, ◌≢◌, ◌⊎◌, List, [], ◌∷◌, map, length, take, drop, pos, ◌<ℤ◌, Ok, Err, Result}
use Rattle.std.specs.List.{AllByRecursion}
use Rattle.algebra.specs.Sums.{sum_z}
use Rattle.geometry.specs.Lifts.{Lift}
use Rattle.geometry.specs.Spots.{Spot}
use Rattle.mesh.specs.Past.{Allowed}
use Rattle.mesh.specs.Records.{face_at, is_outer, mesh_of, neighbour, none, opposite, point, row, slot_at, tet_of}
use Rattle.mesh.specs.Soundness.{AddsUp, whole_side}
use Rattle.mesh.specs.Spaces.{conflicting, numbered, side_of}
use Rattle.mesh.specs.Surveys.{Answer, Call, Grading, State, Tables, points as points_of, refused}
use Rattle.mesh.specs.Tetrahedra.{Tet, Triple, has, has_face, put}
use Rattle.mesh.specs.declared.record.TetRecord.{TetRecord}
use Rattle.survey.specs.declared.counts.Counts.{Counts}
use Rattle.survey.specs.declared.open.Open.{Open}
use Rattle.survey.specs.declared.refusal.Refusal.{Refusal}
use Rattle.survey.specs.Pasts.{Ran, Survey, counts_in, grading_in, is_open, measure_in, opened}
use Rattle.survey.specs.States.{meaning}
use Rattle.survey.specs.Tables.{Lent, spots, used_tets}
use Rattle.survey.specs.Wholeness.{WholeTables}

-- ---- what the tables hold

-- how many records the tables have
abbrev pub sizes : Counts → Tables
sizes c = record { points = c.point_records; tetrahedra = c.tet_records }

-- The tables hold a state: the used point records are the corners and the accepted sites as they were brought, the readings from
-- number 4 on are theirs, and the used tetrahedra are the mesh, in its order.
pub record Holds {R : Type 0} (c : Counts) (tables : Lent R) (going : Bool) (s : State R) : Type 0 where
  pub places : spots c tables.points ≡ points_of s
  pub readings : drop 4 (take c.points tables.readings) ≡ map (λ a. a.reading) s.sites
  pub mesh : mesh_of (used_tets c tables.tets) ≡ s.mesh
  pub still_open : s.is_open ≡ going

-- ---- soundness of the used records, over the points

module _ (L : Lift) (ps : List Spot) (rs : List TetRecord) where
  abbrev pub tet_at : (k : ℕ) → Tet
  tet_at k = tet_of (row rs k)

  -- face i of record k, the record across it, and the slot of that record's fourth point
  abbrev pub face_of : (k i : ℕ) → Triple
  face_of k i = face_at (row rs k) i

  abbrev pub across : (k i : ℕ) → ℕ
  across k i = neighbour (row rs k) i

  abbrev pub beyond : (k i : ℕ) → ℕ
  beyond k i = opposite (tet_at (across k i)) (face_of k i)

  -- an outer face: its points are corners, it belongs to this record alone, and there is none across
  pub record OuterFace (k i : ℕ) : Type 0 where
    pub corners : is_outer (face_of k i) ≡ true
    pub alone : across k i ≡ none
    pub only : (j : ℕ) → j < length rs → has_face (face_of k i) (tet_at j) ≡ true → j ≡ k

  -- Any other face belongs to exactly two records. They name each other across it, and are on opposite sides of it: the other's
  -- fourth point, put for this one's, makes Side negative.
  pub record SharedFace (k i : ℕ) : Type 0 where
    pub inner : is_outer (face_of k i) ≡ false
    pub used : across k i < length rs
    pub apart : across k i ≢ k
    pub shares : has_face (face_of k i) (tet_at (across k i)) ≡ true
    pub only : (j : ℕ) → j < length rs → has_face (face_of k i) (tet_at j) ≡ true → (j ≡ k) ⊎ (j ≡ across k i)
    pub back : across (across k i) (beyond k i) ≡ k
    pub opposed : side_of ps (put (tet_at k) (slot_at i) (point (row rs (across k i)) (beyond k i))) <ℤ pos 0

  pub record Sound : Type 0 where
    -- every tetrahedron has positive Side, and meets the others face to face
    pub positive : (k : ℕ) → k < length rs → pos 0 <ℤ side_of ps (tet_at k)
    pub faces : (k i : ℕ) → k < length rs → i < 4 → OuterFace k i ⊎ SharedFace k i
    -- no corner or site conflicts with a tetrahedron, and each belongs to at least one
    pub clear : (k q : ℕ) → k < length rs → q < length ps → conflicting ps L (numbered ps q) (tet_at k) ≡ false
    pub member : (q : ℕ) → q < length ps → (k : ℕ) × (k < length rs) × (has q (tet_at k) ≡ true)
    -- the Sides add up to that of the big tetrahedron
    pub total : sum_z (side_of ps) (mesh_of rs) ≡ whole_side

-- ---- the promise

-- The calls and answers of the past, those of statements with their figures, are such as the rules allow, and lead to the state
-- that the tables hold. The tables are whole and sound, the lines and the margin of each statement add up, and no call found the
-- tables broken.
pub record Upheld {R : Type 0} (L : Lift) (G : Grading R) (past : List (Call R × Answer)) (going : Bool) (c : Counts) (tables : Lent R) : Type 0 where
  pub state : State R
  pub allowed : Allowed L G (sizes c) past state
  pub held : Holds c tables going state
  pub whole : WholeTables c tables.points (length tables.readings) tables.tets
  pub sound : Sound L (spots c tables.points) (used_tets c tables.tets)
  pub statements : AllByRecursion (λ e. AddsUp e.1) past
  pub unbroken : AllByRecursion (λ e. e.1 ≢ refused 3) past

module _ {M G R : Type 0} (lifts : M → Lift) (admitted : G → R → Bool) (classed : G → R → R → R → R → ℕ) where
  -- the same of a survey, by what its measure and its grading mean
  abbrev pub Promise : List (Call R × Answer) → Survey M G → Lent R → Type 0
  Promise past s tables = Upheld (lifts (measure_in s)) (meaning admitted classed (grading_in s)) past (is_open s) (counts_in s) tables

  -- it holds after every past
  abbrev pub EveryPast : Type 0
  EveryPast = (past : List (Call R × Answer)) (s : Survey M G) (tables : Lent R) → Ran lifts admitted classed past s tables → Promise past s tables

  -- ---- what a call says of it

  -- a survey and its tables have a past, after which the promise holds
  pub record Kept (past : List (Call R × Answer)) (s : Survey M G) (tables : Lent R) : Type 0 where
    pub ran : Ran lifts admitted classed past s tables
    pub upheld : Promise past s tables

  -- creating leaves a survey and tables whose past is empty
  abbrev pub Starts : Lent R → Result (Open M G) Refusal → Type 0
  Starts tables (Ok o) = Kept [] (opened o) tables
  Starts tables (Err e) = Unit {0}

  -- whatever past a call met, it leaves that past with itself and its answer behind it
  abbrev pub Continues : (before : Survey M G) → Lent R → Call R × Answer → (after : Survey M G) → Lent R → Type 0
  Continues before tables entry after tables' = (past : List (Call R × Answer)) → Ran lifts admitted classed past before tables → Kept (entry ∷ past) after tables'
