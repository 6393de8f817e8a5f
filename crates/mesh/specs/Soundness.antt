-- When a mesh over some points is sound, and that it is after any past.
use Rattle.std.specs.Prelude.{◌≡◌, ℕ, ◌<◌, true, false, ◌≢◌, ◌⊎◌, List, length, ℤ, pos, ◌+ℤ◌, ◌<ℤ◌, slice_index_or}
use Rattle.std.specs.List.{AllByRecursion}
use Rattle.algebra.specs.Lists.{some}
use Rattle.algebra.specs.Sums.{sum_z}
use Rattle.geometry.specs.Lifts.{Lift}
use Rattle.geometry.specs.Spots.{Spot}
use Rattle.mesh.specs.Past.{Step, Allowed}
use Rattle.mesh.specs.Spaces.{side_of, conflicting}
use Rattle.mesh.specs.Surveys.{Grading, Eightfold, Tables, Call, add, seal, locate, state, Answer, accepted, refused, refused_over, sealed, found, stated, Line, State, points}
use Rattle.mesh.specs.Tetrahedra.{Tet, Slot, Triple, at, put, face, has, has_face, on, big}

-- Side of the big tetrahedron
abbrev pub whole_side : ℤ
whole_side = pos 16777216000

module _ (L : Lift) (ps : List Spot) (ts : List Tet) where
  abbrev pub tet : ℕ → Tet
  tet k = slice_index_or ts k big

  -- the face of tetrahedron k that lacks a slot
  abbrev pub face_of : ℕ → Slot → Triple
  face_of k s = face (tet k) s

  -- an outer face: its points are corners, and it belongs to this tetrahedron alone
  pub record OuterFace (k : ℕ) (s : Slot) : Type 0 where
    pub x : (face_of k s).x < 4
    pub y : (face_of k s).y < 4
    pub z : (face_of k s).z < 4
    pub only : (j : ℕ) → j < length ts → has_face (face_of k s) (tet j) ≡ true → j ≡ k

  -- a face that belongs to exactly one other tetrahedron, on the opposite side of it: the other's fourth point, which is
  -- not on the face, put for this one's, makes Side negative
  pub record SharedFace (k : ℕ) (s : Slot) : Type 0 where
    pub other : ℕ
    pub used : other < length ts
    pub apart : other ≢ k
    pub shares : has_face (face_of k s) (tet other) ≡ true
    pub only : (j : ℕ) → j < length ts → j ≢ k → has_face (face_of k s) (tet j) ≡ true → j ≡ other
    pub fourth : Slot
    pub off : on (at (tet other) fourth) (face_of k s) ≡ false
    pub opposite : side_of ps (put (tet k) s (at (tet other) fourth)) <ℤ pos 0

  pub record SoundMesh : Type 0 where
    -- the tetrahedra have positive Side, and meet face to face
    pub positive : AllByRecursion (λ t. pos 0 <ℤ side_of ps t) ts
    pub faces : (k : ℕ) → k < length ts → (s : Slot) → OuterFace k s ⊎ SharedFace k s
    -- no point conflicts with a tetrahedron, and each belongs to at least one
    pub clear : AllByRecursion (λ t. AllByRecursion (λ e. conflicting ps L e t ≡ false) ps) ts
    pub member : (q : ℕ) → q < length ps → some (has q) ts ≡ true
    -- their Sides add up to that of the big one
    pub total : sum_z (side_of ps) ts ≡ whole_side

-- the lines and the margin of a statement add up to the Side of the big tetrahedron
abbrev pub AddsUp : Answer → Type 0
AddsUp (accepted n) = Unit {0}
AddsUp (refused n) = Unit {0}
AddsUp (refused_over n q) = Unit {0}
AddsUp sealed = Unit {0}
AddsUp (found k) = Unit {0}
AddsUp (stated lines margin) = sum_z (λ (l : Line). l.units) lines +ℤ margin ≡ whole_side

-- the answer is a refusal
abbrev pub Refusal : Answer → Type 0
Refusal (accepted n) = ⊥
Refusal (refused n) = Unit {0}
Refusal (refused_over n q) = Unit {0}
Refusal sealed = ⊥
Refusal (found k) = ⊥
Refusal (stated lines margin) = ⊥

-- the answer without the point that it names
abbrev pub unnamed : Answer → Answer
unnamed (accepted n) = accepted n
unnamed (refused n) = refused n
unnamed (refused_over n q) = refused n
unnamed sealed = sealed
unnamed (found k) = found k
unnamed (stated lines margin) = stated lines margin

-- an open survey may be added to or sealed, and a sealed one located in and stated
abbrev pub Permits : {R : Type 0} → State R → Call R → Type 0
Permits s (add p r) = s.is_open ≡ true
Permits s seal = s.is_open ≡ true
Permits s (locate x y z) = s.is_open ≡ false
Permits s state = s.is_open ≡ false

-- with any lift, grading and tables, at a kind of reading R
pub record Law (R : Type 0) : Type 0 where
  -- the mesh is sound after any past
  pub sound : (L : Lift) (G : Grading R) (tables : Tables) (past : List (Call R × Answer)) (s : State R) → Allowed L G tables past s → SoundMesh L (points s) s.mesh
  -- and where the grading has eight classes, each statement of the past adds up
  pub statements : (L : Lift) (G : Grading R) (tables : Tables) → Eightfold G → (past : List (Call R × Answer)) (s : State R) → Allowed L G tables past s → AllByRecursion (λ e. AddsUp e.1) past
  -- a refused call leaves the state as it was
  pub refusals : (L : Lift) (G : Grading R) (tables : Tables) (s : State R) (c : Call R) (a : Answer) (e : State R) → Step L G tables s c a e → Refusal a → e ≡ s
  -- a call that the state permits has an answer
  pub answered : (L : Lift) (G : Grading R) (tables : Tables) (s : State R) (c : Call R) → Permits s c → (a : Answer) × (e : State R) × Step L G tables s c a e
  -- a call has one answer, but for the point that it names, and leaves one state
  pub determined : (L : Lift) (G : Grading R) (tables : Tables) (s : State R) (c : Call R) (a a' : Answer) (e e' : State R) → Step L G tables s c a e → Step L G tables s c a' e'
      → (unnamed a ≡ unnamed a') × (e ≡ e')
