-- What a survey's past may be: which answer each call may give, and which state it leaves, told from the calls alone.
use Rattle.std.specs.Prelude.{◌≡◌, ℕ, ◌<◌, true, false, List, [], ◌∷◌, length, slice_index_or}
use Rattle.std.specs.List.{AllByRecursion}
use Rattle.geometry.specs.Lifts.{Lift}
use Rattle.geometry.specs.Spots.{Spot, bare}
use Rattle.mesh.specs.Adding.{Adds}
use Rattle.mesh.specs.Owners.{Owns}
use Rattle.mesh.specs.Statements.{lines, margin}
use Rattle.mesh.specs.Surveys.{Grading, Tables, Call, add, seal, locate, state, Answer, refused, sealed, found, stated, State, created, points, after_seal, OnGrid}
use Rattle.mesh.specs.Tetrahedra.{Tet, big}

module _ {R : Type 0} (s : State R) (g : Spot) where
  abbrev pub Owner : Tet → Type 0
  Owner = Owns (points s) g

  -- What locating may answer: tetrahedra are numbered from 0 in the order of the mesh, and the lowest that owns the place is found.
  pub data Locates : Answer → Type 0 where
    nowhere : ¬ OnGrid g → Locates (refused 4)
    no_owner : OnGrid g → AllByRecursion (λ t. ¬ Owner t) s.mesh → Locates (refused 13)
    lowest_owner : OnGrid g → (k : ℕ) → k < length s.mesh → Owner (slice_index_or s.mesh k big) → ((j : ℕ) → j < k → ¬ Owner (slice_index_or s.mesh j big)) → Locates (found k)

module _ {R : Type 0} (L : Lift) (G : Grading R) (tables : Tables) where
  -- One call: from state s it may give the answer and leave the last state. An open survey is added to or sealed; a sealed
  -- one is located in and stated.
  pub data Step (s : State R) : Call R → Answer → State R → Type 0 where
    adds : {p : Spot} {r : R} {a : Answer} {e : State R} → s.is_open ≡ true → Adds L G tables s p r a e → Step s (add p r) a e
    seals : s.is_open ≡ true → Step s seal sealed (after_seal s)
    locates : {x y z : ℕ} {a : Answer} → s.is_open ≡ false → Locates s (bare x y z) a → Step s (locate x y z) a s
    states : s.is_open ≡ false → Step s state (stated (lines G s) (margin s)) s

  -- a survey's calls with their answers, the newest first, lead from its creation to the state
  abbrev pub Allowed : List (Call R × Answer) → State R → Type 0
  Allowed [] s = s ≡ created
  Allowed (e ∷ past) s = (before : State R) × Allowed past before × Step before e.0 e.1 s
