-- Which used tetrahedra conflict, as flags.
use Rattle.std.specs.Prelude.{ℕ, zero, suc, ◌<◌, Bool, false, ◌||◌, ◌≢◌, List, length, slice_index_or}
use Rattle.mesh.specs.Orientations.{Under}
use Rattle.mesh.specs.Records.{neighbour, none, row, tet_of}
use Rattle.mesh.specs.declared.record.TetRecord.{TetRecord}

-- each of some tetrahedron records has points below n
abbrev pub Numbered : ℕ → List TetRecord → Type 0
Numbered n ts = (k : ℕ) → k < length ts → Under n (tet_of (row ts k))

-- a test passes at some number below n
abbrev pub some_below : (ℕ → Bool) → (n : ℕ) → Bool
some_below p zero = false
some_below p (suc n) = some_below p n || p n

-- one of the first n flags is set
abbrev pub some_flag : List Bool → (n : ℕ) → Bool
some_flag flags n = some_below (λ k. slice_index_or flags k false) n

-- each neighbour of some records is none or one of them
abbrev pub Named : List TetRecord → Type 0
Named ts = (k i : ℕ) → k < length ts → i < 4 → neighbour (row ts k) i ≢ none → neighbour (row ts k) i < length ts
