-- The hole that an add makes in the used records, told from flags: one for each record, set where it is dropped.
use Rattle.std.specs.Prelude.{◌≡◌, ℕ, ◌+◌, ◌*◌, ◌/◌, ◌<◌, ◌≤◌, Bool, false, cond, not, ◌&&◌, ◌||◌, ◌≢◌, List, length, ◌==◌, slice_index, slice_index_or}
use Rattle.std.specs.List.{All}
use Rattle.mesh.specs.Added.{across, drops, passing, rank}
use Rattle.mesh.specs.Records.{none, row, neighbour}
use Rattle.mesh.specs.Tetrahedra.{Tet}
use Rattle.mesh.specs.declared.record.TetRecord.{TetRecord}
use Rattle.survey.specs.declared.cavity.shell_face.ShellFace.{ShellFace}

-- there are at most 16,384 used records with a flag each, and each neighbour is none or a used record
pub record Ready (rs : List TetRecord) (fs : List Bool) : Type 0 where
  pub few : length rs ≤ 16384
  pub flags : length fs ≡ length rs
  pub named : (k i : ℕ) → k < length rs → i < 4 → neighbour (row rs k) i ≢ none → neighbour (row rs k) i < length rs

abbrev pub gone : List Bool → (k : ℕ) → Bool
gone fs k = slice_index_or fs k false

abbrev pub left : List Bool → (k : ℕ) → Bool
left fs k = not (gone fs k)

-- the flags are set for the records whose tetrahedron conflicts
abbrev pub Flagged : (conflict : Tet → Bool) → List TetRecord → List Bool → Type 0
Flagged conflict rs fs = (k : ℕ) → k < length rs → gone fs k ≡ drops conflict rs k

-- Face q is a shell face: one of a dropped record whose neighbour is none or is kept. Face i of record k has number 4 * k + i.
abbrev pub bare : List TetRecord → List Bool → (q : ℕ) → Bool
bare rs fs q = gone fs (q / 4) && (across rs q == none || left fs (across rs q))

-- the shell faces in order
abbrev pub bare_faces : List TetRecord → List Bool → List ℕ
bare_faces rs fs = passing (bare rs fs) (4 * length rs)

-- the number of a face
abbrev pub face_number : ShellFace → ℕ
face_number f = 4 * f.record + f.slot

-- some faces are each one of a used record
abbrev pub Placed : List TetRecord → List ShellFace → Type 0
Placed rs ss = All (λ f. f.record < length rs) ss

-- the number noted for record k: among the kept ones that of a kept record, and of a dropped one how many shell faces precede its own
abbrev pub noted : List TetRecord → List Bool → (k : ℕ) → ℕ
noted rs fs k = cond (gone fs k) (rank (bare rs fs) (4 * k)) (rank (left fs) k)

abbrev pub Noted : List TetRecord → List Bool → (upto : ℕ) → List ℕ → Type 0
Noted rs fs upto ns = (k : ℕ) → k < upto → slice_index ns k ≡ noted rs fs k
