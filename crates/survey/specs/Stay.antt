-- The points that an add leaves in the mesh.
use Rattle.std.specs.Prelude.{◌≡◌, ℕ, ◌<◌, Bool, true, false, ◌||◌, List, length, Some, None, Option}
use Rattle.algebra.specs.Lists.{some}
use Rattle.mesh.specs.Added.{face_of, kept_rows, passing, shell_faces}
use Rattle.mesh.specs.Records.{row, point, tet_of}
use Rattle.mesh.specs.Tetrahedra.{Tet, has, on}
use Rattle.mesh.specs.declared.record.TetRecord.{TetRecord}
use Rattle.survey.specs.Cavity.{left}

-- the points of the records are below n
abbrev pub PointsBelow : (n : ℕ) → List TetRecord → Type 0
PointsBelow n rs = (k i : ℕ) → k < length rs → i < 4 → point (row rs k) i < n

-- point q belongs to a kept record
unfoldable pub kept_has : List TetRecord → List Bool → (upto q : ℕ) → Bool
kept_has rs fs upto q = some (λ k. has q (tet_of (row rs k))) (passing (left fs) upto)

-- point q belongs to one of some faces
unfoldable pub faces_have : List TetRecord → (qs : List ℕ) → (q : ℕ) → Bool
faces_have rs qs q = some (λ p. on q (face_of rs p)) qs

-- point q belongs to a kept record or to a shell face
abbrev pub remains : List TetRecord → List Bool → (shell : List ℕ) → (q : ℕ) → Bool
remains rs fs shell q = kept_has rs fs (length rs) q || faces_have rs shell q

-- the same where a test tells the dropped records
abbrev pub remains_by : (conflict : Tet → Bool) → List TetRecord → (q : ℕ) → Bool
remains_by conflict rs q = some (λ k. has q (tet_of (row rs k))) (kept_rows conflict rs) || some (λ p. on q (face_of rs p)) (shell_faces conflict rs)

-- a point below n that fails a test, or none if each passes
abbrev pub Failing : (ℕ → Bool) → (n : ℕ) → Option ℕ → Type 0
Failing p n None = (q : ℕ) → q < n → p q ≡ true
Failing p n (Some q) = (q < n) × (p q ≡ false)
