-- What holds of the used records of whole tables.
use Rattle.std.proofs.Common.{◌≡◌, ℕ, ◌<◌, ◌⊎◌, List, length, subst, inl, inr, arith}
use Rattle.std.proofs.lemmas.Bool.{cases_Bool}
use Rattle.mesh.specs.declared.record.TetRecord.{TetRecord}
use Rattle.mesh.specs.Orientations.{Under}
use Rattle.mesh.specs.Records.{WholeAt, face_at, is_outer, neighbour, none, row, tet_of}
use Rattle.survey.specs.declared.counts.Counts.{Counts}
use Rattle.survey.specs.declared.record.PointRecord.{PointRecord}
use Rattle.survey.specs.Tables.{used_points, used_tets}
use Rattle.survey.specs.Wholeness.{WholeTables}
use Rattle.survey.proofs.WholeTables.{used_length}

module _ (c : Counts) (ps : List PointRecord) (readings : ℕ) (ts : List TetRecord) (w : WholeTables c ps readings ts) where
  -- the used records are as many as counted
  pub used_points_length : length (used_points c ps) ≡ c.points
  used_points_length = used_length c.points ps (omega (arith, w.point_table))

  pub used_tets_length : length (used_tets c ts) ≡ c.tets
  used_tets_length = used_length c.tets ts (omega (arith, w.tet_table))

  -- a used tetrahedron has mark 0, well-formed points and the right neighbours
  pub used_whole : (k : ℕ) → k < c.tets → WholeAt c.points (used_tets c ts) k
  used_whole k l = w.tets k (omega (arith, used_tets_length))

  -- its points are used points
  pub used_under : (k : ℕ) → k < c.tets → Under c.points (tet_of (row (used_tets c ts) k))
  used_under k l = (used_whole k l).formed.under

  -- and its neighbours are none or used
  pub used_neighbour : (k i : ℕ) → k < c.tets → i < 4 → (neighbour (row (used_tets c ts) k) i ≡ none) ⊎ (neighbour (row (used_tets c ts) k) i < c.tets)
  used_neighbour k i l j = elim (cases_Bool (is_outer (face_at (row (used_tets c ts) k) i))) [
    | inl e ↦ inl ((used_whole k l).outer i j e)
    | inr e ↦ inr (subst (λ (n : ℕ). neighbour (row (used_tets c ts) k) i < n) used_tets_length ((used_whole k l).inner i j e).within)
  ]
