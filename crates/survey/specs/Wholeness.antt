-- When the caller's tables are whole, in plain words and as a test.
use Rattle.std.specs.Prelude.{◌≡◌, ℕ, ◌<◌, ◌≤◌, Bool, cond, ◌&&◌, List, length, pos, ◌<ℤ◌, ◌==◌, int_lt, nat_lt, slice_index_or}
use Rattle.std.specs.List.{enumerate_from, list_all, range_with_len}
use Rattle.geometry.specs.Limits.{Light}
use Rattle.geometry.specs.Spots.{Spot}
use Rattle.mesh.specs.declared.record.TetRecord.{TetRecord}
use Rattle.mesh.specs.Records.{Whole, row, tet_of, whole_at}
use Rattle.mesh.specs.Spaces.{side_of}
use Rattle.mesh.specs.Surveys.{OnGrid}
use Rattle.survey.specs.declared.counts.Counts.{Counts}
use Rattle.survey.specs.declared.record.PointRecord.{PointRecord}
use Rattle.survey.specs.Corners.{corner, is_corner}
use Rattle.survey.specs.Places.{light, on_grid}
use Rattle.survey.specs.Tables.{blank_point, spot_of, spots, used_points, used_tets}

-- ---- in plain words

-- point record k has mark 0; it is corner k below 4, and from 4 on it has the place and the penalty of a site
pub record WholePoint (k : ℕ) (p : PointRecord) : Type 0 where
  pub mark : p.mark ≡ 0
  pub is_corner : k < 4 → spot_of p ≡ corner k
  pub placed : 4 ≤ k → OnGrid (spot_of p)
  pub light : 4 ≤ k → Light p.penalty

-- The tables are as long as at creation, and the used records of points and of tetrahedra are whole, each tetrahedron with
-- positive Side. Of the readings only the number is looked at.
pub record WholeTables (c : Counts) (ps : List PointRecord) (readings : ℕ) (ts : List TetRecord) : Type 0 where
  pub point_table : length ps ≡ c.point_records
  pub reading_table : readings ≡ c.point_records
  pub tet_table : length ts ≡ c.tet_records
  pub points : (k : ℕ) → k < c.points → WholePoint k (slice_index_or (used_points c ps) k blank_point)
  pub tets : Whole c.points (used_tets c ts)
  pub positive : (k : ℕ) → k < c.tets → pos 0 <ℤ side_of (spots c ps) (tet_of (row (used_tets c ts) k))

-- ---- as a test

abbrev pub as_created : Counts → (points readings tets : ℕ) → Bool
as_created c points readings tets = points == c.point_records && readings == c.point_records && tets == c.tet_records

abbrev pub is_site : PointRecord → Bool
is_site p = on_grid p.x p.y p.z && light p.penalty

abbrev pub whole_point : (k : ℕ) → PointRecord → Bool
whole_point k p = p.mark == 0 && cond (nat_lt k 4) (is_corner k p) (is_site p)

abbrev pub whole_points : List PointRecord → Bool
whole_points ps = list_all (λ e. whole_point e.0 e.1) (enumerate_from 0 ps)

-- record k is whole among points below n, and its Side over some spots is positive
abbrev pub whole_tet : (n : ℕ) → List Spot → List TetRecord → (k : ℕ) → Bool
whole_tet n ss ts k = whole_at n ts k && int_lt (pos 0) (side_of ss (tet_of (row ts k)))

abbrev pub whole_tets : (n : ℕ) → List Spot → List TetRecord → Bool
whole_tets n ss ts = list_all (whole_tet n ss ts) (range_with_len 0 (length ts))

abbrev pub whole_tables : Counts → List PointRecord → (readings : ℕ) → List TetRecord → Bool
whole_tables c ps readings ts =
    as_created c (length ps) readings (length ts) && whole_points (used_points c ps) && whole_tets c.points (spots c ps) (used_tets c ts)
