-- What creating a survey answers, and what it leaves in the tables.
use Rattle.std.specs.Prelude.{◌≡◌, ℕ, Bool, cond, ◌&&◌, List, ◌++◌, length, drop, Some, None, Ok, Err, Option, Result, ◌==◌, nat_le, slice_set}
use Rattle.mesh.specs.declared.record.TetRecord.{TetRecord}
use Rattle.mesh.specs.Records.{big_record}
use Rattle.survey.specs.declared.counts.Counts.{Counts}
use Rattle.survey.specs.declared.open.Open.{Open}
use Rattle.survey.specs.declared.record.PointRecord.{PointRecord}
use Rattle.survey.specs.declared.refusal.Refusal.{Refusal}
use Rattle.survey.specs.declared.refusal.Refusal.TheVariants.{PointTable, TetTable}
use Rattle.survey.specs.Corners.{corner_records}
use Rattle.survey.specs.Tables.{Lent}

-- 5 to 1,024 point records, and as many readings
abbrev pub fit_points : (points readings : ℕ) → Bool
fit_points points readings = nat_le 5 points && nat_le points 1024 && readings == points

-- 1 to 16,384 tetrahedron records
abbrev pub fit_tets : (tets : ℕ) → Bool
fit_tets tets = nat_le 1 tets && nat_le tets 16384

-- the first question that is answered no
abbrev pub unfit : (points readings tets : ℕ) → Option Refusal
unfit points readings tets = cond (fit_points points readings) (cond (fit_tets tets) None (Some TetTable)) (Some PointTable)

-- four points and one tetrahedron are used, of p and t records
pub record Begun (p t : ℕ) (c : Counts) : Type 0 where
  pub points : c.points ≡ 4
  pub tets : c.tets ≡ 1
  pub point_records : c.point_records ≡ p
  pub tet_records : c.tet_records ≡ t

-- the point table with the corners in front
abbrev pub with_corners : List PointRecord → List PointRecord
with_corners ps = corner_records ++ drop 4 ps

-- the tetrahedron table with the big tetrahedron in front
abbrev pub with_big : List TetRecord → List TetRecord
with_big ts = slice_set ts 0 big_record

-- Tables t come in, and t' are left. No reading changes, and no record behind the corners and the big tetrahedron; a refusal
-- changes none.
abbrev pub Created : {M G R : Type 0} → M → G → (t t' : Lent R) → Result (Open M G) Refusal → Type 0
Created m g t t' (Ok o) =
    (unfit (length t.points) (length t.readings) (length t.tets) ≡ None) × Begun (length t.points) (length t.tets) o.counts × (o.measure ≡ m) × (o.grading ≡ g)
    × (t'.points ≡ with_corners t.points) × (t'.readings ≡ t.readings) × (t'.tets ≡ with_big t.tets)
Created m g t t' (Err e) =
    (unfit (length t.points) (length t.readings) (length t.tets) ≡ Some e) × (t'.points ≡ t.points) × (t'.readings ≡ t.readings) × (t'.tets ≡ t.tets)
