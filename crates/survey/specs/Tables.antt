-- The caller's tables, and what of them a survey uses.
use Rattle.std.specs.Prelude.{◌≡◌, ℕ, ◌<◌, List, map, length, take, slice_index_or}
use Rattle.geometry.specs.Spots.{Spot, InLimits}
use Rattle.mesh.specs.declared.record.TetRecord.{TetRecord}
use Rattle.survey.specs.declared.counts.Counts.{Counts}
use Rattle.survey.specs.declared.record.PointRecord.{PointRecord}
use Rattle.survey.specs.declared.tables.Tables.{Tables}
use Rattle.survey.specs.declared.tables.TablesRef.{TablesRef}

-- what a read past the point table gives
abbrev pub blank_point : PointRecord
blank_point = record { x = 0; y = 0; z = 0; penalty = 0; mark = 0 }

-- the spot of a point record
abbrev pub spot_of : PointRecord → Spot
spot_of p = record { x = p.x; y = p.y; z = p.z; penalty = p.penalty }

-- the three tables, as they are lent to a call
pub record Lent (R : Type 0) : Type 0 where
  pub points : List PointRecord
  pub readings : List R
  pub tets : List TetRecord

-- what a call that may write finds in the tables, and what a call that reads is shown
abbrev pub lent : {R : Type 0} → Tables R → Lent R
lent t = record { points = t.points.now; readings = t.readings.now; tets = t.tets.now }

abbrev pub shown : {R : Type 0} → TablesRef R → Lent R
shown t = record { points = t.points.now; readings = t.readings.now; tets = t.tets.now }

-- a call leaves the three references that it was lent, whatever it wrote behind them
abbrev pub SameTables : {R : Type 0} → (t t' : Tables R) → Type 0
SameTables t t' = (t'.points.ghost_name ≡ t.points.ghost_name) × (t'.readings.ghost_name ≡ t.readings.ghost_name) × (t'.tets.ghost_name ≡ t.tets.ghost_name)

-- it leaves the lengths of the tables too
abbrev pub SameLengths : {R : Type 0} → (t t' : Tables R) → Type 0
SameLengths t t' = (length t'.points.now ≡ length t.points.now) × (length t'.readings.now ≡ length t.readings.now) × (length t'.tets.now ≡ length t.tets.now)

-- the records that a survey uses
abbrev pub used_points : Counts → List PointRecord → List PointRecord
used_points c ps = take c.points ps

abbrev pub used_tets : Counts → List TetRecord → List TetRecord
used_tets c ts = take c.tets ts

-- the corners and the sites, as the table has them
abbrev pub spots : Counts → List PointRecord → List Spot
spots c ps = map spot_of (used_points c ps)

-- each record is the spot of a point that may exist
abbrev pub AllInLimits : List PointRecord → Type 0
AllInLimits ps = (k : ℕ) → k < length ps → InLimits (spot_of (slice_index_or ps k blank_point))
