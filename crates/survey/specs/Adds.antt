-- What adding a site does: the ten questions, and the tables and counts that an accepted add leaves.
use Rattle.std.specs.Prelude.{◌≡◌, ℕ, ◌+◌, ◌<◌, Bool, List, ◌++◌, length, Ok, Err, Result, slice_set}
use Rattle.geometry.specs.Lifts.{Lift}
use Rattle.geometry.specs.Spots.{Spot}
use Rattle.mesh.specs.Added.{records_after}
use Rattle.mesh.specs.Spaces.{conflicting}
use Rattle.mesh.specs.Tetrahedra.{Tet}
use Rattle.mesh.specs.declared.record.TetRecord.{TetRecord}
use Rattle.survey.specs.declared.counts.Counts.{Counts}
use Rattle.survey.specs.declared.prepare.Prepared.{Prepared}
use Rattle.survey.specs.declared.record.PointRecord.{PointRecord}
use Rattle.survey.specs.declared.refusal.Refusal.{Refusal}
use Rattle.survey.specs.Plans.{table_after}
use Rattle.survey.specs.Prepares.{Filled, NamesLost, hole_questions}
use Rattle.survey.specs.Questions.{first_no, site_questions}
use Rattle.survey.specs.Refusals.{number_of}
use Rattle.survey.specs.Tables.{Lent, spots, used_tets}

-- the record of a site, with mark 0
abbrev pub site_record : Spot → PointRecord
site_record s = record { x = s.x; y = s.y; z = s.z; penalty = s.penalty; mark = 0 }

-- the ten questions in their order
abbrev pub questions : Lift → Counts → List PointRecord → (readings : ℕ) → List TetRecord → Spot → (admitted : Bool) → List Bool
questions L c ps readings ts s admitted =
    site_questions c ps readings ts s admitted ++ hole_questions (conflicting (spots c ps) L s) (used_tets c ts) c.points c.tet_records

-- ten times yes, with the records after the add, and the site has a place in the tables; or the refusal of the first no
pub record Ready (L : Lift) (c : Counts) (ps : List PointRecord) (readings : ℕ) (ts : List TetRecord) (s : Spot) (admitted : Bool) (p : Prepared) : Type 0 where
  pub asked : first_no (questions L c ps readings ts s admitted) ≡ 10
  pub point_place : c.points < length ps
  pub reading_place : c.points < readings
  pub room : c.points < c.point_records
  pub table : length ts ≡ c.tet_records
  pub used : length (used_tets c ts) ≡ c.tets
  pub filled : Filled (conflicting (spots c ps) L s) (used_tets c ts) c.points c.tet_records p

abbrev pub Examined : {R : Type 0} → Lift → Counts → Lent R → Spot → (admitted : Bool) → Result Prepared Refusal → Type 0
Examined L c t s admitted (Ok p) = Ready L c t.points (length t.readings) t.tets s admitted p
Examined L c t s admitted (Err e) =
    (number_of e ≡ 3 + first_no (questions L c t.points (length t.readings) t.tets s admitted)) × (first_no (questions L c t.points (length t.readings) t.tets s admitted) < 10)
    × NamesLost (conflicting (spots c t.points) L s) (used_tets c t.tets) c.points e

-- given what the measure and the grading mean, the counts, the tables, the site and its reading
module _ {R : Type 0} (L : Lift) (admits : R → Bool) (c : Counts) (ps : List PointRecord) (rs : List R) (ts : List TetRecord) (s : Spot) (r : R) where
  -- which tetrahedra the site conflicts with
  abbrev pub conflict : Tet → Bool
  conflict = conflicting (spots c ps) L s

  abbrev pub answers : List Bool
  answers = questions L c ps (length rs) ts s (admits r)

  -- every answer is yes: the site is point n, and the tables hold it and the tetrahedra after it
  pub record Accepted (c' : Counts) (ps' : List PointRecord) (rs' : List R) (ts' : List TetRecord) (n : ℕ) : Type 0 where
    pub asked : first_no answers ≡ 10
    pub number : n ≡ c.points
    pub points : ps' ≡ slice_set ps n (site_record s)
    pub readings : rs' ≡ slice_set rs n r
    pub tets : ts' ≡ table_after conflict ts c.tets n
    pub point_count : c'.points ≡ n + 1
    pub tet_count : c'.tets ≡ length (records_after conflict (used_tets c ts) n)
    pub point_records : c'.point_records ≡ c.point_records
    pub tet_records : c'.tet_records ≡ c.tet_records

  -- a question is answered no, the refusal is that of the first one, and nothing has changed
  pub record Refused (c' : Counts) (ps' : List PointRecord) (rs' : List R) (ts' : List TetRecord) (e : Refusal) : Type 0 where
    pub asked : number_of e ≡ 3 + first_no answers
    pub short : first_no answers < 10
    pub named : NamesLost conflict (used_tets c ts) c.points e
    pub counts : c' ≡ c
    pub points : ps' ≡ ps
    pub readings : rs' ≡ rs
    pub tets : ts' ≡ ts

-- Given the counts and the tables, a site with its reading is added or refused: the counts and the tables that are left, and the answer.
abbrev pub AddsTo : {R : Type 0} → Lift → (admits : R → Bool) → Counts → Lent R → Spot → R → Counts → Lent R → Result ℕ Refusal → Type 0
AddsTo L admits c t s r c' t' (Ok n) = Accepted L admits c t.points t.readings t.tets s r c' t'.points t'.readings t'.tets n
AddsTo L admits c t s r c' t' (Err e) = Refused L admits c t.points t.readings t.tets s r c' t'.points t'.readings t'.tets e
