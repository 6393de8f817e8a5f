-- What adding asks of the tables and the site, in its order.
use Rattle.std.specs.Prelude.{◌≡◌, ℕ, ◌+◌, ◌<◌, Bool, List, [], ◌∷◌, Ok, Err, Result, nat_lt}
use Rattle.std.specs.List.{prefix_len}
use Rattle.geometry.specs.Spots.{Spot}
use Rattle.mesh.specs.declared.record.TetRecord.{TetRecord}
use Rattle.survey.specs.declared.counts.Counts.{Counts}
use Rattle.survey.specs.declared.record.PointRecord.{PointRecord}
use Rattle.survey.specs.declared.refusal.Refusal.{Refusal}
use Rattle.survey.specs.Refusals.{number_of}
use Rattle.geometry.specs.declared.point.Point.{Point}
use Rattle.geometry.specs.Points.{spot}
use Rattle.survey.specs.Places.{light, on_grid}
use Rattle.survey.specs.Searches.{untaken}
use Rattle.survey.specs.Tables.{used_points, used_tets}
use Rattle.survey.specs.declared.whole.Whole.{Whole}
use Rattle.survey.specs.Wholeness.{whole_tables}

-- the place of the first question that is answered no, or how many there are
abbrev pub first_no : List Bool → ℕ
first_no answers = prefix_len (λ b. b) answers

-- questions 1 to 6, of the tables, the site and whether the grading admits its reading
abbrev pub site_questions : Counts → List PointRecord → (readings : ℕ) → List TetRecord → Spot → (admitted : Bool) → List Bool
site_questions c ps readings ts s admitted =
    whole_tables c ps readings ts
    ∷ on_grid s.x s.y s.z
    ∷ light s.penalty
    ∷ admitted
    ∷ nat_lt c.points c.point_records
    ∷ untaken (used_points c ps) s.x s.y s.z
    ∷ []

-- six times yes, the used records and the point of the site; or the refusal of the first no
module _ (c : Counts) (ps : List PointRecord) (readings : ℕ) (ts : List TetRecord) (s : Spot) (admitted : Bool) where
  abbrev pub SiteAsked : Result (Whole × Point) Refusal → Type 0
  SiteAsked (Ok r) = (first_no (site_questions c ps readings ts s admitted) ≡ 6) × (spot r.1 ≡ s) × (r.0.points.records.now ≡ used_points c ps) × (r.0.tets.now ≡ used_tets c ts)
  SiteAsked (Err e) = (number_of e ≡ 3 + first_no (site_questions c ps readings ts s admitted)) × (first_no (site_questions c ps readings ts s admitted) < 6)
