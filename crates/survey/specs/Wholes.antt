-- What the used records of whole tables show.
use Rattle.std.specs.Prelude.{◌≡◌, ℕ, List, Ok, Err, Result}
use Rattle.geometry.specs.Spots.{Spot}
use Rattle.mesh.specs.declared.record.TetRecord.{TetRecord}
use Rattle.mesh.specs.Records.{tet_of}
use Rattle.mesh.specs.Tetrahedra.{Tet}
use Rattle.survey.specs.declared.counts.Counts.{Counts}
use Rattle.survey.specs.declared.record.PointRecord.{PointRecord}
use Rattle.survey.specs.declared.refusal.Refusal.{Refusal}
use Rattle.survey.specs.declared.refusal.Refusal.TheVariants.{NotWhole}
use Rattle.survey.specs.declared.tetrahedron.Tetrahedron.{Tetrahedron}
use Rattle.survey.specs.declared.whole.Whole.{Whole}
use Rattle.survey.specs.Tables.{used_points, used_tets}
use Rattle.survey.specs.Views.{spots_in}
use Rattle.survey.specs.Wholeness.{WholeTables}

-- the spots among which a tetrahedron's points stand, and their numbers
abbrev pub space : Tetrahedron → List Spot
space t = spots_in t.points

abbrev pub shape : Tetrahedron → Tet
shape t = tet_of t.tet.now

-- the used records of whole tables, or the refusal of others
abbrev pub WholeOf : Counts → List PointRecord → (readings : ℕ) → List TetRecord → Result Whole Refusal → Type 0
WholeOf c ps readings ts (Ok w) = WholeTables c ps readings ts × (w.points.records.now ≡ used_points c ps) × (w.tets.now ≡ used_tets c ts)
WholeOf c ps readings ts (Err e) = (e ≡ NotWhole) × (¬ WholeTables c ps readings ts)
