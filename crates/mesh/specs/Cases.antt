-- What the rules say of single surveys.
use Rattle.std.specs.Prelude.{◌≡◌, ℕ, ◌≤◌, true, false, List, [], ◌∷◌, map, pos, nat_eq}
use Rattle.geometry.specs.Lifts.{Lift}
use Rattle.geometry.specs.PlainLift.{plain}
use Rattle.geometry.specs.Spots.{Spot, bare, corners}
use Rattle.geometry.specs.StretchedLift.{stretched}
use Rattle.geometry.specs.WeightedLift.{weighted}
use Rattle.grading.specs.declared.soil.Reading.{Reading}
use Rattle.grading.specs.declared.soil.Reading.TheVariants.{Sand, Clay}
use Rattle.grading.specs.Soil.{commonest}
use Rattle.mesh.specs.Added.{records_after}
use Rattle.mesh.specs.Adding.{conflicts, with_site}
use Rattle.mesh.specs.Owners.{leads}
use Rattle.mesh.specs.Past.{Step}
use Rattle.mesh.specs.Records.{TetRecord, none, big_record}
use Rattle.mesh.specs.Spaces.{side_of}
use Rattle.mesh.specs.Surveys.{Grading, Call, add, locate, state, Answer, accepted, refused, refused_over, found, stated, Line, Site, State, created, points, after_seal, OnGrid}
use Rattle.mesh.specs.Tetrahedra.{Tet, big}

-- the grading of soils, which admits every reading
abbrev pub soil : Grading Reading
soil = record { admits = λ _. true; class = commonest }

abbrev pub tet : (a b c d : ℕ) → Tet
tet a b c d = record { a = a; b = b; c = c; d = d }

-- the place (100,100,100), with a penalty
abbrev pub hundred : (penalty : ℕ) → Spot
hundred w = record { x = 100; y = 100; z = 100; penalty = w }

-- the survey with one site there, in sand
abbrev pub one_site : Lift → (penalty : ℕ) → State Reading
one_site L w = with_site L created (hundred w) Sand

-- with so many point and tetrahedron records, adding a place may answer so and leave the state e
abbrev pub Answers : Lift → (points tetrahedra : ℕ) → State Reading → Spot → Answer → State Reading → Type 0
Answers L points tetrahedra s p a e = Step L soil (record { points = points; tetrahedra = tetrahedra }) s (add p Sand) a e

-- a place that a new survey refuses with 4
abbrev pub OffGrid : (x y z : ℕ) → Type 0
OffGrid x y z = Answers plain 5 5 created (bare x y z) (refused 4) created

-- a grading that admits nothing
abbrev pub refusing : Grading Reading
refusing = record { admits = λ _. false; class = commonest }

abbrev pub site : (x y z : ℕ) → Reading → Site Reading
site x y z r = record { place = bare x y z; reading = r }

-- A state that no past leaves: two tetrahedra with one edge in common, so that the shell of both is not closed, and a third
-- site that belongs to none.
abbrev pub crossed : State Reading
crossed = record { sites = site 10 100 50 Sand ∷ site 10 50 100 Sand ∷ site 100 100 100 Sand ∷ []; mesh = big ∷ tet 0 1 4 5 ∷ []; is_open = true }

-- with so many records, adding there may answer so
abbrev pub Crossed : Grading Reading → (points tetrahedra : ℕ) → Spot → Answer → Type 0
Crossed G points tetrahedra p a = Step weighted G (record { points = points; tetrahedra = tetrahedra }) crossed (add p Sand) a crossed

-- a sealed survey may answer a call so
abbrev pub AnswersSealed : State Reading → Call Reading → Answer → Type 0
AnswersSealed s c a = Step plain soil (record { points = 5; tetrahedra = 5 }) s c a s

-- a sealed survey of two sites in clay and two in sand; its mesh, which no add makes, is their tetrahedron and the big one
abbrev pub two_tetrahedra : State Reading
two_tetrahedra = record {
  sites = site 100 100 100 Clay ∷ site 110 100 100 Clay ∷ site 100 110 100 Sand ∷ site 100 100 110 Sand ∷ [];
  mesh = tet 4 5 6 7 ∷ big ∷ [];
  is_open = false;
}

-- the line of a class that no tetrahedron has
abbrev pub no_line : Line
no_line = record { tetrahedra = 0; units = pos 0 }

-- the record of the points a, b, c, d with the neighbours p, q, r, s
abbrev pub tet_record : (a b c d p q r s : ℕ) → TetRecord
tet_record a b c d p q r s = record { points = a ∷ b ∷ c ∷ d ∷ []; neighbours = p ∷ q ∷ r ∷ s ∷ []; mark = 0 }

-- those of the survey with one site
abbrev pub one_site_records : List TetRecord
one_site_records = tet_record 4 1 2 3 none 1 2 3 ∷ tet_record 0 4 2 3 0 none 2 3 ∷ tet_record 0 1 4 3 0 1 none 3 ∷ tet_record 0 1 2 4 0 1 2 none ∷ []

pub record Cases : Type 0 where
  -- the corners in order
  pub corner_side : side_of corners big ≡ pos 16777216000
  -- the site (100,100,100) in a new survey
  pub mesh : (one_site plain 0).mesh ≡ tet 4 1 2 3 ∷ tet 0 4 2 3 ∷ tet 0 1 4 3 ∷ tet 0 1 2 4 ∷ []
  pub units : map (side_of (points (one_site plain 0))) (one_site plain 0).mesh ≡ pos 14811136000 ∷ pos 655360000 ∷ pos 655360000 ∷ pos 655360000 ∷ []
  pub four_records : Answers plain 5 4 created (hundred 0) (refused 10) created
  pub five_records : Answers plain 5 5 created (hundred 0) (accepted 4) (one_site plain 0)
  -- the same place again, with any penalty
  pub again : (w : ℕ) → w ≤ 1000000 → Answers plain 6 5 (one_site plain 0) (hundred w) (refused 8) (one_site plain 0)
  -- each coordinate from 1 to 800
  pub lowest : OnGrid (bare 1 1 1)
  pub highest : OnGrid (bare 800 800 800)
  pub x_below : OffGrid 0 100 100
  pub y_below : OffGrid 100 0 100
  pub z_below : OffGrid 100 100 0
  pub x_above : OffGrid 801 100 100
  pub y_above : OffGrid 100 801 100
  pub z_above : OffGrid 100 100 801
  -- how large a penalty may be, and a site that a later one would leave without a tetrahedron
  pub light_enough : Answers weighted 5 5 created (hundred 737999) (accepted 4) (one_site weighted 737999)
  pub too_heavy : Answers weighted 5 5 created (hundred 738000) (refused 9) created
  pub vanishing : Answers weighted 6 8 (one_site weighted 737999) (bare 101 100 100) (refused_over 12 4) (one_site weighted 737999)
  -- a stretched lift, and a class of soils
  pub stretches : stretched 1 2 3 (bare 1 2 3) ≡ 36
  pub tie : soil.class Clay Clay Sand Sand ≡ 0
  -- a penalty that is not permitted, and a point table that is full
  pub penalty_above : Answers plain 5 5 created (hundred 1000001) (refused 5) created
  pub no_room : Answers plain 5 5 (one_site plain 0) (bare 101 100 100) (refused 7) (one_site plain 0)
  -- the questions in their order: each of these would be refused by the next question too
  pub grid_first : Crossed refusing 7 1 (record { x = 0; y = 100; z = 50; penalty = 1000001 }) (refused 4)
  pub then_penalty : Crossed refusing 7 1 (record { x = 10; y = 100; z = 50; penalty = 1000001 }) (refused 5)
  pub then_reading : Crossed refusing 7 1 (record { x = 10; y = 100; z = 50; penalty = 1000000 }) (refused 6)
  pub then_room : Crossed soil 7 1 (record { x = 10; y = 100; z = 50; penalty = 1000000 }) (refused 7)
  pub then_place : Crossed soil 8 1 (record { x = 10; y = 100; z = 50; penalty = 1000000 }) (refused 8)
  pub then_conflict : Crossed soil 8 1 (record { x = 10; y = 100; z = 51; penalty = 1000000 }) (refused 9)
  pub then_fitting : Crossed soil 8 9 (bare 600 60 60) (refused 10)
  pub then_edges : Crossed soil 8 10 (bare 600 60 60) (refused 11)
  -- the place (50,50,50) lies on the edge from corner 0 to the site, which three tetrahedra have; moved along x, then y, it is in the last
  pub located : AnswersSealed (after_seal (one_site plain 0)) (locate 50 50 50) (found 3)
  pub located_off_grid : AnswersSealed (after_seal (one_site plain 0)) (locate 50 50 801) (refused 4)
  pub zeros : leads (pos 0 ∷ pos 0 ∷ pos 0 ∷ pos 0 ∷ []) ≡ false
  -- a tetrahedron of sites in one line, and one with a corner in the margin
  pub figures : AnswersSealed two_tetrahedra state (stated (record { tetrahedra = 1; units = pos 1000 } ∷ no_line ∷ no_line ∷ no_line ∷ no_line ∷ no_line ∷ no_line ∷ no_line ∷ []) (pos 16777216000))
  -- the records after the first add, and after one more that drops the second of them alone
  pub first_records : records_after (conflicts plain (created {R = Reading}) (hundred 0)) (big_record ∷ []) 4 ≡ one_site_records
  pub second_records : records_after (λ t. nat_eq t.b 4) one_site_records 5
      ≡ tet_record 4 1 2 3 none 3 1 2 ∷ tet_record 0 1 4 3 0 5 none 2 ∷ tet_record 0 1 2 4 0 6 1 none
      ∷ tet_record 5 4 2 3 0 4 5 6 ∷ tet_record 0 5 2 3 3 none 5 6 ∷ tet_record 0 4 5 3 3 4 1 6 ∷ tet_record 0 4 2 5 3 4 5 2 ∷ []
