-- What the point records of a view show.
use Rattle.std.specs.Prelude.{ℕ, List, [], ◌∷◌, map, length}
use Rattle.geometry.specs.Spots.{Spot}
use Rattle.mesh.specs.Spaces.{numbered}
use Rattle.mesh.specs.Tetrahedra.{Tet}
use Rattle.survey.specs.Tables.{spot_of}
use Rattle.survey.specs.declared.points.Points.{Points}

-- how many points there are
abbrev pub count : Points → ℕ
count p = length p.records.now

-- their spots
abbrev pub spots_in : Points → List Spot
spots_in p = map spot_of p.records.now

-- the spots of a tetrahedron's points
abbrev pub around : List Spot → Tet → List Spot
around ss t = numbered ss t.a ∷ numbered ss t.b ∷ numbered ss t.c ∷ numbered ss t.d ∷ []
