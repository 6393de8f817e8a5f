-- Places and sites of the code, read as spots.
use Rattle.geometry.specs.Spots.{Spot, bare}
use Rattle.survey.specs.declared.record.PointRecord.{PointRecord}
use Rattle.survey.specs.declared.site.Place.{Place}
use Rattle.survey.specs.declared.site.Site.{Site}

-- the spot of a place, without a penalty
abbrev pub place_spot : Place → Spot
place_spot p = bare p.x p.y p.z

-- the spot of a site
abbrev pub site_spot : Site → Spot
site_spot s = record { x = s.place.x; y = s.place.y; z = s.place.z; penalty = s.penalty }

-- the place of a point record
abbrev pub place_of : PointRecord → Place
place_of p = record { x = p.x; y = p.y; z = p.z }
