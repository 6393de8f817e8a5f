-- What a survey remembers, as the caller keeps it.
use Rattle.std.specs.Prelude.{◌≡◌, Bool, true, false, Some, None, Option}
use Rattle.geometry.specs.declared.plain.Plain.{Plain}
use Rattle.survey.specs.Resumes.{Counted, possible}
use Rattle.survey.specs.declared.counts.Counts.{Counts}
use Rattle.survey.specs.declared.open.Open.{Open}
use Rattle.mubdrax_c.specs.declared.counts.KeptCounts.{KeptCounts}
use Rattle.mubdrax_c.specs.declared.reading.RecordAssay.{RecordAssay}

-- a survey can have the kept counts
abbrev pub possible_counts : KeptCounts → Bool
possible_counts k = possible k.points k.tets k.point_records k.tet_records

-- the kept counts are these
abbrev pub Stand : KeptCounts → Counts → Type 0
Stand k c = Counted k.points k.tets k.point_records k.tet_records c

-- the open survey with the kept counts, where a survey can have them
abbrev pub ResumedFrom : KeptCounts → Option (Open Plain RecordAssay) → Type 0
ResumedFrom k None = possible_counts k ≡ false
ResumedFrom k (Some o) = (possible_counts k ≡ true) × Stand k o.counts
