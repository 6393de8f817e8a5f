-- Counts and surveys that are made from numbers which the caller kept.
use Rattle.std.specs.Prelude.{◌≡◌, ℕ, Bool, true, false, ◌&&◌, Some, None, Option, nat_le}
use Rattle.survey.specs.declared.counts.Counts.{Counts}
use Rattle.survey.specs.declared.open.Open.{Open}

-- a survey can use so many points and tetrahedra, of so many records
abbrev pub possible : (points tets point_records tet_records : ℕ) → Bool
possible p t pr tr = nat_le 4 p && nat_le p pr && nat_le pr 1024 && nat_le t tr && nat_le tr 16384

-- the counts have these numbers
pub record Counted (p t pr tr : ℕ) (c : Counts) : Type 0 where
  pub points : c.points ≡ p
  pub tets : c.tets ≡ t
  pub point_records : c.point_records ≡ pr
  pub tet_records : c.tet_records ≡ tr

-- the counts with these numbers where a survey can have them, and none otherwise
abbrev pub CountsOf : (p t pr tr : ℕ) → Option Counts → Type 0
CountsOf p t pr tr (Some c) = (possible p t pr tr ≡ true) × Counted p t pr tr c
CountsOf p t pr tr None = possible p t pr tr ≡ false

-- a survey with these counts, measure and grading
pub record Resumed {M G : Type 0} (c : Counts) (m : M) (g : G) (o : Open M G) : Type 0 where
  pub counts : o.counts ≡ c
  pub measure : o.measure ≡ m
  pub grading : o.grading ≡ g
