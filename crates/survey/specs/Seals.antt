-- What sealing makes of an open survey.
use Rattle.std.specs.Prelude.{◌≡◌}
use Rattle.survey.specs.declared.open.Open.{Open}
use Rattle.survey.specs.declared.sealed.Sealed.{Sealed}

-- the sealed survey keeps everything that the open one remembers
pub record SealedAs {M G : Type 0} (o : Open M G) (s : Sealed M G) : Type 0 where
  pub counts : s.counts ≡ o.counts
  pub measure : s.measure ≡ o.measure
  pub grading : s.grading ≡ o.grading
