use Rattle.std.proofs.Common.{ap, ◌∙◌}
use lib.Ieee.{binary64, mul, to_unsigned}
use Rattle.grading.proofs.Amounts.{literal_four}
use Rattle.listing.proofs.Quarters.{quarters_exact}
use Rattle.listing.proofs.amount.quarters_in.Goals as goal

pub returns : goal.returns
returns c = record {
  value = c.saturating_f64_to_u32.ensures ∙ ap (λ v. to_unsigned 32 (mul binary64 c.args.amount v)) literal_four;
  exact = quarters_exact;
}
