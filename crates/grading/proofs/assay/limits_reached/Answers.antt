use Rattle.std.proofs.Common.{◌≡◌, ◌∙◌, rules}
use Rattle.std.specs.Float.Ieee.{le}
use Rattle.std.specs.List.{fold}
use Rattle.grading.specs.Counts.{one_more}
use Rattle.grading.proofs.Folds.{fold_counts}
use Rattle.grading.proofs.assay.limits_reached.Goals as goal

pub returns : goal.returns
returns c =
    let told : c.fold.result ≡ fold (λ n l. one_more n (le l c.args.amount)) 0 c.args.limits.now = search rules in
    told ∙ fold_counts (λ l. le l c.args.amount) c.args.limits.now c.requires
