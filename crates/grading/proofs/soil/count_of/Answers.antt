use Rattle.std.proofs.Common.{◌≡◌, nat_eq, ◌∙◌, rules, arith}
use Rattle.std.specs.List.{fold}
use Rattle.grading.specs.Counts.{one_more}
use Rattle.grading.proofs.Folds.{fold_counts}
use Rattle.grading.proofs.soil.count_of.Goals as goal

pub returns : goal.returns
returns c =
    let told : c.fold.result ≡ fold (λ n x. one_more n (nat_eq x c.args.code)) 0 c.args.codes.now = search rules in
    told ∙ fold_counts (λ x. nat_eq x c.args.code) c.args.codes.now (omega arith)
