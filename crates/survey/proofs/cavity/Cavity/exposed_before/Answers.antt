use Rattle.std.proofs.Common.{◌≡◌, ℕ, ◌+◌, ◌-◌, ◌*◌, Bool, ap, ◌∙◌, rules, arith}
use Rattle.std.proofs.lemmas.Iterator.{YieldsList-from_range}
use Rattle.std.proofs.lemmas.Iterator.Consumers.{YieldsList-from_filter, count_from_yields_List}
use Rattle.std.proofs.lemmas.List.Sums.{length-filter}
use Rattle.std.specs.List.{range_with_len}
use borrow.Author.Tests.{tests}
use Rattle.mesh.specs.Added.{rank}
use Rattle.survey.specs.Cavity.{bare}
use Rattle.survey.proofs.Ranges.{rank_ahead}
use Rattle.survey.proofs.cavity.Cavity.exposed_before.Goals as goal

pub returns-clause-counted : goal.returns-clause-counted
returns-clause-counted c =
    let p = bare c.args.self.now.used.now c.args.self.now.dropped.now in
    let test : ℕ → Bool = λ i. p (4 * c.args.k + i) in
    let all = range_with_len 0 c.args.slot in
    let whole : c.args.slot - 0 ≡ c.args.slot = omega arith in
    ap (λ (n : ℕ). rank p (4 * c.args.k) + n)
    (count_from_yields_List c.filter.result c.count.result c.count.ensures.ran (YieldsList-from_filter _ test (YieldsList-from_range 0 c.args.slot c.args.slot (cc) whole) c.filter.ensures.closure (λ x b q k. search (rules, tests)))
    ∙ length-filter test all)
    ∙ rank_ahead p (4 * c.args.k) c.args.slot
