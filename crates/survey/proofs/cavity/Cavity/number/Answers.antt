use Rattle.std.proofs.Common.{◌≡◌, ◌+◌, ◌*◌, ◌<◌, length, sym, ap, ◌∙◌, arith}
use Rattle.std.proofs.lemmas.Bool.{cond-true, cond-false, not_from_true, not_from_false}
use Rattle.mesh.specs.Added.{rank}
use Rattle.survey.specs.Cavity.{bare, left, gone}
use Rattle.survey.proofs.Holes.{rank_le, rank_yes, rank_no, rank_four, kept_bare, noted_more}
use Rattle.survey.proofs.cavity.Cavity.number.Goals as goal
use Rattle.survey.proofs.cavity.Cavity.number.Goals.{then-dropped, else-dropped}

pub overflow_cast-numbers : goal.overflow_cast-numbers
overflow_cast-numbers c = let few = rank_le (bare c.args.self.now.used.now c.args.self.now.dropped.now) (4 * c.loop-k.k) in omega arith

pub overflow_add-shell : goal.overflow_add-shell
overflow_add-shell c = let few = rank_le (bare c.args.self.now.used.now c.args.self.now.dropped.now) (4 * c.loop-k.k) in omega arith

pub overflow_cast-numbers-else-dropped : goal.overflow_cast-numbers-else-dropped
overflow_cast-numbers-else-dropped c = let few = rank_le (left c.args.self.now.dropped.now) c.loop-k.k in omega arith

pub overflow_add-kept : goal.overflow_add-kept
overflow_add-kept c = let few = rank_le (left c.args.self.now.dropped.now) c.loop-k.k in omega arith

pub loop-k-preserved : goal.loop-k-preserved
loop-k-preserved c =
    let rs = c.args.self.now.used.now in
    let fs = c.args.self.now.dropped.now in
    let k = c.loop-k.k in
    let inv = c.loop-k.invariant in
    let fits : k < length c.loop-k.numbers = omega arith in
    elim c.if-dropped.branch [
      | then-dropped w ↦
          let next : 4 * k + 4 ≡ 4 * (k + 1) = omega arith in (
            w.kept-is ∙ inv.0 ∙ sym (rank_no (left fs) k (not_from_true (gone fs k) w.if-dropped.true)),
            omega (arith, w.shell-is, inv.1, w.exposed_before-shell.ensures.counted, ap (rank (bare rs fs)) next),
            noted_more rs fs c.loop-k.numbers k _ fits w.numbers-is (inv.1 ∙ sym (cond-true (gone fs k) _ _ w.if-dropped.true)) inv.2,
          )
      | else-dropped w ↦ (
        w.kept-is ∙ ap (λ n. n + 1) inv.0 ∙ sym (rank_yes (left fs) k (not_from_false (gone fs k) w.if-dropped.false)),
        w.shell-is ∙ inv.1 ∙ sym (rank_four (bare rs fs) k (λ i l. kept_bare rs fs k i w.if-dropped.false l)),
        noted_more rs fs c.loop-k.numbers k _ fits w.numbers-is (inv.0 ∙ sym (cond-false (gone fs k) _ _ w.if-dropped.false)) inv.2,
      )
    ]
