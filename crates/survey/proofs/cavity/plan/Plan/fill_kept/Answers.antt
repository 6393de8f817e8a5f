use Rattle.std.proofs.Common.{◌≡◌, ℕ, ◌*◌, ◌<◌, map, length, get_or, take, sym, ap, ◌∙◌, arith}
use Rattle.std.proofs.lemmas.Bool.{cond-false, not_from_true, not_from_false}
use Rattle.mesh.proofs.Ranks.{passing_at}
use Rattle.mesh.specs.Added.{kept_record, passing, rank}
use Rattle.survey.specs.Cavity.{gone, left, bare}
use Rattle.survey.specs.Plans.{records, flags}
use Rattle.survey.proofs.Filling.{filled_yes, filled_no}
use Rattle.survey.proofs.Renumbering.{kept_same}
use Rattle.survey.proofs.cavity.plan.Plan.fill_kept.Goals as goal
use Rattle.survey.proofs.cavity.plan.Plan.fill_kept.Goals.{then-kept, else-kept}

pub bounds-out-self : goal.bounds-out-self
bounds-out-self c =
    let rs = records c.args.self.now in
    let fs = flags c.args.self.now in
    let k = c.loop-k.k in
    let low : k < length rs = omega (arith, c.loop-k-test.true, c.args.self.now.shell.cavity.ready.flags) in
    let noted = c.args.self.now.noted k low ∙ cond-false (gone fs k) (rank (bare rs fs) (4 * k)) (rank (left fs) k) c.if-kept.true in
    let more = passing_at (left fs) (length rs) k 0 low (not_from_false (gone fs k) c.if-kept.true) in
    omega (arith, noted, more.0, c.args.self.now.total, c.requires, c.loop-k.auto.out)

pub loop-k-preserved : goal.loop-k-preserved
loop-k-preserved c = λ conflict flagged.
    let rs = records c.args.self.now in
    let fs = flags c.args.self.now in
    let k = c.loop-k.k in
    let low : k < length rs = omega (arith, c.loop-k-test.true, c.args.self.now.shell.cavity.ready.flags) in
    elim c.if-kept.branch [
      | then-kept w ↦
          let noted = c.args.self.now.noted k low ∙ cond-false (gone fs k) (rank (bare rs fs) (4 * k)) (rank (left fs) k) w.if-kept.true in
          let more = passing_at (left fs) (length rs) k 0 low (not_from_false (gone fs k) w.if-kept.true) in
          let room : get_or c.args.self.now.numbers.now c.loop-k.k 0 < length c.loop-k.out = omega (arith, noted, more.0, c.args.self.now.total, c.requires, c.loop-k.auto.out) in
          filled_yes (kept_record conflict rs) (left fs) c.loop-k.out k (get_or c.args.self.now.numbers.now k 0) w.kept_record.result
          (not_from_false (gone fs k) w.if-kept.true) noted room w.out-is (w.kept_record.ensures conflict flagged) (c.loop-k.invariant conflict flagged)
      | else-kept w ↦ filled_no (kept_record conflict rs) (left fs) c.loop-k.out k (not_from_true (gone fs k) w.if-kept.false) w.out-is (c.loop-k.invariant conflict flagged)
    ]

pub returns : goal.returns
returns c = λ conflict flagged.
    let rs = records c.args.self.now in
    let fs = flags c.args.self.now in
    let end : c.loop-k.k ≡ length rs = omega (arith, c.args.self.now.shell.cavity.ready.flags) in
    ap (λ (n : ℕ). take n c.loop-k.out) (c.args.self.now.total ∙ ap (rank (left fs)) (sym end))
    ∙ c.loop-k.invariant conflict flagged
    ∙ ap (λ (n : ℕ). map (kept_record conflict rs) (passing (left fs) n)) end
    ∙ ap (map (kept_record conflict rs)) (sym (kept_same conflict rs fs flagged c.args.self.now.shell.cavity.ready (length rs) (omega arith)))
