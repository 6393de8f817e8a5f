use Rattle.std.proofs.Common.{length, ap, ◌∙◌, arith, rules}
use Rattle.std.proofs.lemmas.Result.{err_from_is_err_and}
use Rattle.words.proofs.Files.{next_ended}
use Rattle.words.proofs.Feeding.{accepted_by, advances_by, after_other, after_site, fed_end, fed_fault, fed_refused, label_kept, moved_by, moved_over_site, no_site, refused_by, stopped_by}
use Rattle.words.proofs.feed.feed_words.Goals as goal

pub returns-in_err-token-clause-fed : goal.returns-in_err-token-clause-fed
returns-in_err-token-clause-fed g c =
    let inv = c.loop-token.invariant in
    let p = err_from_is_err_and c.from_residual.result c.from_residual.ensures.1 in
    let stopped = stopped_by g.G.Grading.decoded _ _ (c.grading.ensures ∙ inv.2) _ _ _ c.in_err-token.ensures.next in
    rw (p.1, p.2) (fed_fault _ _ _ _ _ _ _ _ inv.0 _ stopped)

pub loop-token-smaller-in_ok-add_site : goal.loop-token-smaller-in_ok-add_site
loop-token-smaller-in_ok-add_site g c =
    let on = advances_by g.G.Grading.decoded _ _ _ _ _ c.in_ok-token.ensures.next c.in-Some.is in
    omega (arith, on.on, on.within, ap length c.loop-token.invariant.0.bytes)

pub loop-token-preserved-in_ok-add_site : goal.loop-token-preserved-in_ok-add_site
loop-token-preserved-in_ok-add_site g c =
    let inv = c.loop-token.invariant in
    let moved = moved_over_site g.G.Grading.decoded _ _ (c.grading.ensures ∙ inv.2) _ _ _ _ _ c.in_ok-token.ensures.next c.in-Some.is c.in-Site.is in
    let told = c.in_ok-add_site.ensures in
    let adds = accepted_by g.M.Measure.lifts g.G.Grading.admitted _ _ _ _ _ _ _ inv.1 inv.2 _ told.added in
    let label = label_kept _ _ _ _ c.label_after.ensures c.in-Site.is in
    (rw label (after_site _ _ _ _ _ _ _ _ inv.0 _ _ moved c.in_ok-token.ensures.bytes _ _ adds), told.measure ∙ inv.1, told.grading ∙ inv.2, search rules, search rules)

pub returns-in_err-add_site-clause-fed : goal.returns-in_err-add_site-clause-fed
returns-in_err-add_site-clause-fed g c =
    let inv = c.loop-token.invariant in
    let p = err_from_is_err_and c.from_residual-in_err-add_site.result c.from_residual-in_err-add_site.ensures.1 in
    let moved = moved_over_site g.G.Grading.decoded _ _ (c.grading.ensures ∙ inv.2) _ _ _ _ _ c.in_ok-token.ensures.next c.in-Some.is c.in-Site.is in
    let adds = refused_by g.M.Measure.lifts g.G.Grading.admitted _ _ _ _ _ _ _ inv.1 inv.2 _ c.in_err-add_site.ensures.added in
    let label = label_kept _ _ _ _ c.label_after.ensures c.in-Site.is in
    rw (p.1, p.2, adds.2, label) (fed_refused _ _ _ _ _ _ _ _ inv.0 _ _ moved _ _ adds.1)

pub loop-token-smaller : goal.loop-token-smaller
loop-token-smaller g c =
    let on = advances_by g.G.Grading.decoded _ _ _ _ _ c.in_ok-token.ensures.next c.in-Some.is in
    omega (arith, on.on, on.within, ap length c.loop-token.invariant.0.bytes)

pub loop-token-preserved : goal.loop-token-preserved
loop-token-preserved g c =
    let inv = c.loop-token.invariant in
    let moved = moved_by g.G.Grading.decoded _ _ (c.grading.ensures ∙ inv.2) _ _ _ _ c.in_ok-token.ensures.next c.in-Some.is in
    let other = after_other _ _ _ _ _ _ _ _ inv.0 _ _ (no_site _ c.in_default-token.not-Site) moved c.in_ok-token.ensures.bytes in
    (rw c.label_after.ensures other, inv.1, inv.2, inv.3, inv.4)

pub returns-clause-fed : goal.returns-clause-fed
returns-clause-fed g c = fed_end _ _ _ _ _ _ _ _ c.loop-token.invariant.0 (next_ended _ _ _ _ c.in_ok-token.ensures.next c.in_default.is)
