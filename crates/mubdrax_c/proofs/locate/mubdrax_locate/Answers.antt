use Rattle.std.proofs.Common.{sym, subst, inr}
use Rattle.mubdrax_c.specs.Kept.{Stand}
use Rattle.mubdrax_c.proofs.locate.mubdrax_locate.Goals as goal

pub returns : goal.returns
returns c = inr (record {
  survey = c.seal.result;
  result = c.locate.result;
  counts = subst (λ x. Stand c.args.counts.now x) (sym c.seal.ensures.seals.counts) c.in-Some.ensures.1;
  located = c.locate.ensures.locates;
  carries_on = c.locate.ensures.continues;
  answer = c.from.ensures;
})
