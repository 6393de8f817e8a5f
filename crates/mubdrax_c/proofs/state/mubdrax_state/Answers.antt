use Rattle.std.proofs.Common.{sym, subst, inr}
use Rattle.mubdrax_c.specs.Kept.{Stand}
use Rattle.mubdrax_c.proofs.state.mubdrax_state.Goals as goal

pub returns : goal.returns
returns c = inr (record {
  survey = c.seal.result;
  result = c.state.result;
  counts = subst (λ x. Stand c.args.counts.now x) (sym c.seal.ensures.seals.counts) c.in-Some.ensures.1;
  figures = c.state.ensures.states;
  carries_on = c.state.ensures.continues;
  answer = c.from.ensures;
})
