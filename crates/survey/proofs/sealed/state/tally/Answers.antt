use Rattle.survey.proofs.Figures.{entered_none, entered_room, entered_more, entered_all}
use Rattle.survey.proofs.sealed.state.tally.Goals as goal

pub loop-tet-init : goal.loop-tet-init
loop-tet-init g c = entered_none _ _ _ _ _ c.new-statement.ensures

pub enter-requires-clause-room : goal.enter-requires-clause-room
enter-requires-clause-room g c = entered_room _ _ _ _ _ _ c.loop-tet.invariant c.args.whole.now.tets_fit

pub loop-tet-preserved : goal.loop-tet-preserved
loop-tet-preserved g c = entered_more _ _ _ _ _ _ _ c.loop-tet-test.true c.loop-tet.invariant c.enter.ensures.is c.enter.ensures.size

pub returns : goal.returns
returns g c = entered_all _ _ _ _ _ _ c.loop-tet.invariant c.loop-tet-test.false
