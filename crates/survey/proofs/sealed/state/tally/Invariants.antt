use Rattle.survey.specs.States.{meaning}
use Rattle.survey.specs.Views.{spots_in}
use Rattle.survey.proofs.Figures.{Entered}
use Rattle.survey.proofs.sealed.state.tally.Given as goal

abbrev pub invariant-loop-tet : goal.invariant-loop-tet
invariant-loop-tet g l = Entered (meaning g.G.Grading.admitted g.G.Grading.classed l.grading) (spots_in l.whole.points) l.readings l.whole.tets.now l.tet-index l.statement
