use Rattle.std.proofs.Common.{arith}
use Rattle.survey.specs.States.{meaning}
use Rattle.survey.proofs.Classes.{class_read}
use Rattle.survey.proofs.sealed.state.class_of.Goals as goal

pub returns : goal.returns
returns g c = record {
  is = class_read (meaning g.G.Grading.admitted g.G.Grading.classed c.args.grading.now) _ _ _ _ _ _ _ c.requires.sites c.requires.under c.index-readings-a.is c.index-readings-b.is c.index-readings-c.is c.index-readings-d.is c.class.ensures;
  eight = omega (arith, c.class.ensures, g.met.G.Grading.eight c.args.grading.now c.index-readings-a.result c.index-readings-b.result c.index-readings-c.result c.index-readings-d.result);
}
