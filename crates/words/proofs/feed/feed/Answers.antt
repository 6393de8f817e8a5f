use Rattle.words.proofs.FedPasts.{fed_on}
use Rattle.words.proofs.feed.feed.Goals as goal

pub returns-in-Ok-clause-fed : goal.returns-in-Ok-clause-fed
returns-in-Ok-clause-fed g c =
    let told = c.in-Ok.ensures in
    fed_on g.M.Measure.lifts g.G.Grading.admitted g.G.Grading.classed g.met.G.Grading.eight g.G.Grading.decoded c.args.file.now c.args.survey.now _ _ _ _
    told.measure told.grading told.fed

pub returns-in-Err-clause-fed : goal.returns-in-Err-clause-fed
returns-in-Err-clause-fed g c =
    let told = c.in-Err.ensures in
    fed_on g.M.Measure.lifts g.G.Grading.admitted g.G.Grading.classed g.met.G.Grading.eight g.G.Grading.decoded c.args.file.now c.args.survey.now _ _ _ _
    told.measure told.grading told.fed
