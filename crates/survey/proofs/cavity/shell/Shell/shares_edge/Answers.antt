use Rattle.std.proofs.Common.{◌∙◌}
use Rattle.survey.specs.Cavity.{face_number}
use Rattle.survey.proofs.Sharing.{edge_shared}
use Rattle.survey.proofs.cavity.shell.Shell.shares_edge.Goals as goal

pub returns : goal.returns
returns c = c.spans.ensures ∙ edge_shared c.args.self.now.cavity.used.now c.args.face c.args.j (face_number c.args.other) _ c.points.ensures
