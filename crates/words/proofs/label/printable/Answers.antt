use Rattle.std.proofs.Common.{sym}
use Rattle.words.proofs.Texts.{printed}
use Rattle.words.proofs.label.printable.Goals as goal

pub returns-then-all_between : goal.returns-then-all_between
returns-then-all_between c = printed _ _ c.from_utf8.result _ (sym c.if-all_between.ensures) c.ok.ensures.value c.from_utf8.ensures.cases
