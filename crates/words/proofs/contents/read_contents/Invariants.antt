use Rattle.std.proofs.Common.{◌-◌, map, vec_items}
use Rattle.words.specs.Contents.{label_text}
use Rattle.words.specs.Token.{entry}
use Rattle.words.specs.Word.{words}
use Rattle.words.proofs.Files.{Sofar}
use Rattle.words.proofs.contents.read_contents.Given as goal

abbrev pub invariant-loop-token : goal.invariant-loop-token
invariant-loop-token g l = Sofar (g.G.Grading.decoded l.grading) l.bytes l.reader (map entry (vec_items l.tokens)) (label_text l.label)

abbrev pub decreases-loop-token : goal.decreases-loop-token
decreases-loop-token g l = words l.bytes - l.reader.word
