use Rattle.std.proofs.Common.{rules}
use Rattle.words.proofs.Chunks.{word_found}
use Rattle.words.proofs.word.word_at.Goals as goal

pub returns : goal.returns
returns c =
    let front = c.as_chunks.ensures in
    word_found _ _ _ c.get.result c.map.result _ front.front front.front_len (search rules) c.map.ensures.cases (λ x v h. search rules)
