use Rattle.std.proofs.Common.{map, length, ap, ◌∙◌, arith}
use Rattle.std.proofs.lemmas.List.{map_push}
use Rattle.words.specs.Token.{entry}
use Rattle.words.proofs.Entries.{advances}
use Rattle.words.proofs.Files.{goes_on, next_ended, next_moved, pinned_end, pinned_fault}
use Rattle.words.proofs.contents.read_contents.Goals as goal
use Rattle.words.proofs.contents.read_contents.Goals.{in-Ok-None, in-Err}

pub loop-token-smaller : goal.loop-token-smaller
loop-token-smaller g c =
    let moved = next_moved _ _ _ _ _ c.in-Ok-Some.ensures.next c.in-Ok-Some.field-0-is in
    let on = advances _ _ _ _ _ _ moved.read in
    omega (arith, on.on, on.within, ap length c.loop-token.invariant.bytes)

pub loop-token-preserved : goal.loop-token-preserved
loop-token-preserved g c =
    let moved = next_moved _ _ _ _ _ c.in-Ok-Some.ensures.next c.in-Ok-Some.field-0-is in
    let pushed = c.in_ok-push-in-Ok-Some.ensures.items in
    goes_on _ _ _ _ _ _ _ _ _ c.loop-token.invariant moved c.in-Ok-Some.ensures.bytes (ap (map entry) pushed ∙ map_push entry _ _) c.label_after-label.ensures

pub returns : goal.returns
returns g c =
    let so_far = c.loop-token.invariant in
    elim c.match-next.branch [
      | in-Ok-None w ↦ rw w.refusal-is (pinned_end _ _ _ _ _ so_far (next_ended _ _ _ _ w.in-Ok-None.ensures.next w.in-Ok-None.field-0-is))
      | in-Err w ↦ rw w.refusal-is (pinned_fault _ _ _ _ _ _ so_far w.in-Err.ensures.next.0)
    ]
