use Rattle.std.proofs.Common.{◌≡◌, ◌+◌, ◌≤◌, ◌++◌, drop, string_bytes}
use Rattle.listing.specs.Lines.{token_lines}
use Rattle.listing.proofs.lines.token_lines.Given as goal

-- the lines so far, and those of the tokens that are left, are the lines of all
abbrev pub invariant-loop-token : goal.invariant-loop-token
invariant-loop-token l = (l.number ≤ 4 + l.token-index) × (string_bytes l.text ++ token_lines l.number (drop l.token-index l.tokens) ≡ token_lines 4 l.tokens)
