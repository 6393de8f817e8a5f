-- Counting along a list. Assumes nothing.
use Rattle.std.specs.Prelude.{ℕ, ◌+◌, ◌%◌, Bool, cond}

-- one more where a test holds; behind 255 comes 0
abbrev pub one_more : ℕ → Bool → ℕ
one_more n holds = (n + cond holds 1 0) % 256
