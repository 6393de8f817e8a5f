-- The words of a survey file. Assumes nothing.
use Rattle.std.specs.Prelude.{ℕ, ◌+◌, ◌*◌, ◌/◌, ◌%◌, ◌^◌, cond, List, length, Some, None, Option, ◌==◌, nat_lt, slice_index}
use Rattle.words.specs.declared.word.Word.{Word}
use Rattle.words.specs.declared.word.Word.TheVariants.{Site, Penalty, Reading, Label, End}

-- how many words a file has
abbrev pub words : List ℕ → ℕ
words b = length b / 4

-- the 32 bits of word w, most significant byte first
abbrev pub bits_at : List ℕ → ℕ → ℕ
bits_at b w = slice_index b (4 * w) * 16777216 + slice_index b (4 * w + 1) * 65536 + slice_index b (4 * w + 2) * 256 + slice_index b (4 * w + 3)

-- kind 1: tag 3 is a penalty, any other a reading
abbrev pub tagged : ℕ → ℕ → Word
tagged tag value = cond (tag == 3) (Penalty value) (Reading tag value)

-- the top two bits are the kind
abbrev pub word_of : ℕ → Word
word_of n =
    cond (n / 2 ^ 30 == 0) (Site (n / 2 ^ 20 % 2 ^ 10) (n / 2 ^ 10 % 2 ^ 10) (n % 2 ^ 10))
    (cond (n / 2 ^ 30 == 1) (tagged (n / 2 ^ 28 % 4) (n % 2 ^ 28))
    (cond (n / 2 ^ 30 == 2) (Label (n % 2 ^ 30)) (End (n % 2 ^ 30))))

-- word w, if the file has that many
abbrev pub word_at : List ℕ → ℕ → Option Word
word_at b w = cond (nat_lt w (words b)) (Some (word_of (bits_at b w))) None
