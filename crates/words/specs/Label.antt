-- The labels of a survey file. Assumes nothing.
use Rattle.std.specs.Prelude.{◌≡◌, ℕ, ◌+◌, ◌-◌, ◌*◌, ◌/◌, Bool, true, false, ◌&&◌, List, length, take, drop, Some, None, Option, nat_le}
use Rattle.std.specs.Borrow.{Bor}
use Rattle.std.specs.List.{list_all}

abbrev pub between : ℕ → ℕ → ℕ → Bool
between low high c = nat_le low c && nat_le c high

-- the bytes as a text, where each is a printable character
abbrev pub Printable : List ℕ → Option (Bor (List ℕ)) → Type 0
Printable bs (Some text) = (list_all (between 32 126) bs ≡ true) × (text.now ≡ bs)
Printable bs None = list_all (between 32 126) bs ≡ false

-- how many words the text of a label of n bytes takes
abbrev pub label_words : ℕ → ℕ
label_words n = (n + 3) / 4

-- the bytes that fill its last word
abbrev pub padding : List ℕ → ℕ → List ℕ
padding rest n = take (4 * label_words n - n) (drop n rest)

-- A label of n bytes at the front of `rest`: 1 to 12 bytes from 32 to 126 are all there, and zero bytes fill the last word.
abbrev pub well_formed : List ℕ → ℕ → Bool
well_formed rest n =
    nat_le 1 n && nat_le n 12 && nat_le (4 * label_words n) (length rest) && list_all (between 32 126) (take n rest) && list_all (between 0 0) (padding rest n)

-- the text, where the label is well formed
abbrev pub LabelText : List ℕ → ℕ → Option (Bor (List ℕ)) → Type 0
LabelText rest n (Some text) = (well_formed rest n ≡ true) × (text.now ≡ take n rest)
LabelText rest n None = well_formed rest n ≡ false
