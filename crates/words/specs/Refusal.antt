-- The line that tells why a file was refused. Assumes nothing.
use Rattle.std.specs.Prelude.{ℕ, List, ◌++◌, Some, None, codes, Option}
use Rattle.words.specs.declared.fault.Fault.{Fault}
use Rattle.words.specs.Fault.{fault_words}

-- the label as text, or a dash where there is none
abbrev pub text_or_dash : Option (List ℕ) → List ℕ
text_or_dash (Some text) = text
text_or_dash None = codes "-"

-- `refused N word W layer Y label L`, of a fault and the last label before it
abbrev pub refusal_words : Fault → Option (List ℕ) → List ℕ
refusal_words f l = fault_words f ++ (codes " label " ++ text_or_dash l)

-- the same with a newline
abbrev pub refusal_text : Fault → Option (List ℕ) → List ℕ
refusal_text f l = refusal_words f l ++ codes "\n"
