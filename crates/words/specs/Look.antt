-- What the reader finds at a word, worked out step by step. `Token` says the same as a relation. Assumes nothing.
use Rattle.std.specs.Prelude.{ℕ, ◌+◌, cond, ◌&&◌, List, take, Some, None, Ok, Err, Option, Result, ◌==◌}
use Rattle.words.specs.declared.fault.Fault.{Fault}
use Rattle.words.specs.declared.token.Token.{Token}
use Rattle.words.specs.declared.word.Word.{Word}
use Rattle.words.specs.Fault.{misplaced, malformed_label, unknown_reading, wrong_end}
use Rattle.words.specs.Label.{label_words, well_formed}
use Rattle.words.specs.Token.{Entry, label, site, end, entry, after, site_of}
use Rattle.words.specs.Word.{word_at, words}

-- the penalty of the site at word w, and the word where its reading is due, by the word after the site word
abbrev pub due : ℕ → Option Word → ℕ × ℕ
due w None = (0, w + 1)
due w (Some (Word.Site x y z)) = (0, w + 1)
due w (Some (Word.Penalty p)) = (p, w + 2)
due w (Some (Word.Reading t v)) = (0, w + 1)
due w (Some (Word.Label k)) = (0, w + 1)
due w (Some (Word.End m)) = (0, w + 1)

-- what the grading made of the reading word v
abbrev pub known : {R : Type 0} → ℕ → Option R → Result R Fault
known v None = Err (unknown_reading v)
known v (Some r) = Ok r

-- the reading that is due at word v
abbrev pub reading_at : {R : Type 0} → (ℕ → ℕ → Option R) → ℕ → Option Word → Result R Fault
reading_at decode v None = Err (misplaced v)
reading_at decode v (Some (Word.Site x y z)) = Err (misplaced v)
reading_at decode v (Some (Word.Penalty p)) = Err (misplaced v)
reading_at decode v (Some (Word.Reading tag value)) = known v (decode tag value)
reading_at decode v (Some (Word.Label k)) = Err (misplaced v)
reading_at decode v (Some (Word.End m)) = Err (misplaced v)

-- an entry and the word after it
abbrev pub Found : Type 0 → Type 0
Found R = Result (Entry R × ℕ) Fault

-- the site, once its reading at word v is known
abbrev pub complete : {R : Type 0} → (w x y z p v : ℕ) → Result R Fault → Found R
complete w x y z p v (Ok r) = Ok (site (site_of w x y z p r), v + 1)
complete w x y z p v (Err f) = Err f

abbrev pub site_from : {R : Type 0} → (ℕ → ℕ → Option R) → List ℕ → (w x y z : ℕ) → ℕ × ℕ → Found R
site_from decode b w x y z next = complete w x y z next.0 next.1 (reading_at decode next.1 (word_at b next.1))

-- what begins at word w, of n sites before it, by that word
abbrev pub found : {R : Type 0} → (ℕ → ℕ → Option R) → List ℕ → (w n : ℕ) → Option Word → Found R
found decode b w n None = Err (misplaced w)
found decode b w n (Some (Word.Site x y z)) = site_from decode b w x y z (due w (word_at b (w + 1)))
found decode b w n (Some (Word.Penalty p)) = Err (misplaced w)
found decode b w n (Some (Word.Reading t v)) = Err (misplaced w)
found decode b w n (Some (Word.Label k)) = cond (well_formed (after b w) k) (Ok (label w (take k (after b w)), w + 1 + label_words k)) (Err (malformed_label w))
found decode b w n (Some (Word.End m)) = cond (w + 1 == words b && m == n) (Ok (end m, w + 1)) (Err (wrong_end w))

-- a token by its content, and the word after it
abbrev pub content : {R : Type 0} → Result (Token R × ℕ) Fault → Found R
content (Ok (t, v)) = Ok (entry t, v)
content (Err f) = Err f
