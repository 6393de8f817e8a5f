-- What stands at a word of a survey file: a label, a site with its penalty and reading, or the end; or else the fault. Assumes nothing.
use Rattle.std.specs.Prelude.{◌≡◌, ℕ, ◌+◌, ◌*◌, Bool, true, false, ◌&&◌, List, take, drop, Some, None, Option, ◌==◌}
use Rattle.words.specs.declared.fault.Fault.{Fault}
use Rattle.words.specs.declared.token.Site.{Site}
use Rattle.words.specs.declared.token.Token.{Token}
use Rattle.words.specs.declared.word.Word.{Word}
use Rattle.words.specs.Fault.{misplaced, malformed_label, unknown_reading, wrong_end}
use Rattle.words.specs.Label.{label_words, well_formed}
use Rattle.words.specs.Word.{word_at, words}

-- ---- entries: tokens by their content

-- a label by its word and text, a site, or the end with the number of sites
pub data Entry (R : Type 0) : Type 0 where
  label : ℕ → List ℕ → Entry R
  site : Site R → Entry R
  end : ℕ → Entry R

abbrev pub entry : {R : Type 0} → Token R → Entry R
entry (Token.Label w text) = label w text.now
entry (Token.Site s) = site s
entry (Token.End n) = end n

-- how many sites an entry is
abbrev pub sites_in : {R : Type 0} → Entry R → ℕ
sites_in (label w text) = 0
sites_in (site s) = 1
sites_in (end m) = 0

abbrev pub is_end : {R : Type 0} → Entry R → Bool
is_end (label w text) = false
is_end (site s) = false
is_end (end m) = true

-- ---- what stands at word w, of n sites before it

-- a site of the file, by its numbers
abbrev pub site_of : {R : Type 0} → (w x y z p : ℕ) → R → Site R
site_of w x y z p r = record { word = w; site = record { place = record { x = x; y = y; z = z }; penalty = p }; reading = r }

-- the bytes after word w
abbrev pub after : List ℕ → ℕ → List ℕ
after b w = drop (4 * (w + 1)) b

-- The entry that begins at word w, and the word after it. A site is a site word, at most one penalty word and one reading word
-- that the grading knows. The end word is the last, and counts the sites.
pub data EntryAt {R : Type 0} (decode : ℕ → ℕ → Option R) (b : List ℕ) (w n : ℕ) : Entry R → ℕ → Type 0 where
  a_label : (k : ℕ) → word_at b w ≡ Some (Word.Label k) → well_formed (after b w) k ≡ true
      → EntryAt decode b w n (label w (take k (after b w))) (w + 1 + label_words k)
  a_site : (x y z tag value : ℕ) (r : R) → word_at b w ≡ Some (Word.Site x y z) → word_at b (w + 1) ≡ Some (Word.Reading tag value)
      → decode tag value ≡ Some r
      → EntryAt decode b w n (site (site_of w x y z 0 r)) (w + 2)
  a_weighted_site : (x y z p tag value : ℕ) (r : R) → word_at b w ≡ Some (Word.Site x y z) → word_at b (w + 1) ≡ Some (Word.Penalty p)
      → word_at b (w + 2) ≡ Some (Word.Reading tag value) → decode tag value ≡ Some r
      → EntryAt decode b w n (site (site_of w x y z p r)) (w + 3)
  the_end : word_at b w ≡ Some (Word.End n) → w + 1 ≡ words b → EntryAt decode b w n (end n) (w + 1)

-- the kinds that may begin an entry, follow a site word, and follow a penalty word; no word is none of them
abbrev pub begins : Option Word → Bool
begins None = false
begins (Some (Word.Site x y z)) = true
begins (Some (Word.Penalty p)) = false
begins (Some (Word.Reading t v)) = false
begins (Some (Word.Label k)) = true
begins (Some (Word.End m)) = true

abbrev pub follows_site : Option Word → Bool
follows_site None = false
follows_site (Some (Word.Site x y z)) = false
follows_site (Some (Word.Penalty p)) = true
follows_site (Some (Word.Reading t v)) = true
follows_site (Some (Word.Label k)) = false
follows_site (Some (Word.End m)) = false

abbrev pub follows_penalty : Option Word → Bool
follows_penalty None = false
follows_penalty (Some (Word.Site x y z)) = false
follows_penalty (Some (Word.Penalty p)) = false
follows_penalty (Some (Word.Reading t v)) = true
follows_penalty (Some (Word.Label k)) = false
follows_penalty (Some (Word.End m)) = false

-- the first fault in what begins at word w
pub data FaultAt {R : Type 0} (decode : ℕ → ℕ → Option R) (b : List ℕ) (w n : ℕ) : Fault → Type 0 where
  no_entry : begins (word_at b w) ≡ false → FaultAt decode b w n (misplaced w)
  bad_label : (k : ℕ) → word_at b w ≡ Some (Word.Label k) → well_formed (after b w) k ≡ false → FaultAt decode b w n (malformed_label w)
  bad_end : (m : ℕ) → word_at b w ≡ Some (Word.End m) → (w + 1 == words b && m == n) ≡ false → FaultAt decode b w n (wrong_end w)
  no_reading : (x y z : ℕ) → word_at b w ≡ Some (Word.Site x y z) → follows_site (word_at b (w + 1)) ≡ false
      → FaultAt decode b w n (misplaced (w + 1))
  strange_reading : (x y z tag value : ℕ) → word_at b w ≡ Some (Word.Site x y z) → word_at b (w + 1) ≡ Some (Word.Reading tag value)
      → decode tag value ≡ None → FaultAt decode b w n (unknown_reading (w + 1))
  no_weighted_reading : (x y z p : ℕ) → word_at b w ≡ Some (Word.Site x y z) → word_at b (w + 1) ≡ Some (Word.Penalty p)
      → follows_penalty (word_at b (w + 2)) ≡ false → FaultAt decode b w n (misplaced (w + 2))
  strange_weighted_reading : (x y z p tag value : ℕ) → word_at b w ≡ Some (Word.Site x y z) → word_at b (w + 1) ≡ Some (Word.Penalty p)
      → word_at b (w + 2) ≡ Some (Word.Reading tag value) → decode tag value ≡ None → FaultAt decode b w n (unknown_reading (w + 2))
