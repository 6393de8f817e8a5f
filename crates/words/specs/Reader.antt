-- What the reader of a survey file answers. Assumes nothing.
use Rattle.std.specs.Prelude.{◌≡◌, ℕ, ◌+◌, ◌%◌, Bool, true, false, ◌&&◌, List, length, Some, None, Ok, Err, Option, Result, ◌==◌, nat_le}
use Rattle.words.specs.declared.fault.Fault.{Fault}
use Rattle.words.specs.declared.reader.Reader.{Reader}
use Rattle.words.specs.declared.token.Token.{Token}
use Rattle.words.specs.Fault.{wrong_length}
use Rattle.words.specs.Token.{EntryAt, FaultAt, entry, is_end, sites_in}

-- a multiple of 4 from 4 to 32,768
abbrev pub well_sized : ℕ → Bool
well_sized n = n % 4 == 0 && nat_le 4 n && nat_le n 32768

abbrev pub file : Reader → List ℕ
file r = r.bytes.now

-- the reader stands where it stood
pub record Unmoved (r s : Reader) : Type 0 where
  pub word : s.word ≡ r.word
  pub sites : s.sites ≡ r.sites
  pub ended : s.ended ≡ r.ended

-- the reader r read the token t and is at s now
pub record Moved {R : Type 0} (decode : ℕ → ℕ → Option R) (r : Reader) (t : Token R) (s : Reader) : Type 0 where
  pub sized : well_sized (length (file r)) ≡ true
  pub going : r.ended ≡ false
  pub read : EntryAt decode (file r) r.word r.sites (entry t) s.word
  pub sites : s.sites ≡ r.sites + sites_in (entry t)
  pub ended : s.ended ≡ is_end (entry t)

-- why the reader r stops: the length is asked first
pub data Stopped {R : Type 0} (decode : ℕ → ℕ → Option R) (r : Reader) : Fault → Type 0 where
  at_length : well_sized (length (file r)) ≡ false → Stopped decode r wrong_length
  at_word : (f : Fault) → well_sized (length (file r)) ≡ true → r.ended ≡ false → FaultAt decode (file r) r.word r.sites f → Stopped decode r f

-- nothing is left after the end
pub record Ended (r : Reader) : Type 0 where
  pub sized : well_sized (length (file r)) ≡ true
  pub ended : r.ended ≡ true

-- one call, by its answer: nothing after the end; a token; a fault, which moves nothing
abbrev pub Next : {R : Type 0} → (ℕ → ℕ → Option R) → Reader → Result (Option (Token R)) Fault → Reader → Type 0
Next decode r (Ok None) s = Ended r × Unmoved r s
Next decode r (Ok (Some t)) s = Moved decode r t s
Next decode r (Err f) s = Stopped decode r f × Unmoved r s
