-- What a whole survey file means: its entries in their order, and then its end, or its first fault with the last label before it.
-- Assumes nothing.
use Rattle.std.specs.Prelude.{◌≡◌, ℕ, ◌+◌, true, false, List, [], ◌∷◌, length, Some, None, Option}
use Rattle.std.specs.Borrow.{Bor}
use Rattle.std.specs.Option.{option_map}
use Rattle.words.specs.declared.fault.Fault.{Fault}
use Rattle.words.specs.declared.refusal.Refusal.{Refusal}
use Rattle.words.specs.Fault.{wrong_length}
use Rattle.words.specs.Reader.{well_sized}
use Rattle.words.specs.Token.{Entry, label, site, end, EntryAt, FaultAt, is_end, sites_in}

-- how a file ends: complete, or refused for a fault, with the last label accepted before it
pub data Ending : Type 0 where
  complete : Ending
  refused : Fault → Option (List ℕ) → Ending

abbrev pub label_text : Option (Bor (List ℕ)) → Option (List ℕ)
label_text l = option_map (λ x. x.now) l

abbrev pub ending : Option Refusal → Ending
ending None = complete
ending (Some r) = refused r.fault (label_text r.label)

-- the last label after an entry
abbrev pub label_after : {R : Type 0} → Option (List ℕ) → Entry R → Option (List ℕ)
label_after before (label w text) = Some text
label_after before (site s) = before
label_after before (end n) = before

-- from word w on, after n sites and the last label l: the entries that follow, and how the file ends
pub data Reads {R : Type 0} (decode : ℕ → ℕ → Option R) (b : List ℕ) : (w n : ℕ) → Option (List ℕ) → List (Entry R) → Ending → Type 0 where
  more : (w n : ℕ) (l : Option (List ℕ)) (e : Entry R) (v : ℕ) (es : List (Entry R)) (z : Ending)
      → EntryAt decode b w n e v → is_end e ≡ false → Reads decode b v (n + sites_in e) (label_after l e) es z
      → Reads decode b w n l (e ∷ es) z
  last : (w n v : ℕ) (l : Option (List ℕ)) → EntryAt decode b w n (end n) v → Reads decode b w n l (end n ∷ []) complete
  stop : (w n : ℕ) (l : Option (List ℕ)) (f : Fault) → FaultAt decode b w n f → Reads decode b w n l [] (refused f l)

-- a file of another length than the rules allow has no entries; any other is read from its first word
pub data Means {R : Type 0} (decode : ℕ → ℕ → Option R) (b : List ℕ) : List (Entry R) → Ending → Type 0 where
  unreadable : well_sized (length b) ≡ false → Means decode b [] (refused wrong_length None)
  readable : (es : List (Entry R)) (z : Ending) → well_sized (length b) ≡ true → Reads decode b 0 0 None es z → Means decode b es z

-- the file means this and nothing else
pub record Pinned {R : Type 0} (decode : ℕ → ℕ → Option R) (b : List ℕ) (es : List (Entry R)) (z : Ending) : Type 0 where
  pub means : Means decode b es z
  pub only : (fs : List (Entry R)) (y : Ending) → Means decode b fs y → (fs ≡ es) × (y ≡ z)
