-- The reader's steps find what the rules say stands at a word, and nothing else does. Assumes nothing.
use Rattle.std.proofs.Common.{◌≡◌, ℕ, ◌+◌, ◌*◌, ◌<◌, ◌≤◌, Bool, true, false, cond, ◌&&◌, eqb, leb, List, length, take, Some, None, Ok, Err, Option, Result, sym, refl, ap, ◌∙◌, subst, arith, length-drop}
use Rattle.std.proofs.lemmas.Bool.{and_from, and_parts, false≢true, cond-false, cond-true, eq-eqb, eqb-true, leb-true, ltb-true}
use Rattle.std.proofs.lemmas.Option.{cond_some}
use Rattle.std.specs.List.{list_all}
use Rattle.words.specs.declared.fault.Fault.{Fault}
use Rattle.words.specs.declared.word.Word.{Word}
use Rattle.words.specs.Fault.{misplaced, malformed_label, unknown_reading, wrong_end}
use Rattle.words.specs.Label.{between, label_words, well_formed}
use Rattle.words.specs.Look.{Found, found, due, known, reading_at, complete, site_from}
use Rattle.words.specs.Token
use Rattle.words.specs.Token.{Entry, EntryAt, FaultAt, after, begins, follows_site, follows_penalty, site_of, sites_in}
use Rattle.words.specs.Word.{word_at, words}

-- ---- what is found stands there

-- an answer of the reader, as the rules have it
abbrev pub Stands : {R : Type 0} → (ℕ → ℕ → Option R) → List ℕ → ℕ → ℕ → Found R → Type 0
Stands decode b w n (Ok (e, v)) = EntryAt decode b w n e v
Stands decode b w n (Err f) = FaultAt decode b w n f

module _ {R : Type 0} (decode : ℕ → ℕ → Option R) (b : List ℕ) (w n : ℕ) where
  -- the word after one that is reached by one step more
  then : (e : Entry R) (v u : ℕ) → v ≡ u → EntryAt decode b w n e u → EntryAt decode b w n e v
  then e v u same h = subst (λ (t : ℕ). EntryAt decode b w n e t) (sym same) h

  module _ (x y z : ℕ) (here : word_at b w ≡ Some (Word.Site x y z)) where
    -- a reading due at once
    known_stands : (tag value : ℕ) → word_at b (w + 1) ≡ Some (Word.Reading tag value) → (r : Option R) → decode tag value ≡ r
        → Stands decode b w n (complete w x y z 0 (w + 1) (known (w + 1) r))
    known_stands tag value h None d = Token.strange_reading x y z tag value here h d
    known_stands tag value h (Some r) d = then _ _ _ (omega arith) (Token.a_site x y z tag value r here h d)

    -- a reading due after a penalty
    weighted_known : (p tag value : ℕ) → word_at b (w + 1) ≡ Some (Word.Penalty p) → word_at b (w + 2) ≡ Some (Word.Reading tag value)
        → (r : Option R) → decode tag value ≡ r → Stands decode b w n (complete w x y z p (w + 2) (known (w + 2) r))
    weighted_known p tag value h k None d = Token.strange_weighted_reading x y z p tag value here h k d
    weighted_known p tag value h k (Some r) d = then _ _ _ (omega arith) (Token.a_weighted_site x y z p tag value r here h k d)

    weighted_stands : (p : ℕ) → word_at b (w + 1) ≡ Some (Word.Penalty p) → (third : Option Word) → word_at b (w + 2) ≡ third
        → Stands decode b w n (complete w x y z p (w + 2) (reading_at decode (w + 2) third))
    weighted_stands p h None k = Token.no_weighted_reading x y z p here h (ap follows_penalty k)
    weighted_stands p h (Some (Word.Site _ _ _)) k = Token.no_weighted_reading x y z p here h (ap follows_penalty k)
    weighted_stands p h (Some (Word.Penalty _)) k = Token.no_weighted_reading x y z p here h (ap follows_penalty k)
    weighted_stands p h (Some (Word.Reading tag value)) k = weighted_known p tag value h k (decode tag value) refl
    weighted_stands p h (Some (Word.Label _)) k = Token.no_weighted_reading x y z p here h (ap follows_penalty k)
    weighted_stands p h (Some (Word.End _)) k = Token.no_weighted_reading x y z p here h (ap follows_penalty k)

    unweighted_stands : (second : Option Word) → word_at b (w + 1) ≡ second → due w second ≡ (0, w + 1)
        → Stands decode b w n (complete w x y z 0 (w + 1) (reading_at decode (w + 1) second))
    unweighted_stands None h d = Token.no_reading x y z here (ap follows_site h)
    unweighted_stands (Some (Word.Site _ _ _)) h d = Token.no_reading x y z here (ap follows_site h)
    unweighted_stands (Some (Word.Penalty p)) h d = absurd (let e : w + 2 ≡ w + 1 = ap (λ q. q.1) d in omega arith)
    unweighted_stands (Some (Word.Reading tag value)) h d = known_stands tag value h (decode tag value) refl
    unweighted_stands (Some (Word.Label _)) h d = Token.no_reading x y z here (ap follows_site h)
    unweighted_stands (Some (Word.End _)) h d = Token.no_reading x y z here (ap follows_site h)

    site_stands : (second : Option Word) → word_at b (w + 1) ≡ second → Stands decode b w n (site_from decode b w x y z (due w second))
    site_stands None h = unweighted_stands (word_at b (w + 1)) refl (ap (due w) h)
    site_stands (Some (Word.Site _ _ _)) h = unweighted_stands (word_at b (w + 1)) refl (ap (due w) h)
    site_stands (Some (Word.Penalty p)) h = weighted_stands p h (word_at b (w + 2)) refl
    site_stands (Some (Word.Reading _ _)) h = unweighted_stands (word_at b (w + 1)) refl (ap (due w) h)
    site_stands (Some (Word.Label _)) h = unweighted_stands (word_at b (w + 1)) refl (ap (due w) h)
    site_stands (Some (Word.End _)) h = unweighted_stands (word_at b (w + 1)) refl (ap (due w) h)

  label_stands : (k : ℕ) → word_at b w ≡ Some (Word.Label k) → (t : Bool) → well_formed (after b w) k ≡ t
      → Stands decode b w n (cond t (Ok (Token.label w (take k (after b w)), w + 1 + label_words k)) (Err (malformed_label w)))
  label_stands k e true h = Token.a_label k e h
  label_stands k e false h = Token.bad_label k e h

  end_stands : (m : ℕ) → word_at b w ≡ Some (Word.End m) → (t : Bool) → (eqb (w + 1) (words b) && eqb m n) ≡ t
      → Stands decode b w n (cond t (Ok (Token.end m, w + 1)) (Err (wrong_end w)))
  end_stands m e true h =
      let both = and_parts _ _ h in
      let count = eqb-true m n both.1 in
      subst (λ (k : ℕ). EntryAt decode b w n (Token.end k) (w + 1)) (sym count)
      (Token.the_end (e ∙ ap (λ (k : ℕ). Some (Word.End k)) count) (eqb-true (w + 1) (words b) both.0))
  end_stands m e false h = Token.bad_end m e h

  pub found_stands : (first : Option Word) → word_at b w ≡ first → Stands decode b w n (found decode b w n first)
  found_stands None e = Token.no_entry (ap begins e)
  found_stands (Some (Word.Site x y z)) e = site_stands x y z e (word_at b (w + 1)) refl
  found_stands (Some (Word.Penalty p)) e = Token.no_entry (ap begins e)
  found_stands (Some (Word.Reading t v)) e = Token.no_entry (ap begins e)
  found_stands (Some (Word.Label k)) e = label_stands k e (well_formed (after b w) k) refl
  found_stands (Some (Word.End m)) e = end_stands m e (eqb (w + 1) (words b) && eqb m n) refl

-- ---- an entry lies in the file

inside : (b : List ℕ) (w : ℕ) (x : Word) → word_at b w ≡ Some x → w < words b
inside b w x e = ltb-true w (words b) (cond_some _ _ x e).0

label_inside : (b : List ℕ) (w k : ℕ) → w < words b → well_formed (after b w) k ≡ true → w + 1 + label_words k ≤ words b
label_inside b w k h wf =
    let bytes = after b w in
    let sized = leb 1 k && leb k 12 in
    let there = leb (4 * label_words k) (length bytes) in
    let text = list_all (between 32 126) (take k bytes) in
    let full = (and_parts (sized && there) text (and_parts (sized && there && text) _ wf).0).0 in
    omega (arith, leb-true _ _ (and_parts sized there full).1, length-drop (4 * (w + 1)) b)

-- an entry takes at least one word, and none past the file's last
pub record Advances (b : List ℕ) (w v : ℕ) : Type 0 where
  pub on : w < v
  pub within : v ≤ words b

pub advances : {R : Type 0} (decode : ℕ → ℕ → Option R) (b : List ℕ) (w n : ℕ) (e : Entry R) (v : ℕ) → EntryAt decode b w n e v → Advances b w v
advances decode b w n _ _ (Token.a_label k h wf) = record { on = omega arith; within = label_inside b w k (inside b w _ h) wf }
advances decode b w n _ _ (Token.a_site x y z t v r h i d) = record { on = omega arith; within = omega (arith, inside b (w + 1) _ i) }
advances decode b w n _ _ (Token.a_weighted_site x y z p t v r h i j d) = record { on = omega arith; within = omega (arith, inside b (w + 2) _ j) }
advances decode b w n _ _ (Token.the_end h last) = record { on = omega arith; within = omega arith }

pub sites_within : {R : Type 0} (e : Entry R) (w n v : ℕ) → n ≤ w → w < v → n + sites_in e ≤ v
sites_within (Token.label _ _) w n v h k = omega arith
sites_within (Token.site _) w n v h k = omega arith
sites_within (Token.end _) w n v h k = omega arith

-- what the reader's steps found, by what stands there
pub found_entry : {R : Type 0} (decode : ℕ → ℕ → Option R) (b : List ℕ) (w n : ℕ) (e : Entry R) (v : ℕ) → Ok (e, v) ≡ found decode b w n (word_at b w) → EntryAt decode b w n e v
found_entry {R} decode b w n e v same = subst (λ (f : Found R). Stands decode b w n f) (sym same) (found_stands decode b w n (word_at b w) refl)

pub found_fault : {R : Type 0} (decode : ℕ → ℕ → Option R) (b : List ℕ) (w n : ℕ) (f : Fault) → Err f ≡ found decode b w n (word_at b w) → FaultAt decode b w n f
found_fault {R} decode b w n f same = subst (λ (g : Found R). Stands decode b w n g) (sym same) (found_stands decode b w n (word_at b w) refl)

-- ---- what stands there is found

module _ {R : Type 0} (decode : ℕ → ℕ → Option R) (b : List ℕ) (w n : ℕ) where
  found_no_entry : (first : Option Word) → begins first ≡ false → found decode b w n first ≡ Err (misplaced w)
  found_no_entry None h = refl
  found_no_entry (Some (Word.Site _ _ _)) h = absurd (false≢true (sym h))
  found_no_entry (Some (Word.Penalty _)) h = refl
  found_no_entry (Some (Word.Reading _ _)) h = refl
  found_no_entry (Some (Word.Label _)) h = absurd (false≢true (sym h))
  found_no_entry (Some (Word.End _)) h = absurd (false≢true (sym h))

  due_none : (second : Option Word) → follows_site second ≡ false → due w second ≡ (0, w + 1)
  due_none None h = refl
  due_none (Some (Word.Site _ _ _)) h = refl
  due_none (Some (Word.Penalty _)) h = absurd (false≢true (sym h))
  due_none (Some (Word.Reading _ _)) h = absurd (false≢true (sym h))
  due_none (Some (Word.Label _)) h = refl
  due_none (Some (Word.End _)) h = refl

  no_reading_at : (v : ℕ) (at : Option Word) → follows_penalty at ≡ false → reading_at decode v at ≡ Err (misplaced v)
  no_reading_at v None h = refl
  no_reading_at v (Some (Word.Site _ _ _)) h = refl
  no_reading_at v (Some (Word.Penalty _)) h = refl
  no_reading_at v (Some (Word.Reading _ _)) h = absurd (false≢true (sym h))
  no_reading_at v (Some (Word.Label _)) h = refl
  no_reading_at v (Some (Word.End _)) h = refl

  -- a reading does not follow a site word where nothing else may
  nor_penalty : (second : Option Word) → follows_site second ≡ false → follows_penalty second ≡ false
  nor_penalty None h = refl
  nor_penalty (Some (Word.Site _ _ _)) h = refl
  nor_penalty (Some (Word.Penalty _)) h = refl
  nor_penalty (Some (Word.Reading _ _)) h = h
  nor_penalty (Some (Word.Label _)) h = refl
  nor_penalty (Some (Word.End _)) h = refl

  -- a site whose reading at word v gives r
  site_found : (x y z p v : ℕ) (r : Result R Fault) → word_at b w ≡ Some (Word.Site x y z) → due w (word_at b (w + 1)) ≡ (p, v)
      → reading_at decode v (word_at b v) ≡ r → found decode b w n (word_at b w) ≡ complete w x y z p v r
  site_found x y z p v r here next given =
      ap (found decode b w n) here ∙ ap (site_from decode b w x y z) next ∙ ap (complete w x y z p v) given

  read_as : (v tag value : ℕ) (r : Option R) → word_at b v ≡ Some (Word.Reading tag value) → decode tag value ≡ r
      → reading_at decode v (word_at b v) ≡ known v r
  read_as v tag value r h d = ap (reading_at decode v) h ∙ ap (known v) d

  pub entry_found : (e : Entry R) (v : ℕ) → EntryAt decode b w n e v → found decode b w n (word_at b w) ≡ Ok (e, v)
  entry_found _ _ (Token.a_label k h wf) = ap (found decode b w n) h ∙ cond-true _ _ _ wf
  entry_found _ _ (Token.a_site x y z tag value r h i d) =
      site_found x y z 0 (w + 1) (Ok r) h (ap (due w) i) (read_as (w + 1) tag value (Some r) i d)
      ∙ ap (λ (v : ℕ). Ok (Token.site (site_of w x y z 0 r), v)) (omega arith)
  entry_found _ _ (Token.a_weighted_site x y z p tag value r h i j d) =
      site_found x y z p (w + 2) (Ok r) h (ap (due w) i) (read_as (w + 2) tag value (Some r) j d)
      ∙ ap (λ (v : ℕ). Ok (Token.site (site_of w x y z p r), v)) (omega arith)
  entry_found _ _ (Token.the_end h last) =
      ap (found decode b w n) h ∙ cond-true _ _ _ (and_from _ _ (eq-eqb (w + 1) (words b) last) (eq-eqb n n refl))

  pub fault_found : (f : Fault) → FaultAt decode b w n f → found decode b w n (word_at b w) ≡ Err f
  fault_found _ (Token.no_entry h) = found_no_entry (word_at b w) h
  fault_found _ (Token.bad_label k h wf) = ap (found decode b w n) h ∙ cond-false _ _ _ wf
  fault_found _ (Token.bad_end m h t) = ap (found decode b w n) h ∙ cond-false _ _ _ t
  fault_found _ (Token.no_reading x y z h i) =
      site_found x y z 0 (w + 1) (Err (misplaced (w + 1))) h (due_none (word_at b (w + 1)) i)
      (no_reading_at (w + 1) (word_at b (w + 1)) (nor_penalty (word_at b (w + 1)) i))
  fault_found _ (Token.strange_reading x y z tag value h i d) =
      site_found x y z 0 (w + 1) (Err (unknown_reading (w + 1))) h (ap (due w) i) (read_as (w + 1) tag value None i d)
  fault_found _ (Token.no_weighted_reading x y z p h i j) =
      site_found x y z p (w + 2) (Err (misplaced (w + 2))) h (ap (due w) i) (no_reading_at (w + 2) (word_at b (w + 2)) j)
  fault_found _ (Token.strange_weighted_reading x y z p tag value h i j d) =
      site_found x y z p (w + 2) (Err (unknown_reading (w + 2))) h (ap (due w) i) (read_as (w + 2) tag value None j d)
