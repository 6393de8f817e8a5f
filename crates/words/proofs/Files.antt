-- What a whole file means: the reader's tokens are its entries, and it has no other meaning. Assumes nothing.
use Rattle.std.proofs.Common.{◌≡◌, ℕ, ◌+◌, true, false, List, [], ◌∷◌, ◌++◌, length, Some, None, Ok, Err, Option, sym, refl, ap, ◌∙◌, subst, append_assoc, append-nil}
use Rattle.std.proofs.lemmas.Bool.{false≢true}
use Rattle.words.specs.declared.fault.Fault.{Fault}
use Rattle.words.specs.declared.reader.Reader.{Reader}
use Rattle.words.specs.declared.token.Token.{Token}
use Rattle.words.specs.Contents
use Rattle.words.specs.Contents.{Ending, Means, Pinned, Reads, complete, refused, label_after}
use Rattle.words.specs.Fault.{wrong_length}
use Rattle.words.specs.Look.{Found}
use Rattle.words.specs.Reader.{Ended, Moved, Next, Stopped, file, well_sized}
use Rattle.words.specs.Reader as Reading
use Rattle.words.specs.Token.{Entry, EntryAt, FaultAt, entry, is_end, sites_in}
use Rattle.words.specs.Token as Entries
use Rattle.words.proofs.Entries.{entry_found, fault_found}

module _ {R : Type 0} (decode : ℕ → ℕ → Option R) (b : List ℕ) where
  -- ---- the reader so far

  -- the reader r read the entries es, of which l is the last label
  pub record Sofar (r : Reader) (es : List (Entry R)) (l : Option (List ℕ)) : Type 0 where
    pub bytes : file r ≡ b
    pub unsized : well_sized (length b) ≡ false → (es ≡ []) × (l ≡ None)
    pub going : r.ended ≡ false → (fs : List (Entry R)) (z : Ending) → Reads decode b r.word r.sites l fs z → Reads decode b 0 0 None (es ++ fs) z
    pub done : r.ended ≡ true → Reads decode b 0 0 None es complete

  pub at_start : (r : Reader) → file r ≡ b → r.word ≡ 0 → r.sites ≡ 0 → r.ended ≡ false → Sofar r [] None
  at_start r same w n e =
      record {
        bytes = same;
        unsized = λ _. (refl, refl);
        going = λ _ fs z h. subst (λ (k : ℕ). Reads decode b 0 k None fs z) n (subst (λ (k : ℕ). Reads decode b k r.sites None fs z) w h);
        done = λ h. absurd (false≢true (sym e ∙ h));
      }

  -- only the end word ends a file
  pub ends : (w n v : ℕ) (e : Entry R) → EntryAt decode b w n e v → is_end e ≡ true → e ≡ Entries.end n
  ends w n _ _ (Entries.a_label k h wf) t = absurd (false≢true t)
  ends w n _ _ (Entries.a_site x y z tag value r h i d) t = absurd (false≢true t)
  ends w n _ _ (Entries.a_weighted_site x y z p tag value r h i j d) t = absurd (false≢true t)
  ends w n _ _ (Entries.the_end h last) t = refl

  one_more : (r s : Reader) (t : Token R) (es : List (Entry R)) (l : Option (List ℕ))
      → Sofar r es l → Moved decode r t s → file s ≡ file r → Sofar s (es ++ entry t ∷ []) (label_after l (entry t))
  one_more r s t es l h m same =
      let e = entry t in
      let here : EntryAt decode b r.word r.sites e s.word = subst (λ (f : List ℕ). EntryAt decode f r.word r.sites e s.word) h.bytes m.read in
      record {
        bytes = same ∙ h.bytes;
        unsized = λ u. absurd (false≢true (sym u ∙ ap (λ (f : List ℕ). well_sized (length f)) (sym h.bytes) ∙ m.sized));
        going = λ on fs z k.
            subst (λ (gs : List (Entry R)). Reads decode b 0 0 None gs z) (sym (append_assoc es (e ∷ []) fs))
            (h.going m.going (e ∷ fs) z
            (Contents.more r.word r.sites l e s.word fs z here (sym m.ended ∙ on) (subst (λ (k : ℕ). Reads decode b s.word k (label_after l e) fs z) m.sites k)));
        done = λ off.
            let last = ends r.word r.sites s.word e here (sym m.ended ∙ off) in
            subst (λ (f : Entry R). Reads decode b 0 0 None (es ++ f ∷ []) complete) (sym last)
            (h.going m.going (Entries.end r.sites ∷ []) complete
            (Contents.last r.word r.sites s.word l (subst (λ (f : Entry R). EntryAt decode b r.word r.sites f s.word) last here)));
      }

  -- the same for a list and a label that are known to be these
  pub goes_on : (r s : Reader) (t : Token R) (es fs : List (Entry R)) (l k : Option (List ℕ))
      → Sofar r es l → Moved decode r t s → file s ≡ file r → fs ≡ es ++ entry t ∷ [] → k ≡ label_after l (entry t) → Sofar s fs k
  goes_on r s t es fs l k h m same more label =
      subst (λ (gs : List (Entry R)). Sofar s gs k) (sym more) (subst (λ (j : Option (List ℕ)). Sofar s (es ++ entry t ∷ []) j) (sym label) (one_more r s t es l h m same))

  -- ---- the whole file

  at_end : (r : Reader) (es : List (Entry R)) (l : Option (List ℕ)) → Sofar r es l → Ended r → Means decode b es complete
  at_end r es l h e = Contents.readable es complete (ap (λ (f : List ℕ). well_sized (length f)) (sym h.bytes) ∙ e.sized) (h.done e.ended)

  at_fault : (r : Reader) (es : List (Entry R)) (l : Option (List ℕ)) (f : Fault) → Sofar r es l → Stopped decode r f → Means decode b es (refused f l)
  at_fault r es l _ h (Reading.at_length u) =
      let none = h.unsized (ap (λ (f : List ℕ). well_sized (length f)) (sym h.bytes) ∙ u) in
      subst (λ (k : Option (List ℕ)). Means decode b es (refused wrong_length k)) (sym none.1)
      (subst (λ (fs : List (Entry R)). Means decode b fs (refused wrong_length None)) (sym none.0)
      (Contents.unreadable (ap (λ (f : List ℕ). well_sized (length f)) (sym h.bytes) ∙ u)))
  at_fault r es l _ h (Reading.at_word f sized going here) =
      Contents.readable es (refused f l) (ap (λ (g : List ℕ). well_sized (length g)) (sym h.bytes) ∙ sized)
      (subst (λ (fs : List (Entry R)). Reads decode b 0 0 None fs (refused f l)) (append-nil es)
      (h.going going [] (refused f l)
      (Contents.stop r.word r.sites l f (subst (λ (g : List ℕ). FaultAt decode g r.word r.sites f) h.bytes here))))

  -- ---- no other meaning

  both : (e f : Entry R) (v u : ℕ) → ◌≡◌ {A = Found R} (Ok (e, v)) (Ok (f, u)) → (e ≡ f) × (v ≡ u)
  both e f v u same = (ap (λ (p : Found R). elim p [ Ok q ↦ q.0 | Err g ↦ e ]) same, ap (λ (p : Found R). elim p [ Ok q ↦ q.1 | Err g ↦ v ]) same)

  apart : (e : Entry R) (v : ℕ) (f : Fault) → ◌≡◌ {A = Found R} (Ok (e, v)) (Err f) → ⊥
  apart e v f same = false≢true (sym (ap (λ (p : Found R). elim p [ Ok q ↦ true | Err g ↦ false ]) same))

  alike : (f g : Fault) → ◌≡◌ {A = Found R} (Err f) (Err g) → f ≡ g
  alike f g same = ap (λ (p : Found R). elim p [ Ok q ↦ f | Err h ↦ h ]) same

  module _ (w n : ℕ) where
    same_entry : (e f : Entry R) (v u : ℕ) → EntryAt decode b w n e v → EntryAt decode b w n f u → (e ≡ f) × (v ≡ u)
    same_entry e f v u h k = both e f v u (sym (entry_found decode b w n e v h) ∙ entry_found decode b w n f u k)

    no_fault : (e : Entry R) (v : ℕ) (f : Fault) → EntryAt decode b w n e v → FaultAt decode b w n f → ⊥
    no_fault e v f h k = apart e v f (sym (entry_found decode b w n e v h) ∙ fault_found decode b w n f k)

    same_fault : (f g : Fault) → FaultAt decode b w n f → FaultAt decode b w n g → f ≡ g
    same_fault f g h k = alike f g (sym (fault_found decode b w n f h) ∙ fault_found decode b w n g k)

  same_reads : (w n : ℕ) (l : Option (List ℕ)) (es fs : List (Entry R)) (z y : Ending) → Reads decode b w n l es z → Reads decode b w n l fs y → (fs ≡ es) × (y ≡ z)
  same_reads w n l _ _ _ _ (Contents.more _ _ _ e v es z h t k) (Contents.more _ _ _ f u fs y i s j) =
      let same = same_entry w n f e u v i h in
      let there = subst (λ (x : ℕ). Reads decode b x (n + sites_in f) (label_after l f) fs y) same.1 j in
      let here = subst (λ (x : Entry R). Reads decode b v (n + sites_in x) (label_after l x) fs y) same.0 there in
      let rest = same_reads v (n + sites_in e) (label_after l e) es fs z y k here in
      ((λ i. same.0 i ∷ rest.0 i), rest.1)
  same_reads w n l _ _ _ _ (Contents.more _ _ _ e v es z h t k) (Contents.last _ _ u _ i) =
      absurd (false≢true (sym t ∙ ap is_end (same_entry w n e (Entries.end n) v u h i).0))
  same_reads w n l _ _ _ _ (Contents.more _ _ _ e v es z h t k) (Contents.stop _ _ _ f i) = absurd (no_fault w n e v f h i)
  same_reads w n l _ _ _ _ (Contents.last _ _ v _ h) (Contents.more _ _ _ f u fs y i s j) =
      absurd (false≢true (sym s ∙ ap is_end (same_entry w n f (Entries.end n) u v i h).0))
  same_reads w n l _ _ _ _ (Contents.last _ _ v _ h) (Contents.last _ _ u _ i) = (refl, refl)
  same_reads w n l _ _ _ _ (Contents.last _ _ v _ h) (Contents.stop _ _ _ f i) = absurd (no_fault w n (Entries.end n) v f h i)
  same_reads w n l _ _ _ _ (Contents.stop _ _ _ g h) (Contents.more _ _ _ f u fs y i s j) = absurd (no_fault w n f u g i h)
  same_reads w n l _ _ _ _ (Contents.stop _ _ _ g h) (Contents.last _ _ u _ i) = absurd (no_fault w n (Entries.end n) u g i h)
  same_reads w n l _ _ _ _ (Contents.stop _ _ _ g h) (Contents.stop _ _ _ f i) = (refl, ap (λ (x : Fault). refused x l) (same_fault w n f g i h))

  same_meaning : (es fs : List (Entry R)) (z y : Ending) → Means decode b es z → Means decode b fs y → (fs ≡ es) × (y ≡ z)
  same_meaning _ _ _ _ (Contents.unreadable u) (Contents.unreadable v) = (refl, refl)
  same_meaning _ _ _ _ (Contents.unreadable u) (Contents.readable fs y s k) = absurd (false≢true (sym u ∙ s))
  same_meaning _ _ _ _ (Contents.readable es z s h) (Contents.unreadable v) = absurd (false≢true (sym v ∙ s))
  same_meaning _ _ _ _ (Contents.readable es z s h) (Contents.readable fs y t k) = same_reads 0 0 None es fs z y h k

  pinned : (es : List (Entry R)) (z : Ending) → Means decode b es z → Pinned decode b es z
  pinned es z h = record { means = h; only = λ fs y k. same_meaning es fs z y h k }

  pub pinned_end : (r : Reader) (es : List (Entry R)) (l : Option (List ℕ)) → Sofar r es l → Ended r → Pinned decode b es complete
  pinned_end r es l h e = pinned es complete (at_end r es l h e)

  pub pinned_fault : (r : Reader) (es : List (Entry R)) (l : Option (List ℕ)) (f : Fault) → Sofar r es l → Stopped decode r f → Pinned decode b es (refused f l)
  pinned_fault r es l f h s = pinned es (refused f l) (at_fault r es l f h s)

-- ---- an answer of the reader, by its case

pub next_ended : {R : Type 0} (decode : ℕ → ℕ → Option R) (r s : Reader) (o : Option (Token R)) → Next decode r (Ok o) s → o ≡ None → Ended r
next_ended {R} decode r s o h e = (subst (λ (p : Option (Token R)). Next decode r (Ok p) s) e h).0

pub next_moved : {R : Type 0} (decode : ℕ → ℕ → Option R) (r s : Reader) (o : Option (Token R)) (t : Token R) → Next decode r (Ok o) s → o ≡ Some t → Moved decode r t s
next_moved {R} decode r s o t h e = subst (λ (p : Option (Token R)). Next decode r (Ok p) s) e h
