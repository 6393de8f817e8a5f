-- Feeding a survey, one token more at a time. Assumes nothing.
use Rattle.std.proofs.Common.{◌≡◌, ℕ, ◌+◌, Bool, true, false, List, [], ◌∷◌, map, length, Some, None, Ok, Err, Option, sym, refl, ap, ◌∙◌, subst, arith}
use Rattle.std.proofs.lemmas.Bool.{false≢true}
use Rattle.geometry.specs.Lifts.{Lift}
use Rattle.geometry.specs.Spots.{Spot}
use Rattle.survey.specs.declared.refusal.Refusal.{Refusal as Refused}
use Rattle.words.specs.declared.fault.Fault.{Fault}
use Rattle.words.specs.declared.reader.Reader.{Reader}
use Rattle.words.specs.declared.token.Site.{Site}
use Rattle.words.specs.declared.token.Token.{Token}
use Rattle.words.specs.Contents
use Rattle.words.specs.Contents.{Ending, Reads, complete, refused, label_after}
use Rattle.words.specs.Fault.{refused_site, wrong_length}
use Rattle.words.specs.Feed
use Rattle.words.specs.Feed.{Added, Addition, Adds, Fed, FedBy, Feeds, MeansAdds, Store, addition, all_accepted, at_site, brought, from_file, site_spot, sites_of}
use Rattle.words.specs.Reader.{Ended, Moved, Next, Stopped, file, well_sized}
use Rattle.words.specs.Reader as Reading
use Rattle.words.specs.Token.{Entry, EntryAt, FaultAt, entry, label, site, end}
use Rattle.words.proofs.Entries.{Advances, advances}
use Rattle.words.proofs.Files.{ends, next_moved}

-- the token is no site
abbrev pub NoSite : {R : Type 0} → Token R → Type 0
NoSite (Token.Label w text) = Unit {0}
NoSite (Token.Site q) = ⊥
NoSite (Token.End n) = Unit {0}

-- ---- what the file means

module _ {R : Type 0} (L : Lift) (admits : R → Bool) (decode : ℕ → ℕ → Option R) (b : List ℕ) where
  -- the entries from word w on, where no add was refused
  abbrev ReadsAdds : (w n : ℕ) → Option (List ℕ) → List (Addition R) → Ending → Type 0
  ReadsAdds w n l adds z = (es : List (Entry R)) × Reads decode b w n l es z × (map from_file (sites_of es) ≡ map brought adds)

  reads_adds : (w n : ℕ) (l : Option (List ℕ)) (s t : Store R) (adds : List (Addition R)) (z : Ending) → Feeds L admits decode b w n l s t adds z
      → all_accepted adds ≡ true → ReadsAdds w n l adds z
  reads_adds w n l s t adds z (Feed.pass _ _ _ _ _ _ _ at text v h k) ok =
      let rest = reads_adds v n (Some text) s t adds z k ok in
      let more = subst (λ (i : ℕ). Reads decode b v i (Some text) rest.0 z) (omega arith) rest.1 in
      (label at text ∷ rest.0, Contents.more w n l (label at text) v rest.0 z h refl more, rest.2)
  reads_adds w n l s t _ z (Feed.accept _ _ _ _ m _ adds _ q k v h a f) ok =
      let rest = reads_adds v (n + 1) l m t adds z f ok in
      (site q ∷ rest.0, Contents.more w n l (site q) v rest.0 z h refl rest.1, ap (λ (us : List (Spot × R)). (site_spot q, q.reading) ∷ us) rest.2)
  reads_adds w n l s t _ _ (Feed.refuse _ _ _ _ _ q e v h a) ok = absurd (false≢true ok)
  reads_adds w n l s _ _ _ (Feed.last _ _ _ _ v h) ok = (end n ∷ [], Contents.last w n v l h, refl)
  reads_adds w n l s _ _ _ (Feed.stop _ _ _ _ f h) ok = ([], Contents.stop w n l f h, refl)

  means_adds : (s t : Store R) (adds : List (Addition R)) (z : Ending) → Fed L admits decode b s t adds z → all_accepted adds ≡ true → MeansAdds decode b adds z
  means_adds s _ _ _ (Feed.unreadable _ u) ok = ([], Contents.unreadable u, refl)
  means_adds s t adds z (Feed.readable _ _ _ _ sized h) ok =
      let all = reads_adds 0 0 None s t adds z h ok in
      (all.0, Contents.readable all.0 z sized all.1, all.2)

  pub fed_by : (s t : Store R) (adds : List (Addition R)) (z : Ending) → Fed L admits decode b s t adds z → FedBy L admits decode b s t z
  fed_by s t adds z h = record { adds = adds; fed = h; meant = means_adds s t adds z h }

-- ---- the loop

module _ {R : Type 0} (L : Lift) (admits : R → Bool) (decode : ℕ → ℕ → Option R) (b : List ℕ) where
  -- from word w on, by some adds
  abbrev pub Goes : (w n : ℕ) → Option (List ℕ) → (s t : Store R) → Ending → Type 0
  Goes w n l s t z = (adds : List (Addition R)) × Feeds L admits decode b w n l s t adds z

  -- the reader r has taken the survey and its tables from o to s, and l is the last label
  pub record Progress (o : Store R) (r : Reader) (l : Option (List ℕ)) (s : Store R) : Type 0 where
    pub bytes : file r ≡ b
    pub unsized : well_sized (length b) ≡ false → (s ≡ o) × (l ≡ None)
    pub going : r.ended ≡ false → (t : Store R) (z : Ending) → Goes r.word r.sites l s t z → Goes 0 0 None o t z
    pub done : r.ended ≡ true → Goes 0 0 None o s complete

  module _ (o : Store R) (r : Reader) (l : Option (List ℕ)) (s : Store R) (h : Progress o r l s) where
    sized_too : (t : Bool) → well_sized (length (file r)) ≡ t → well_sized (length b) ≡ t
    sized_too t e = ap (λ (f : List ℕ). well_sized (length f)) (sym h.bytes) ∙ e

    -- ---- feeding ends

    pub fed_end : Ended r → FedBy L admits decode b o s complete
    fed_end e = let all = h.done e.ended in fed_by L admits decode b o s all.0 complete (Feed.readable o s all.0 complete (sized_too true e.sized) all.1)

    by_word : well_sized (length b) ≡ true → r.ended ≡ false → (t : Store R) (z : Ending) → Goes r.word r.sites l s t z → FedBy L admits decode b o t z
    by_word sized on t z k = let all = h.going on t z k in fed_by L admits decode b o t all.0 z (Feed.readable o t all.0 z sized all.1)

    pub fed_fault : (f : Fault) → Stopped decode r f → FedBy L admits decode b o s (refused f l)
    fed_fault _ (Reading.at_length u) =
        let none = h.unsized (sized_too false u) in
        subst (λ (k : Option (List ℕ)). FedBy L admits decode b o s (refused wrong_length k)) (sym none.1)
        (subst (λ (t : Store R). FedBy L admits decode b o t (refused wrong_length None)) (sym none.0)
        (fed_by L admits decode b o o [] (refused wrong_length None) (Feed.unreadable o (sized_too false u))))
    fed_fault _ (Reading.at_word f sized on here) =
        by_word (sized_too true sized) on s (refused f l)
        ([], Feed.stop r.word r.sites l s f (subst (λ (g : List ℕ). FaultAt decode g r.word r.sites f) h.bytes here))

    -- ---- one token more

    entry_here : (v : Reader) (t : Token R) → Moved decode r t v → EntryAt decode b r.word r.sites (entry t) v.word
    entry_here v t m = subst (λ (f : List ℕ). EntryAt decode f r.word r.sites (entry t) v.word) h.bytes m.read

    sized_by : (v : Reader) (t : Token R) → Moved decode r t v → well_sized (length b) ≡ true
    sized_by v t m = sized_too true m.sized

    pub fed_refused : (v : Reader) (q : Site R) → Moved decode r (Token.Site q) v → (t : Store R) (e : Refused) → Adds L admits s (addition q (Err e)) t
        → FedBy L admits decode b o t (refused (refused_site e q.word) l)
    fed_refused v q m t e a =
        by_word (sized_by v (Token.Site q) m) m.going t (refused (refused_site e q.word) l)
        (addition q (Err e) ∷ [], Feed.refuse r.word r.sites l s t q e v.word (entry_here v (Token.Site q) m) a)

    pub after_site : (v : Reader) (q : Site R) → Moved decode r (Token.Site q) v → file v ≡ file r → (t : Store R) (n : ℕ) → Adds L admits s (addition q (Ok n)) t
        → Progress o v l t
    after_site v q m same t n a =
        record {
          bytes = same ∙ h.bytes;
          unsized = λ u. absurd (false≢true (sym u ∙ sized_by v (Token.Site q) m));
          going = λ _ u z k.
              h.going m.going u z (
                addition q (Ok n) ∷ k.0,
                Feed.accept r.word r.sites l s t u k.0 z q n v.word (entry_here v (Token.Site q) m) a
                    (subst (λ (i : ℕ). Feeds L admits decode b v.word i l t u k.0 z) m.sites k.1),
              );
          done = λ off. absurd (false≢true (sym m.ended ∙ off));
        }

    pub after_other : (v : Reader) (t : Token R) → NoSite t → Moved decode r t v → file v ≡ file r → Progress o v (label_after l (entry t)) s
    after_other v (Token.Site q) none m same = absurd none
    after_other v (Token.Label w text) none m same =
        let sites : v.sites ≡ r.sites = m.sites ∙ omega arith in
        record {
          bytes = same ∙ h.bytes;
          unsized = λ u. absurd (false≢true (sym u ∙ sized_by v (Token.Label w text) m));
          going = λ _ u z k.
              h.going m.going u z (
                k.0,
                Feed.pass r.word r.sites l s u k.0 z w text.now v.word (entry_here v (Token.Label w text) m)
                    (subst (λ (i : ℕ). Feeds L admits decode b v.word i (Some text.now) s u k.0 z) sites k.1),
              );
          done = λ off. absurd (false≢true (sym m.ended ∙ off));
        }
    after_other v (Token.End n) none m same =
        let stands = entry_here v (Token.End n) m in
        let last = ends decode b r.word r.sites v.word (end n) stands refl in
        record {
          bytes = same ∙ h.bytes;
          unsized = λ u. absurd (false≢true (sym u ∙ sized_by v (Token.End n) m));
          going = λ on _ _ _. absurd (false≢true (sym on ∙ m.ended));
          done = λ _.
              h.going m.going s complete
              ([], Feed.last r.word r.sites l s v.word (subst (λ (e : Entry R). EntryAt decode b r.word r.sites e v.word) last stands));
        }

-- ---- the survey keeps its measure and its grading

module _ {R G : Type 0} (decodes : G → ℕ → ℕ → Option R) (x y : G) (same : x ≡ y) (r v : Reader) where
  pub moved_by : (o : Option (Token R)) (t : Token R) → Next (decodes x) r (Ok o) v → o ≡ Some t → Moved (decodes y) r t v
  moved_by o t h e = subst (λ (k : G). Moved (decodes k) r t v) same (next_moved (decodes x) r v o t h e)

  pub moved_over_site : (o : Option (Token R)) (t : Token R) (q : Site R) → Next (decodes x) r (Ok o) v → o ≡ Some t → t ≡ Token.Site q → Moved (decodes y) r (Token.Site q) v
  moved_over_site o t q h e is = moved_by o (Token.Site q) h (e ∙ ap (λ (u : Token R). Some u) is)

  pub stopped_by : (f : Fault) → Next (decodes x) r (Err f) v → Stopped (decodes y) r f
  stopped_by f h = subst (λ (k : G). Stopped (decodes k) r f) same h.0

-- a token takes the reader on
pub advances_by : {R G : Type 0} (decodes : G → ℕ → ℕ → Option R) (x : G) (r v : Reader) (o : Option (Token R)) (t : Token R) → Next (decodes x) r (Ok o) v → o ≡ Some t
    → Advances (file r) r.word v.word
advances_by decodes x r v o t h e = let m = next_moved (decodes x) r v o t h e in advances (decodes x) (file r) r.word r.sites (entry t) v.word m.read

-- ---- the survey's answer, by the file's fault

module _ {R M G : Type 0} (lifts : M → Lift) (admits : G → R → Bool) (m k : M) (x y : G) (s : Store R) (q : Site R) (t : Store R) where
  kept : m ≡ k → x ≡ y → (a : Addition R) → Adds (lifts m) (admits x) s a t → Adds (lifts k) (admits y) s a t
  kept e f a h = subst (λ (u : M). Adds (lifts u) (admits y) s a t) e (subst (λ (u : G). Adds (lifts m) (admits u) s a t) f h)

  pub accepted_by : m ≡ k → x ≡ y → (n : ℕ) → Added (lifts m) (admits x) s q t (Ok n) → Adds (lifts k) (admits y) s (addition q (Ok n)) t
  accepted_by e f n (Ok i, h, told) =
      let same : i ≡ n = cc in
      subst (λ (j : ℕ). Adds (lifts k) (admits y) s (addition q (Ok j)) t) same (kept e f (addition q (Ok i)) h)
  accepted_by e f n (Err d, h, told) = let z : ◌≡◌ {A = ℕ} 0 1 = cc in absurd (omega arith)

  pub refused_by : m ≡ k → x ≡ y → (f : Fault) → Added (lifts m) (admits x) s q t (Err f)
      → (d : Refused) × Adds (lifts k) (admits y) s (addition q (Err d)) t × (f ≡ refused_site d q.word)
  refused_by e g f (Ok i, h, told) = let z : ◌≡◌ {A = ℕ} 0 1 = cc in absurd (omega arith)
  refused_by e g f (Err d, h, told) = (d, kept e g (addition q (Err d)) h, (cc))

pub no_site : {R : Type 0} (t : Token R) → ((q : Site R) → t ≡ Token.Site q → ⊥) → NoSite t
no_site (Token.Label w text) h = tt
no_site (Token.Site q) h = h q refl
no_site (Token.End n) h = tt

-- a site leaves the label as it was
pub label_kept : {R : Type 0} (k l : Option (List ℕ)) (t : Token R) (q : Site R) → k ≡ label_after l (entry t) → t ≡ Token.Site q → k ≡ l
label_kept {R} k l t q e is = e ∙ ap (λ (u : Token R). label_after l (entry u)) is
