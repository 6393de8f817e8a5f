-- Feeding a survey from a file: the adds that the file makes of it, one after the other, and how feeding ends. Assumes nothing.
use Rattle.std.specs.Prelude.{◌≡◌, ℕ, ◌+◌, Bool, true, false, ◌&&◌, List, [], ◌∷◌, map, length, is_ok, Some, None, Ok, Err, Option, Result}
use Rattle.geometry.specs.Lifts.{Lift}
use Rattle.geometry.specs.Spots.{Spot}
use Rattle.mesh.specs.Surveys.{Answer, Call, add}
use Rattle.mesh.specs.declared.record.TetRecord.{TetRecord}
use Rattle.survey.specs.declared.counts.Counts.{Counts}
use Rattle.survey.specs.declared.open.Open.{Open}
use Rattle.survey.specs.declared.record.PointRecord.{PointRecord}
use Rattle.survey.specs.declared.refusal.Refusal.{Refusal as Refused}
use Rattle.survey.specs.Adds.{AddsTo}
use Rattle.survey.specs.Pasts.{Ran, add_told, opened}
use Rattle.survey.specs.Sites.{site_spot as spot_of_site}
use Rattle.survey.specs.Tables.{Lent}
use Rattle.survey.specs.Upheld.{Kept}
use Rattle.words.specs.declared.fault.Fault.{Fault}
use Rattle.words.specs.declared.refusal.Refusal.{Refusal}
use Rattle.words.specs.declared.token.Site.{Site}
use Rattle.words.specs.Contents.{Ending, Means, complete, refused, label_text}
use Rattle.words.specs.Fault.{refused_site, wrong_length}
use Rattle.words.specs.Reader.{well_sized}
use Rattle.words.specs.Token.{Entry, EntryAt, FaultAt, label, site, end}

-- ---- one add

-- what a survey counts, and its tables
pub record Store (R : Type 0) : Type 0 where
  pub counts : Counts
  pub points : List PointRecord
  pub readings : List R
  pub tets : List TetRecord

abbrev pub store : {M G R : Type 0} → Open M G → Lent R → Store R
store o t = record { counts = o.counts; points = t.points; readings = t.readings; tets = t.tets }

abbrev pub lent : {R : Type 0} → Store R → Lent R
lent s = record { points = s.points; readings = s.readings; tets = s.tets }

-- an add as it was made: the spot and the reading that were brought, and the answer
pub record Addition (R : Type 0) : Type 0 where
  pub spot : Spot
  pub reading : R
  pub answer : Result ℕ Refused

abbrev pub site_spot : {R : Type 0} → Site R → Spot
site_spot q = spot_of_site q.site

-- the add of a site of the file
abbrev pub addition : {R : Type 0} → Site R → Result ℕ Refused → Addition R
addition q a = record { spot = site_spot q; reading = q.reading; answer = a }

abbrev pub at_site : Result ℕ Refused → ℕ → Result ℕ Fault
at_site (Ok n) w = Ok n
at_site (Err e) w = Err (refused_site e w)

-- given what the measure and the grading mean, the add takes the survey and its tables from s to t
abbrev pub Adds : {R : Type 0} → Lift → (R → Bool) → Store R → Addition R → Store R → Type 0
Adds L admits s a t =
    AddsTo L admits s.counts (lent s) a.spot a.reading t.counts (lent t) a.answer

-- a site of the file was added, and the survey's answer told as the file's fault
abbrev pub Added : {R : Type 0} → Lift → (R → Bool) → Store R → Site R → Store R → Result ℕ Fault → Type 0
Added L admits s q t r = (a : Result ℕ Refused) × Adds L admits s (addition q a) t × (r ≡ at_site a q.word)

-- ---- a whole file

abbrev pub all_accepted : {R : Type 0} → List (Addition R) → Bool
all_accepted [] = true
all_accepted (a ∷ adds) = is_ok a.answer && all_accepted adds

abbrev pub sites_of : {R : Type 0} → List (Entry R) → List (Site R)
sites_of [] = []
sites_of (label w text ∷ es) = sites_of es
sites_of (site q ∷ es) = q ∷ sites_of es
sites_of (end n ∷ es) = sites_of es

-- the spot and the reading of a site of the file, and of an add
abbrev pub from_file : {R : Type 0} → Site R → Spot × R
from_file q = (site_spot q, q.reading)

abbrev pub brought : {R : Type 0} → Addition R → Spot × R
brought a = (a.spot, a.reading)

-- the file means that it ends so, and that its sites are those that were brought
abbrev pub MeansAdds : {R : Type 0} → (ℕ → ℕ → Option R) → List ℕ → List (Addition R) → Ending → Type 0
MeansAdds {R} decode b adds z = (es : List (Entry R)) × Means decode b es z × (map from_file (sites_of es) ≡ map brought adds)

module _ {R : Type 0} (L : Lift) (admits : R → Bool) (decode : ℕ → ℕ → Option R) (b : List ℕ) where
  -- From word w on, after n sites and the last label l, the file takes the survey and its tables from s to t by these adds, and
  -- feeding ends so. A site is added before what follows it is looked at; nothing follows a refused site.
  pub data Feeds : (w n : ℕ) → Option (List ℕ) → (s t : Store R) → List (Addition R) → Ending → Type 0 where
    pass : (w n : ℕ) (l : Option (List ℕ)) (s t : Store R) (adds : List (Addition R)) (z : Ending) (at : ℕ) (text : List ℕ) (v : ℕ)
        → EntryAt decode b w n (label at text) v → Feeds v n (Some text) s t adds z
        → Feeds w n l s t adds z
    accept : (w n : ℕ) (l : Option (List ℕ)) (s m t : Store R) (adds : List (Addition R)) (z : Ending) (q : Site R) (k v : ℕ)
        → EntryAt decode b w n (site q) v → Adds L admits s (addition q (Ok k)) m → Feeds v (n + 1) l m t adds z
        → Feeds w n l s t (addition q (Ok k) ∷ adds) z
    refuse : (w n : ℕ) (l : Option (List ℕ)) (s t : Store R) (q : Site R) (e : Refused) (v : ℕ)
        → EntryAt decode b w n (site q) v → Adds L admits s (addition q (Err e)) t
        → Feeds w n l s t (addition q (Err e) ∷ []) (refused (refused_site e q.word) l)
    last : (w n : ℕ) (l : Option (List ℕ)) (s : Store R) (v : ℕ) → EntryAt decode b w n (end n) v → Feeds w n l s s [] complete
    stop : (w n : ℕ) (l : Option (List ℕ)) (s : Store R) (f : Fault) → FaultAt decode b w n f → Feeds w n l s s [] (refused f l)

  -- a file of another length than the rules allow adds nothing; any other is fed from its first word
  pub data Fed : (s t : Store R) → List (Addition R) → Ending → Type 0 where
    unreadable : (s : Store R) → well_sized (length b) ≡ false → Fed s s [] (refused wrong_length None)
    readable : (s t : Store R) (adds : List (Addition R)) (z : Ending) → well_sized (length b) ≡ true → Feeds 0 0 None s t adds z → Fed s t adds z

  -- the file was fed by some adds; where none was refused, they are what the file means
  pub record FedBy (s t : Store R) (z : Ending) : Type 0 where
    pub adds : List (Addition R)
    pub fed : Fed s t adds z
    pub meant : all_accepted adds ≡ true → MeansAdds decode b adds z

  -- how the loop ended, with the last label
  abbrev pub FedWords : (s t : Store R) → Result (Unit {0}) Fault → Option (List ℕ) → Type 0
  FedWords s t (Ok _) l = FedBy s t complete
  FedWords s t (Err f) l = FedBy s t (refused f l)

-- the answer of feeding, by its content
abbrev pub outcome : Result (Unit {0}) Refusal → Ending
outcome (Ok _) = complete
outcome (Err r) = refused r.fault (label_text r.label)

-- ---- the past that feeding leaves

-- some adds, the oldest first, behind a past, whose newest call is first
abbrev pub after_adds : {R : Type 0} → List (Addition R) → List (Call R × Answer) → List (Call R × Answer)
after_adds [] past = past
after_adds (a ∷ adds) past = after_adds adds ((add a.spot a.reading, add_told a.answer) ∷ past)

-- The file was fed to the survey over its tables. Whatever past they had, they have it still, with the adds of the file behind it:
-- those of its accepted sites, and that of the one refused, if any. What is promised of a survey with a past holds then.
module _ {M G R : Type 0} (lifts : M → Lift) (admitted : G → R → Bool) (classed : G → R → R → R → R → ℕ) (decoded : G → ℕ → ℕ → Option R) (b : List ℕ) where
  pub record FedOn (o : Open M G) (t : Lent R) (o' : Open M G) (t' : Lent R) (z : Ending) : Type 0 where
    pub by : FedBy (lifts o.measure) (admitted o.grading) (decoded o.grading) b (store o t) (store o' t') z
    pub continues : (past : List (Call R × Answer)) → Ran lifts admitted classed past (opened o) t → Kept lifts admitted classed (after_adds by.adds past) (opened o') t'
