-- Feeding a survey with a past leaves it with the file's adds behind that past.
use Rattle.std.proofs.Common.{◌≡◌, ℕ, ◌+◌, Bool, List, ◌∷◌, Ok, Err, Option, sym, refl, subst}
use Rattle.geometry.specs.Lifts.{Lift}
use Rattle.mesh.specs.Surveys.{Answer, Call, Eightfold, add, accepted}
use Rattle.survey.specs.declared.open.Open.{Open}
use Rattle.survey.specs.Pasts.{Ran, adds as another, opened}
use Rattle.survey.specs.States.{meaning}
use Rattle.survey.specs.Tables.{Lent}
use Rattle.survey.proofs.AnyRun.{kept}
use Rattle.words.specs.Contents.{Ending}
use Rattle.words.specs.Feed
use Rattle.words.specs.Feed.{Addition, Fed, FedBy, FedOn, Feeds, Store, after_adds, lent, site_spot, store}

module _ {M G R : Type 0} (lifts : M → Lift) (admitted : G → R → Bool) (classed : G → R → R → R → R → ℕ) where
  module _ (m : M) (g : G) (decode : ℕ → ℕ → Option R) (b : List ℕ) where
    -- the survey with the counts of a store
    abbrev survey : Store R → Open M G
    survey s = record { counts = s.counts; measure = m; grading = g }

    abbrev Past : Type 0
    Past = List (Call R × Answer)

    feeds_ran : (w n : ℕ) (l : Option (List ℕ)) (s t : Store R) (adds : List (Addition R)) (z : Ending) → Feeds (lifts m) (admitted g) decode b w n l s t adds z
        → (past : Past) → Ran lifts admitted classed past (opened (survey s)) (lent s) → Ran lifts admitted classed (after_adds adds past) (opened (survey t)) (lent t)
    feeds_ran w n l s t adds z (Feed.pass _ _ _ _ _ _ _ at text v h k) past ran = feeds_ran v n _ s t adds z k past ran
    feeds_ran w n l s t _ z (Feed.accept _ _ _ _ q _ adds _ p k v h a f) past ran =
        feeds_ran v (n + 1) l q t adds z f ((add (site_spot p) p.reading, accepted k) ∷ past) (another (survey s) (survey q) (lent s) (lent q) (site_spot p) p.reading (Ok k) ran a refl refl)
    feeds_ran w n l s t _ _ (Feed.refuse _ _ _ _ _ p e v h a) past ran = another (survey s) (survey t) (lent s) (lent t) (site_spot p) p.reading (Err e) ran a refl refl
    feeds_ran w n l s _ _ _ (Feed.last _ _ _ _ v h) past ran = ran
    feeds_ran w n l s _ _ _ (Feed.stop _ _ _ _ f h) past ran = ran

    fed_ran : (s t : Store R) (adds : List (Addition R)) (z : Ending) → Fed (lifts m) (admitted g) decode b s t adds z
        → (past : Past) → Ran lifts admitted classed past (opened (survey s)) (lent s) → Ran lifts admitted classed (after_adds adds past) (opened (survey t)) (lent t)
    fed_ran s _ _ _ (Feed.unreadable _ u) past ran = ran
    fed_ran s t adds z (Feed.readable _ _ _ _ u h) past ran = feeds_ran 0 0 _ s t adds z h past ran

  module _ (eight : (g : G) → Eightfold (meaning admitted classed g)) (decoded : G → ℕ → ℕ → Option R) (b : List ℕ) where
    pub fed_on : (o o' : Open M G) (t t' : Lent R) (z : Ending) → o'.measure ≡ o.measure → o'.grading ≡ o.grading
        → FedBy (lifts o.measure) (admitted o.grading) (decoded o.grading) b (store o t) (store o' t') z → FedOn lifts admitted classed decoded b o t o' t' z
    fed_on o o' t t' z same_measure same_grading h = record {
      by = h;
      continues = λ past ran.
          kept lifts admitted classed eight (after_adds h.adds past) (opened o') t'
          (subst (λ (s : Open M G). Ran lifts admitted classed (after_adds h.adds past) (opened s) t') (λ i. record { counts = o'.counts; measure = sym same_measure i; grading = sym same_grading i })
          (fed_ran o.measure o.grading (decoded o.grading) b (store o t) (store o' t') h.adds z h.fed past ran));
    }
