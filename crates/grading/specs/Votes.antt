-- The kind of soil that most of four readings have: it leads the votes, is one of the four codes, and is the same in every order. Assumes nothing.
use Rattle.std.specs.Prelude.{◌≡◌, ℕ, zero, suc, ◌+◌, ◌-◌, ◌<◌, ◌≤◌, Bool, true, false, cond, List, nat_lt, refl}
use Rattle.std.proofs.Common.{sym, ap, subst, ◌∙◌, ⊎_elim, le_refl, arith}
use Rattle.std.proofs.lemmas.Bool.{cases_eq, cond_both, cond-false, cond-true, le-ltb, lt-ltb, ltb-false, ltb-true}
use Rattle.grading.specs.declared.soil.Reading.{Reading}
use Rattle.grading.specs.Soil.{Leads, codes, votes, winner, commonest}

either_le : (b : Bool) (m k : ℕ) → m ≤ k → cond b (suc k) m ≤ suc k
either_le true m k h = omega arith
either_le false m k h = omega arith

pub winner_le : (k : ℕ) (cs : List ℕ) → winner k cs ≤ k
winner_le zero cs = omega arith
winner_le (suc k) cs = either_le _ _ k (winner_le k cs)

-- two lists with the same votes have the same winner
same_winner : (k : ℕ) (cs ds : List ℕ) → ((j : ℕ) → votes j cs ≡ votes j ds) → winner k cs ≡ winner k ds
same_winner zero cs ds h = refl
same_winner (suc k) cs ds h =
    let e = same_winner k cs ds h in
    let won : votes (winner k cs) cs ≡ votes (winner k ds) ds = ap (λ j. votes j cs) e ∙ h (winner k ds) in
    λ i. cond (nat_lt (won i) (h (suc k) i)) (suc k) (e i)

pub front_swap : (a b c d : Reading) → commonest b a c d ≡ commonest a b c d
front_swap a b c d = same_winner 3 (codes b a c d) (codes a b c d) (λ j. omega arith)

pub middle_swap : (a b c d : Reading) → commonest a c b d ≡ commonest a b c d
middle_swap a b c d = same_winner 3 (codes a c b d) (codes a b c d) (λ j. omega arith)

pub back_swap : (a b c d : Reading) → commonest a b d c ≡ commonest a b c d
back_swap a b c d = same_winner 3 (codes a b d c) (codes a b c d) (λ j. omega arith)

-- one code more: it leads where it has more votes than the leader, who stays otherwise
winner_next : (k : ℕ) (cs : List ℕ) → 1 ≤ k → winner k cs ≡ cond (nat_lt (votes (winner (k - 1) cs) cs) (votes k cs)) k (winner (k - 1) cs)
winner_next zero cs h = absurd (omega arith)
winner_next (suc j) cs h = let e : suc j - 1 ≡ j = omega arith in rw e

pub winner_takes : (k leader : ℕ) (cs : List ℕ) → 1 ≤ k → leader ≡ winner (k - 1) cs → votes leader cs < votes k cs → k ≡ winner (k + 1 - 1) cs
winner_takes k leader cs h e more =
    let same : k + 1 - 1 ≡ k = omega arith in
    rw same (sym (winner_next k cs h ∙ cond-true _ k _ (lt-ltb _ _ (subst (λ l. votes l cs < votes k cs) e more))))

pub winner_stays : (k leader : ℕ) (cs : List ℕ) → 1 ≤ k → leader ≡ winner (k - 1) cs → votes k cs ≤ votes leader cs → leader ≡ winner (k + 1 - 1) cs
winner_stays k leader cs h e less =
    let same : k + 1 - 1 ≡ k = omega arith in
    rw same (e ∙ sym (winner_next k cs h ∙ cond-false _ k _ (le-ltb _ _ (subst (λ l. votes k cs ≤ votes l cs) e less))))

-- ---- the winner leads

leads_none : (cs : List ℕ) → Leads 1 0 cs
leads_none cs = record { most = λ j h. let z : j ≡ 0 = omega arith in rw z (le_refl _); lowest = λ j h. absurd (omega arith) }

leads_more : (k w : ℕ) (cs : List ℕ) → w ≤ k → Leads (suc k) w cs → Leads (suc (suc k)) (cond (nat_lt (votes w cs) (votes (suc k) cs)) (suc k) w) cs
leads_more k w cs low h =
    cond_both (nat_lt (votes w cs) (votes (suc k) cs)) (suc k) w (λ x. Leads (suc (suc k)) x cs)
    (λ e.
    let more = ltb-true _ _ e in
    record {
      most = λ j l. ⊎_elim (λ z. rw z (le_refl _)) (λ n. let b = h.most j (omega arith) in omega arith) (cases_eq j (suc k));
      lowest = λ j l. let b = h.most j l in omega arith;
    })
    (λ e.
    let less = ltb-false _ _ e in
    record { most = λ j l. ⊎_elim (λ z. rw z less) (λ n. h.most j (omega arith)) (cases_eq j (suc k)); lowest = h.lowest })

pub winner_leads : (k : ℕ) (cs : List ℕ) → Leads (suc k) (winner k cs) cs
winner_leads zero cs = leads_none cs
winner_leads (suc k) cs = leads_more k (winner k cs) cs (winner_le k cs) (winner_leads k cs)

-- of the four codes
pub leads_of : (w : ℕ) (cs : List ℕ) → w ≡ winner 3 cs → Leads 4 w cs
leads_of w cs e = subst (λ k. Leads 4 k cs) (sym e) (winner_leads 3 cs)
