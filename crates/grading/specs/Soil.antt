-- Soil: the codes of the four kinds, and the code that most of four readings have. Assumes nothing.
use Rattle.std.specs.Prelude.{◌≡◌, ℕ, zero, suc, ◌<◌, ◌≤◌, cond, ◌&&◌, List, [], ◌∷◌, Some, None, count_by, Option, ◌==◌, nat_eq, nat_lt, Result, MatchResult}
use Rattle.grading.specs.declared.soil.Reading.{Reading}
use Rattle.grading.specs.declared.soil.UnknownSoil.{UnknownSoil}
use Rattle.grading.specs.declared.soil.Reading.TheVariants.{Sand, Clay, Peat, Fill}

abbrev pub code : Reading → ℕ
code Sand = 0
code Clay = 1
code Peat = 2
code Fill = 3

-- the result is the kind with this code, or the refusal of a code that no kind has
abbrev pub Coded : ℕ → Result Reading UnknownSoil → Type 0
Coded n r = MatchResult r (λ kind. code kind ≡ n) (λ e. (e.0 ≡ n) × (3 < n))

-- how many of some codes are k
abbrev pub votes : ℕ → List ℕ → ℕ
votes k cs = count_by (λ c. nat_eq c k) cs

-- k where it has more votes than the leader, who stays otherwise
abbrev pub more_voted : (leader k : ℕ) → List ℕ → ℕ
more_voted leader k cs = cond (nat_lt (votes leader cs) (votes k cs)) k leader

-- the code up to k that most have, the lowest where several tie
abbrev pub winner : ℕ → List ℕ → ℕ
winner zero cs = 0
winner (suc k) cs = more_voted (winner k cs) (suc k) cs

-- k leads among the codes below n: none has more votes, and a lower one has fewer
pub record Leads (n : ℕ) (k : ℕ) (cs : List ℕ) : Type 0 where
  pub most : (j : ℕ) → j < n → votes j cs ≤ votes k cs
  pub lowest : (j : ℕ) → j < k → votes j cs < votes k cs

abbrev pub codes : Reading → Reading → Reading → Reading → List ℕ
codes a b c d = code a ∷ code b ∷ code c ∷ code d ∷ []

abbrev pub commonest : Reading → Reading → Reading → Reading → ℕ
commonest a b c d = winner 3 (codes a b c d)

-- tag 0 with a code is that kind
abbrev pub reading_of : ℕ → ℕ → Option Reading
reading_of tag value =
    cond (tag == 0 && value == 0) (Some Sand)
    (cond (tag == 0 && value == 1) (Some Clay)
    (cond (tag == 0 && value == 2) (Some Peat)
    (cond (tag == 0 && value == 3) (Some Fill) None)))
