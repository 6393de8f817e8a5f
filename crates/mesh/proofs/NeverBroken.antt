-- No call that the rules allow is answered with 3: a survey with such a past is never found broken.
use Rattle.std.proofs.Common.{◌≡◌, ℕ, ◌≢◌, List, [], ◌∷◌, sym, refl, ap, ◌∙◌, arith}
use Rattle.std.specs.List.{AllByRecursion}
use Rattle.geometry.specs.Lifts.{Lift}
use Rattle.geometry.specs.Spots.{Spot, bare}
use Rattle.mesh.specs.Adding.{Adds, off_grid, unpermitted, unadmitted, points_full, place_taken, no_conflict, tetrahedra_full, shell_open, point_vanishes, added}
use Rattle.mesh.specs.Past.{Locates, Step, Allowed, nowhere, no_owner, lowest_owner, adds, seals, locates, states}
use Rattle.mesh.specs.Surveys.{Grading, Tables, Call, Answer, accepted, refused, refused_over, sealed, found, stated, State}

-- the number of a refusal, and 0 for any other answer
number : Answer → ℕ
number (accepted n) = 0
number (refused n) = n
number (refused_over n q) = 0
number sealed = 0
number (found k) = 0
number (stated ls m) = 0

other : (a : Answer) (n : ℕ) → number a ≡ n → n ≢ 3 → a ≢ refused 3
unfolding number
other a n e apart three = apart (sym e ∙ ap number three)

module _ {R : Type 0} (L : Lift) (G : Grading R) (tables : Tables) where
  adds_unbroken : (s : State R) (p : Spot) (r : R) (a : Answer) (e : State R) → Adds L G tables s p r a e → a ≢ refused 3
  unfolding number
  adds_unbroken s p r a e (off_grid _) = other a 4 refl (λ z. omega arith)
  adds_unbroken s p r a e (unpermitted _ _) = other a 5 refl (λ z. omega arith)
  adds_unbroken s p r a e (unadmitted _ _ _) = other a 6 refl (λ z. omega arith)
  adds_unbroken s p r a e (points_full _ _ _ _) = other a 7 refl (λ z. omega arith)
  adds_unbroken s p r a e (place_taken _ _ _ _ _) = other a 8 refl (λ z. omega arith)
  adds_unbroken s p r a e (no_conflict _ _ _ _ _ _) = other a 9 refl (λ z. omega arith)
  adds_unbroken s p r a e (tetrahedra_full _ _ _ _ _ _ _) = other a 10 refl (λ z. omega arith)
  adds_unbroken s p r a e (shell_open _ _ _ _ _ _ _ _) = other a 11 refl (λ z. omega arith)
  adds_unbroken s p r a e (point_vanishes _ _ _ _ _ _ _ _ q _ _) = other a 0 refl (λ z. omega arith)
  adds_unbroken s p r a e (added _ _ _ _ _ _ _ _ _) = other a 0 refl (λ z. omega arith)

  locates_unbroken : (s : State R) (g : Spot) (a : Answer) → Locates s g a → a ≢ refused 3
  unfolding number
  locates_unbroken s g a (nowhere _) = other a 4 refl (λ z. omega arith)
  locates_unbroken s g a (no_owner _ _) = other a 13 refl (λ z. omega arith)
  locates_unbroken s g a (lowest_owner _ k _ _ _) = other a 0 refl (λ z. omega arith)

  step_unbroken : (s : State R) (c : Call R) (a : Answer) (e : State R) → Step L G tables s c a e → a ≢ refused 3
  unfolding number
  step_unbroken s c a e (adds {p} {r} _ h) = adds_unbroken s p r a e h
  step_unbroken s c a e (seals _) = other a 0 refl (λ z. omega arith)
  step_unbroken s c a e (locates {x} {y} {z} _ h) = locates_unbroken s (bare x y z) a h
  step_unbroken s c a e (states _) = other a 0 refl (λ z. omega arith)

  pub past_unbroken : (past : List (Call R × Answer)) (s : State R) → Allowed L G tables past s → AllByRecursion (λ x. x.1 ≢ refused 3) past
  past_unbroken [] s h = tt
  past_unbroken (x ∷ past) s h = (step_unbroken h.0 x.0 x.1 s h.2, past_unbroken past h.0 h.1)
