-- What a search of a list or of some numbers tells.
use Rattle.std.proofs.Common.{◌≡◌, ℕ, Bool, true, false, not, ◌&&◌, ◌||◌, List, [], ◌∷◌, Decides, is_some, Some, None, Option, sym, refl}
use Rattle.std.proofs.lemmas.Bool.{not_from_false, not_from_true}
use Rattle.std.specs.List.{AllByRecursion, list_any}
use Rattle.std.proofs.lemmas.Bool.Decides.{Decides-and, Decides-at, Decides-not}
use Rattle.mesh.specs.Records.{every}
use Rattle.survey.specs.Stay.{Failing}
use Rattle.survey.proofs.Ranges.{every_fails, every_tells}

-- no element passes the test of what P says
pub none_tell : {X : Type 0} (p : X → Bool) (P : X → Type 0) → ((x : X) → Decides (p x) (P x)) → (xs : List X) → Decides (not (list_any p xs)) (AllByRecursion (λ x. ¬ P x) xs)
none_tell p P each [] = (λ _. tt, λ _. refl)
none_tell p P each (x ∷ xs) =
    Decides-at (not (p x || list_any p xs)) (not (p x) && not (list_any p xs)) (neither (p x) (list_any p xs))
    (Decides-and (not (p x)) (not (list_any p xs)) (Decides-not (p x) (each x)) (none_tell p P each xs))
  where
    neither : (a b : Bool) → not (a || b) ≡ (not a && not b)
    neither true b = refl
    neither false b = refl

-- a point that fails, by whether every point passes
pub failing_tells : (p : ℕ → Bool) (n : ℕ) (o : Option ℕ) → Failing p n o → is_some o ≡ not (every p n)
failing_tells p n None h = sym (not_from_true (every p n) ((every_tells p n).1 h))
failing_tells p n (Some q) h = sym (not_from_false (every p n) (every_fails p n q h.0 h.1))
