-- Whether a flag is set, by a search for one.
use Rattle.std.proofs.Common.{◌≡◌, ℕ, zero, suc, ◌≤◌, Bool, true, false, ◌||◌, List, length, get_or, take, sym, refl, ap, ◌∙◌, add-one, arith}
use Rattle.std.specs.List.{list_any}
use Rattle.std.proofs.lemmas.List.{take_all}
use Rattle.std.proofs.lemmas.List.Folds.{list_any_more}
use Rattle.survey.specs.Conflicts.{some_flag}

-- one of the first n flags is set where one of them passes a test that tells whether a flag is set
some_taken : (p : Bool → Bool) → ((b : Bool) → p b ≡ b) → (flags : List Bool) (n : ℕ) → n ≤ length flags → list_any p (take n flags) ≡ some_flag flags n
some_taken p same flags zero h = refl
some_taken p same flags (suc n) h =
    let more : list_any p (take (suc n) flags) ≡ (list_any p (take n flags) || p (get_or flags n false)) = simp add-one at (list_any_more p flags n false (omega arith)) in
    more ∙ (λ i. some_taken p same flags n (omega arith) i || same (get_or flags n false) i)

pub some_told : (p : Bool → Bool) (flags : List Bool) (n : ℕ) (r : Bool) → r ≡ list_any p flags → p true ≡ true → p false ≡ false → length flags ≡ n → r ≡ some_flag flags n
some_told p flags n r e at_true at_false long = e ∙ ap (list_any p) (sym (take_all n flags (omega arith))) ∙ some_taken p same flags n (omega arith)
  where
    same : (b : Bool) → p b ≡ b
    same true = at_true
    same false = at_false
