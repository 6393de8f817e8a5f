-- Counting along a list by a fold.
use Rattle.std.proofs.Common.{◌≡◌, ℕ, ◌+◌, ◌<◌, ◌≤◌, Bool, true, false, List, [], ◌∷◌, length, count_by, cond, ap, ◌∙◌, arith}
use Rattle.std.proofs.lemmas.List.Sums.{sum_by-cons}
use Rattle.std.specs.List.{fold}
use Rattle.grading.specs.Counts.{one_more}

more : (n : ℕ) (b : Bool) → n < 255 → one_more n b ≡ n + cond b 1 0
more n true l = omega arith
more n false l = omega arith

-- a fold that counts, from n on
counts_on : {X : Type 0} (p : X → Bool) (xs : List X) (n : ℕ) → n + length xs < 256 → fold (λ m x. one_more m (p x)) n xs ≡ n + count_by p xs
counts_on p [] n h = omega arith
counts_on p (x ∷ xs) n h =
    let count : count_by p (x ∷ xs) ≡ cond (p x) 1 0 + count_by p xs = sum_by-cons _ x xs in
    let here : one_more n (p x) ≡ n + cond (p x) 1 0 = more n (p x) (omega arith) in
    let few : cond (p x) 1 0 ≤ 1 = bit (p x) in
    ap (λ (k : ℕ). fold (λ m x. one_more m (p x)) k xs) here
    ∙ counts_on p xs (n + cond (p x) 1 0) (omega (arith, few))
    ∙ (omega (arith, count))
  where
    bit : (b : Bool) → cond b 1 0 ≤ 1
    bit true = omega arith
    bit false = omega arith

pub fold_counts : {X : Type 0} (p : X → Bool) (xs : List X) → length xs < 256 → fold (λ m x. one_more m (p x)) 0 xs ≡ count_by p xs
fold_counts p xs h = counts_on p xs 0 (omega (arith, h)) ∙ (omega arith)
