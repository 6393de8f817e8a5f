-- The numbers that pass a test, by their place among them, and what a filter keeps by its numbers.
use Rattle.std.proofs.Common.{◌≡◌, ℕ, zero, suc, ◌+◌, ◌*◌, ◌/◌, ◌%◌, ◌<◌, ◌≤◌, Bool, true, false, cond, ◌&&◌, List, [], ◌∷◌, ◌++◌, map, length, get_or, take, count_by, filter, sym, refl, ap, ◌∙◌, inl, inr, ⊎_elim, add-one, arith}
use Rattle.std.specs.List.{prefix_len, AllByRecursion}
use Rattle.std.proofs.lemmas.List.Elements.{filter_more}
use Rattle.std.proofs.ByRecursion.{All-append, All-weaker}
use Rattle.std.proofs.lemmas.List.{length-append, get_or_append_left, get_or_at, take_all, map-append}
use Rattle.std.proofs.lemmas.List.Sums.{sum_by-cons, prefix_len_passes, prefix_len_stops}
use Rattle.std.proofs.lemmas.Bool.{cases_Bool, cases_eq, cases_lt, both_ways}
use Rattle.algebra.proofs.Lists.{bit, counted}
use Rattle.mesh.specs.Added.{passing, rank}
use Rattle.mesh.specs.Records.{every}

pub length-passing : (p : ℕ → Bool) (n : ℕ) → length (passing p n) ≡ rank p n
length-passing p zero = refl
length-passing p (suc n) = elim (p n) as (λ b. length (passing p n ++ cond b (n ∷ []) []) ≡ rank p n + cond b 1 0) [
  | true ↦ omega (arith, length-append (passing p n) (n ∷ []), length-passing p n)
  | false ↦ omega (arith, length-append (passing p n) [], length-passing p n)
]

pub rank_low : (p : ℕ → Bool) (n : ℕ) → rank p n ≤ n
rank_low p zero = omega arith
rank_low p (suc n) = elim (p n) as (λ b. rank p n + cond b 1 0 ≤ suc n) [ true ↦ omega (arith, rank_low p n) | false ↦ omega (arith, rank_low p n) ]

pub passing_pass : (p : ℕ → Bool) (n : ℕ) → AllByRecursion (λ k. (k < n) × (p k ≡ true)) (passing p n)
passing_pass p zero = tt
passing_pass p (suc n) = All-append (λ k. (k < suc n) × (p k ≡ true)) (passing p n) (cond (p n) (n ∷ []) [])
    (All-weaker (λ k. (k < n) × (p k ≡ true)) (λ k. (k < suc n) × (p k ≡ true)) (λ k h. (omega arith, h.1)) (passing p n) (passing_pass p n))
    (last (p n) refl)
  where
    last : (b : Bool) → p n ≡ b → AllByRecursion (λ k. (k < suc n) × (p k ≡ true)) (cond b (n ∷ []) [])
    last true e = ((omega arith, e), tt)
    last false e = tt

-- one that passes stands at the place of its number
pub passing_at : (p : ℕ → Bool) (n k d : ℕ) → k < n → p k ≡ true → (rank p k < rank p n) × (get_or (passing p n) (rank p k) d ≡ k)
passing_at p zero k d l e = absurd (omega arith)
passing_at p (suc n) k d l e = elim (cases_eq k n) [
  | inl i ↦
      let f : p n ≡ true = ap p (sym i) ∙ e in
      rw (i, f) (omega arith, get_or_at (passing p n) n [] d (rank p n) (length-passing p n))
  | inr i ↦
      let h = passing_at p n k d (omega arith) e in
      (omega (arith, h.0), get_or_append_left (passing p n) (cond (p n) (n ∷ []) []) d (rank p k) (omega (arith, h.0, length-passing p n)) ∙ h.1)
]

pub rank-passing : (p : ℕ → Bool) (n j d : ℕ) → j < rank p n → rank p (get_or (passing p n) j d) ≡ j
rank-passing p zero j d l = absurd (omega arith)
rank-passing p (suc n) j d l = elim (cases_lt j (rank p n)) [
  | inl m ↦ ap (rank p) (get_or_append_left (passing p n) (cond (p n) (n ∷ []) []) d j (omega (arith, length-passing p n))) ∙ rank-passing p n j d m
  | inr m ↦
      let f : p n ≡ true = ⊎_elim (λ e. e) (λ e. absurd (omega (arith, ap bit e))) (cases_Bool (p n)) in
      let k : rank p n ≡ j = omega (arith, ap bit f) in
      rw f (ap (rank p) (get_or_at (passing p n) n [] d j (length-passing p n ∙ k)) ∙ k)
]

pub rank_one : (p : ℕ → Bool) (n i j : ℕ) → i < n → j < n → p i ≡ true → p j ≡ true → rank p i ≡ rank p j → i ≡ j
rank_one p n i j l m e f h = sym (passing_at p n i 0 l e).1 ∙ ap (λ (k : ℕ). get_or (passing p n) k 0) h ∙ (passing_at p n j 0 m f).1

passing_same : (p q : ℕ → Bool) (n : ℕ) → ((k : ℕ) → k < n → p k ≡ q k) → passing p n ≡ passing q n
passing_same p q zero h = refl
passing_same p q (suc n) h = rw (h n (omega arith), passing_same p q n (λ k l. h k (omega arith)))

map_same : {X Y : Type 0} (f g : X → Y) (xs : List X) → AllByRecursion (λ x. f x ≡ g x) xs → map f xs ≡ map g xs
map_same f g [] h = refl
map_same f g (x ∷ xs) h = rw (h.0, map_same f g xs h.1)

pub map-passing : {X : Type 0} (f g : ℕ → X) (p q : ℕ → Bool) (n : ℕ) → ((k : ℕ) → k < n → f k ≡ g k) → ((k : ℕ) → k < n → p k ≡ q k) → map f (passing p n) ≡ map g (passing q n)
map-passing f g p q n h i = ap (map f) (passing_same p q n i) ∙ map_same f g (passing q n) (All-weaker (λ k. (k < n) × (q k ≡ true)) (λ k. f k ≡ g k) (λ k l. h k l.0) (passing q n) (passing_pass q n))

-- what a filter keeps, by its numbers
pub kept_passing : {X : Type 0} (p : X → Bool) (xs : List X) (d : X) → filter p xs ≡ map (λ k. get_or xs k d) (passing (λ k. p (get_or xs k d)) (length xs))
kept_passing {X} p xs d = ap (filter p) (sym (take_all (length xs) xs (omega arith))) ∙ go (length xs) (omega arith)
  where
    go : (n : ℕ) → n ≤ length xs → filter p (take n xs) ≡ map (λ k. get_or xs k d) (passing (λ k. p (get_or xs k d)) n)
    go zero l = refl
    go (suc n) l = (rw add-one at (filter_more p xs n d l)) ∙ one (p (get_or xs n d)) (go n (omega arith))
      where
        one : (b : Bool) → filter p (take n xs) ≡ map (λ k. get_or xs k d) (passing (λ k. p (get_or xs k d)) n)
            → filter p (take n xs) ++ cond b (get_or xs n d ∷ []) [] ≡ map (λ k. get_or xs k d) (passing (λ k. p (get_or xs k d)) n ++ cond b (n ∷ []) [])
        one true e = rw e (sym (map-append (λ k. get_or xs k d) (passing (λ k. p (get_or xs k d)) n) (n ∷ [])))
        one false e = rw e (sym (map-append (λ k. get_or xs k d) (passing (λ k. p (get_or xs k d)) n) []))

pub kept_kept : {X : Type 0} (p q : X → Bool) (xs : List X) → filter p (filter q xs) ≡ filter (λ x. q x && p x) xs
kept_kept p q [] = refl
kept_kept p q (x ∷ xs) = elim (q x) as (λ b. filter p (cond b (x ∷ filter q xs) (filter q xs)) ≡ cond (b && p x) (x ∷ filter (λ x. q x && p x) xs) (filter (λ x. q x && p x) xs)) [
  | true ↦ rw (kept_kept p q xs)
  | false ↦ kept_kept p q xs
]

pub count_kept : {X : Type 0} (p q : X → Bool) (xs : List X) → count_by p (filter q xs) ≡ count_by (λ x. q x && p x) xs
count_kept p q [] = refl
count_kept p q (x ∷ xs) =
    (elim (q x) as (λ b. count_by p (cond b (x ∷ filter q xs) (filter q xs)) ≡ bit (b && p x) + count_by (λ x. q x && p x) xs) [
      | true ↦ omega (arith, sum_by-cons (λ x. bit (p x)) x (filter q xs), count_kept p q xs)
      | false ↦ omega (arith, count_kept p q xs)
    ]) ∙ sym (sum_by-cons (λ x. bit (q x && p x)) x xs)

-- what is at one place only is counted at most once
pub at_most_one : {X : Type 0} (p : X → Bool) (xs : List X) (d : X) → ((i j : ℕ) → i < length xs → j < length xs → p (get_or xs i d) ≡ true → p (get_or xs j d) ≡ true → i ≡ j) → count_by p xs ≤ 1
at_most_one p [] d h = omega arith
at_most_one p (x ∷ xs) d h = elim (cases_Bool (p x)) [
  | inl e ↦ elim (cases_lt (count_by p xs) 1) [
    | inl l ↦ omega (arith, sum_by-cons (λ x. bit (p x)) x xs, ap bit e)
    | inr l ↦ let r = counted p xs l in absurd (omega (arith, h 0 (suc r.0) (omega arith) (omega (arith, r.1)) e (r.2 d)))
  ]
  | inr e ↦ omega (arith, sum_by-cons (λ x. bit (p x)) x xs, ap bit e, at_most_one p xs d (λ i j l m f g. let s = h (suc i) (suc j) (omega arith) (omega arith) f g in omega arith))
]

-- the first that fails is found where one fails
pub leading_finds : {X : Type 0} (p : X → Bool) (xs : List X) (d : X) (i : ℕ) → i < length xs → p (get_or xs i d) ≡ false → (prefix_len p xs < length xs) × (p (get_or xs (prefix_len p xs) d) ≡ false)
leading_finds p xs d i l e =
    let within : prefix_len p xs < length xs = ⊎_elim (λ k. k) (λ k. absurd (both_ways (p (get_or xs i d)) e (prefix_len_passes p xs i d (omega arith)))) (cases_lt (prefix_len p xs) (length xs)) in
    (within, prefix_len_stops p xs d within)

-- ---- one more number, and a face by its number

pub passing_more : (p : ℕ → Bool) (n : ℕ) → passing p (n + 1) ≡ passing p n ++ cond (p n) (n ∷ []) []
passing_more p n = rw add-one

pub rank_more : (p : ℕ → Bool) (n : ℕ) → rank p (n + 1) ≡ rank p n + cond (p n) 1 0
rank_more p n = rw add-one

pub every_more : (p : ℕ → Bool) (n : ℕ) → every p (n + 1) ≡ (p n && every p n)
every_more p n = rw add-one

-- face i of record k, by number
pub face_row : (k i : ℕ) → i < 4 → (4 * k + i) / 4 ≡ k
face_row k i l = omega arith

pub face_slot : (k i : ℕ) → i < 4 → (4 * k + i) % 4 ≡ i
face_slot k i l = omega arith
