-- The words of a file, as its bytes in fours. Assumes nothing.
use Rattle.std.proofs.Common.{◌≡◌, ℕ, zero, suc, ◌+◌, ◌*◌, ◌<◌, ◌≤◌, List, [], length, get_or, take, drop, Some, None, IsSomeAnd, Option, sym, ap, ◌∙◌, arith, lit<, Bor, MatchOption, slice_index, w32}
use Rattle.std.proofs.lemmas.Bool.{cond-false, cond-true, le-ltb, lt-ltb}
use Rattle.std.proofs.lemmas.List.{drop-drop, get_or-drop, get_or-take}
use Rattle.std.specs.Int.{from_be_bytes}
use Rattle.std.specs.Simd.{first_chunks}
use Rattle.words.specs.declared.word.Word.{Word}
use Rattle.words.specs.Word.{bits_at, word_at, word_of, words}

-- chunk i of n elements is n elements from n * i on
chunk_at : {X : Type 0} (n k : ℕ) (xs : List X) (i : ℕ) → i < k → get_or (first_chunks n k xs) i [] ≡ take n (drop (n * i) xs)
chunk_at n zero xs i h = absurd (omega (arith, h))
chunk_at n (suc k) xs zero h = let none : 0 ≡ n * 0 = omega arith in ap (λ (j : ℕ). take n (drop j xs)) none
chunk_at n (suc k) xs (suc i) h =
    let on : n + n * i ≡ n * suc i = omega arith in
    chunk_at n k (drop n xs) i (omega (arith, h)) ∙ ap (take n) (drop-drop (n * i) n xs ∙ ap (λ (j : ℕ). drop j xs) on)

-- byte i of a word
byte_at : (b : List ℕ) (w i : ℕ) → i < 4 → slice_index (take 4 (drop (4 * w) b)) i ≡ slice_index b (4 * w + i)
byte_at b w i h = get_or-take 4 (drop (4 * w) b) i 0 h ∙ get_or-drop (4 * w) b i 0

bits_of : (b : List ℕ) (w : ℕ) (c : List ℕ) → c ≡ take 4 (drop (4 * w) b) → from_be_bytes w32 c ≡ bits_at b w
bits_of b w c e =
    let at : (i : ℕ) → i < 4 → slice_index c i ≡ slice_index b (4 * w + i) = λ i h. ap (λ (l : List ℕ). slice_index l i) e ∙ byte_at b w i h in
    let zeroth : 4 * w + 0 ≡ 4 * w = omega arith in
    let first : slice_index c 0 ≡ slice_index b (4 * w) = at 0 (lit< tt) ∙ ap (slice_index b) zeroth in
    omega (arith, first, at 1 (lit< tt), at 2 (lit< tt), at 3 (lit< tt))

-- what the word at place w of the words becomes
pub word_found : (b : List ℕ) (w : ℕ) (cs : List (List ℕ)) (o : Option (Bor (List ℕ))) (r : Option Word) (Told : Bor (List ℕ) → Word → Type 0)
    → cs ≡ first_chunks 4 (words b) b → length cs ≡ words b
    → MatchOption o (length cs ≤ w) (λ x. (w < length cs) × (x.now ≡ get_or cs w []))
    → MatchOption o (r ≡ None) (λ x. IsSomeAnd r (Told x)) → ((x : Bor (List ℕ)) (v : Word) → Told x v → v ≡ word_of (from_be_bytes w32 x.now))
    → r ≡ word_at b w
word_found b w cs None r Told same l at m known = m ∙ sym (cond-false _ _ _ (le-ltb w (words b) (omega (arith, at, l))))
word_found b w cs (Some x) None Told same l at m known = elim m [ ]
word_found b w cs (Some x) (Some v) Told same l at m known =
    let inside : w < words b = omega (arith, at.0, l) in
    let chunk : x.now ≡ take 4 (drop (4 * w) b) = at.1 ∙ ap (λ (ds : List (List ℕ)). get_or ds w []) same ∙ chunk_at 4 (words b) b w inside in
    ap (λ (u : Word). Some u) (known x v m ∙ ap word_of (bits_of b w x.now chunk)) ∙ sym (cond-true _ _ _ (lt-ltb w (words b) inside))
