-- Numbers that pass a test, counted and gathered by a loop.
use Rattle.std.proofs.Common.{◌≡◌, ℕ, zero, suc, ◌+◌, ◌*◌, ◌/◌, ◌<◌, ◌≤◌, Bool, true, false, cond, List, map, length, get_or, take, set, sym, ap, ◌∙◌, inl, inr, arith}
use Rattle.std.proofs.lemmas.List.Elements.{All-push}
use Rattle.std.proofs.lemmas.List.{append-nil, take_more_set, map_push, get_or-set_same, get_or-set_other}
use Rattle.std.proofs.lemmas.Bool.{cases_eq, and_left}
use Rattle.mesh.proofs.Ranks.{rank_more, passing_more}
use Rattle.mesh.specs.Added.{passing, rank}
use Rattle.mesh.specs.declared.record.TetRecord.{TetRecord}
use Rattle.survey.specs.Cavity.{bare, gone, noted, Noted, Placed}
use Rattle.survey.specs.declared.cavity.shell_face.ShellFace.{ShellFace}

-- ---- ranks

pub rank_yes : (p : ℕ → Bool) (q : ℕ) → p q ≡ true → rank p (q + 1) ≡ rank p q + 1
rank_yes p q e = rank_more p q ∙ rw e

pub rank_no : (p : ℕ → Bool) (q : ℕ) → p q ≡ false → rank p (q + 1) ≡ rank p q
rank_no p q e = rank_more p q ∙ rw e (omega arith)

bit_le : (b : Bool) → cond b 1 0 ≤ 1
bit_le true = omega arith
bit_le false = omega arith

pub rank_le : (p : ℕ → Bool) (n : ℕ) → rank p n ≤ n
rank_le p zero = omega arith
rank_le p (suc n) = omega (arith, rank_le p n, bit_le (p n))

-- none of four in a row passes
pub rank_four : (p : ℕ → Bool) (k : ℕ) → ((i : ℕ) → i < 4 → p (4 * k + i) ≡ false) → rank p (4 * (k + 1)) ≡ rank p (4 * k)
rank_four p k none =
    let e0 : 4 * k + 0 ≡ 4 * k = omega arith in
    let e1 : 4 * k + 1 + 1 ≡ 4 * k + 2 = omega arith in
    let e2 : 4 * k + 2 + 1 ≡ 4 * k + 3 = omega arith in
    let e3 : 4 * k + 3 + 1 ≡ 4 * (k + 1) = omega arith in
    ap (rank p) (sym e3) ∙ rank_no p (4 * k + 3) (none 3 (omega arith))
    ∙ ap (rank p) (sym e2) ∙ rank_no p (4 * k + 2) (none 2 (omega arith))
    ∙ ap (rank p) (sym e1) ∙ rank_no p (4 * k + 1) (none 1 (omega arith))
    ∙ rank_no p (4 * k) (ap p (sym e0) ∙ none 0 (omega arith))

-- no face of a kept record is a shell face
pub kept_bare : (rs : List TetRecord) (fs : List Bool) (k i : ℕ) → gone fs k ≡ false → i < 4 → bare rs fs (4 * k + i) ≡ false
kept_bare rs fs k i e l =
    let d : (4 * k + i) / 4 ≡ k = omega arith in
    and_left _ _ (ap (gone fs) d ∙ e)

-- ---- gathering

-- the first n of xs stand for the numbers below q that pass
abbrev pub Gathered : {X : Type 0} → (X → ℕ) → (ℕ → Bool) → (xs : List X) → (n q : ℕ) → Type 0
Gathered g p xs n q = (n ≡ rank p q) × (map g (take n xs) ≡ passing p q)

pub gathered_yes : {X : Type 0} (g : X → ℕ) (p : ℕ → Bool) (xs : List X) (x : X) (n q : ℕ) {ys : List X} {m r : ℕ}
    → n < length xs → p q ≡ true → ys ≡ set xs n x → g x ≡ q → m ≡ n + 1 → r ≡ q + 1 → Gathered g p xs n q → Gathered g p ys m r
gathered_yes g p xs x n q l e is f next after h = rw (is, next, after) (
  ap (λ (m : ℕ). m + 1) h.0 ∙ sym (rank_yes p q e),
  ap (map g) (take_more_set xs n x l) ∙ map_push g (take n xs) x ∙ rw (h.1, f) (sym (passing_more p q ∙ rw e)),
)

pub gathered_no : {X : Type 0} (g : X → ℕ) (p : ℕ → Bool) (xs : List X) (n q : ℕ) {ys : List X} {m r : ℕ} → p q ≡ false → ys ≡ xs → m ≡ n → r ≡ q + 1 → Gathered g p xs n q → Gathered g p ys m r
gathered_no g p xs n q e is same after h = rw (is, same, after) (h.0 ∙ sym (rank_no p q e), h.1 ∙ sym (passing_more p q ∙ rw e (append-nil (passing p q))))

pub placed_more : (rs : List TetRecord) (ss : List ShellFace) (f : ShellFace) (n : ℕ) {ts : List ShellFace} {m : ℕ}
    → n < length ss → ts ≡ set ss n f → m ≡ n + 1 → f.record < length rs → Placed rs (take n ss) → Placed rs (take m ts)
placed_more rs ss f n l is next here h = rw (is, next, take_more_set ss n f l) (All-push (λ f. f.record < length rs) (take n ss) f h here)

-- ---- numbering

pub noted_more : (rs : List TetRecord) (fs : List Bool) (ns : List ℕ) (k v : ℕ) {ms : List ℕ} → k < length ns → ms ≡ set ns k v → v ≡ noted rs fs k → Noted rs fs k ns → Noted rs fs (k + 1) ms
noted_more rs fs ns k v l is e h j m = ap (λ (xs : List ℕ). get_or xs j 0) is ∙ elim (cases_eq j k) [
  | inl i ↦ rw (i, get_or-set_same) e
  | inr i ↦ get_or-set_other ns k j v 0 i ∙ h j (omega arith)
]
