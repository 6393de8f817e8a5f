-- Printable bytes are text. Assumes nothing.
use Rattle.std.proofs.Common.{◌≡◌, ℕ, zero, suc, true, List, [], ◌∷◌, Ok, Err, IsUtf8, IsAscii, Option, Result, sym, subst, arith, lit<, Bor, MatchResult}
use Rattle.std.proofs.lemmas.Bool.{and_parts, leb-true}
use Rattle.std.proofs.lemmas.Str.{IsUtf8-from_ascii}
use Rattle.std.specs.List.{list_all}
use Rattle.std.specs.Result.{result_ok}
use Rattle.words.specs.Label.{Printable, between}

ascii : (bs : List ℕ) → list_all (between 32 126) bs ≡ true → IsAscii bs
ascii [] h i = lit< tt
ascii (c ∷ cs) h zero = let b = leb-true c 126 (and_parts _ _ (and_parts (between 32 126 c) (list_all (between 32 126) cs) h).0).1 in omega arith
ascii (c ∷ cs) h (suc i) = ascii cs (and_parts (between 32 126 c) (list_all (between 32 126) cs) h).1 i

-- what `from_utf8` makes of printable bytes
pub printed : {E : Type 0} (X : E → Type 0) (bs : List ℕ) (r : Result (Bor (List ℕ)) E) (o : Option (Bor (List ℕ)))
    → list_all (between 32 126) bs ≡ true → o ≡ result_ok r → MatchResult r (λ s. (s.now ≡ bs) × IsUtf8 bs) (λ e. (IsUtf8 bs → ⊥) × X e) → Printable bs o
printed X bs (Ok s) o h e told = subst (λ (p : Option (Bor (List ℕ))). Printable bs p) (sym e) (h, told.0)
printed X bs (Err x) o h e told = absurd (told.0 (IsUtf8-from_ascii bs (ascii bs h)))
