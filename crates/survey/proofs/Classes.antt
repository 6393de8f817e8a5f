-- The class of the readings that were read from the table.
use Rattle.std.proofs.Common.{◌≡◌, ℕ, ◌<◌, Bool, true, false, cond, ◌||◌, ltb, List, length, get_or, Some, None, Option, sym, refl, ap, ◌∙◌}
use Rattle.std.specs.List.{slice_get}
use Rattle.std.proofs.lemmas.Option.{slice_get_read}
use Rattle.std.proofs.lemmas.Bool.{cond-false, false≢true, or_parts}
use Rattle.mesh.specs.Orientations.{Under}
use Rattle.mesh.specs.Statements.{cornered, graded}
use Rattle.mesh.specs.Surveys.{Grading}
use Rattle.mesh.specs.Tetrahedra.{Tet}
use Rattle.survey.specs.States.{class_at, reading_at}

reading_read : {R : Type 0} (rs : List R) (q : ℕ) (x : R) → ltb q 4 ≡ false → q < length rs → x ≡ get_or rs q x → reading_at rs q ≡ Some x
reading_read rs q x e l r = cond-false (ltb q 4) None (slice_get rs q) e ∙ slice_get_read rs (length rs) q x refl l r

pub graded_alike : {R : Type 0} (G : Grading R) {a a' b b' c c' d d' : Option R} → a ≡ a' → b ≡ b' → c ≡ c' → d ≡ d' → graded G a b c d ≡ graded G a' b' c' d'
graded_alike G ea eb ec ed = rw (ea, eb, ec, ed)

pub class_read : {R : Type 0} (G : Grading R) (rs : List R) (t : Tet) (a b c d : R) (n : ℕ) → cornered t ≡ false → Under (length rs) t
    → a ≡ get_or rs t.a a → b ≡ get_or rs t.b b → c ≡ get_or rs t.c c → d ≡ get_or rs t.d d → n ≡ G.class a b c d → class_at G rs t ≡ Some n
class_read G rs t a b c d n e u ra rb rc rd en =
    let abc = or_parts (ltb t.a 4 || ltb t.b 4 || ltb t.c 4) (ltb t.d 4) e in
    let ab = or_parts (ltb t.a 4 || ltb t.b 4) (ltb t.c 4) abc.0 in
    let one = or_parts (ltb t.a 4) (ltb t.b 4) ab.0 in
    graded_alike G (reading_read rs t.a a one.0 u.a ra) (reading_read rs t.b b one.1 u.b rb) (reading_read rs t.c c ab.1 u.c rc) (reading_read rs t.d d abc.1 u.d rd)
    ∙ ap (λ (m : ℕ). Some m) (sym en)

-- where one of four readings is a corner's, they have no class
graded_none : {R : Type 0} (G : Grading R) (A B C D : Bool) (a b c d : Option R) → (A || B || C || D) ≡ true → graded G (cond A None a) (cond B None b) (cond C None c) (cond D None d) ≡ None
graded_none G true B C D a b c d e = refl
graded_none G false B C D None b c d e = refl
graded_none G false true C D (Some a) b c d e = refl
graded_none G false false C D (Some a) None c d e = refl
graded_none G false false true D (Some a) (Some b) c d e = refl
graded_none G false false false D (Some a) (Some b) None d e = refl
graded_none G false false false true (Some a) (Some b) (Some c) d e = refl
graded_none G false false false false (Some a) (Some b) (Some c) d e = absurd (false≢true e)

pub cornered_none : {R : Type 0} (G : Grading R) (rs : List R) (t : Tet) → cornered t ≡ true → class_at G rs t ≡ None
cornered_none G rs t e = graded_none G (ltb t.a 4) (ltb t.b 4) (ltb t.c 4) (ltb t.d 4) (slice_get rs t.a) (slice_get rs t.b) (slice_get rs t.c) (slice_get rs t.d) e
