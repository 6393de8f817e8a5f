-- The tests of whole records tell what they should, and a table with the big tetrahedron alone is whole.
use Rattle.std.proofs.Common.{◌≡◌, ℕ, ◌<◌, Bool, true, false, cond, not, ◌&&◌, eqb, ltb, ◌≢◌, List, [], ◌∷◌, length, Decides, refl, arith}
use Rattle.std.proofs.lemmas.Bool.{eqb-true, eq-eqb, true≢false, false≢true}
use Rattle.std.proofs.lemmas.Bool.Decides.{nat_tests, Decides-eqb, Decides-and, Decides-like, Decides-below_and}
use Rattle.mesh.specs.Orientations.{Proper, Under, WellFormed}
use Rattle.mesh.specs.Records.{TetRecord, none, big_record, row, neighbour, tet_of, face_at, is_outer, opposite, every, Linked, WholeAt, Whole, linked, proper, under, whole_at, whole}
use Rattle.mesh.specs.Tetrahedra.{Tet, has_face}

proper_tells : (t : Tet) → Decides (proper t) (Proper t)
proper_tells t = (λ e. grind (arith, nat_tests), λ h. grind (arith, nat_tests))

under_tells : (n : ℕ) (t : Tet) → Decides (under n t) (Under n t)
under_tells n t = (λ e. grind (arith, nat_tests), λ h. grind (arith, nat_tests))

formed_tells : (n : ℕ) (t : Tet) → Decides (proper t && under n t) (WellFormed n t)
formed_tells n t = Decides-like (proper t && under n t) (λ h. record { proper = h.0; under = h.1 }) (λ h. (h.proper, h.under)) (Decides-and (proper t) (under n t) (proper_tells t) (under_tells n t))

-- what is wanted at face i of record k
abbrev Face : List TetRecord → ℕ → ℕ → Type 0
Face rs k i = (is_outer (face_at (row rs k) i) ≡ true → neighbour (row rs k) i ≡ none) × (is_outer (face_at (row rs k) i) ≡ false → Linked rs k i)

either : (z : Bool) (x : ℕ) (r : Bool) (P : Type 0) → Decides r P → Decides (cond z (eqb x none) r) ((z ≡ true → x ≡ none) × (z ≡ false → P))
either true x r P d = (λ e. (λ _. eqb-true x none e, λ f. absurd (true≢false f)), λ h. eq-eqb x none (h.0 refl))
either false x r P d = (λ e. (λ f. absurd (false≢true f), λ _. d.0 e), λ h. d.1 (h.1 refl))

parts : (x m k y : ℕ) (h : Bool) → Decides (not (eqb x none) && ltb x m && not (eqb x k) && h && eqb y k) ((x ≢ none) × (x < m) × (x ≢ k) × (h ≡ true) × (y ≡ k))
parts x m k y h = (λ e. grind (arith, nat_tests), λ d. grind (arith, nat_tests))

linked_tells : (rs : List TetRecord) (k i : ℕ) → Decides (linked rs k i) (Face rs k i)
linked_tells rs k i =
    let f = face_at (row rs k) i in
    let o = neighbour (row rs k) i in
    let y = neighbour (row rs o) (opposite (tet_of (row rs o)) f) in
    let shares = has_face f (tet_of (row rs o)) in
    let met = not (eqb o none) && ltb o (length rs) && not (eqb o k) && shares && eqb y k in
    either (is_outer f) o met (Linked rs k i) (Decides-like met
    (λ h. record { some = h.0; within = h.1; other = h.2; shares = h.3; back = h.4 })
    (λ h. (h.some, h.within, h.other, h.shares, h.back))
    (parts o (length rs) k y shares))

pub whole_tells : (n : ℕ) (rs : List TetRecord) → Decides (whole n rs) (Whole n rs)
whole_tells n rs = Decides-below_and (whole_at n rs) (WholeAt n rs) (every (whole_at n rs)) one refl (λ _. refl) (length rs)
  where
    one : (k : ℕ) → Decides (whole_at n rs k) (WholeAt n rs k)
    one k =
        let t = tet_of (row rs k) in
        let marked = eqb (row rs k).mark 0 in
        Decides-like (whole_at n rs k)
        (λ h. record { mark = h.0.0; formed = h.0.1; outer = λ i l. (h.1 i l).0; inner = λ i l. (h.1 i l).1 })
        (λ h. ((h.mark, h.formed), λ i l. (h.outer i l, h.inner i l)))
        (Decides-and (marked && (proper t && under n t)) (every (linked rs k) 4)
        (Decides-and marked (proper t && under n t) (Decides-eqb (row rs k).mark 0) (formed_tells n t))
        (Decides-below_and (linked rs k) (Face rs k) (every (linked rs k)) (linked_tells rs k) refl (λ _. refl) 4))

pub whole_big_record : Whole 4 (big_record ∷ [])
whole_big_record = (whole_tells 4 (big_record ∷ [])).0 refl
