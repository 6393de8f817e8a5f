-- The figures of a list of tetrahedra, one tetrahedron after another.
use Rattle.std.proofs.Common.{◌≡◌, ℕ, zero, suc, ◌+◌, ◌*◌, ◌<◌, ◌≤◌, Bool, true, false, cond, not, eqb, List, [], ◌∷◌, ◌++◌, map, length, get_or, take, ℤ, ◌+ℤ◌, nat_abs, Some, None, filter, Option, sym, refl, ap, ◌∙◌, subst, arith, lit<, length-take}
use mathlib.Core.Path.{fun_ext}
use Rattle.std.specs.List.{AllByRecursion}
use Rattle.std.proofs.lemmas.List.Elements.{filter-append}
use Rattle.std.proofs.ByRecursion.{all_kept_by, All-push}
use Rattle.std.proofs.lemmas.List.Filters.{length-filter_both}
use Rattle.std.proofs.lemmas.List.{append-nil, get_or-map, length-map, length_push, map_more, take_all}
use Rattle.std.proofs.lemmas.Int.{ints}
use Rattle.std.proofs.lemmas.Bool.{cond-false, ne_eqb}
use Rattle.algebra.proofs.Sizes.{abs_add}
use Rattle.algebra.proofs.Sums.{sum_z-append}
use Rattle.algebra.specs.Sums.{sum_z}
use Rattle.geometry.specs.Spots.{Spot}
use Rattle.mesh.specs.declared.record.TetRecord.{TetRecord}
use Rattle.mesh.specs.Records.{blank, mesh_of, row, tet_of}
use Rattle.mesh.specs.Spaces.{side_of}
use Rattle.mesh.specs.Statements.{classes, cornered, is_class}
use Rattle.mesh.specs.Surveys.{Grading}
use Rattle.mesh.specs.Tetrahedra.{Tet}
use Rattle.survey.specs.declared.statement.Line.{Line}
use Rattle.survey.specs.declared.statement.Statement.{Statement}
use Rattle.survey.specs.Posting.{Roomy, RoomyStatement, Sized, blank_line, blank_statement, post_class, post_margin, posted}
use Rattle.survey.specs.States.{class_at, entered, figures, line_at, margin_at}
use Rattle.survey.proofs.Classes.{cornered_none}

-- ---- one tetrahedron more

module _ (f : Tet → ℤ) where
  -- the line of some tetrahedra
  abbrev tally : List Tet → Line
  tally us = record { tetrahedra = length us; units = sum_z f us }

  tally_more : (us : List Tet) (t : Tet) (b : Bool) → tally (us ++ cond b (t ∷ []) []) ≡ cond b (posted (tally us) (f t)) (tally us)
  tally_more us t true =
      let count = length_push us t in
      let sum : sum_z f (us ++ t ∷ []) ≡ sum_z f us +ℤ f t = omega (arith, ints, sum_z-append f us (t ∷ [])) in
      cc
  tally_more us t false = ap tally (append-nil us)

  tally_push : (p : Tet → Bool) (ts : List Tet) (t : Tet) → tally (filter p (ts ++ t ∷ [])) ≡ cond (p t) (posted (tally (filter p ts)) (f t)) (tally (filter p ts))
  tally_push p ts t = ap tally (filter-append p ts (t ∷ [])) ∙ tally_more (filter p ts) t (p t)

-- of eight lines, the one of a class has one tetrahedron more
abbrev more : (ℕ → Line) → Option ℕ → ℤ → ℕ → Line
more l o u j = cond (is_class j o) (posted (l j) u) (l j)

-- a class past the eight has no line
lines_past : (l : ℕ → Line) (n : ℕ) (u : ℤ) → 8 ≤ n → map (more l (Some n) u) classes ≡ map l classes
lines_past l n u h = cc (past 0 (lit< tt), past 1 (lit< tt), past 2 (lit< tt), past 3 (lit< tt), past 4 (lit< tt), past 5 (lit< tt), past 6 (lit< tt), past 7 (lit< tt))
  where
    past : (j : ℕ) → j < 8 → more l (Some n) u j ≡ l j
    past j i = cond-false (eqb n j) (posted (l j) u) (l j) (ne_eqb n j (λ e. omega arith))

lines_more : (l : ℕ → Line) (o : Option ℕ) (u m : ℤ) → record { lines = map (more l o u) classes; margin = m } ≡ post_class o u (record { lines = map l classes; margin = m })
lines_more l None u m = refl
lines_more l (Some zero) u m = refl
lines_more l (Some (suc zero)) u m = refl
lines_more l (Some (suc (suc zero))) u m = refl
lines_more l (Some (suc (suc (suc zero)))) u m = refl
lines_more l (Some (suc (suc (suc (suc zero))))) u m = refl
lines_more l (Some (suc (suc (suc (suc (suc zero)))))) u m = refl
lines_more l (Some (suc (suc (suc (suc (suc (suc zero))))))) u m = refl
lines_more l (Some (suc (suc (suc (suc (suc (suc (suc zero)))))))) u m = refl
lines_more l (Some (suc (suc (suc (suc (suc (suc (suc (suc k))))))))) u m =
    ap (λ (ls : List Line). record { lines = ls; margin = m }) (lines_past l (suc (suc (suc (suc (suc (suc (suc (suc k)))))))) u (omega arith))

file : (l : ℕ → Line) (o : Option ℕ) (u m : ℤ) (b : Bool) → (b ≡ true → o ≡ None)
    → record { lines = map (more l o u) classes; margin = cond b (m +ℤ u) m } ≡ cond b (post_margin u (record { lines = map l classes; margin = m })) (post_class o u (record { lines = map l classes; margin = m }))
file l o u m true h = ap (λ (v : Option ℕ). record { lines = map (more l v u) classes; margin = m +ℤ u }) (h refl)
file l o u m false h = lines_more l o u m

units_cond : (b : Bool) (x y : Line) → (cond b x y).units ≡ cond b x.units y.units
units_cond true x y = refl
units_cond false x y = refl

module _ {R : Type 0} (G : Grading R) (ss : List Spot) (rs : List R) where
  pub figures_push : (ts : List Tet) (t : Tet) → figures G ss rs (ts ++ t ∷ []) ≡ entered G ss rs t (figures G ss rs ts)
  figures_push ts t =
      let lines : map (line_at G ss rs (ts ++ t ∷ [])) classes ≡ map (more (line_at G ss rs ts) (class_at G rs t) (side_of ss t)) classes
      = ap (λ (l : ℕ → Line). map l classes) (fun_ext (λ k. tally_push (side_of ss) (λ u. is_class k (class_at G rs u)) ts t)) in
      let margin : margin_at G ss rs (ts ++ t ∷ []) ≡ cond (cornered t) (margin_at G ss rs ts +ℤ side_of ss t) (margin_at G ss rs ts)
      = ap (λ (l : Line). l.units) (tally_push (side_of ss) cornered ts t) ∙ units_cond (cornered t) (posted (tally (side_of ss) (filter cornered ts)) (side_of ss t)) (tally (side_of ss) (filter cornered ts)) in
      cc (file (line_at G ss rs ts) (class_at G rs t) (side_of ss t) (margin_at G ss rs ts) (cornered t) (cornered_none G rs t))

-- ---- sizes

module _ (f : Tet → ℤ) where
  sized_sum : (us : List Tet) → AllByRecursion (λ u. Sized (f u)) us → nat_abs (sum_z f us) ≤ length us * 100663296000
  sized_sum [] h = omega arith
  sized_sum (u ∷ us) h = omega (arith, abs_add (f u) (sum_z f us) h.0 (sized_sum us h.1))

  roomy_tally : (p : Tet → Bool) (ts : List Tet) → length ts ≤ 16384 → AllByRecursion (λ t. Sized (f t)) ts → Roomy (tally f (filter p ts))
  roomy_tally p ts l h =
      let few : length (filter p ts) ≤ 16384 = omega (arith, length-filter_both p (λ t. not (p t)) (λ _. refl) ts) in
      record { tetrahedra = few; units = omega (arith, sized_sum (filter p ts) (all_kept_by p (λ t. Sized (f t)) ts h)) }

module _ {R : Type 0} (G : Grading R) (ss : List Spot) (rs : List R) where
  pub roomy_figures : (ts : List Tet) → length ts ≤ 16384 → AllByRecursion (λ t. Sized (side_of ss t)) ts → RoomyStatement (figures G ss rs ts)
  roomy_figures ts l h = record {
    lines = λ k i. subst Roomy (sym (get_or-map (line_at G ss rs ts) classes k 0 blank_line i)) (roomy_tally (side_of ss) (λ t. is_class (get_or classes k 0) (class_at G rs t)) ts l h);
    margin = (roomy_tally (side_of ss) cornered ts l h).units;
  }

-- ---- a loop over records

module _ {R : Type 0} (G : Grading R) (ss : List Spot) (rs : List R) (ts : List TetRecord) where
  -- the first i records are entered
  pub record Entered (i : ℕ) (s : Statement) : Type 0 where
    pub is : s ≡ figures G ss rs (mesh_of (take i ts))
    pub sized : AllByRecursion (λ t. Sized (side_of ss t)) (mesh_of (take i ts))

  pub entered_none : (s : Statement) → s ≡ blank_statement → Entered 0 s
  entered_none s e = record { is = e; sized = tt }

  pub entered_room : (i : ℕ) (s : Statement) → Entered i s → length ts ≤ 16384 → RoomyStatement s
  entered_room i s h l = subst RoomyStatement (sym h.is) (roomy_figures G ss rs (mesh_of (take i ts)) (omega (arith, length-map (take i ts) tet_of, length-take i ts)) h.sized)

  pub entered_more : (i : ℕ) (s s' : Statement) → i < length ts → Entered i s → s' ≡ entered G ss rs (tet_of (row ts i)) s → Sized (side_of ss (tet_of (row ts i))) → Entered (i + 1) s'
  entered_more i s s' l h e z =
      let more = map_more tet_of ts i blank l in
      record {
        is = e ∙ ap (entered G ss rs (tet_of (row ts i))) h.is ∙ sym (figures_push G ss rs (mesh_of (take i ts)) (tet_of (row ts i))) ∙ ap (figures G ss rs) (sym more);
        sized = subst (AllByRecursion (λ t. Sized (side_of ss t))) (sym more) (All-push (λ t. Sized (side_of ss t)) (mesh_of (take i ts)) (tet_of (row ts i)) h.sized z);
      }

  pub entered_all : (i : ℕ) (s : Statement) → Entered i s → length ts ≤ i → s ≡ figures G ss rs (mesh_of ts)
  entered_all i s h l = h.is ∙ ap (λ (us : List TetRecord). figures G ss rs (mesh_of us)) (take_all i ts l)
