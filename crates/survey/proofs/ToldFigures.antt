-- Where the tables hold the points, the readings and the mesh of a state, their figures are the state's.
use Rattle.std.proofs.Common.{◌≡◌, ℕ, ◌<◌, Bool, List, [], ◌∷◌, map, length, filter, refl, ap}
use mathlib.Core.Path.{fun_ext}
use Rattle.std.specs.List.{AllByRecursion}
use Rattle.algebra.specs.Sums.{sum_z}
use Rattle.mesh.specs.Orientations.{Under}
use Rattle.mesh.specs.Spaces.{side_of}
use Rattle.mesh.specs.Statements.{class_of, classes, is_class, line, lines, margin}
use Rattle.mesh.specs.Surveys.{Grading, Line as ToldLine, State, points, count, reading}
use Rattle.mesh.specs.Tetrahedra.{Tet}
use Rattle.survey.specs.States.{as_told, class_at, figures, line_at, reading_at}
use Rattle.survey.proofs.Classes.{graded_alike}

kept_same : {X : Type 0} (P : X → Type 0) (p q : X → Bool) → ((x : X) → P x → p x ≡ q x) → (xs : List X) → AllByRecursion P xs → filter p xs ≡ filter q xs
kept_same P p q e [] h = refl
kept_same P p q e (x ∷ xs) h = rw (e x h.0, kept_same P p q e xs h.1)

module _ {R : Type 0} (G : Grading R) (s : State R) (rs : List R) (agree : (q : ℕ) → q < count s → reading_at rs q ≡ reading s q) (under : AllByRecursion (Under (count s)) s.mesh) where
  class_told : (t : Tet) → Under (count s) t → class_at G rs t ≡ class_of G s t
  class_told t u = graded_alike G (agree t.a u.a) (agree t.b u.b) (agree t.c u.c) (agree t.d u.d)

  line_told : (k : ℕ) → as_told (line_at G (points s) rs s.mesh k) ≡ line G s k
  line_told k = ap (λ (us : List Tet). record { tetrahedra = length us; units = sum_z (side_of (points s)) us })
      (kept_same (Under (count s)) (λ t. is_class k (class_at G rs t)) (λ t. is_class k (class_of G s t)) (λ t u. ap (is_class k) (class_told t u)) s.mesh under)

  pub lines_told : map as_told (figures G (points s) rs s.mesh).lines ≡ lines G s
  lines_told = ap (λ (l : ℕ → ToldLine). map l classes) (fun_ext line_told)

  pub margin_told : (figures G (points s) rs s.mesh).margin ≡ margin s
  margin_told = refl
