-- The lines and the margin of a statement add up to Side of the whole mesh.
use Rattle.std.proofs.Common.{◌≡◌, ℕ, zero, suc, ◌-◌, ◌<◌, Bool, true, false, cond, ◌||◌, eqb, ltb, List, [], ◌∷◌, map, length, ℤ, pos, ◌+ℤ◌, Some, None, Option, refl, arith}
use lib.ListN.{length-map}
use Rattle.std.specs.List.{AllByRecursion, slice_get}
use Rattle.std.proofs.lemmas.Int.{ints}
use Rattle.std.proofs.lemmas.Bool.{ltb-false}
use Rattle.std.proofs.lemmas.Bool.Decides.{nat_tests}
use Rattle.algebra.specs.Sums.{sum_z}
use Rattle.algebra.proofs.Sums.{sum_z_same, sum_z_add, sum_z_alike, sum_z_swap, sum_z_kept}
use Rattle.mesh.specs.Orientations.{Under}
use Rattle.mesh.specs.Spaces.{side_of}
use Rattle.mesh.specs.Statements.{cornered, graded, classes, is_class, class_of, line, lines, margin}
use Rattle.mesh.specs.Surveys.{Grading, Eightfold, State, points, count, reading}
use Rattle.mesh.specs.Tetrahedra.{Tet}

one_class : (v : ℤ) (c : ℕ) → c < 8 → sum_z (λ k. cond (eqb c k) v (pos 0)) classes ≡ v
one_class v c l = grind (arith, ints, nat_tests)

-- a corner has no reading, and a site has one
data Read {R : Type 0} : Bool → Option R → Type 0 where
  corner : Read true None
  site : (r : R) → Read false (Some r)

listed : {R : Type 0} (rs : List R) (i : ℕ) → i < length rs → Read false (slice_get rs i)
listed [] i l = absurd (omega arith)
listed (r ∷ rs) zero l = site r
listed (r ∷ rs) (suc i) l = listed rs i (omega arith)

read : {R : Type 0} (s : State R) (q : ℕ) → q < count s → Read (ltb q 4) (reading s q)
read s q l = go (ltb q 4) refl
  where
    go : (b : Bool) → ltb q 4 ≡ b → Read b (cond b None (slice_get (map (λ a. a.reading) s.sites) (q - 4)))
    go true e = corner
    go false e = listed (map (λ a. a.reading) s.sites) (q - 4) (omega (arith, ltb-false q 4 e, length-map s.sites (λ a. a.reading), length-map s.sites (λ a. a.place)))

-- a tetrahedron stands in one line or in the margin
one_part : {R : Type 0} (G : Grading R) → Eightfold G → (v : ℤ) {A B C D : Bool} {a b c d : Option R} → Read A a → Read B b → Read C c → Read D d
    → sum_z (λ k. cond (is_class k (graded G a b c d)) v (pos 0)) classes +ℤ cond (A || B || C || D) v (pos 0) ≡ v
one_part G e v corner hb hc hd = omega (arith, ints)
one_part G e v (site a) corner hc hd = omega (arith, ints)
one_part G e v (site a) (site b) corner hd = omega (arith, ints)
one_part G e v (site a) (site b) (site c) corner = omega (arith, ints)
one_part G e v (site a) (site b) (site c) (site d) = omega (arith, ints, one_class v (G.class a b c d) (e a b c d))

pub statement_sum : {R : Type 0} (G : Grading R) (s : State R) → Eightfold G → AllByRecursion (Under (count s)) s.mesh
    → sum_z (λ l. l.units) (lines G s) +ℤ margin s ≡ sum_z (side_of (points s)) s.mesh
statement_sum G s e h = omega (
  arith,
  ints,
  sum_z_alike (λ k. (line G s k).units) (λ k. sum_z (λ t. in_line k t) s.mesh) (λ k. sum_z_kept size (λ t. is_class k (class_of G s t)) s.mesh) classes,
  sum_z_swap in_line classes s.mesh,
  sum_z_kept size cornered s.mesh,
  sum_z_add (λ t. sum_z (λ k. in_line k t) classes) in_margin s.mesh,
  sum_z_same (Under (count s)) (λ t. sum_z (λ k. in_line k t) classes +ℤ in_margin t) size
      (λ t u. one_part G e (size t) (read s t.a u.a) (read s t.b u.b) (read s t.c u.c) (read s t.d u.d)) s.mesh h,
)
  where
    size : Tet → ℤ
    size = side_of (points s)

    in_line : ℕ → Tet → ℤ
    in_line k t = cond (is_class k (class_of G s t)) (size t) (pos 0)

    in_margin : Tet → ℤ
    in_margin t = cond (cornered t) (size t) (pos 0)
