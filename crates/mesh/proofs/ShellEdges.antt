-- Over the shell of some tetrahedra each edge is as often directed one way as the other, and at most once where the shell is closed.
use Rattle.std.proofs.Common.{◌≡◌, ℕ, ◌+◌, ◌≤◌, Bool, true, ◌&&◌, eqb, ◌≢◌, List, get_or, count_by, sym, ap, ◌∙◌, inl, inr, arith}
use Rattle.std.specs.List.{AllByRecursion}
use Rattle.std.proofs.ByRecursion.{All-weaker, All-get_or, all_kept_by}
use Rattle.std.proofs.lemmas.Bool.{cases_lt}
use Rattle.std.proofs.lemmas.Bool.Decides.{nat_tests}
use Rattle.algebra.proofs.Lists.{bit, all_true, counted}
use Rattle.algebra.proofs.Sums.{sum_by_same, sum_by_alike, sum_by_add}
use Rattle.mesh.specs.Orientations.{orientations, Proper}
use Rattle.mesh.specs.Shells.{flipped}
use Rattle.mesh.specs.Tetrahedra.{Tet, first, face, Triple, Facet, triple, facets, has_face, shell, on, around, closed, big}
use Rattle.mesh.proofs.Likeness.{four, edge, edge_turned, edge_flipped, edges_cancel}
use Rattle.mesh.proofs.Shells.{facet, sum_facets, Distinct, Face, faces, shell_counts}

-- how many faces have the directed edge u v
abbrev pub edges : ℕ → ℕ → List Facet → ℕ
edges u v ps = count_by (λ p. edge u v (triple p)) ps

edges_flipped : (u v : ℕ) (ps : List Facet) → count_by (λ p. edge u v (flipped (triple p))) ps ≡ edges v u ps
edges_flipped u v ps = sum_by_alike (λ p. bit (edge u v (flipped (triple p)))) (λ p. bit (edge v u (triple p))) (λ p. ap bit (edge_flipped u v (triple p))) ps

edges_facets : (ts : List Tet) → AllByRecursion Proper ts → (u v : ℕ) → edges u v (facets ts) ≡ edges v u (facets ts)
edges_facets ts h u v =
    sum_facets (λ p. bit (edge u v (triple p))) ts
    ∙ sum_by_same Proper (λ t. four (λ s. bit (edge u v (face t s)))) (λ t. four (λ s. bit (edge v u (face t s)))) (λ t k. edges_cancel t k u v) ts h
    ∙ sym (sum_facets (λ p. bit (edge v u (triple p))) ts)

-- ---- where each edge is on two faces

on_edge : (f : Triple) → Distinct f → (u v : ℕ) → u ≢ v → bit (on u f && on v f) ≡ bit (edge u v f) + bit (edge v u f)
on_edge f d u v n = grind (arith, nat_tests)

edge_ends : (f : Triple) → Distinct f → (u v : ℕ) → edge u v f ≡ true → u ≢ v
edge_ends f d u v e = grind (arith, nat_tests)

-- what holds of the three edges of a face holds of each
edge_of : (n : ℕ → ℕ → ℕ) (f : Triple) (u v : ℕ) → edge u v f ≡ true → (eqb (n f.x f.y) 2 && eqb (n f.y f.z) 2 && eqb (n f.z f.x) 2) ≡ true → n u v ≡ 2
edge_of n f u v e h = grind (arith, nat_tests)

edges_around : (ps : List Facet) → AllByRecursion (λ p. Distinct (triple p)) ps → (u v : ℕ) → u ≢ v → around u v ps ≡ edges u v ps + edges v u ps
edges_around ps h u v n =
    sum_by_same (λ p. Distinct (triple p)) (λ p. bit (on u (triple p) && on v (triple p))) (λ p. bit (edge u v (triple p)) + bit (edge v u (triple p))) (λ p d. on_edge (triple p) d u v n) ps h
    ∙ sum_by_add (λ p. bit (edge u v (triple p))) (λ p. bit (edge v u (triple p))) ps

-- some tetrahedra of which no two have one oriented face
module _ (ts : List Tet) (h : AllByRecursion Proper ts) (once : (x y z : ℕ) → orientations ts x y z ≤ 1) where
  -- each way as often as the other
  pub edges_level : (u v : ℕ) → edges u v (shell ts) ≡ edges v u (shell ts)
  edges_level u v = omega (arith, shell_counts ts h once (edge u v) (edge_turned u v), edges_flipped u v (shell ts), edges_flipped u v (facets ts), edges_facets ts h u v)

  shell_distinct : AllByRecursion (λ p. Distinct (triple p)) (shell ts)
  shell_distinct = all_kept_by (λ p. eqb (count_by (has_face (triple p)) ts) 1) (λ p. Distinct (triple p)) (facets ts) (All-weaker (λ p. Face ts (triple p)) (λ p. Distinct (triple p)) (λ p f. f.distinct) (facets ts) (faces ts h))

  -- and at most once each way
  pub edges_once : closed (shell ts) ≡ true → (u v : ℕ) → edges u v (shell ts) ≤ 1
  edges_once shut u v = elim (cases_lt (edges u v (shell ts)) 1) [
    | inl l ↦ omega arith
    | inr l ↦
        let c = counted (λ p. edge u v (triple p)) (shell ts) l in
        let d = facet big first in
        let p = get_or (shell ts) c.0 d in
        let n = edge_ends (triple p) (All-get_or (λ p. Distinct (triple p)) (shell ts) c.0 d c.1 shell_distinct) u v (c.2 d) in
        let two = edge_of (λ u v. around u v (shell ts)) (triple p) u v (c.2 d) (All-get_or (λ p. two_each p ≡ true) (shell ts) c.0 d c.1 (all_true two_each (shell ts) shut)) in
        omega (arith, edges_around (shell ts) shell_distinct u v n, edges_level u v, two)
  ]
    where
      two_each : Facet → Bool
      two_each p = eqb (around (triple p).x (triple p).y (shell ts)) 2 && eqb (around (triple p).y (triple p).z (shell ts)) 2 && eqb (around (triple p).z (triple p).x (shell ts)) 2
