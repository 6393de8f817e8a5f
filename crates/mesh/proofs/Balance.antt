-- Adding a point keeps a mesh balanced where the shell of what it drops is closed.
use Rattle.std.proofs.Common.{◌≡◌, ℕ, ◌+◌, ◌<◌, ◌≤◌, Bool, true, false, cond, not, eqb, List, [], ◌∷◌, map, count_by, refl, ap, ◌∙◌, arith}
use Rattle.std.specs.List.{AllByRecursion}
use Rattle.std.proofs.ByRecursion.{All-weaker, all_kept_by, All-append, All-map}
use Rattle.std.proofs.lemmas.List.Sums.{sum_by-append, count_by-le-length}
use Rattle.std.proofs.lemmas.Bool.Decides.{nat_tests}
use Rattle.algebra.proofs.Lists.{bit}
use Rattle.algebra.proofs.Sums.{sum_by_same, sum_by_alike, sum_by-map, sum_by_split, sum_by_zero}
use Rattle.mesh.specs.Orientations.{turns, oriented, orientations, Proper, Under, WellFormed, Balanced}
use Rattle.mesh.specs.Shells.{flipped}
use Rattle.mesh.specs.Tetrahedra.{Tet, Slot, first, second, third, fourth, put, face, Triple, Facet, triple, facets, has_face, shell, on, closed, joined, after, big, kept, dropped}
use Rattle.mesh.proofs.Likeness.{tri, edge, from_tip, oriented_from_tip, turns_turned, turns_flipped}
use Rattle.mesh.proofs.ShellEdges.{edges, edges_level, edges_once}
use Rattle.mesh.proofs.Shells.{all_facets, orientations_facets, shell_counts}

pub big_formed : (n : ℕ) → 4 ≤ n → WellFormed n big
big_formed n h = record { proper = omega arith; under = omega arith }

-- the mesh of one tetrahedron
pub big_balanced : Balanced (big ∷ [])
big_balanced = record { once = λ x y z. count_by-le-length (λ t. oriented t x y z) (big ∷ []); boundary = λ x y z. omega arith }

-- ---- a face joined to point n

joined_formed : (n : ℕ) (t : Tet) → WellFormed n t → (s : Slot) → WellFormed (n + 1) (put t s n)
joined_formed n t h first = omega arith
joined_formed n t h second = omega arith
joined_formed n t h third = omega arith
joined_formed n t h fourth = omega arith

joined_oriented : (n : ℕ) (t : Tet) → WellFormed n t → (s : Slot) (x y z : ℕ) → bit (oriented (put t s n) x y z) ≡ bit (from_tip n (face t s) x y z)
joined_oriented n t h first x y z = oriented_from_tip (put t first n) (joined_formed n t h first).proper first x y z
joined_oriented n t h second x y z = oriented_from_tip (put t second n) (joined_formed n t h second).proper second x y z
joined_oriented n t h third x y z = oriented_from_tip (put t third n) (joined_formed n t h third).proper third x y z
joined_oriented n t h fourth x y z = oriented_from_tip (put t fourth n) (joined_formed n t h fourth).proper fourth x y z

-- `from-tip`, counted, where e counts directed edges and s the face itself
abbrev tips : (e : ℕ → ℕ → ℕ) (n x y z s : ℕ) → ℕ
tips e n x y z s = cond (eqb n x) (e z y) (cond (eqb n y) (e x z) (cond (eqb n z) (e y x) s))

count_cond : {X : Type 0} (b : Bool) (p q : X → Bool) (xs : List X) → count_by (λ x. cond b (p x) (q x)) xs ≡ cond b (count_by p xs) (count_by q xs)
count_cond true p q xs = refl
count_cond false p q xs = refl

count_tips : (n x y z : ℕ) (ps : List Facet) → count_by (λ p. from_tip n (triple p) x y z) ps ≡ tips (λ u v. edges u v ps) n x y z (count_by (λ p. turns (triple p) x y z) ps)
count_tips n x y z ps = cc (
  count_cond (eqb n x) (λ p. edge z y (triple p)) (λ p. cond (eqb n y) (edge x z (triple p)) (cond (eqb n z) (edge y x (triple p)) (turns (triple p) x y z))) ps,
  count_cond (eqb n y) (λ p. edge x z (triple p)) (λ p. cond (eqb n z) (edge y x (triple p)) (turns (triple p) x y z)) ps,
  count_cond (eqb n z) (λ p. edge y x (triple p)) (λ p. turns (triple p) x y z) ps,
)

-- ---- tetrahedra below n have no face at n

low_turns : (n : ℕ) (f : Triple) → f.x < n → f.y < n → f.z < n → (x y z : ℕ) → on n (tri x y z) ≡ true → turns f x y z ≡ false
low_turns n f a b c x y z e = grind (arith, nat_tests)

low_oriented : (n : ℕ) (t : Tet) → Under n t → (x y z : ℕ) → on n (tri x y z) ≡ true → bit (oriented t x y z) ≡ 0
low_oriented n t h x y z e = simp (
  low_turns n (face t first) h.b h.c h.d x y z e,
  low_turns n (face t second) h.a h.d h.c x y z e,
  low_turns n (face t third) h.a h.b h.d x y z e,
  low_turns n (face t fourth) h.a h.c h.b x y z e,
)

low_orientations : (n : ℕ) (ts : List Tet) → AllByRecursion (Under n) ts → (x y z : ℕ) → on n (tri x y z) ≡ true → orientations ts x y z ≡ 0
low_orientations n ts h x y z e = sum_by_zero (Under n) (λ t. bit (oriented t x y z)) (λ t k. low_oriented n t k x y z e) ts h

on_flipped : (n x y z : ℕ) → on n (tri y x z) ≡ on n (tri x y z)
on_flipped n x y z = grind arith

-- ---- the counts of the new mesh

-- an oriented face and its reverse differ in the shell as they do in all
shell_turns : (ts : List Tet) → AllByRecursion Proper ts → ((x y z : ℕ) → orientations ts x y z ≤ 1) → (x y z : ℕ)
    → count_by (λ p. turns (triple p) x y z) (shell ts) + orientations ts y x z ≡ count_by (λ p. turns (triple p) y x z) (shell ts) + orientations ts x y z
shell_turns ts h once x y z = omega (arith, shell_counts ts h once (λ f. turns f x y z) (λ f. turns_turned f x y z), flip (shell ts), flip (facets ts), orientations_facets ts h x y z, orientations_facets ts h y x z)
  where
    flip : (ps : List Facet) → count_by (λ p. turns (flipped (triple p)) x y z) ps ≡ count_by (λ p. turns (triple p) y x z) ps
    flip ps = sum_by_alike (λ p. bit (turns (flipped (triple p)) x y z)) (λ p. bit (turns (triple p) y x z)) (λ p. ap bit (turns_flipped (triple p) x y z)) ps

-- kept (k), shell (s) and dropped (d) at a face, and at its reverse ('), where b counts the big tetrahedron
new_boundary : (e : ℕ → ℕ → ℕ) (n x y z k k' b b' s s' d d' : ℕ) → e z y ≡ e y z → e x z ≡ e z x → e y x ≡ e x y
    → (on n (tri x y z) ≡ true → (k ≡ 0) × (k' ≡ 0) × (b ≡ 0) × (b' ≡ 0))
    → (k + d) + b' ≡ (k' + d') + b → s + d' ≡ s' + d → (k + tips e n x y z s) + b' ≡ (k' + tips e n y x z s') + b
new_boundary e n x y z k k' b b' s s' d d' zy xz yx low old part = grind (arith, nat_tests)

new_once : (e : ℕ → ℕ → ℕ) (n x y z k s d : ℕ) → e z y ≤ 1 → e x z ≤ 1 → e y x ≤ 1 → (on n (tri x y z) ≡ true → k ≡ 0) → k + d ≤ 1 → s ≤ d → k + tips e n x y z s ≤ 1
new_once e n x y z k s d zy xz yx low old part = grind (arith, nat_tests)

-- what holds of each tetrahedron holds of those of the shell
pub all_shell : (P : Tet → Type 0) (ts : List Tet) → AllByRecursion P ts → AllByRecursion (λ p. P p.of) (shell ts)
all_shell P ts h = all_kept_by (λ p. eqb (count_by (has_face (triple p)) ts) 1) (λ p. P p.of) (facets ts) (all_facets (λ p. P p.of) ts (All-weaker P (λ t. (s : Slot) → P t) (λ t k s. k) ts h))

module _ (conflict : Tet → Bool) (ts : List Tet) where
  abbrev stay : List Tet
  stay = kept conflict ts

  abbrev go : List Tet
  go = dropped conflict ts

  pub orientations_split : (x y z : ℕ) → orientations ts x y z ≡ orientations stay x y z + orientations go x y z
  orientations_split x y z = sum_by_split (λ t. bit (oriented t x y z)) conflict ts

  pub dropped_once : Balanced ts → (x y z : ℕ) → orientations go x y z ≤ 1
  dropped_once b x y z = omega (arith, orientations_split x y z, b.once x y z)

  module _ (n : ℕ) (h : AllByRecursion (WellFormed n) ts) where
    dropped_formed : AllByRecursion (λ p. WellFormed n p.of) (shell go)
    dropped_formed = all_shell (WellFormed n) go (all_kept_by conflict (WellFormed n) ts h)

    -- the tetrahedra of the new mesh are well formed
    pub after_formed : AllByRecursion (WellFormed (n + 1)) (after conflict ts n)
    after_formed = All-append (WellFormed (n + 1)) stay (map (joined n) (shell go))
        (all_kept_by (λ t. not (conflict t)) (WellFormed (n + 1)) ts (All-weaker (WellFormed n) (WellFormed (n + 1)) (λ t k. record { proper = k.proper; under = omega arith }) ts h))
        (All-map (WellFormed (n + 1)) (joined n) (shell go) (All-weaker (λ p. WellFormed n p.of) (λ p. WellFormed (n + 1) (joined n p)) (λ p k. joined_formed n p.of k p.lacks) (shell go) dropped_formed))

    orientations_after : (x y z : ℕ) → orientations (after conflict ts n) x y z ≡ orientations stay x y z + tips (λ u v. edges u v (shell go)) n x y z (count_by (λ p. turns (triple p) x y z) (shell go))
    orientations_after x y z =
        let one : Tet → ℕ = λ t. bit (oriented t x y z) in
        let new = sum_by_same (λ p. WellFormed n p.of) (λ p. one (joined n p)) (λ p. bit (from_tip n (triple p) x y z)) (λ p k. joined_oriented n p.of k p.lacks x y z) (shell go) dropped_formed in
        omega (arith, sum_by-append one stay (map (joined n) (shell go)), sum_by-map one (joined n) (shell go), new, count_tips n x y z (shell go))

    -- the new mesh is balanced
    pub after_balanced : 4 ≤ n → Balanced ts → closed (shell go) ≡ true → Balanced (after conflict ts n)
    after_balanced l b shut =
        let propers = all_kept_by conflict Proper ts (All-weaker (WellFormed n) Proper (λ t k. k.proper) ts h) in
        let lows = all_kept_by (λ t. not (conflict t)) (Under n) ts (All-weaker (WellFormed n) (Under n) (λ t k. k.under) ts h) in
        let big_low : AllByRecursion (Under n) (big ∷ []) = ((big_formed n l).under, tt) in
        let once = dropped_once b in
        let level = edges_level go propers once in
        let few = edges_once go propers once shut in
        let e : ℕ → ℕ → ℕ = λ u v. edges u v (shell go) in
        let s : ℕ → ℕ → ℕ → ℕ = λ x y z. count_by (λ p. turns (triple p) x y z) (shell go) in
        record {
          once = λ x y z. rw (orientations_after x y z) (new_once e n x y z (orientations stay x y z) (s x y z) (orientations go x y z) (few z y) (few x z) (few y x)
              (low_orientations n stay lows x y z)
              (omega (arith, orientations_split x y z, b.once x y z))
              (omega (arith, orientations_facets go propers x y z, sum_by_split (λ p. bit (turns (triple p) x y z)) (λ p. eqb (count_by (has_face (triple p)) go) 1) (facets go))));
          boundary = λ x y z. rw (orientations_after x y z, orientations_after y x z) (new_boundary e n x y z (orientations stay x y z) (orientations stay y x z) (orientations (big ∷ []) x y z) (orientations (big ∷ []) y x z) (s x y z) (s y x z) (orientations go x y z) (orientations go y x z) (level z y) (level x z) (level y x)
              (λ i. let j = on_flipped n x y z ∙ i in (low_orientations n stay lows x y z i, low_orientations n stay lows y x z j, low_orientations n (big ∷ []) big_low x y z i, low_orientations n (big ∷ []) big_low y x z j))
              (omega (arith, orientations_split x y z, orientations_split y x z, b.boundary x y z))
              (shell_turns go propers once x y z));
        }
