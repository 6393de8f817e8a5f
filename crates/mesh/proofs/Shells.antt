-- What is antisymmetric has the same sum over the shell of some tetrahedra as over all their faces.
use Rattle.std.proofs.Common.{◌≡◌, ℕ, ◌+◌, ◌≤◌, Bool, true, false, eqb, ◌≢◌, ◌⊎◌, List, [], ◌∷◌, map, ℤ, pos, ◌+ℤ◌, neg_ℤ, sum_by, count_by, sym, refl, ◌∙◌, inl, inr, arith}
use Rattle.std.specs.List.{ContainsAt as Has, AllByRecursion}
use Rattle.std.proofs.ByRecursion.{All-weaker, all_has_itself, all-has}
use Rattle.std.proofs.lemmas.Int.{ints}
use Rattle.std.proofs.lemmas.List.Sums.{sum_by-cons, sum_by-append}
use Rattle.std.proofs.lemmas.Bool.{eq-eqb, ne_eqb, cases_eq}
use Rattle.std.proofs.lemmas.Bool.Decides.{nat_tests}
use Rattle.algebra.specs.Sums.{sum_z}
use Rattle.algebra.proofs.Lists.{bit, counts}
use Rattle.algebra.proofs.Sums.{sum_by_same, sum_by_add, sum_z_add, sum_z_neg, sum_z_pos, cancel}
use Rattle.mesh.specs.Orientations.{turns, oriented, orientations, Proper}
use Rattle.mesh.specs.Shells.{turned, flipped, Antisymmetric}
use Rattle.mesh.specs.Tetrahedra.{Tet, Slot, first, second, third, fourth, slots, face, Triple, Facet, triple, facets, has_face, shell}
use Rattle.mesh.proofs.Likeness.{turns_same, four, oriented_slots, has_face_oriented, against_sym}

abbrev pub facet : Tet → Slot → Facet
facet t s = record { of = t; lacks = s }

-- what holds of each face of each tetrahedron
pub all_facets : (P : Facet → Type 0) (ts : List Tet) → AllByRecursion (λ t. (s : Slot) → P (facet t s)) ts → AllByRecursion P (facets ts)
all_facets P [] h = tt
all_facets P (t ∷ ts) h = (h.0 first, (h.0 second, (h.0 third, (h.0 fourth, all_facets P ts h.1))))

-- a sum over faces, tetrahedron by tetrahedron
pub sum_facets : (f : Facet → ℕ) (ts : List Tet) → sum_by f (facets ts) ≡ sum_by (λ t. four (λ s. f (facet t s))) ts
sum_facets f [] = refl
sum_facets f (t ∷ ts) = omega (arith, sum_by-append f (map (facet t) slots) (facets ts), sum_by-cons (λ t. four (λ s. f (facet t s))) t ts, sum_facets f ts)

-- the oriented faces, counted by the face
pub orientations_facets : (ts : List Tet) → AllByRecursion Proper ts → (x y z : ℕ) → orientations ts x y z ≡ count_by (λ p. turns (triple p) x y z) (facets ts)
orientations_facets ts h x y z =
    sum_by_same Proper (λ t. bit (oriented t x y z)) (λ t. four (λ s. bit (turns (face t s) x y z))) (λ t k. oriented_slots t k x y z) ts h
    ∙ sym (sum_facets (λ p. bit (turns (triple p) x y z)) ts)

-- the three numbers differ
pub record Distinct (f : Triple) : Type 0 where
  pub xy : f.x ≢ f.y
  pub xz : f.x ≢ f.z
  pub yz : f.y ≢ f.z

pub distinct : (t : Tet) → Proper t → (s : Slot) → Distinct (face t s)
distinct t h first = omega arith
distinct t h second = omega arith
distinct t h third = omega arith
distinct t h fourth = omega arith

pub own_oriented : (t : Tet) (s : Slot) → oriented t (face t s).x (face t s).y (face t s).z ≡ true
own_oriented t first = grind (arith, nat_tests)
own_oriented t second = grind (arith, nat_tests)
own_oriented t third = grind (arith, nat_tests)
own_oriented t fourth = grind (arith, nat_tests)

-- a face is had in the one direction or the other
pub has_faces : (ts : List Tet) → AllByRecursion Proper ts → (f : Triple) → Distinct f → count_by (has_face f) ts ≡ orientations ts f.x f.y f.z + orientations ts f.y f.x f.z
has_faces ts h f d =
    let on : Tet → ℕ = λ t. bit (oriented t f.x f.y f.z) in
    let off : Tet → ℕ = λ t. bit (oriented t f.y f.x f.z) in
    sum_by_same Proper (λ t. bit (has_face f t)) (λ t. on t + off t) (λ t k. has_face_oriented t k f d.xy d.xz d.yz) ts h ∙ sum_by_add on off ts

-- f is a face of one of the tetrahedra, in its order
pub record Face (ts : List Tet) (f : Triple) : Type 0 where
  pub distinct : Distinct f
  pub had : 1 ≤ orientations ts f.x f.y f.z

pub faces : (ts : List Tet) → AllByRecursion Proper ts → AllByRecursion (λ p. Face ts (triple p)) (facets ts)
faces ts h = all_facets (λ p. Face ts (triple p)) ts (All-weaker (Has ts) (λ t. (s : Slot) → Face ts (face t s))
    (λ t k s. record { distinct = distinct t (all-has Proper ts t h k) s; had = counts (λ t'. oriented t' (face t s).x (face t s).y (face t s).z) ts t k (own_oriented t s) })
    ts (all_has_itself ts))

-- a sum over faces, tetrahedron by tetrahedron
pub sum_z_facets : (g : Triple → ℤ) (ts : List Tet) → sum_z (λ p. g (triple p)) (facets ts) ≡ sum_z (λ t. sum_z (λ s. g (face t s)) slots) ts
sum_z_facets g [] = refl
sum_z_facets g (t ∷ ts) = omega (arith, ints, sum_z_facets g ts)

-- q has the face of p in the opposite direction
abbrev opposite : Facet → Facet → Bool
opposite p q = turns (triple q) (triple p).y (triple p).x (triple p).z

-- A face of the shell has none on the other side, and any other face has one.
abbrev Sided : List Tet → Facet → Type 0
Sided ts p = ((eqb (count_by (has_face (triple p)) ts) 1 ≡ true) × (count_by (opposite p) (facets ts) ≡ 0)) ⊎ ((eqb (count_by (has_face (triple p)) ts) 1 ≡ false) × (count_by (opposite p) (facets ts) ≡ 1))

-- some tetrahedra of which no two have one oriented face
module _ (ts : List Tet) (h : AllByRecursion Proper ts) (once : (x y z : ℕ) → orientations ts x y z ≤ 1) where
  sided : (p : Facet) → Face ts (triple p) → Sided ts p
  sided p f =
      let x = (triple p).x in let y = (triple p).y in let z = (triple p).z in
      go (count_by (has_face (triple p)) ts) (orientations ts x y z) (orientations ts y x z) (count_by (opposite p) (facets ts)) (has_faces ts h (triple p) f.distinct) f.had (once x y z) (once y x z) (orientations_facets ts h y x z)
    where
      go : (c r s o : ℕ) → c ≡ r + s → 1 ≤ r → r ≤ 1 → s ≤ 1 → s ≡ o → ((eqb c 1 ≡ true) × (o ≡ 0)) ⊎ ((eqb c 1 ≡ false) × (o ≡ 1))
      go c r s o e l m n k = elim (cases_eq o 0) [ inl i ↦ inl (eq-eqb c 1 (omega arith), i) | inr i ↦ inr (ne_eqb c 1 (omega arith), omega arith) ]

  -- the sum of what is antisymmetric
  pub shell_sum : (g : Triple → ℤ) → Antisymmetric g
      → sum_z (λ p. g (triple p)) (shell ts) ≡ sum_z (λ p. g (triple p)) (facets ts)
  shell_sum g a = cancel opposite (λ p. eqb (count_by (has_face (triple p)) ts) 1) (λ p. g (triple p)) (facets ts)
      (λ p q. against_sym (triple q) (triple p))
      (λ p q e. turns_same g a.turn (triple p) (triple q).y (triple q).x (triple q).z (against_sym (triple p) (triple q) ∙ e) ∙ a.flip (triple q))
      (All-weaker (λ p. Face ts (triple p)) (Sided ts) sided (facets ts) (faces ts h))

  -- the same of counts: of the faces that pass a test that turning keeps, and of those that pass it when flipped
  pub shell_counts : (q : Triple → Bool) → ((f : Triple) → q (turned f) ≡ q f)
      → count_by (λ p. q (triple p)) (shell ts) + count_by (λ p. q (flipped (triple p))) (facets ts) ≡ count_by (λ p. q (flipped (triple p))) (shell ts) + count_by (λ p. q (triple p)) (facets ts)
  shell_counts q turn =
      omega (arith, ints, differ (shell ts), shell_sum g (record { turn = λ f. cc (turn f, turn (flipped f), turn (turned (flipped f))); flip = λ f. omega (arith, ints) }), differ (facets ts))
    where
      g : Triple → ℤ
      g f = pos (bit (q f)) +ℤ neg_ℤ (pos (bit (q (flipped f))))

      differ : (ps : List Facet) → sum_z (λ p. g (triple p)) ps ≡ pos (count_by (λ p. q (triple p)) ps) +ℤ neg_ℤ (pos (count_by (λ p. q (flipped (triple p))) ps))
      differ ps = omega (
        arith,
        ints,
        sum_z_add (λ p. pos (bit (q (triple p)))) (λ p. neg_ℤ (pos (bit (q (flipped (triple p)))))) ps,
        sum_z_pos (λ p. bit (q (triple p))) ps,
        sum_z_neg (λ p. pos (bit (q (flipped (triple p))))) ps,
        sum_z_pos (λ p. bit (q (flipped (triple p)))) ps,
      )
