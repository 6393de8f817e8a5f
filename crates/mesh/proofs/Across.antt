-- What lies on the other side of a face of a balanced mesh.
use Rattle.std.proofs.Common.{◌≡◌, ℕ, ◌+◌, ◌<◌, ◌≤◌, Bool, true, false, eqb, ◌≢◌, ◌⊎◌, List, [], ◌∷◌, length, get_or, count_by, sym, ap, ◌∙◌, inl, inr, arith, lit≤}
use Rattle.std.specs.List.{ContainsAt as Has, AllByRecursion}
use Rattle.std.proofs.ByRecursion.{all_kept_by, all-has, All-get_or, has_get_or, kept_by_passes}
use Rattle.std.proofs.lemmas.Bool.{cases_Bool, both_ways, eqb-true}
use Rattle.algebra.proofs.Lists.{bit, counted, counts, only_one}
use Rattle.mesh.specs.Orientations.{oriented, Proper, Balanced}
use Rattle.mesh.specs.Tetrahedra.{Tet, Slot, face, Triple, Facet, triple, facets, has_face, shell, big, kept, dropped}
use Rattle.mesh.proofs.Balance.{orientations_split, big_formed}
use Rattle.mesh.proofs.Likeness.{has_face_oriented}
use Rattle.mesh.proofs.Shells.{distinct, own_oriented, Face, faces, has_faces}

-- the face is one of the big tetrahedron, or a tetrahedron of the list has it in the opposite direction
abbrev pub Beyond : List Tet → Triple → Type 0
Beyond ts f = (oriented big f.x f.y f.z ≡ true) ⊎ ((u : Tet) × Has ts u × (oriented u f.y f.x f.z ≡ true))

-- what lies beyond a shell face
pub beyond : (conflict : Tet → Bool) (ts : List Tet) → AllByRecursion Proper ts → Balanced ts → (p : Facet) → Has (shell (dropped conflict ts)) p → Beyond (kept conflict ts) (triple p)
beyond conflict ts h b p m = elim (cases_Bool (oriented big f.x f.y f.z)) [
  | inl e ↦ inl e
  | inr e ↦
      let c = counted (λ t. oriented t f.y f.x f.z) stay (omega (arith, ap bit e, alone, mine.had, has_faces go propers f mine.distinct, orientations_split conflict ts f.x f.y f.z, orientations_split conflict ts f.y f.x f.z, b.once f.x f.y f.z, b.boundary f.x f.y f.z)) in
      inr (get_or stay c.0 big, has_get_or stay c.0 big c.1, c.2 big)
]
  where
    stay : List Tet
    stay = kept conflict ts

    go : List Tet
    go = dropped conflict ts

    f : Triple
    f = triple p

    propers : AllByRecursion Proper go
    propers = all_kept_by conflict Proper ts h

    lone : Facet → Bool
    lone q = eqb (count_by (has_face (triple q)) go) 1

    mine : Face go f
    mine = all-has (λ q. Face go (triple q)) (shell go) p (all_kept_by lone (λ q. Face go (triple q)) (facets go) (faces go propers)) m

    alone : count_by (has_face f) go ≡ 1
    alone = eqb-true (count_by (has_face f) go) 1 (all-has (λ q. lone q ≡ true) (shell go) p (kept_by_passes lone (facets go)) m)

-- only the tetrahedron at r has the face, which is one of the big tetrahedron
pub record Outer (ts : List Tet) (r : ℕ) (f : Triple) : Type 0 where
  pub outer : oriented big f.x f.y f.z ≡ true
  pub only : (k : ℕ) → k < length ts → has_face f (get_or ts k big) ≡ true → k ≡ r

-- one other tetrahedron has the face, in the opposite direction
pub record Inner (ts : List Tet) (r : ℕ) (f : Triple) : Type 0 where
  pub at : ℕ
  pub within : at < length ts
  pub other : at ≢ r
  pub shares : has_face f (get_or ts at big) ≡ true
  pub against : oriented (get_or ts at big) f.y f.x f.z ≡ true
  pub only : (k : ℕ) → k < length ts → k ≢ r → has_face f (get_or ts k big) ≡ true → k ≡ at

-- a test that passes where exactly one of two others does
which : (h p q : Bool) → bit h ≡ bit p + bit q → h ≡ true → (p ≡ true) ⊎ (q ≡ true)
which h p q e k = grind arith

not_both : (h p q : Bool) → bit h ≡ bit p + bit q → p ≡ true → q ≡ false
not_both h p q e k = grind arith

either : (h p q : Bool) → bit h ≡ bit p + bit q → q ≡ true → h ≡ true
either h p q e k = grind arith

-- each face of a balanced mesh is one or the other
pub outer_or_inner : (ts : List Tet) → AllByRecursion Proper ts → Balanced ts → (r : ℕ) → r < length ts → (s : Slot) → Outer ts r (face (get_or ts r big) s) ⊎ Inner ts r (face (get_or ts r big) s)
outer_or_inner ts h b r l s = elim (cases_Bool (on big)) [
  | inl e ↦ inl (record {
    outer = e;
    only = λ k m i. elim (ways k m i) [
      | inl j ↦ same k m j
      | inr j ↦ absurd (omega (arith, ap bit e, ap bit (not_both (has_face f big) (on big) (off big) (sides big (big_formed 4 (lit≤ tt)).proper) e), had, once, level, counts off ts (get_or ts k big) (has_get_or ts k big m) j))
    ];
  })
  | inr e ↦
      let c = counted off ts (omega (arith, ap bit e, had, level)) in
      let u = get_or ts c.0 big in
      inr (record {
        at = c.0;
        within = c.1;
        other = λ i. both_ways (off t) (not_both (has_face f t) (on t) (off t) (sides t (proper r l)) (own_oriented t s)) (ap (λ (k : ℕ). off (get_or ts k big)) (sym i) ∙ c.2 big);
        shares = either (has_face f u) (on u) (off u) (sides u (proper c.0 c.1)) (c.2 big);
        against = c.2 big;
        only = λ k m n i. elim (ways k m i) [ inl j ↦ absurd (n (same k m j)) | inr j ↦ only_one off ts big k c.0 (b.once f.y f.x f.z) m c.1 j (c.2 big) ];
      })
]
  where
    t : Tet
    t = get_or ts r big

    f : Triple
    f = face t s

    on : Tet → Bool
    on u = oriented u f.x f.y f.z

    off : Tet → Bool
    off u = oriented u f.y f.x f.z

    once : count_by on ts ≤ 1
    once = b.once f.x f.y f.z

    level : count_by on ts + count_by off (big ∷ []) ≡ count_by off ts + count_by on (big ∷ [])
    level = b.boundary f.x f.y f.z

    proper : (k : ℕ) → k < length ts → Proper (get_or ts k big)
    proper k m = All-get_or Proper ts k big m h

    sides : (u : Tet) → Proper u → bit (has_face f u) ≡ bit (on u) + bit (off u)
    sides u k = let d = distinct t (proper r l) s in has_face_oriented u k f d.xy d.xz d.yz

    had : 1 ≤ count_by on ts
    had = counts on ts t (has_get_or ts r big l) (own_oriented t s)

    ways : (k : ℕ) → k < length ts → has_face f (get_or ts k big) ≡ true → (on (get_or ts k big) ≡ true) ⊎ (off (get_or ts k big) ≡ true)
    ways k m i = let u = get_or ts k big in which (has_face f u) (on u) (off u) (sides u (proper k m)) i

    same : (k : ℕ) → k < length ts → on (get_or ts k big) ≡ true → k ≡ r
    same k m j = only_one on ts big k r once m l j (own_oriented t s)
