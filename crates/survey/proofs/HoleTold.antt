-- What adding asks of the hole that a site makes, told from the records and from the mesh that they read as.
use Rattle.std.proofs.Common.{◌≡◌, ℕ, zero, suc, ◌/◌, ◌%◌, ◌<◌, Bool, true, false, ◌&&◌, ◌||◌, eqb, List, [], ◌∷◌, map, length, get_or, count_by, sym, refl, ap, ◌∙◌, arith}
use mathlib.Core.Path.{fun_ext}
use Rattle.algebra.proofs.Sums.{sum_by-map}
use Rattle.algebra.specs.Lists.{all, some}
use Rattle.algebra.proofs.Lists.{bit, some-map}
use Rattle.mesh.specs.Added.{drops, edge_on, face_of, facet_of, kept_rows, shell_faces}
use Rattle.mesh.specs.Orientations.{Balanced}
use Rattle.mesh.specs.Records.{Whole, blank, every, face_at, mesh_of, row, tet_of}
use Rattle.mesh.specs.Tetrahedra.{Facet, Tet, Triple, around, closed, dropped, has, kept, on, shell, stays, triple}
use Rattle.mesh.specs.declared.record.TetRecord.{TetRecord}
use Rattle.mesh.proofs.RecordReading.{kept_read, shell_read}
use Rattle.survey.specs.Conflicts.{some_below}
use Rattle.survey.specs.Edges.{edges_twice, has_edge, twice_at}
use Rattle.survey.specs.Prepares.{stays_in}
use Rattle.survey.specs.Stay.{faces_have}

-- ---- is a record dropped

or_nothing : (a : Bool) → a ≡ (a || false)
or_nothing true = refl
or_nothing false = refl

or_regroup : (a b c : Bool) → ((a || b) || c) ≡ (a || (b || c))
or_regroup true b c = refl
or_regroup false b c = refl

some_front : (q : ℕ → Bool) (n : ℕ) → some_below q (suc n) ≡ (q 0 || some_below (λ k. q (suc k)) n)
some_front q zero = or_nothing (q 0)
some_front q (suc n) = ap (λ (b : Bool). b || q (suc n)) (some_front q n) ∙ or_regroup (q 0) (some_below (λ k. q (suc k)) n) (q (suc n))

some_places : {X : Type 0} (p : X → Bool) (d : X) (xs : List X) → some_below (λ k. p (get_or xs k d)) (length xs) ≡ some p xs
some_places p d [] = refl
some_places p d (x ∷ xs) = some_front (λ k. p (get_or (x ∷ xs) k d)) (length xs) ∙ ap (λ (b : Bool). p x || b) (some_places p d xs)

pub dropped_told : (conflict : Tet → Bool) (us : List TetRecord) → some_below (drops conflict us) (length us) ≡ some conflict (mesh_of us)
dropped_told conflict us = some_places (λ r. conflict (tet_of r)) blank us ∙ sym (some-map conflict tet_of us)

-- ---- the edges

all_map : {X Y : Type 0} (p : Y → Bool) (m : X → Y) (xs : List X) → all p (map m xs) ≡ all (λ x. p (m x)) xs
all_map p m [] = refl
all_map p m (x ∷ xs) = ap (λ (b : Bool). p (m x) && b) (all_map p m xs)

flipped : (a b : Bool) → (a && (b && true)) ≡ (b && a)
flipped true true = refl
flipped true false = refl
flipped false true = refl
flipped false false = refl

straight : (a b : Bool) → (a && (b && true)) ≡ (a && b)
straight a true = refl
straight a false = refl

last_moved : (a b c : Bool) → (a && (c && (b && true))) ≡ (a && b && c)
last_moved true true c = flipped c true
last_moved true false true = refl
last_moved true false false = refl
last_moved false b c = refl

first_moved : (a b c : Bool) → (c && (a && (b && true))) ≡ (a && b && c)
first_moved true true true = refl
first_moved true true false = refl
first_moved true false true = refl
first_moved true false false = refl
first_moved false b true = refl
first_moved false b false = refl

-- some faces, by what they are faces of
module _ {X : Type 0} (face : X → Triple) (xs : List X) where
  -- exactly two of them have both points
  abbrev twice : (u v : ℕ) → Bool
  twice u v = eqb (count_by (λ x. on u (face x) && on v (face x)) xs) 2

  counted : (p q : X → Bool) → ((x : X) → p x ≡ q x) → eqb (count_by p xs) 2 ≡ eqb (count_by q xs) 2
  counted p q e = ap (λ (t : X → Bool). eqb (count_by t xs) 2) (fun_ext e)

  turned : (u v : ℕ) → eqb (count_by (λ x. on u (face x) && (on v (face x) && true)) xs) 2 ≡ twice v u
  turned u v = counted _ _ (λ x. flipped (on u (face x)) (on v (face x)))

  same : (u v : ℕ) → eqb (count_by (λ x. on u (face x) && (on v (face x) && true)) xs) 2 ≡ twice u v
  same u v = counted _ _ (λ x. straight (on u (face x)) (on v (face x)))

  abbrev closed_at : Triple → Bool
  closed_at f = twice f.x f.y && twice f.y f.z && twice f.z f.x

  slots_told : (r : TetRecord) (i : ℕ) → i < 4 → every (λ j. eqb j i || eqb (count_by (λ x. edge_on r i j (face x)) xs) 2) 4 ≡ closed_at (face_at r i)
  slots_told r zero l =
      let t = tet_of r in
      (λ i. turned t.c t.b i && (same t.d t.b i && (turned t.d t.c i && true)))
      ∙ last_moved (twice t.b t.c) (twice t.c t.d) (twice t.d t.b)
  slots_told r (suc zero) l =
      let t = tet_of r in
      (λ i. same t.c t.a i && (turned t.d t.a i && (same t.d t.c i && true)))
      ∙ first_moved (twice t.a t.d) (twice t.d t.c) (twice t.c t.a)
  slots_told r (suc (suc zero)) l =
      let t = tet_of r in
      (λ i. turned t.b t.a i && (same t.d t.a i && (turned t.d t.b i && true)))
      ∙ last_moved (twice t.a t.b) (twice t.b t.d) (twice t.d t.a)
  slots_told r (suc (suc (suc zero))) l =
      let t = tet_of r in
      (λ i. same t.b t.a i && (turned t.c t.a i && (same t.c t.b i && true)))
      ∙ first_moved (twice t.a t.c) (twice t.c t.b) (twice t.b t.a)
  slots_told r (suc (suc (suc (suc i)))) l = absurd (omega arith)

pub edges_told : (us : List TetRecord) (qs : List ℕ) → edges_twice us qs ≡ closed (map (facet_of us) qs)
unfolding twice_at has_edge
edges_told us qs =
    ap (λ (p : ℕ → Bool). all p qs) (fun_ext (λ q. slots_told (face_of us) qs (row us (q / 4)) (q % 4) (omega arith) ∙ faces_told (face_of us q)))
    ∙ sym (all_map (λ p. closed_around (triple p)) (facet_of us) qs)
  where
    fs : List Facet
    fs = map (facet_of us) qs

    meeting : (u v : ℕ) → Bool
    meeting u v = eqb (around u v fs) 2

    closed_around : Triple → Bool
    closed_around f = meeting f.x f.y && meeting f.y f.z && meeting f.z f.x

    pair_told : (u v : ℕ) → twice (face_of us) qs u v ≡ meeting u v
    pair_told u v = ap (λ (n : ℕ). eqb n 2) (sym (sum_by-map (λ p. bit (on u (triple p) && on v (triple p))) (facet_of us) qs))

    faces_told : (f : Triple) → closed_at (face_of us) qs f ≡ closed_around f
    faces_told f = λ i. pair_told f.x f.y i && pair_told f.y f.z i && pair_told f.z f.x i

-- ---- the points that stay

module _ (conflict : Tet → Bool) (n : ℕ) (us : List TetRecord) (w : Whole n us) (b : Balanced (mesh_of us)) where
  pub stays_told : (q : ℕ) → stays_in conflict us q ≡ stays conflict (mesh_of us) q
  unfolding faces_have
  stays_told q = λ i. among_kept i || on_shell i
    where
      among_kept : some (λ k. has q (tet_of (row us k))) (kept_rows conflict us) ≡ some (has q) (kept conflict (mesh_of us))
      among_kept = sym (some-map (has q) (λ k. tet_of (row us k)) (kept_rows conflict us)) ∙ ap (some (has q)) (sym (kept_read conflict n us w b))

      on_shell : some (λ p. on q (face_of us p)) (shell_faces conflict us) ≡ some (λ p. on q (triple p)) (shell (dropped conflict (mesh_of us)))
      on_shell = sym (some-map (λ p. on q (triple p)) (facet_of us) (shell_faces conflict us)) ∙ ap (some (λ p. on q (triple p))) (sym (shell_read conflict n us w b))
