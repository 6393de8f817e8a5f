-- The shell and the records after an add, read from whole records, are those of their mesh.
use Rattle.std.proofs.Common.{◌≡◌, ℕ, zero, suc, ◌*◌, ◌/◌, ◌%◌, ◌<◌, ◌≤◌, Bool, true, false, cond, not, ◌&&◌, ◌||◌, eqb, List, [], ◌∷◌, map, length, get_or, count_by, filter, sym, refl, ap, ◌∙◌, inl, inr, ⊎_elim, arith}
use mathlib.Core.List.{map-map}
use mathlib.Core.Path.{fun_ext}
use Rattle.std.proofs.ByRecursion.{has_get_or}
use Rattle.std.proofs.lemmas.List.{length-map, map-append}
use Rattle.std.proofs.lemmas.Bool.{cases_Bool, cases_eq, both_ways, and_from, and_parts, or_from, or_right, eq-eqb, ne_eqb, not_from_true, not_from_false}
use Rattle.algebra.proofs.Lists.{bit, counts, only_one}
use Rattle.algebra.proofs.Sums.{sum_by-map}
use Rattle.mesh.specs.Added.{passing, face_of, facet_of, drops, keeps, exposed, kept_rows, shell_faces, shell_facets, kept_record, new_record, records_after}
use Rattle.mesh.specs.Orientations.{Balanced}
use Rattle.mesh.specs.Records.{TetRecord, none, fours, blank, row, point, neighbour, tet_of, mesh_of, slot_at, face_at, is_outer, Linked, Whole}
use Rattle.mesh.specs.Tetrahedra.{Tet, Slot, first, put, Triple, Facet, triple, facets, has_face, shell, joined, dropped, after, big}
use Rattle.mesh.proofs.Ranks.{map-passing, kept_passing, kept_kept, count_kept, at_most_one}
use Rattle.mesh.proofs.Sharing.{Shares, all_formed, shares_rows, tet_row}
use Rattle.mesh.proofs.Shells.{facet}
use Rattle.mesh.proofs.Slots.{own_face}

-- ---- the faces of a mesh by number

length-facets : (ts : List Tet) → length (facets ts) ≡ 4 * length ts
length-facets [] = refl
length-facets (t ∷ ts) = omega (arith, length-facets ts)

facet_at : (ts : List Tet) (d : Facet) (q : ℕ) → q < 4 * length ts → get_or (facets ts) q d ≡ facet (get_or ts (q / 4) big) (slot_at (q % 4))
facet_at [] d q l = absurd (omega arith)
facet_at (t ∷ ts) d zero l = refl
facet_at (t ∷ ts) d (suc zero) l = refl
facet_at (t ∷ ts) d (suc (suc zero)) l = refl
facet_at (t ∷ ts) d (suc (suc (suc zero))) l = refl
facet_at (t ∷ ts) d (suc (suc (suc (suc q)))) l =
    let i : suc (suc (suc (suc q))) / 4 ≡ suc (q / 4) = omega arith in
    let j : suc (suc (suc (suc q))) % 4 ≡ q % 4 = omega arith in
    rw (i, j) (facet_at ts d q (omega arith))

facets_kept : (c : Tet → Bool) (ts : List Tet) → facets (filter c ts) ≡ filter (λ p. c p.of) (facets ts)
facets_kept c [] = refl
facets_kept c (t ∷ ts) = elim (cases_Bool (c t)) [
  | inl e ↦ rw (e, facets_kept c ts)
  | inr e ↦ rw e (facets_kept c ts)
]

-- the points of a new record
put_point : (r : TetRecord) (n i : ℕ) (bs : List ℕ) → i < 4 → tet_of (record { points = fours (λ j. cond (eqb j i) n (point r j)); neighbours = bs; mark = 0 }) ≡ put (tet_of r) (slot_at i) n
put_point r n zero bs l = refl
put_point r n (suc zero) bs l = refl
put_point r n (suc (suc zero)) bs l = refl
put_point r n (suc (suc (suc zero))) bs l = refl
put_point r n (suc (suc (suc (suc i)))) bs l = absurd (omega arith)

pub tet_new : (c : Tet → Bool) (rs : List TetRecord) (n q : ℕ) → tet_of (new_record c rs n q) ≡ joined n (facet_of rs q)
tet_new c rs n q = put_point (row rs (q / 4)) n (q % 4) (new_record c rs n q).neighbours (omega arith)

module _ (c : Tet → Bool) (n : ℕ) (rs : List TetRecord) (w : Whole n rs) (b : Balanced (mesh_of rs)) where
  shared : Shares (length rs) (λ k. tet_of (row rs k))
  shared = shares_rows n rs (all_formed n rs w) b

  -- a face of a dropped record is alone among the dropped where its neighbour is none or kept
  alone : (k i : ℕ) → k < length rs → i < 4 → drops c rs k ≡ true
      → eqb (count_by (has_face (face_at (row rs k) i)) (filter c (mesh_of rs))) 1 ≡ (eqb (neighbour (row rs k) i) none || keeps c rs (neighbour (row rs k) i))
  alone k i l m e = rw (count_kept (has_face f) c (mesh_of rs) ∙ sum_by-map (λ t. bit (c t && has_face f t)) tet_of rs) (elim (cases_Bool (is_outer f)) [
    | inl o ↦ rw ((w k l).outer i m o) (eq-eqb (count_by both rs) 1 (omega (arith, some, few (λ j u v. shared.sole k j s l u o (and_parts (c (tet j)) (has_face f (tet j)) v).1))))
    | inr o ↦ inside o ((w k l).inner i m o)
  ])
    where
      s : Slot
      s = slot_at i

      tet : ℕ → Tet
      tet j = tet_of (row rs j)

      f : Triple
      f = face_at (row rs k) i

      both : TetRecord → Bool
      both r = c (tet_of r) && has_face f (tet_of r)

      here : both (row rs k) ≡ true
      here = and_from (c (tet k)) (has_face f (tet k)) e (own_face (tet k) s)

      some : 1 ≤ count_by both rs
      some = counts both rs (row rs k) (has_get_or rs k blank l) here

      few : ((j : ℕ) → j < length rs → both (row rs j) ≡ true → j ≡ k) → count_by both rs ≤ 1
      few g = at_most_one both rs blank (λ i j u v x y. g i u x ∙ sym (g j v y))

      inside : is_outer f ≡ false → Linked rs k i → eqb (count_by both rs) 1 ≡ (eqb (neighbour (row rs k) i) none || keeps c rs (neighbour (row rs k) i))
      inside o g = elim (cases_Bool (drops c rs nb)) [
        | inl d ↦
            ne_eqb (count_by both rs) 1 (λ z. g.other (only_one both rs blank nb k (omega arith) g.within l (and_from (c (tet nb)) (has_face f (tet nb)) d g.shares) here))
            ∙ sym (or_from (eqb nb none) (keeps c rs nb) (ne_eqb nb none g.some) (not_from_true (drops c rs nb) d))
        | inr d ↦
            eq-eqb (count_by both rs) 1 (omega (
              arith,
              some,
              few (λ j u v.
                  let parts = and_parts (c (tet j)) (has_face f (tet j)) v in
                  ⊎_elim (λ x. x) (λ x. absurd (both_ways (drops c rs nb) d (sym (ap (drops c rs) (shared.same k j nb s l u g.within o x g.other parts.1 g.shares)) ∙ parts.0))) (cases_eq j k)),
            ))
            ∙ sym (or_right (eqb nb none) (keeps c rs nb) (not_from_false (drops c rs nb) d))
      ]
        where
          nb : ℕ
          nb = neighbour (row rs k) i

  shell_face : (q : ℕ) → q < 4 * length rs → (drops c rs (q / 4) && eqb (count_by (has_face (face_of rs q)) (filter c (mesh_of rs))) 1) ≡ exposed c rs q
  shell_face q l = elim (cases_Bool (drops c rs (q / 4))) [
    | inl e ↦ rw e (alone (q / 4) (q % 4) (omega arith) (omega arith) e)
    | inr e ↦ rw e
  ]

  face_facet : (q : ℕ) → q < 4 * length rs → get_or (facets (mesh_of rs)) q (facet big first) ≡ facet_of rs q
  face_facet q l = facet_at (mesh_of rs) (facet big first) q (omega (arith, length-map rs tet_of)) ∙ ap (λ (t : Tet). facet t (slot_at (q % 4))) (tet_row rs (q / 4) (omega arith))

  -- the shell
  pub shell_read : shell (dropped c (mesh_of rs)) ≡ shell_facets c rs
  shell_read =
      ap (filter lone) (facets_kept c (mesh_of rs))
      ∙ kept_kept lone (λ p. c p.of) (facets (mesh_of rs))
      ∙ kept_passing test (facets (mesh_of rs)) d
      ∙ ap (λ (m : ℕ). map at (passing (λ q. test (at q)) m)) (length-facets (mesh_of rs) ∙ ap (λ (m : ℕ). 4 * m) (length-map rs tet_of))
      ∙ map-passing at (facet_of rs) (λ q. test (at q)) (exposed c rs) (4 * length rs) face_facet (λ q l. ap test (face_facet q l) ∙ shell_face q l)
    where
      d : Facet
      d = facet big first

      at : ℕ → Facet
      at q = get_or (facets (mesh_of rs)) q d

      lone : Facet → Bool
      lone p = eqb (count_by (has_face (triple p)) (filter c (mesh_of rs))) 1

      test : Facet → Bool
      test p = c p.of && lone p

  pub kept_read : filter (λ t. not (c t)) (mesh_of rs) ≡ map (λ k. tet_of (row rs k)) (kept_rows c rs)
  kept_read =
      kept_passing (λ t. not (c t)) (mesh_of rs) big
      ∙ ap (λ (m : ℕ). map at (passing (λ k. not (c (at k))) m)) (length-map rs tet_of)
      ∙ map-passing at (λ k. tet_of (row rs k)) (λ k. not (c (at k))) (keeps c rs) (length rs) (tet_row rs) (λ k l. ap (λ (t : Tet). not (c t)) (tet_row rs k l))
    where
      at : ℕ → Tet
      at k = get_or (mesh_of rs) k big

  -- the mesh of the result
  pub after_read : mesh_of (records_after c rs n) ≡ after c (mesh_of rs) n
  after_read =
      map-append tet_of (map (kept_record c rs) (kept_rows c rs)) (map (new_record c rs n) (shell_faces c rs))
      ∙ cc (
        map-map tet_of (kept_record c rs) (kept_rows c rs),
        kept_read,
        map-map tet_of (new_record c rs n) (shell_faces c rs),
        ap (λ (g : ℕ → Tet). map g (shell_faces c rs)) (fun_ext (tet_new c rs n)),
        map-map (joined n) (facet_of rs) (shell_faces c rs),
        ap (map (joined n)) shell_read,
      )
