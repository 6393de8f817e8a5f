-- Where the tables hold the points and the mesh of a state, locating answers as the rules tell of the state.
use Rattle.std.proofs.Common.{◌≡◌, ℕ, ◌<◌, List, length, get_or, Result, sym, ap, ◌∙◌, subst, arith}
use Rattle.std.proofs.ByRecursion.{All-from_get_or}
use Rattle.std.proofs.lemmas.List.{length-map}
use Rattle.geometry.specs.Spots.{bare}
use Rattle.mesh.specs.Owners.{Owns}
use Rattle.mesh.specs.Past.{Locates, Owner, nowhere, no_owner}
use Rattle.mesh.specs.Past.{lowest_owner as lowest}
use Rattle.mesh.specs.Records.{mesh_of, row, tet_of}
use Rattle.mesh.specs.Surveys.{State, points}
use Rattle.mesh.specs.Tetrahedra.{Tet, big}
use Rattle.mesh.proofs.Sharing.{tet_row}
use Rattle.survey.specs.declared.counts.Counts.{Counts}
use Rattle.survey.specs.declared.refusal.Refusal.{Refusal}
use Rattle.survey.specs.Locates.{Located, OwnsAt, located_answer, not_whole, off_grid, unowned, lowest_owner}
use Rattle.survey.specs.Tables.{Lent, spots, used_tets}
use Rattle.survey.specs.Wholeness.{WholeTables}
use Rattle.survey.proofs.WholeUses.{used_tets_length}

module _ {R : Type 0} (s : State R) (c : Counts) (t : Lent R) (x y z : ℕ)
    (same_points : spots c t.points ≡ points s) (same_mesh : mesh_of (used_tets c t.tets) ≡ s.mesh) (w : WholeTables c t.points (length t.readings) t.tets)
  where
    mesh_length : length s.mesh ≡ c.tets
    mesh_length = ap length (sym same_mesh) ∙ length-map (used_tets c t.tets) tet_of ∙ used_tets_length c t.points (length t.readings) t.tets w

    -- used record k has tetrahedron k of the mesh
    tet_told : (k : ℕ) → k < c.tets → tet_of (row (used_tets c t.tets) k) ≡ get_or s.mesh k big
    tet_told k l = sym (tet_row (used_tets c t.tets) k (omega (arith, used_tets_length c t.points (length t.readings) t.tets w))) ∙ ap (λ (m : List Tet). get_or m k big) same_mesh

    -- and owns the place where that one does
    owner_told : (k : ℕ) → k < c.tets → OwnsAt c t.points t.tets x y z k ≡ Owner s (bare x y z) (get_or s.mesh k big)
    owner_told k l = λ i. Owns (same_points i) (bare x y z) (tet_told k l i)

    owner_there : (k : ℕ) → k < c.tets → OwnsAt c t.points t.tets x y z k → Owner s (bare x y z) (get_or s.mesh k big)
    owner_there k l h = subst (λ (P : Type 0). P) (owner_told k l) h

    owner_back : (k : ℕ) → k < c.tets → Owner s (bare x y z) (get_or s.mesh k big) → OwnsAt c t.points t.tets x y z k
    owner_back k l h = subst (λ (P : Type 0). P) (sym (owner_told k l)) h

    pub located_told : {r : Result ℕ Refusal} → Located c t x y z r → Locates s (bare x y z) (located_answer r)
    located_told (not_whole broken) = absurd (broken w)
    located_told (off_grid _ off) = nowhere off
    located_told (unowned _ on none) =
        no_owner on (All-from_get_or (λ t. ¬ Owner s (bare x y z) t) s.mesh big (λ k l. let m : k < c.tets = omega (arith, mesh_length) in λ h. none k m (owner_back k m h)))
    located_told (lowest_owner _ on k l owns first) =
        lowest on k (omega (arith, mesh_length)) (owner_there k l owns) (λ j m h. first j m (owner_back j (omega arith) h))
