-- The search for an owner among the used records answers as locating does.
use Rattle.std.proofs.Common.{◌≡◌, ℕ, Bool, true, false, List, length, Some, None, Option, Result, sym, ap, subst, ◌∙◌, arith}
use Rattle.std.proofs.lemmas.Bool.Decides.{not_from_Decides}
use Rattle.std.specs.List.{find, range_with_len}
use Rattle.std.specs.Option.{ok_or}
use Rattle.geometry.specs.Spots.{Spot, bare}
use Rattle.mesh.specs.Records.{row, tet_of}
use Rattle.mesh.specs.Surveys.{OnGrid}
use Rattle.survey.specs.declared.counts.Counts.{Counts}
use Rattle.survey.specs.declared.refusal.Refusal.{Refusal}
use Rattle.survey.specs.declared.refusal.Refusal.TheVariants.{Unowned}
use Rattle.survey.specs.Locates.{Located, OwnsAt, unowned, lowest_owner}
use Rattle.survey.specs.Owners.{first_owned, owned, steps}
use Rattle.survey.specs.Tables.{Lent, spots, used_tets}
use Rattle.survey.specs.Wholeness.{WholeTables}
use Rattle.survey.proofs.Owning.{owned_tells}
use Rattle.survey.proofs.Ranges.{First, first_found}
use Rattle.survey.proofs.WholeUses.{used_tets_length}

module _ {R : Type 0} (c : Counts) (t : Lent R) (x y z : ℕ) (w : WholeTables c t.points (length t.readings) t.tets) (on : OnGrid (bare x y z)) where
  owner : (k : ℕ) → owned (spots c t.points) (steps (bare x y z)) (tet_of (row (used_tets c t.tets) k)) ≡ true → OwnsAt c t.points t.tets x y z k
  owner k e = (owned_tells (spots c t.points) (bare x y z) (tet_of (row (used_tets c t.tets) k))).0 e

  stranger : (k : ℕ) → owned (spots c t.points) (steps (bare x y z)) (tet_of (row (used_tets c t.tets) k)) ≡ false → ¬ OwnsAt c t.points t.tets x y z k
  stranger k e = not_from_Decides (owned (spots c t.points) (steps (bare x y z)) (tet_of (row (used_tets c t.tets) k))) (owned_tells (spots c t.points) (bare x y z) (tet_of (row (used_tets c t.tets) k))) e

  -- the tests of the used records, by number
  abbrev test : (k : ℕ) → Bool
  test k = owned (spots c t.points) (steps (bare x y z)) (tet_of (row (used_tets c t.tets) k))

  searched : (o : Option ℕ) → First test 0 (length (used_tets c t.tets)) o → Located c t x y z (ok_or o Unowned)
  searched (Some k) h = lowest_owner w on k (omega (arith, h.1, used_tets_length c t.points (length t.readings) t.tets w)) (owner k h.2) (λ j l. stranger j (h.3 j (omega arith) l))
  searched None h = unowned w on (λ k l. stranger k (h k (omega arith) (omega (arith, used_tets_length c t.points (length t.readings) t.tets w))))

  -- the steps are those of the place, and the answer is the search's
  pub located : (gs : List Spot) (o : Option ℕ) (r : Result ℕ Refusal) → gs ≡ steps (bare x y z) → r ≡ ok_or o Unowned → o ≡ first_owned (spots c t.points) gs (used_tets c t.tets) → Located c t x y z r
  located gs o r e is h =
      let found : o ≡ find test (range_with_len 0 (length (used_tets c t.tets))) = h ∙ ap (λ (hs : List Spot). first_owned (spots c t.points) hs (used_tets c t.tets)) e in
      subst (Located c t x y z) (sym is) (searched o (subst (First test 0 (length (used_tets c t.tets))) (sym found) (first_found test 0 (length (used_tets c t.tets)))))
