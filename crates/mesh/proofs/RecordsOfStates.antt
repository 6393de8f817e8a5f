-- Whole records that read as the mesh of a state, and what an add makes of both.
use Rattle.std.proofs.Common.{◌≡◌, ℕ, ◌+◌, ◌*◌, ◌≤◌, Bool, true, List, length, sym, ap, ◌∙◌, subst, arith}
use Rattle.geometry.specs.Lifts.{Lift}
use Rattle.geometry.specs.Spots.{Spot}
use Rattle.mesh.specs.Added.{keeps, exposed, shell_faces, shell_facets, records_after}
use Rattle.mesh.specs.Adding.{conflicts, shell_at, with_site}
use Rattle.mesh.specs.Orientations.{Balanced}
use Rattle.mesh.specs.Records.{TetRecord, none, mesh_of, Whole}
use Rattle.mesh.specs.Surveys.{State, count}
use Rattle.mesh.specs.Tetrahedra.{Tet, shell, closed, dropped, after}
use Rattle.mesh.proofs.AnyPast.{InOrder, count_more}
use Rattle.mesh.proofs.Ranks.{length-passing, rank_low}
use Rattle.mesh.proofs.RecordLinks.{length-records_after, whole_records_after}
use Rattle.mesh.proofs.RecordReading.{shell_read, after_read}

-- there are at most as many records after an add as before, and one for each shell face
pub records_after_fit : (conflict : Tet → Bool) (rs : List TetRecord) (n : ℕ) → length (records_after conflict rs n) ≤ length rs + length (shell_faces conflict rs)
records_after_fit conflict rs n = omega (arith, length-records_after conflict n rs, rank_low (keeps conflict rs) (length rs), length-passing (exposed conflict rs) (4 * length rs))

module _ {R : Type 0} (L : Lift) (s : State R) (g : InOrder L s) (rs : List TetRecord) (w : Whole (count s) rs) (e : mesh_of rs ≡ s.mesh) (p : Spot) where
  balanced : Balanced (mesh_of rs)
  balanced = subst Balanced (sym e) g.balanced

  -- the shell that the neighbours tell is that of the state
  pub shell_of_state : shell_facets (conflicts L s p) rs ≡ shell_at L s p
  shell_of_state = sym (shell_read (conflicts L s p) (count s) rs w balanced) ∙ ap (λ (ts : List Tet). shell (dropped (conflicts L s p) ts)) e

  module _ (r : R) where
    -- the records after the add read as the mesh of the state with the site
    pub read_with_site : mesh_of (records_after (conflicts L s p) rs (count s)) ≡ (with_site L s p r).mesh
    read_with_site = after_read (conflicts L s p) (count s) rs w balanced ∙ ap (λ (ts : List Tet). after (conflicts L s p) ts (count s)) e

    -- and are whole
    pub whole_with_site : closed (shell_at L s p) ≡ true → length (records_after (conflicts L s p) rs (count s)) ≤ none
        → Whole (count (with_site L s p r)) (records_after (conflicts L s p) rs (count s))
    whole_with_site shut few = rw (count_more L s p r) (whole_records_after (conflicts L s p) (count s) rs w balanced g.four (rw e shut) few)
