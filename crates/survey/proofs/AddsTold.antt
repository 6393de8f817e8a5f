-- On whole tables that hold a state in order, an add answers as the rules allow.
use Rattle.std.proofs.Common.{◌≡◌, ℕ, zero, suc, ◌+◌, ◌<◌, ◌≤◌, Bool, true, false, ltb, List, [], ◌∷◌, ◌++◌, map, length, get_or, drop, Decides, sym, refl, ap, ◌∙◌, subst, arith}
use Rattle.std.specs.List.{AllByRecursion}
use Rattle.std.proofs.ByRecursion.{All-map}
use Rattle.std.proofs.lemmas.List.{length-map}
use Rattle.std.proofs.lemmas.Bool.{both_ways, le-leb, leb-true}
use Rattle.std.proofs.lemmas.Bool.Decides.{nat_tests, Decides-at, Decides-below_and, Decides-like, Decides-ltb, not_from_Decides}
use Rattle.geometry.specs.Lifts.{Lift}
use Rattle.geometry.specs.Limits.{Light}
use Rattle.geometry.specs.Spots.{Spot, corners}
use Rattle.algebra.specs.Lists.{some}
use Rattle.mesh.specs.Added.{shell_faces, facet_of}
use Rattle.mesh.specs.Adding.{Adds, Closed, Conflicting, Fitting, SamePlace, Staying, Untaken, added, conflicts, no_conflict, off_grid, place_taken, point_vanishes, points_full, shell_at, shell_open, tetrahedra_full, unadmitted, unpermitted, with_site}
use Rattle.mesh.specs.Orientations.{Balanced}
use Rattle.mesh.specs.Records.{Whole, every, mesh_of}
use Rattle.mesh.specs.Spaces.{conflicting}
use Rattle.mesh.specs.Surveys.{Grading, OnGrid, Site, State, accepted, count}
use Rattle.mesh.specs.Tetrahedra.{Tet, closed, stays}
use Rattle.mesh.specs.declared.record.TetRecord.{TetRecord}
use Rattle.mesh.proofs.AnyPast.{InOrder}
use Rattle.mesh.proofs.RecordsOfStates.{shell_of_state}
use Rattle.survey.specs.declared.counts.Counts.{Counts}
use Rattle.survey.specs.declared.record.PointRecord.{PointRecord}
use Rattle.survey.specs.declared.refusal.Refusal.{Refusal}
use Rattle.survey.specs.declared.refusal.Refusal.TheVariants.{PointTable, TetTable, NotWhole, OffGrid, Penalty, Reading, PointsFull, PlaceTaken, NoConflict, TetsFull, ShellOpen, Vanishes, Unowned}
use Rattle.survey.specs.Pasts.{refusal_told}
use Rattle.survey.specs.Places.{light, on_grid}
use Rattle.survey.specs.Prepares.{NamesLost, hole_questions, stays_in}
use Rattle.survey.specs.Questions.{first_no, site_questions}
use Rattle.survey.specs.Refusals.{number_of}
use Rattle.survey.specs.Searches.{same_place, untaken}
use Rattle.survey.proofs.Searching.{none_tell}
use Rattle.std.proofs.lemmas.List.{drop-map}
use Rattle.survey.specs.Tables.{Lent, spot_of, spots, used_points, used_tets}
use Rattle.survey.specs.Upheld.{Holds, sizes}
use Rattle.survey.specs.Wholeness.{WholeTables}
use Rattle.survey.proofs.HoleTold.{dropped_told, edges_told, stays_told}
use Rattle.survey.proofs.WholeTables.{tables_tell}
use Rattle.survey.proofs.WholeUses.{used_points_length}

-- ---- the first no

pub yes_before : (xs : List Bool) (k j : ℕ) → first_no xs ≡ k → j < k → get_or xs j false ≡ true
yes_before [] k j e l = absurd (omega arith)
yes_before (true ∷ xs) k zero e l = refl
yes_before (true ∷ xs) k (suc j) e l = yes_before xs (first_no xs) j refl (omega arith)
yes_before (false ∷ xs) k j e l = absurd (omega arith)

pub no_at : (xs : List Bool) (k : ℕ) → first_no xs ≡ k → k < length xs → get_or xs k true ≡ false
no_at [] k e l = absurd (omega arith)
no_at (true ∷ xs) zero e l = absurd (omega arith)
no_at (true ∷ xs) (suc k) e l = no_at xs k (omega arith) (omega arith)
no_at (false ∷ xs) zero e l = refl
no_at (false ∷ xs) (suc k) e l = absurd (omega arith)

-- ---- the site

grid_tells : (p : Spot) → Decides (on_grid p.x p.y p.z) (OnGrid p)
grid_tells p = (λ e. grind (arith, nat_tests), λ h. grind (arith, nat_tests))

light_tells : (n : ℕ) → Decides (light n) (Light n)
light_tells n = (leb-true n 1000000, λ h. grind (arith, nat_tests))

place_tells : (p : Spot) (r : PointRecord) → Decides (same_place p.x p.y p.z r) (SamePlace p (spot_of r))
place_tells p r = (λ e. (grind (arith, nat_tests), grind (arith, nat_tests), grind (arith, nat_tests)), λ h. let x = h.0 in let y = h.1 in let z = h.2 in grind (arith, nat_tests))

all_unmap : {X Y : Type 0} (P : Y → Type 0) (f : X → Y) (xs : List X) → AllByRecursion P (map f xs) → AllByRecursion (λ x. P (f x)) xs
all_unmap P f [] h = tt
all_unmap P f (x ∷ xs) h = (h.0, all_unmap P f xs h.1)

module _ {R : Type 0} (p : Spot) (us : List PointRecord) (sites : List (Site R)) (e : map spot_of us ≡ corners ++ map (λ a. a.place) sites) where
  abbrev places : List Spot
  places = map (λ a. a.place) sites

  abbrev Elsewhere : Spot → Type 0
  Elsewhere q = ¬ SamePlace p q

  same_places : map spot_of (drop 4 us) ≡ places
  same_places = sym (drop-map spot_of 4 us) ∙ ap (drop 4) e

  there : AllByRecursion (λ r. Elsewhere (spot_of r)) (drop 4 us) → AllByRecursion (λ a. Elsewhere a.place) sites
  there h = all_unmap Elsewhere (λ a. a.place) sites (subst (AllByRecursion Elsewhere) same_places (All-map Elsewhere spot_of (drop 4 us) h))

  back : AllByRecursion (λ a. Elsewhere a.place) sites → AllByRecursion (λ r. Elsewhere (spot_of r)) (drop 4 us)
  back h = all_unmap Elsewhere spot_of (drop 4 us) (subst (AllByRecursion Elsewhere) (sym same_places) (All-map Elsewhere (λ a. a.place) sites h))

  untaken_tells : Decides (untaken us p.x p.y p.z) (AllByRecursion (λ a. Elsewhere a.place) sites)
  untaken_tells = Decides-like (untaken us p.x p.y p.z) there back (none_tell (same_place p.x p.y p.z) (λ r. SamePlace p (spot_of r)) (place_tells p) (drop 4 us))

-- ---- the questions of an add

-- as many points are used as the state has
pub held_count : {R : Type 0} (c : Counts) (t : Lent R) (s : State R) (going : Bool) → WholeTables c t.points (length t.readings) t.tets → Holds c t going s → count s ≡ c.points
held_count c t s going w h = ap length (sym h.places) ∙ length-map (used_points c t.points) spot_of ∙ used_points_length c t.points (length t.readings) t.tets w

itself : (b : Bool) → Decides b (b ≡ true)
itself b = (λ e. e, λ e. e)

module _ {R : Type 0} (L : Lift) (G : Grading R) (c : Counts) (t : Lent R) (w : WholeTables c t.points (length t.readings) t.tets) (s : State R) (order : InOrder L s) (h : Holds c t true s) where
  abbrev used : List TetRecord
  used = used_tets c t.tets

  pub count_is : count s ≡ c.points
  count_is = held_count c t s true w h

  pub whole_used : Whole (count s) used
  whole_used = subst (λ (n : ℕ). Whole n used) (sym count_is) w.tets

  balanced : Balanced (mesh_of used)
  balanced = subst Balanced (sym h.mesh) order.balanced

  pub used_length : length used ≡ length s.mesh
  used_length = sym (length-map used _) ∙ ap length h.mesh

  module _ (p : Spot) (r : R) where
    abbrev conflict : Tet → Bool
    conflict = conflicts L s p

    pub conflict_is : conflicting (spots c t.points) L p ≡ conflict
    conflict_is = ap (λ (ss : List Spot). conflicting ss L p) h.places

    -- the ten questions, by the state's test for conflicts
    abbrev pub asked : List Bool
    asked = site_questions c t.points (length t.readings) t.tets p (G.admits r) ++ hole_questions conflict used c.points c.tet_records

    pub shell_length : length (shell_faces conflict used) ≡ length (shell_at L s p)
    shell_length = sym (length-map (shell_faces conflict used) (facet_of used)) ∙ ap length (shell_of_state L s order used whole_used h.mesh p)

    room_tells : Decides (ltb c.points c.point_records) (count s < c.point_records)
    room_tells = subst (λ (n : ℕ). Decides (ltb c.points c.point_records) (n < c.point_records)) (sym count_is) (Decides-ltb c.points c.point_records)

    taken_tells : Decides (untaken (used_points c t.points) p.x p.y p.z) (Untaken L G (sizes c) s p r)
    taken_tells = untaken_tells p (used_points c t.points) s.sites h.places

    conflict_tells : Decides (get_or asked 6 false) (Conflicting L G (sizes c) s p r)
    conflict_tells = Decides-at (get_or asked 6 false) (some conflict s.mesh) (dropped_told conflict used ∙ ap (some conflict) h.mesh) (itself _)

    fitting_tells : Decides (get_or asked 7 false) (Fitting L G (sizes c) s p r)
    fitting_tells = (
      λ e. let l = leb-true _ c.tet_records e in omega (arith, l, used_length, shell_length),
      λ l. le-leb _ c.tet_records (omega (arith, l, used_length, shell_length)),
    )

    closed_tells : Decides (get_or asked 8 false) (Closed L G (sizes c) s p r)
    closed_tells = Decides-at (get_or asked 8 false) (closed (shell_at L s p)) (edges_told used (shell_faces conflict used) ∙ ap closed (shell_of_state L s order used whole_used h.mesh p)) (itself _)

    stays_is : (q : ℕ) → stays_in conflict used q ≡ stays conflict s.mesh q
    stays_is q = stays_told conflict (count s) used whole_used balanced q ∙ ap (λ (ts : List Tet). stays conflict ts q) h.mesh

    staying_tells : Decides (get_or asked 9 false) ((q : ℕ) → q < count s → Staying L G (sizes c) s p r q)
    staying_tells = subst (λ (n : ℕ). Decides (get_or asked 9 false) ((q : ℕ) → q < n → Staying L G (sizes c) s p r q)) (sym count_is)
        (Decides-below_and (stays_in conflict used) (Staying L G (sizes c) s p r) (every (stays_in conflict used))
        (λ q. Decides-at (stays_in conflict used q) (stays conflict s.mesh q) (stays_is q) (itself _)) refl (λ _. refl) c.points)

    -- ---- answers

    -- what holds where the first no comes after a question
    gridded : 1 < first_no asked → OnGrid p
    gridded l = (grid_tells p).0 (yes_before asked _ 1 refl l)

    permitted : 2 < first_no asked → Light p.penalty
    permitted l = (light_tells p.penalty).0 (yes_before asked _ 2 refl l)

    admitted : 3 < first_no asked → G.admits r ≡ true
    admitted l = yes_before asked _ 3 refl l

    roomy : 4 < first_no asked → count s < c.point_records
    roomy l = room_tells.0 (yes_before asked _ 4 refl l)

    elsewhere : 5 < first_no asked → Untaken L G (sizes c) s p r
    elsewhere l = taken_tells.0 (yes_before asked _ 5 refl l)

    conflicting_one : 6 < first_no asked → Conflicting L G (sizes c) s p r
    conflicting_one l = conflict_tells.0 (yes_before asked _ 6 refl l)

    fitting : 7 < first_no asked → Fitting L G (sizes c) s p r
    fitting l = fitting_tells.0 (yes_before asked _ 7 refl l)

    shut_shell : 8 < first_no asked → Closed L G (sizes c) s p r
    shut_shell l = closed_tells.0 (yes_before asked _ 8 refl l)

    -- and where a question is the first to be answered no
    failing : {P : Type 0} (k : ℕ) → Decides (get_or asked k true) P → k < length asked → first_no asked ≡ k → P → ⊥
    failing k d l e = not_from_Decides _ d (no_at asked k e l)

    pub refused_as_told : (e : Refusal) → number_of e ≡ 3 + first_no asked → first_no asked < 10 → NamesLost conflict used c.points e → Adds L G (sizes c) s p r (refusal_told e) s
    refused_as_told PointTable num short named = absurd (omega (arith, num))
    refused_as_told TetTable num short named = absurd (omega (arith, num))
    refused_as_told NotWhole num short named = absurd (failing 0 (tables_tell c t.points (length t.readings) t.tets) (omega arith) (omega (arith, num)) w)
    refused_as_told OffGrid num short named = off_grid (failing 1 (grid_tells p) (omega arith) (omega (arith, num)))
    refused_as_told Penalty num short named = unpermitted (gridded (omega (arith, num))) (failing 2 (light_tells p.penalty) (omega arith) (omega (arith, num)))
    refused_as_told Reading num short named = unadmitted (gridded (omega (arith, num))) (permitted (omega (arith, num))) (failing 3 (itself (G.admits r)) (omega arith) (omega (arith, num)))
    refused_as_told PointsFull num short named =
        points_full (gridded (omega (arith, num))) (permitted (omega (arith, num))) (admitted (omega (arith, num))) (failing 4 room_tells (omega arith) (omega (arith, num)))
    refused_as_told PlaceTaken num short named =
        place_taken (gridded (omega (arith, num))) (permitted (omega (arith, num))) (admitted (omega (arith, num))) (roomy (omega (arith, num))) (failing 5 taken_tells (omega arith) (omega (arith, num)))
    refused_as_told NoConflict num short named =
        no_conflict (gridded (omega (arith, num))) (permitted (omega (arith, num))) (admitted (omega (arith, num))) (roomy (omega (arith, num))) (elsewhere (omega (arith, num)))
        (failing 6 conflict_tells (omega arith) (omega (arith, num)))
    refused_as_told TetsFull num short named =
        tetrahedra_full (gridded (omega (arith, num))) (permitted (omega (arith, num))) (admitted (omega (arith, num))) (roomy (omega (arith, num))) (elsewhere (omega (arith, num))) (conflicting_one (omega (arith, num)))
        (failing 7 fitting_tells (omega arith) (omega (arith, num)))
    refused_as_told ShellOpen num short named =
        shell_open (gridded (omega (arith, num))) (permitted (omega (arith, num))) (admitted (omega (arith, num))) (roomy (omega (arith, num))) (elsewhere (omega (arith, num))) (conflicting_one (omega (arith, num)))
        (fitting (omega (arith, num))) (failing 8 closed_tells (omega arith) (omega (arith, num)))
    refused_as_told (Vanishes q) num short named =
        point_vanishes (gridded (omega (arith, num))) (permitted (omega (arith, num))) (admitted (omega (arith, num))) (roomy (omega (arith, num))) (elsewhere (omega (arith, num))) (conflicting_one (omega (arith, num)))
        (fitting (omega (arith, num))) (shut_shell (omega (arith, num))) q (omega (arith, named.0, count_is)) (both_ways (stays conflict s.mesh q) (sym (stays_is q) ∙ named.1))
    refused_as_told Unowned num short named = absurd (omega (arith, num, short))

    module _ (yes : first_no asked ≡ 10) where
      pub accepted_as_told : Adds L G (sizes c) s p r (accepted (count s)) (with_site L s p r)
      accepted_as_told =
          added (gridded (omega (arith, yes))) (permitted (omega (arith, yes))) (admitted (omega (arith, yes))) (roomy (omega (arith, yes))) (elsewhere (omega (arith, yes))) (conflicting_one (omega (arith, yes)))
          (fitting (omega (arith, yes))) (shut_shell (omega (arith, yes))) (staying_tells.0 (yes_before asked 10 9 yes (omega arith)))

      pub placed_on_grid : OnGrid p
      placed_on_grid = gridded (omega (arith, yes))

      pub light_enough : Light p.penalty
      light_enough = permitted (omega (arith, yes))

      pub room_for_it : c.points < c.point_records
      room_for_it = omega (arith, roomy (omega (arith, yes)), count_is)

      pub fits : length used + length (shell_faces conflict used) ≤ c.tet_records
      fits = omega (arith, fitting (omega (arith, yes)), used_length, shell_length)

      pub shut : closed (shell_at L s p) ≡ true
      shut = shut_shell (omega (arith, yes))
