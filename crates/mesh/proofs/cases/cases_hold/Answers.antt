use Rattle.std.proofs.Common.{◌≡◌, ℕ, zero, suc, ◌<◌, Bool, true, [], ◌∷◌, get_or, refl, arith}
use Rattle.std.proofs.lemmas.Bool.{false≢true}
use Rattle.geometry.specs.Depths.{depth}
use Rattle.geometry.specs.PlainLift.{plain}
use Rattle.geometry.specs.Sides.{side, det}
use Rattle.geometry.specs.Spots.{bare}
use Rattle.geometry.specs.WeightedLift.{weighted}
use Rattle.grading.specs.declared.soil.Reading.{Reading}
use Rattle.mesh.specs.Adding.{conflicts, off_grid, unpermitted, unadmitted, points_full, place_taken, no_conflict, tetrahedra_full, shell_open, point_vanishes, added}
use Rattle.mesh.specs.Cases.{hundred, one_site, tet, OffGrid}
use Rattle.mesh.specs.Past.{Owner, adds, locates, states, nowhere, lowest_owner}
use Rattle.mesh.specs.Surveys.{created, OnGrid}
use Rattle.mesh.specs.Tetrahedra.{Tet, first, second, third, fourth, big, stays}
use Rattle.mesh.proofs.cases.cases_hold.Goals as goal

-- the corners stay where the big tetrahedron goes
stay : (conflict : Tet → Bool) → conflict big ≡ true → (q : ℕ) → q < 4 → stays conflict (big ∷ []) q ≡ true
stay conflict e zero l = rw e
stay conflict e (suc zero) l = rw e
stay conflict e (suc (suc zero)) l = rw e
stay conflict e (suc (suc (suc zero))) l = rw e
stay conflict e (suc (suc (suc (suc q)))) l = absurd (omega arith)

off : (x y z : ℕ) → ¬ OnGrid (bare x y z) → OffGrid x y z
off x y z h = adds {p = bare x y z} refl (off_grid h)

-- the last of the four tetrahedra owns (50,50,50), and each other one is left at a face
owned : Owner (one_site plain 0) (bare 50 50 50) (tet 0 1 2 4)
unfolding side depth det
owned first = refl
owned second = refl
owned third = refl
owned fourth = refl

others : (j : ℕ) → j < 3 → ¬ Owner (one_site plain 0) (bare 50 50 50) (get_or (one_site plain 0).mesh j big)
unfolding side depth det
others zero l o = false≢true (o second)
others (suc zero) l o = false≢true (o third)
others (suc (suc zero)) l o = false≢true (o fourth)
others (suc (suc (suc j))) l o = absurd (omega arith)

pub returns : goal.returns
unfolding side depth det
returns c = record {
  corner_side = refl;
  mesh = refl;
  units = refl;
  four_records = adds {p = hundred 0} refl (tetrahedra_full (omega arith) (omega arith) refl (omega arith) tt refl (omega arith));
  five_records = adds {p = hundred 0} refl (added (omega arith) (omega arith) refl (omega arith) tt refl (omega arith) refl (stay (conflicts plain (created {R = Reading}) (hundred 0)) refl));
  again = λ w l. adds {p = hundred w} refl (place_taken (omega arith) l refl (omega arith) (λ h. h.0 (refl, refl, refl)));
  lowest = omega arith;
  highest = omega arith;
  x_below = off 0 100 100 (omega arith);
  y_below = off 100 0 100 (omega arith);
  z_below = off 100 100 0 (omega arith);
  x_above = off 801 100 100 (omega arith);
  y_above = off 100 801 100 (omega arith);
  z_above = off 100 100 801 (omega arith);
  light_enough = adds {p = hundred 737999} refl (added (omega arith) (omega arith) refl (omega arith) tt refl (omega arith) refl (stay (conflicts weighted (created {R = Reading}) (hundred 737999)) refl));
  too_heavy = adds {p = hundred 738000} refl (no_conflict (omega arith) (omega arith) refl (omega arith) tt false≢true);
  vanishing = adds {p = bare 101 100 100} refl (point_vanishes (omega arith) (omega arith) refl (omega arith) (omega arith, tt) refl (omega arith) refl 4 (omega arith) false≢true);
  stretches = refl;
  tie = refl;
  penalty_above = adds {p = hundred 1000001} refl (unpermitted (omega arith) (omega arith));
  no_room = adds {p = bare 101 100 100} refl (points_full (omega arith) (omega arith) refl (omega arith));
  grid_first = adds refl (off_grid (omega arith));
  then_penalty = adds refl (unpermitted (omega arith) (omega arith));
  then_reading = adds refl (unadmitted (omega arith) (omega arith) false≢true);
  then_room = adds refl (points_full (omega arith) (omega arith) refl (omega arith));
  then_place = adds refl (place_taken (omega arith) (omega arith) refl (omega arith) (λ h. h.0 (refl, refl, refl)));
  then_conflict = adds refl (no_conflict (omega arith) (omega arith) refl (omega arith) (omega arith, (omega arith, (omega arith, tt))) false≢true);
  then_fitting = adds refl (tetrahedra_full (omega arith) (omega arith) refl (omega arith) (omega arith, (omega arith, (omega arith, tt))) refl (omega arith));
  then_edges = adds refl (shell_open (omega arith) (omega arith) refl (omega arith) (omega arith, (omega arith, (omega arith, tt))) refl (omega arith) false≢true);
  located = locates {x = 50} {y = 50} {z = 50} refl (lowest_owner (omega arith) 3 (omega arith) owned others);
  located_off_grid = locates {x = 50} {y = 50} {z = 801} refl (nowhere (omega arith));
  zeros = refl;
  figures = states refl;
  first_records = refl;
  second_records = refl;
}
