-- What adding a site may answer, and the state that it leaves.
use Rattle.std.specs.Prelude.{◌≡◌, ℕ, ◌+◌, ◌<◌, ◌≤◌, Bool, true, List, [], ◌∷◌, ◌++◌, length}
use Rattle.std.specs.List.{AllByRecursion}
use Rattle.algebra.specs.Lists.{some}
use Rattle.geometry.specs.Lifts.{Lift}
use Rattle.geometry.specs.Limits.{Light}
use Rattle.geometry.specs.Spots.{Spot}
use Rattle.mesh.specs.Spaces.{conflicting}
use Rattle.mesh.specs.Surveys.{Grading, Tables, Answer, accepted, refused, refused_over, State, points, count, OnGrid}
use Rattle.mesh.specs.Tetrahedra.{Tet, Facet, shell, closed, dropped, after, stays}

abbrev pub SamePlace : Spot → Spot → Type 0
SamePlace p q = (p.x ≡ q.x) × (p.y ≡ q.y) × (p.z ≡ q.z)

module _ {R : Type 0} (L : Lift) (s : State R) where
  -- the tetrahedra with which a new point conflicts
  abbrev pub conflicts : Spot → Tet → Bool
  conflicts p = conflicting (points s) L p

  -- the shell faces: those that only one of these has
  abbrev pub shell_at : Spot → List Facet
  shell_at p = shell (dropped (conflicts p) s.mesh)

  -- the state with the site, which has the next free number: the shell faces joined to it take the place of what it conflicts with
  abbrev pub with_site : Spot → R → State R
  with_site p r = record { sites = s.sites ++ record { place = p; reading = r } ∷ []; mesh = after (conflicts p) s.mesh (count s); is_open = true }

module _ {R : Type 0} (L : Lift) (G : Grading R) (tables : Tables) (s : State R) (p : Spot) (r : R) where
  -- ---- the questions, after that for the grid

  abbrev pub Permitted : Type 0
  Permitted = Light p.penalty

  abbrev pub Admitted : Type 0
  Admitted = G.admits r ≡ true

  -- a point record is unused
  abbrev pub Room : Type 0
  Room = count s < tables.points

  abbrev pub Untaken : Type 0
  Untaken = AllByRecursion (λ a. ¬ SamePlace p a.place) s.sites

  abbrev pub Conflicting : Type 0
  Conflicting = some (conflicts L s p) s.mesh ≡ true

  -- the tetrahedra there are, and one for each shell face, fit the table
  abbrev pub Fitting : Type 0
  Fitting = length s.mesh + length (shell_at L s p) ≤ tables.tetrahedra

  -- at each edge of a shell face exactly two of these faces meet
  abbrev pub Closed : Type 0
  Closed = closed (shell_at L s p) ≡ true

  -- a kept tetrahedron or a shell face has point q
  abbrev pub Staying : (q : ℕ) → Type 0
  Staying q = stays (conflicts L s p) s.mesh q ≡ true

  -- They are asked in turn. The first no is the answer and leaves the state as it was; of several points that would not
  -- stay, any may be named.
  pub data Adds : Answer → State R → Type 0 where
    off_grid : ¬ OnGrid p → Adds (refused 4) s
    unpermitted : OnGrid p → ¬ Permitted → Adds (refused 5) s
    unadmitted : OnGrid p → Permitted → ¬ Admitted → Adds (refused 6) s
    points_full : OnGrid p → Permitted → Admitted → ¬ Room → Adds (refused 7) s
    place_taken : OnGrid p → Permitted → Admitted → Room → ¬ Untaken → Adds (refused 8) s
    no_conflict : OnGrid p → Permitted → Admitted → Room → Untaken → ¬ Conflicting → Adds (refused 9) s
    tetrahedra_full : OnGrid p → Permitted → Admitted → Room → Untaken → Conflicting → ¬ Fitting → Adds (refused 10) s
    shell_open : OnGrid p → Permitted → Admitted → Room → Untaken → Conflicting → Fitting → ¬ Closed → Adds (refused 11) s
    point_vanishes : OnGrid p → Permitted → Admitted → Room → Untaken → Conflicting → Fitting → Closed → (q : ℕ) → q < count s → ¬ Staying q → Adds (refused_over 12 q) s
    added : OnGrid p → Permitted → Admitted → Room → Untaken → Conflicting → Fitting → Closed → ((q : ℕ) → q < count s → Staying q) → Adds (accepted (count s)) (with_site L s p r)
