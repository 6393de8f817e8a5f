-- Surveys as their calls tell them: the sites that were accepted, the mesh, and whether it is sealed. No table, neighbour
-- number or mark is spoken of.
use Rattle.std.specs.Prelude.{ℕ, ◌-◌, ◌<◌, ◌≤◌, Bool, true, false, cond, List, [], ◌∷◌, ◌++◌, map, length, ℤ, None, Option, nat_lt}
use Rattle.std.specs.List.{slice_get}
use Rattle.geometry.specs.Spots.{Spot, corners}
use Rattle.mesh.specs.Tetrahedra.{Tet, big}

-- ---- what a survey is given

-- what a grading of readings of a kind R means, as far as a survey looks at it: which it admits, and the class of four
pub record Grading (R : Type 0) : Type 0 where
  pub admits : R → Bool
  pub class : R → R → R → R → ℕ

-- each class is from 0 to 7
abbrev pub Eightfold : {R : Type 0} → Grading R → Type 0
Eightfold {R} G = (a b c d : R) → G.class a b c d < 8

-- how many records of each kind the caller's tables have
pub record Tables : Type 0 where
  pub points : ℕ
  pub tetrahedra : ℕ

-- ---- calls and answers

-- what an open survey may be asked, to add a site or to seal, and what a sealed one may be asked, to locate a place or to state its figures
pub data Call (R : Type 0) : Type 0 where
  add : (place : Spot) (reading : R) → Call R
  seal : Call R
  locate : (x y z : ℕ) → Call R
  state : Call R

-- a line of a statement: how many tetrahedra it counts, and their Sides added up
pub record Line : Type 0 where
  pub tetrahedra : ℕ
  pub units : ℤ

-- A refusal has its number; one over a point names it too.
pub data Answer : Type 0 where
  accepted : (site : ℕ) → Answer
  refused : (number : ℕ) → Answer
  refused_over : (number : ℕ) (point : ℕ) → Answer
  sealed : Answer
  found : (tetrahedron : ℕ) → Answer
  stated : (lines : List Line) (margin : ℤ) → Answer

-- ---- states

-- a place with its penalty, and the reading that was taken there
pub record Site (R : Type 0) : Type 0 where
  pub place : Spot
  pub reading : R

-- the accepted sites as they were brought, in order; the mesh; and whether the survey is still open
pub record State (R : Type 0) : Type 0 where
  pub sites : List (Site R)
  pub mesh : List Tet
  pub is_open : Bool

-- a survey is created with the big tetrahedron alone
abbrev pub created : {R : Type 0} → State R
created = record { sites = []; mesh = big ∷ []; is_open = true }

module _ {R : Type 0} (s : State R) where
  -- the corners, and the sites, which are numbered from 4
  abbrev pub points : List Spot
  points = corners ++ map (λ a. a.place) s.sites

  abbrev pub count : ℕ
  count = length points

  -- the reading of a numbered site, and none of a corner
  abbrev pub reading : ℕ → Option R
  reading q = cond (nat_lt q 4) None (slice_get (map (λ a. a.reading) s.sites) (q - 4))

  abbrev pub after_seal : State R
  after_seal = record { sites = s.sites; mesh = s.mesh; is_open = false }

-- ---- places

-- each coordinate is from 1 to 800
abbrev pub OnGrid : Spot → Type 0
OnGrid p = ranged p.x × ranged p.y × ranged p.z
  where
    ranged : ℕ → Type 0
    ranged c = (1 ≤ c) × (c ≤ 800)
