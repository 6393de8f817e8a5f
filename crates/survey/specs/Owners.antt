-- Which tetrahedra own a place, as a test.
use Rattle.std.specs.Prelude.{ℕ, Bool, List, [], ◌∷◌, map, length, Option}
use Rattle.std.specs.List.{find, list_all, range_with_len}
use Rattle.geometry.specs.Spots.{Spot}
use Rattle.mesh.specs.declared.record.TetRecord.{TetRecord}
use Rattle.mesh.specs.Owners.{leads, moved, side_with}
use Rattle.mesh.specs.Records.{row, slot_at, tet_of}
use Rattle.mesh.specs.Tetrahedra.{Tet, Slot}

-- a place, and the places one step further along x, along y and along z
abbrev pub steps : Spot → List Spot
steps g = g ∷ moved g 1 0 0 ∷ moved g 0 1 0 ∷ moved g 0 0 1 ∷ []

-- Put in turn for the point at a slot, the first of some places that does not make Side zero makes it positive. Where the place
-- itself makes it zero, Side one step further is the change of Side.
abbrev pub within : List Spot → (gs : List Spot) → Tet → Slot → Bool
within ps gs t s = leads (map (side_with ps t s) gs)

-- this is so at each slot
unfoldable pub owned : List Spot → (gs : List Spot) → Tet → Bool
owned ps gs t = list_all (λ i. within ps gs t (slot_at i)) (range_with_len 0 4)

-- the number of the first of some records whose tetrahedron passes
abbrev pub first_owned : List Spot → (gs : List Spot) → List TetRecord → Option ℕ
first_owned ps gs ts = find (λ k. owned ps gs (tet_of (row ts k))) (range_with_len 0 (length ts))
