-- The edges of the shell, and which of its faces have them.
use Rattle.std.specs.Prelude.{ℕ, ◌/◌, ◌%◌, Bool, not, ◌||◌, List, count_by, ◌==◌}
use Rattle.std.specs.List.{prefix_len}
use Rattle.algebra.specs.Lists.{all}
use Rattle.mesh.specs.Added.{edge_on, face_of}
use Rattle.mesh.specs.Records.{every, row}
use Rattle.mesh.specs.declared.record.TetRecord.{TetRecord}

-- face p has the edge of face q that lacks point j of its record
unfoldable pub has_edge : List TetRecord → (q j p : ℕ) → Bool
has_edge rs q j p = edge_on (row rs (q / 4)) (q % 4) j (face_of rs p)

-- each edge of face q is one of exactly two of some faces
unfoldable pub twice_at : List TetRecord → (qs : List ℕ) → (q : ℕ) → Bool
twice_at rs qs q = every (λ j. (j == q % 4) || count_by (has_edge rs q j) qs == 2) 4

-- each edge of some faces is one of exactly two of them
abbrev pub edges_twice : List TetRecord → (qs : List ℕ) → Bool
edges_twice rs qs = all (twice_at rs qs) qs

-- the place of the first of some faces, other than q, that has the edge of q that lacks point j
unfoldable pub partner : List TetRecord → (qs : List ℕ) → (q j : ℕ) → ℕ
partner rs qs q j = prefix_len (λ p. (p == q) || not (has_edge rs q j p)) qs
