-- The edges that faces share.
use Rattle.std.proofs.Common.{◌≡◌, ℕ, ◌+◌, ◌/◌, ◌%◌, ◌<◌, ◌≤◌, Bool, true, false, cond, not, ◌&&◌, ◌||◌, eqb, List, [], ◌∷◌, map, length, refl, arith}
use Rattle.std.proofs.lemmas.List.{length-map}
use Rattle.std.proofs.lemmas.List.Sums.{prefix_len-le-length}
use Rattle.mesh.specs.Added.{edge_on, face_of}
use Rattle.mesh.specs.Records.{row}
use Rattle.mesh.specs.Tetrahedra.{Triple}
use Rattle.mesh.specs.declared.record.TetRecord.{TetRecord}
use Rattle.survey.specs.Cavity.{face_number}
use Rattle.survey.specs.Edges.{has_edge, partner}
use Rattle.survey.specs.declared.cavity.shell_face.ShellFace.{ShellFace}

-- the record and the slot of a face, by its number
pub record_of : (f : ShellFace) → face_number f / 4 ≡ f.record
record_of f = let l : f.slot < 4 = f.in_record in omega arith

pub slot_of : (f : ShellFace) → face_number f % 4 ≡ f.slot
slot_of f = let l : f.slot < 4 = f.in_record in omega arith

-- the points of an edge are on the face of another record
pub edge_shared : (rs : List TetRecord) (face : ShellFace) (j p : ℕ) (t : Triple) → t ≡ face_of rs p → edge_on (row rs face.record) face.slot j t ≡ has_edge rs (face_number face) j p
unfolding has_edge
edge_shared rs face j p t e = rw (record_of face, slot_of face, e)

-- another face has the edge of face q that lacks point j of its record
abbrev pub beside : List TetRecord → (q j : ℕ) → ShellFace → Bool
beside rs q j f = not (eqb (face_number f) q) && has_edge rs q j (face_number f)

passed_over : (a b : Bool) (n : ℕ) → (not a && b) ≡ false → cond (a || not b) (1 + n) 0 ≡ n + 1
passed_over true b n e = omega arith
passed_over false false n e = omega arith
passed_over false true n e = absurd (cc)

stopped_at : (a b : Bool) (n : ℕ) → (not a && b) ≡ true → cond (a || not b) (1 + n) 0 ≡ 0
stopped_at false true n e = refl
stopped_at true b n e = absurd (cc)
stopped_at false false n e = absurd (cc)

module _ (rs : List TetRecord) (q j : ℕ) where
  pub partner_none : partner rs (map face_number []) q j ≡ 0
  unfolding partner
  partner_none = refl

  pub partner_here : (f : ShellFace) (ss : List ShellFace) → beside rs q j f ≡ true → partner rs (map face_number (f ∷ ss)) q j ≡ 0
  unfolding partner
  partner_here f ss e = stopped_at (eqb (face_number f) q) (has_edge rs q j (face_number f)) _ e

  pub partner_behind : (f : ShellFace) (ss : List ShellFace) → beside rs q j f ≡ false → partner rs (map face_number (f ∷ ss)) q j ≡ partner rs (map face_number ss) q j + 1
  unfolding partner
  partner_behind f ss e = passed_over (eqb (face_number f) q) (has_edge rs q j (face_number f)) _ e

  pub partner_within : (ss : List ShellFace) → partner rs (map face_number ss) q j ≤ length ss
  unfolding partner
  partner_within ss = let most = prefix_len-le-length (λ p. eqb p q || not (has_edge rs q j p)) (map face_number ss) in omega (arith, most, length-map ss face_number)
