-- The ten questions of adding, joined from the six of the site and the four of the hole.
use Rattle.std.proofs.Common.{◌≡◌, ℕ, ◌+◌, ◌-◌, ◌<◌, Bool, true, false, List, [], ◌∷◌, ◌++◌, length, drop, set, replicate, Ok, Err, Result, sym, refl, ap, ◌∙◌, subst, arith}
use Rattle.std.proofs.lemmas.Bool.{ltb-true}
use Rattle.mesh.specs.Tetrahedra.{Tet}
use Rattle.mesh.specs.declared.record.TetRecord.{TetRecord}
use Rattle.survey.specs.declared.refusal.Refusal.{Refusal}
use Rattle.survey.specs.declared.refusal.Refusal.TheVariants.{PointTable, TetTable, NotWhole, OffGrid, Penalty, Reading, PointsFull, PlaceTaken, NoConflict, TetsFull, ShellOpen, Vanishes, Unowned}
use Rattle.geometry.specs.Lifts.{Lift}
use Rattle.geometry.specs.Spots.{Spot}
use Rattle.mesh.specs.Spaces.{conflicting}
use Rattle.survey.specs.declared.counts.Counts.{Counts}
use Rattle.survey.specs.declared.prepare.Prepared.{Prepared}
use Rattle.survey.specs.declared.record.PointRecord.{PointRecord}
use Rattle.survey.specs.Adds.{Accepted, Examined, Ready, conflict, questions, site_record}
use Rattle.survey.specs.Plans.{table_after, zero_record}
use Rattle.mesh.specs.Added.{records_after, shell_faces}
use Rattle.survey.specs.Prepares.{Filled, NamesLost, PreparedBy, hole_questions}
use Rattle.survey.specs.Tables.{Lent, spots, used_points, used_tets}
use Rattle.survey.specs.Wholeness.{WholeTables}
use Rattle.survey.proofs.WholeTables.{tables_tell}
use Rattle.survey.proofs.WholeUses.{used_points_length, used_tets_length}
use Rattle.survey.specs.Questions.{first_no, site_questions}
use Rattle.survey.specs.Refusals.{number_of}

-- a no among the first questions is the first of all
pub first_no_front : (xs ys : List Bool) → first_no xs < length xs → first_no (xs ++ ys) ≡ first_no xs
first_no_front [] ys h = absurd (omega arith)
first_no_front (true ∷ xs) ys h = ap (λ n. 1 + n) (first_no_front xs ys (omega arith))
first_no_front (false ∷ xs) ys h = refl

-- where the first questions are all answered yes, the others go on
pub first_no_back : (xs ys : List Bool) → first_no xs ≡ length xs → first_no (xs ++ ys) ≡ length xs + first_no ys
first_no_back [] ys h = omega arith
first_no_back (true ∷ xs) ys h = let e = first_no_back xs ys (omega arith) in omega arith
first_no_back (false ∷ xs) ys h = absurd (omega arith)

pub first_yes : (x : Bool) (xs : List Bool) → 0 < first_no (x ∷ xs) → x ≡ true
first_yes true xs h = refl
first_yes false xs h = absurd (omega arith)

-- no other refusal names a point
pub names_none : (conflict : Tet → Bool) (us : List TetRecord) (n : ℕ) (e : Refusal) → number_of e < 12 → NamesLost conflict us n e
names_none conflict us n PointTable h = tt
names_none conflict us n TetTable h = tt
names_none conflict us n NotWhole h = tt
names_none conflict us n OffGrid h = tt
names_none conflict us n Penalty h = tt
names_none conflict us n Reading h = tt
names_none conflict us n PointsFull h = tt
names_none conflict us n PlaceTaken h = tt
names_none conflict us n NoConflict h = tt
names_none conflict us n TetsFull h = tt
names_none conflict us n ShellOpen h = tt
names_none conflict us n (Vanishes q) h = absurd (omega arith)
names_none conflict us n Unowned h = tt

-- where six questions are answered yes, the first and the fifth are
six_yes : (a b c d e f : Bool) → first_no (a ∷ b ∷ c ∷ d ∷ e ∷ f ∷ []) ≡ 6 → (a ≡ true) × (e ≡ true)
six_yes true true true true true f h = (refl, refl)
six_yes true true true true false f h = absurd (omega arith)
six_yes true true true false e f h = absurd (omega arith)
six_yes true true false d e f h = absurd (omega arith)
six_yes true false c d e f h = absurd (omega arith)
six_yes false b c d e f h = absurd (omega arith)

module _ {R : Type 0} (L : Lift) (c : Counts) (t : Lent R) (s : Spot) (a : Bool) where
  abbrev readings : ℕ
  readings = length t.readings

  abbrev used : List TetRecord
  used = used_tets c t.tets

  -- which tetrahedra the site conflicts with
  abbrev drop_by : Tet → Bool
  drop_by = conflicting (spots c t.points) L s

  abbrev of_site : List Bool
  of_site = site_questions c t.points readings t.tets s a

  abbrev of_hole : List Bool
  of_hole = hole_questions drop_by used c.points c.tet_records

  abbrev of_all : List Bool
  of_all = questions L c t.points readings t.tets s a

  pub site_refused : (e : Refusal) → number_of e ≡ 3 + first_no of_site → first_no of_site < 6
      → (number_of e ≡ 3 + first_no of_all) × (first_no of_all < 10) × NamesLost drop_by used c.points e
  site_refused e num low =
      let front = first_no_front of_site of_hole low in
      (num ∙ ap (λ n. 3 + n) (sym front), omega (arith, front, low), names_none drop_by used c.points e (omega (arith, num, low)))

  module _ (sure : first_no of_site ≡ 6) where
    pub joined : first_no of_all ≡ 6 + first_no of_hole
    joined = first_no_back of_site of_hole sure

    pub whole : WholeTables c t.points readings t.tets
    whole = (tables_tell c t.points readings t.tets).0 (six_yes _ _ _ _ _ _ sure).0

    pub room_for_one : c.points < c.point_records
    room_for_one = ltb-true c.points c.point_records (six_yes _ _ _ _ _ _ sure).1

    pub ready : (p : Prepared) → Filled drop_by used c.points c.tet_records p → Ready L c t.points readings t.tets s a p
    ready p f = record {
      asked = joined ∙ ap (λ n. 6 + n) f.asked;
      point_place = omega (arith, room_for_one, whole.point_table);
      reading_place = omega (arith, room_for_one, whole.reading_table);
      room = room_for_one;
      table = whole.tet_table;
      used = used_tets_length c t.points readings t.tets whole;
      filled = f;
    }

    -- what was prepared over the used records, at a point with the spot of the site
    pub examined : (r : Result Prepared Refusal) (p : Spot) → p ≡ s
        → PreparedBy (conflicting (spots c t.points) L p) used (length (used_points c t.points)) c.tet_records r → Examined L c t s a r
    examined r p p_is h =
        done r
        (subst (λ (k : ℕ). PreparedBy drop_by used k c.tet_records r) (used_points_length c t.points readings t.tets whole)
        (subst (λ (q : Spot). PreparedBy (conflicting (spots c t.points) L q) used (length (used_points c t.points)) c.tet_records r) p_is h))
      where
        done : (r : Result Prepared Refusal) → PreparedBy drop_by used c.points c.tet_records r → Examined L c t s a r
        done (Ok p) f = ready p f
        done (Err e) h = (omega (arith, h.0, joined), omega (arith, joined, h.1), h.2)

-- the tables and counts that an add leaves when every answer was yes
module _ {R : Type 0} (L : Lift) (admits : R → Bool) (c : Counts) (t : Lent R) (s : Spot) (r : R) (p : Prepared)
    (h : Ready L c t.points (length t.readings) t.tets s (admits r) p)
  where
    abbrev after : List TetRecord
    after = records_after (conflict L admits c t.points t.readings t.tets s r) (used_tets c t.tets) c.points

    abbrev faces : ℕ
    faces = length (shell_faces (conflict L admits c t.points t.readings t.tets s r) (used_tets c t.tets))

    -- the table with some records written over its front, and cleared to just before another
    abbrev written : (rs : List TetRecord) (end : ℕ) → List TetRecord
    written rs end = rs ++ replicate (end - length rs) zero_record ++ drop end t.tets

    table_written : written p.records.now p.end ≡ table_after (conflict L admits c t.points t.readings t.tets s r) t.tets c.tets c.points
    table_written =
        ap (λ (rs : List TetRecord). written rs p.end) h.filled.records
        ∙ ap (written after) (h.filled.end ∙ ap (λ (u : ℕ). u + faces) h.used)

    pub accepted : (c' : Counts) (q : PointRecord) (ts' : List TetRecord) → q ≡ site_record s → ts' ≡ written p.records.now p.end → c'.points ≡ c.points + 1 → c'.tets ≡ length p.records.now
        → c'.point_records ≡ c.point_records → c'.tet_records ≡ c.tet_records
        → Accepted L admits c t.points t.readings t.tets s r c' (set t.points c.points q) (set t.readings c.points r) ts' c.points
    accepted c' q ts' put wrote one count same_points same_tets = record {
      asked = h.asked;
      number = refl;
      points = ap (set t.points c.points) put;
      readings = refl;
      tets = wrote ∙ table_written;
      point_count = one;
      tet_count = count ∙ ap (λ (rs : List TetRecord). length rs) h.filled.records;
      point_records = same_points;
      tet_records = same_tets;
    }
