-- The tables that creating leaves are whole, and hold a survey without sites.
use Rattle.std.proofs.Common.{◌≡◌, ℕ, zero, suc, ◌<◌, ◌≤◌, Bool, true, false, cond, List, [], ◌∷◌, map, length, get_or, take, drop, pos, ◌<ℤ◌, Some, None, Ok, sym, refl, ap, ◌∙◌, subst, arith, length-append, length-drop, length-set, length-take}
use Rattle.std.proofs.lemmas.List.{drop_all}
use Rattle.std.proofs.lemmas.Bool.Decides.{nat_tests}
use Rattle.geometry.specs.Sides.{side, det}
use Rattle.mesh.specs.declared.record.TetRecord.{TetRecord}
use Rattle.mesh.specs.Records.{Whole, big_record, mesh_of, row, tet_of}
use Rattle.mesh.specs.Spaces.{side_of}
use Rattle.mesh.specs.Surveys.{created}
use Rattle.mesh.proofs.WholeTests.{whole_big_record}
use Rattle.survey.specs.declared.counts.Counts.{Counts}
use Rattle.survey.specs.declared.open.Open.{Open}
use Rattle.survey.specs.declared.record.PointRecord.{PointRecord}
use Rattle.survey.specs.declared.refusal.Refusal.TheVariants.{PointTable, TetTable}
use Rattle.survey.specs.Corners.{corner_records}
use Rattle.survey.specs.Creates.{Begun, Created, fit_points, fit_tets, unfit, with_big, with_corners}
use Rattle.survey.specs.Tables.{Lent, blank_point, spot_of, used_points, used_tets}
use Rattle.survey.specs.Upheld.{Holds}
use Rattle.survey.specs.Wholeness.{WholePoint, WholeTables}

-- ---- the questions

-- the lengths of tables that are not refused
pub record Fits (points readings tets : ℕ) : Type 0 where
  pub five : 5 ≤ points
  pub alike : readings ≡ points
  pub one : 1 ≤ tets

pub fits_all : (p r t : ℕ) → unfit p r t ≡ None → Fits p r t
fits_all p r t e =
    let h = both (fit_points p r) (fit_tets t) e in
    let hp = h.0 in
    let ht = h.1 in
    record { five = grind (arith, nat_tests); alike = grind (arith, nat_tests); one = grind (arith, nat_tests) }
  where
    both : (a b : Bool) → cond a (cond b None (Some TetTable)) (Some PointTable) ≡ None → (a ≡ true) × (b ≡ true)
    both true true e = (refl, refl)
    both true false e = absurd (let z : ◌≡◌ {A = ℕ} 0 1 = cc in omega arith)
    both false b e = absurd (let z : ◌≡◌ {A = ℕ} 0 1 = cc in omega arith)

-- ---- the first records

corner_whole : (k : ℕ) → k < 4 → WholePoint k (get_or corner_records k blank_point)
corner_whole zero l = record { mark = refl; is_corner = λ _. refl; placed = λ m. absurd (omega arith); light = λ m. absurd (omega arith) }
corner_whole (suc zero) l = record { mark = refl; is_corner = λ _. refl; placed = λ m. absurd (omega arith); light = λ m. absurd (omega arith) }
corner_whole (suc (suc zero)) l = record { mark = refl; is_corner = λ _. refl; placed = λ m. absurd (omega arith); light = λ m. absurd (omega arith) }
corner_whole (suc (suc (suc zero))) l = record { mark = refl; is_corner = λ _. refl; placed = λ m. absurd (omega arith); light = λ m. absurd (omega arith) }
corner_whole (suc (suc (suc (suc k)))) l = absurd (omega arith)

big_positive : (k : ℕ) → k < 1 → pos 0 <ℤ side_of (map spot_of corner_records) (tet_of (row (big_record ∷ []) k))
unfolding side det
big_positive zero l = record { lt = tt }
big_positive (suc k) l = absurd (omega arith)

first_points : (c : Counts) (ps : List PointRecord) → c.points ≡ 4 → used_points c (with_corners ps) ≡ corner_records
first_points c ps e = ap (λ (n : ℕ). take n (with_corners ps)) e

first_tets : (n : ℕ) (ts : List TetRecord) → n ≡ 1 → 1 ≤ length ts → take n (with_big ts) ≡ big_record ∷ []
first_tets n [] e l = absurd (omega arith)
first_tets n (t ∷ ts) e l = ap (λ (m : ℕ). take m (big_record ∷ ts)) e

begun_whole : (c : Counts) (ps : List PointRecord) (readings : ℕ) (ts : List TetRecord) → Begun (length ps) (length ts) c → Fits (length ps) readings (length ts) → WholeTables c (with_corners ps) readings (with_big ts)
begun_whole c ps readings ts b f = record {
  point_table = omega (arith, length-append corner_records (drop 4 ps), length-drop 4 ps, b.point_records, f.five);
  reading_table = omega (arith, b.point_records, f.alike);
  tet_table = omega (arith, length-set ts 0 big_record, b.tet_records);
  points = λ k l. subst (λ (us : List PointRecord). WholePoint k (get_or us k blank_point)) (sym us) (corner_whole k (omega (arith, b.points)));
  tets = subst (λ (n : ℕ). Whole n (used_tets c (with_big ts))) (sym b.points) (subst (Whole 4) (sym vs) whole_big_record);
  positive = λ k l. subst (λ (ws : List PointRecord). pos 0 <ℤ side_of (map spot_of ws) (tet_of (row (used_tets c (with_big ts)) k))) (sym us)
      (subst (λ (ws : List TetRecord). pos 0 <ℤ side_of (map spot_of corner_records) (tet_of (row ws k))) (sym vs) (big_positive k (omega (arith, b.tets))));
}
  where
    us : used_points c (with_corners ps) ≡ corner_records
    us = first_points c ps b.points

    vs : used_tets c (with_big ts) ≡ big_record ∷ []
    vs = first_tets c.tets ts b.tets f.one

-- what creating leaves is whole for the survey that it makes
pub created_whole : {M G R : Type 0} (m : M) (g : G) (before after : Lent R) (o : Open M G)
    → Created m g before after (Ok o) → WholeTables o.counts after.points (length after.readings) after.tets
created_whole {M} {G} {R} m g before after o h =
    subst (λ (us : List PointRecord). WholeTables o.counts us (length after.readings) after.tets) (sym h.4)
    (subst (λ (xs : List R). WholeTables o.counts (with_corners before.points) (length xs) after.tets) (sym h.5)
    (subst (λ (vs : List TetRecord). WholeTables o.counts (with_corners before.points) (length before.readings) vs) (sym h.6)
    (begun_whole o.counts before.points (length before.readings) before.tets h.1 (fits_all (length before.points) (length before.readings) (length before.tets) h.0))))

pub created_held : {M G R : Type 0} (m : M) (g : G) (before after : Lent R) (o : Open M G)
    → Created m g before after (Ok o) → Holds o.counts after true created
created_held {M} {G} {R} m g before after o h =
    let c = o.counts in
    let begun = h.1 in
    let fit = fits_all (length before.points) (length before.readings) (length before.tets) h.0 in
    record {
      places = ap (λ (ps : List PointRecord). map spot_of (take c.points ps)) h.4 ∙ ap (map spot_of) (first_points c before.points begun.points);
      readings = ap (λ (n : ℕ). drop 4 (take n after.readings)) begun.points ∙ drop_all 4 (take 4 after.readings) (omega (arith, length-take 4 after.readings));
      mesh = ap (λ (ts : List TetRecord). mesh_of (take c.tets ts)) h.6 ∙ ap mesh_of (first_tets c.tets before.tets begun.tets fit.one);
      still_open = refl;
    }
