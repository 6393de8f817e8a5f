-- The test of whole tables tells exactly the whole ones, and what whole tables have.
use Rattle.std.proofs.Common.{◌≡◌, ℕ, zero, suc, ◌<◌, ◌≤◌, Bool, true, false, cond, ◌&&◌, eqb, ltb, List, length, get_or, take, ℤ, pos, ◌<ℤ◌, Decides, sym, refl, ap, ◌∙◌, subst, inl, inr, arith, lit≤, length-take}
use lib.Signed.{lt_z}
use Rattle.std.proofs.lemmas.Int.{ints}
use Rattle.std.proofs.lemmas.Bool.{and_from, and_left, and_right, cases_lt, ltb-true, ltb-false}
use Rattle.std.proofs.lemmas.Bool.Decides.{nat_tests as tells, Decides-eqb, Decides-and, Decides-at, Decides-like, Decides-below_and, Decides-by_and}
use Rattle.std.specs.List.{All, enumerate_from, list_all}
use Rattle.std.proofs.lemmas.List.Elements.{All-get_or, All-from_get_or}
use Rattle.std.proofs.lemmas.List.FromFn.{get_or-enumerate_from, length-enumerate_from}
use Rattle.geometry.specs.Limits.{Light}
use Rattle.geometry.specs.Spots.{Spot, InLimits}
use Rattle.mesh.specs.declared.record.TetRecord.{TetRecord}
use Rattle.mesh.specs.Records.{Whole, every, row, tet_of, whole_at, whole}
use Rattle.mesh.specs.Spaces.{side_of}
use Rattle.mesh.specs.Surveys.{OnGrid}
use Rattle.mesh.proofs.WholeTests.{whole_tells}
use Rattle.survey.specs.declared.counts.Counts.{Counts}
use Rattle.survey.specs.declared.record.PointRecord.{PointRecord}
use Rattle.survey.specs.Corners.{corner, is_corner}
use Rattle.survey.specs.Tables.{AllInLimits, blank_point, spot_of, spots, used_points, used_tets}
use Rattle.survey.specs.Wholeness.{WholePoint, WholeTables, as_created, is_site, whole_point, whole_points, whole_tet, whole_tets, whole_tables}
use Rattle.survey.proofs.Ranges.{every_listed}

-- ---- points

same_spot : (p : PointRecord) (s : Spot) → Decides (eqb p.x s.x && eqb p.y s.y && eqb p.z s.z && eqb p.penalty s.penalty) (spot_of p ≡ s)
same_spot p s = (there, back)
  where
    there : (eqb p.x s.x && eqb p.y s.y && eqb p.z s.z && eqb p.penalty s.penalty) ≡ true → spot_of p ≡ s
    there h =
        let x : p.x ≡ s.x = grind (arith, tells) in
        let y : p.y ≡ s.y = grind (arith, tells) in
        let z : p.z ≡ s.z = grind (arith, tells) in
        let penalty : p.penalty ≡ s.penalty = grind (arith, tells) in
        simp (x, y, z, penalty)

    back : spot_of p ≡ s → (eqb p.x s.x && eqb p.y s.y && eqb p.z s.z && eqb p.penalty s.penalty) ≡ true
    back h =
        let x : p.x ≡ s.x = ap (λ (t : Spot). t.x) h in
        let y : p.y ≡ s.y = ap (λ (t : Spot). t.y) h in
        let z : p.z ≡ s.z = ap (λ (t : Spot). t.z) h in
        let penalty : p.penalty ≡ s.penalty = ap (λ (t : Spot). t.penalty) h in
        grind (arith, tells)

site_tells : (p : PointRecord) → Decides (is_site p) (OnGrid (spot_of p) × Light p.penalty)
site_tells p = (λ e. grind (arith, tells), λ h. grind (arith, tells))

-- one test below n, and another from n on
either : (k n : ℕ) {P Q : Type 0} (x y : Bool) → Decides x P → Decides y Q → Decides (cond (ltb k n) x y) ((k < n → P) × (n ≤ k → Q))
either k n {P} {Q} x y dx dy = go (ltb k n) refl
  where
    go : (b : Bool) → ltb k n ≡ b → Decides (cond b x y) ((k < n → P) × (n ≤ k → Q))
    go true e = (λ h. (λ _. dx.0 h, λ m. absurd (omega (arith, ltb-true k n e))), λ h. dx.1 (h.0 (ltb-true k n e)))
    go false e = (λ h. (λ m. absurd (omega (arith, ltb-false k n e)), λ _. dy.0 h), λ h. dy.1 (h.1 (ltb-false k n e)))

point_tells : (k : ℕ) (p : PointRecord) → Decides (whole_point k p) (WholePoint k p)
point_tells k p =
    Decides-like (whole_point k p)
    (λ h. record { mark = h.0; is_corner = h.1.0; placed = λ l. (h.1.1 l).0; light = λ l. (h.1.1 l).1 })
    (λ h. (h.mark, (h.is_corner, λ l. (h.placed l, h.light l))))
    (Decides-and (eqb p.mark 0) (cond (ltb k 4) (is_corner k p) (is_site p)) (Decides-eqb p.mark 0)
    (either k 4 (is_corner k p) (is_site p) (same_spot p (corner k)) (site_tells p)))

points_tell : (ps : List PointRecord) → Decides (whole_points ps) ((k : ℕ) → k < length ps → WholePoint k (get_or ps k blank_point))
points_tell ps =
    Decides-like (whole_points ps) there back
    (Decides-by_and (λ e. whole_point e.0 e.1) Told (list_all (λ e. whole_point e.0 e.1)) (λ e. point_tells e.0 e.1) refl (λ _ _. refl) numbered)
  where
    Told : ℕ × PointRecord → Type 0
    Told e = WholePoint e.0 e.1

    numbered : List (ℕ × PointRecord)
    numbered = enumerate_from 0 ps

    at : (k : ℕ) → k < length ps → get_or numbered k (0, blank_point) ≡ (k, get_or ps k blank_point)
    at k l = get_or-enumerate_from 0 ps k (0, blank_point) l ∙ ap (λ (n : ℕ). (n, get_or ps k blank_point)) (omega arith)

    there : All Told numbered → (k : ℕ) → k < length ps → WholePoint k (get_or ps k blank_point)
    there h k l = subst Told (at k l) (All-get_or Told numbered k (0, blank_point) (omega (arith, length-enumerate_from 0 ps)) h)

    back : ((k : ℕ) → k < length ps → WholePoint k (get_or ps k blank_point)) → All Told numbered
    back h = All-from_get_or Told numbered (0, blank_point) (λ k m. let l : k < length ps = omega (arith, length-enumerate_from 0 ps) in subst Told (sym (at k l)) (h k l))

corner_limits : (k : ℕ) → InLimits (corner k)
corner_limits zero = record { near = lit≤ tt; light = lit≤ tt }
corner_limits (suc zero) = record { near = lit≤ tt; light = lit≤ tt }
corner_limits (suc (suc zero)) = record { near = lit≤ tt; light = lit≤ tt }
corner_limits (suc (suc (suc zero))) = record { near = lit≤ tt; light = lit≤ tt }
corner_limits (suc (suc (suc (suc k)))) = record { near = lit≤ tt; light = lit≤ tt }

-- a whole point record gives a point
pub point_limits : (k : ℕ) (p : PointRecord) → WholePoint k p → InLimits (spot_of p)
point_limits k p h = elim (cases_lt k 4) [
  | inl l ↦ subst InLimits (sym (h.is_corner l)) (corner_limits k)
  | inr l ↦ (let g = h.placed l in record { near = omega (arith, g.0.1, g.1.1, g.2.1); light = h.light l })
]

pub points_limits : (ps : List PointRecord) → whole_points ps ≡ true → AllInLimits ps
points_limits ps e k l = point_limits k (get_or ps k blank_point) ((points_tell ps).0 e k l)

-- ---- tetrahedra

decides_positive : (z : ℤ) → Decides (lt_z (pos 0) z) (pos 0 <ℤ z)
decides_positive z = (λ e. grind (arith, ints), λ h. grind (arith, ints))

shuffle : (a b c d : Bool) → ((a && b) && (c && d)) ≡ ((a && c) && (b && d))
shuffle true true c d = refl
shuffle true false true d = refl
shuffle true false false d = refl
shuffle false b c d = refl

every_and : (p q : ℕ → Bool) (n : ℕ) → every (λ k. p k && q k) n ≡ (every p n && every q n)
every_and p q zero = refl
every_and p q (suc n) = ap (λ (z : Bool). (p n && q n) && z) (every_and p q n) ∙ shuffle (p n) (q n) (every p n) (every q n)

-- each of some records has positive Side over some spots
abbrev Positive : List Spot → List TetRecord → Type 0
Positive ss ts = (k : ℕ) → k < length ts → pos 0 <ℤ side_of ss (tet_of (row ts k))

tets_tell : (n : ℕ) (ss : List Spot) (ts : List TetRecord) → Decides (whole_tets n ss ts) (Whole n ts × Positive ss ts)
tets_tell n ss ts =
    let side : ℕ → ℤ = λ k. side_of ss (tet_of (row ts k)) in
    let test : ℕ → Bool = λ k. lt_z (pos 0) (side k) in
    Decides-at (whole_tets n ss ts) (whole n ts && every test (length ts)) (every_listed (whole_tet n ss ts) (length ts) ∙ every_and (whole_at n ts) test (length ts))
    (Decides-and (whole n ts) (every test (length ts)) (whole_tells n ts)
    (Decides-below_and test (λ k. pos 0 <ℤ side k) (every test) (λ k. decides_positive (side k)) refl (λ _. refl) (length ts)))

-- ---- tables

-- as many records are used as the counts say
pub used_length : {X : Type 0} (n : ℕ) (xs : List X) → n ≤ length xs → length (take n xs) ≡ n
used_length n xs l = omega (arith, length-take n xs)

created_tells : (c : Counts) (p r t : ℕ) → Decides (as_created c p r t) ((p ≡ c.point_records) × (r ≡ c.point_records) × (t ≡ c.tet_records))
created_tells c p r t = (λ e. grind (arith, tells), λ h. grind (arith, tells))

pub tables_tell : (c : Counts) (ps : List PointRecord) (readings : ℕ) (ts : List TetRecord) → Decides (whole_tables c ps readings ts) (WholeTables c ps readings ts)
tables_tell c ps readings ts =
    Decides-like (whole_tables c ps readings ts) there back
    (Decides-and (created && whole_points us) (whole_tets c.points (spots c ps) vs)
    (Decides-and created (whole_points us) (created_tells c (length ps) readings (length ts)) (points_tell us))
    (tets_tell c.points (spots c ps) vs))
  where
    us : List PointRecord
    us = used_points c ps

    vs : List TetRecord
    vs = used_tets c ts

    created : Bool
    created = as_created c (length ps) readings (length ts)

    Parts : Type 0
    Parts = (((length ps ≡ c.point_records) × (readings ≡ c.point_records) × (length ts ≡ c.tet_records)) × ((k : ℕ) → k < length us → WholePoint k (get_or us k blank_point))) × (Whole c.points vs × Positive (spots c ps) vs)

    there : Parts → WholeTables c ps readings ts
    there h =
        let lengths = h.0.0 in
        let points = used_length c.points ps (omega (arith, lengths.0)) in
        let tets = used_length c.tets ts (omega (arith, lengths.2)) in
        record {
          point_table = lengths.0;
          reading_table = lengths.1;
          tet_table = lengths.2;
          points = λ k l. h.0.1 k (omega arith);
          tets = h.1.0;
          positive = λ k l. h.1.1 k (omega arith);
        }

    back : WholeTables c ps readings ts → Parts
    back h =
        let points = used_length c.points ps (omega (arith, h.point_table)) in
        let tets = used_length c.tets ts (omega (arith, h.tet_table)) in
        (((h.point_table, h.reading_table, h.tet_table), λ k l. h.points k (omega arith)), (h.tets, λ k l. h.positive k (omega arith)))

-- ---- the test, step by step

module _ (c : Counts) (ps : List PointRecord) (readings : ℕ) (ts : List TetRecord) where
  -- whoever has the test's answer has both claims about it
  pub record Told (r : Bool) : Type 0 where
    pub is : r ≡ whole_tables c ps readings ts
    pub tells : Decides r (WholeTables c ps readings ts)

  pub told : (r : Bool) → r ≡ whole_tables c ps readings ts → Told r
  told r e = record { is = e; tells = Decides-at r (whole_tables c ps readings ts) e (tables_tell c ps readings ts) }

  abbrev created : Bool
  created = as_created c (length ps) readings (length ts)

  abbrev points : Bool
  points = whole_points (used_points c ps)

  abbrev tets : ℕ → Bool
  tets n = whole_tets n (spots c ps) (used_tets c ts)

  pub without_points : (r : Bool) → r ≡ false → false ≡ points → Told r
  without_points r h e = told r (h ∙ sym (and_left (created && points) (tets c.points) (and_right created points (sym e))))

  pub with_points : (r : Bool) → true ≡ created → true ≡ points → r ≡ tets (length (used_points c ps)) → Told r
  with_points r h k e =
      let lengths = (created_tells c (length ps) readings (length ts)).0 (sym h) in
      let used = used_length c.points ps (omega (arith, lengths.0)) in
      told r (e ∙ ap tets used ∙ ap (λ (b : Bool). b && tets c.points) (sym (and_from created points (sym h) (sym k))))
