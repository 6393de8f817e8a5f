-- A survey with a past: its calls are steps that the rules allow, and its tables hold the state to which they lead.
use Rattle.std.proofs.Common.{◌≡◌, ℕ, zero, suc, ◌+◌, ◌-◌, ◌<◌, Bool, true, false, ltb, List, [], ◌∷◌, ◌++◌, map, length, take, drop, set, None, Ok, Err, Result, sym, refl, ap, ◌∙◌, subst, arith}
use Rattle.std.specs.List.{AllByRecursion, slice_get}
use Rattle.std.proofs.ByRecursion.{All-weaker}
use Rattle.std.proofs.lemmas.Bool.{cond-false, le-ltb}
use Rattle.geometry.specs.Lifts.{Lift}
use Rattle.geometry.specs.Spots.{Spot}
use Rattle.mesh.specs.Added.{records_after}
use Rattle.mesh.specs.Adding.{Adds, conflicts, with_site}
use Rattle.mesh.specs.Orientations.{Balanced, Under, WellFormed}
use Rattle.mesh.specs.Past.{Allowed, Step, adds as step_adds, locates as step_locates, seals as step_seals, states as step_states}
use Rattle.mesh.specs.Records.{mesh_of}
use Rattle.mesh.specs.Soundness.{SoundMesh}
use Rattle.mesh.specs.Statements.{lines, margin}
use Rattle.mesh.specs.Surveys.{Answer, Call, Eightfold, Grading, State, Tables, accepted, add, after_seal, count, created, locate, points as points_of, reading, seal, sealed, state, stated}
use Rattle.mesh.specs.Tetrahedra.{Tet}
use Rattle.mesh.proofs.AnyPast.{InOrder, past_adds_up, past_keeps_order, past_sound}
use Rattle.mesh.proofs.NeverBroken.{past_unbroken}
use Rattle.survey.specs.declared.counts.Counts.{Counts}
use Rattle.survey.specs.declared.refusal.Refusal.{Refusal}
use Rattle.survey.specs.declared.statement.Statement.{Statement}
use Rattle.survey.specs.Adds.{Accepted, AddsTo, Refused, site_record}
use Rattle.survey.specs.Locates.{Located, located_answer}
use Rattle.survey.specs.Pasts.{Ran, Survey, add_told, adds, closed, counts_in, creates, grading_in, is_open, locates, measure_in, opened, refusal_told, seals, state_told, states}
use Rattle.survey.specs.Plans.{table_after}
use Rattle.survey.specs.Prepares.{NamesLost, hole_questions}
use Rattle.survey.specs.Questions.{first_no, site_questions}
use Rattle.survey.specs.States.{Stated, as_told, figures, meaning, reading_at}
use Rattle.survey.specs.Tables.{Lent, spots, used_tets}
use Rattle.survey.specs.Upheld.{EveryPast, Holds, Kept, Upheld, sizes}
use Rattle.survey.specs.Wholeness.{WholeTables}
use Rattle.survey.proofs.AddsTold.{accepted_as_told, asked, conflict_is, count_is, held_count, refused_as_told}
use Rattle.survey.proofs.Beginning.{created_held, created_whole}
use Rattle.survey.proofs.LocatesTold.{located_told}
use Rattle.survey.proofs.SoundTables.{sound_tables}
use Rattle.survey.proofs.Standing.{next_held, next_whole}
use Rattle.survey.proofs.ToldFigures.{lines_told, margin_told}

-- ---- readings

nth_take : {X : Type 0} (xs : List X) (n k : ℕ) → k < n → slice_get (take n xs) k ≡ slice_get xs k
nth_take xs zero k l = absurd (omega arith)
nth_take [] (suc n) k l = refl
nth_take (x ∷ xs) (suc n) zero l = refl
nth_take (x ∷ xs) (suc n) (suc k) l = nth_take xs n k (omega arith)

nth_drop : {X : Type 0} (xs : List X) (j : ℕ) → slice_get (drop 4 xs) j ≡ slice_get xs (suc (suc (suc (suc j))))
nth_drop [] j = refl
nth_drop (a ∷ []) j = refl
nth_drop (a ∷ b ∷ []) j = refl
nth_drop (a ∷ b ∷ c ∷ []) j = refl
nth_drop (a ∷ b ∷ c ∷ d ∷ xs) j = refl

-- ---- what a survey and its tables stand for

module _ {R : Type 0} (L : Lift) (G : Grading R) where
  pub record Stands (past : List (Call R × Answer)) (going : Bool) (c : Counts) (t : Lent R) : Type 0 where
    pub state : State R
    pub allowed : Allowed L G (sizes c) past state
    pub held : Holds c t going state
    pub whole : WholeTables c t.points (length t.readings) t.tets

  module _ (past : List (Call R × Answer)) (c : Counts) (t : Lent R) where
    -- ---- adding

    module _ (h : Stands past true c t) (p : Spot) (r : R) (c' : Counts) (t' : Lent R) where
      order : InOrder L h.state
      order = past_keeps_order L G (sizes c) past h.state h.allowed

      abbrev questions_told : List Bool
      questions_told = asked L G c t h.whole h.state order h.held p r

      same : (k : Tet → Bool) → List Bool
      same k = site_questions c t.points (length t.readings) t.tets p (G.admits r) ++ hole_questions k (used_tets c t.tets) c.points c.tet_records

      refused_stands : (e : Refusal) → Refused L G.admits c t.points t.readings t.tets p r c' t'.points t'.readings t'.tets e → Stands ((add p r, refusal_told e) ∷ past) true c' t'
      unfolding same
      refused_stands e f =
          let k = conflict_is L G c t h.whole h.state order h.held p r in
          let step : Adds L G (sizes c) h.state p r (refusal_told e) h.state =
          refused_as_told L G c t h.whole h.state order h.held p r e (f.asked ∙ ap (λ (k : Tet → Bool). 3 + first_no (same k)) k) (subst (λ (k : Tet → Bool). first_no (same k) < 10) k f.short) (subst (λ (k : Tet → Bool). NamesLost k (used_tets c t.tets) c.points e) k f.named) in
          let still : Stands ((add p r, refusal_told e) ∷ past) true c t = record { state = h.state; allowed = (h.state, h.allowed, step_adds h.held.still_open step); held = h.held; whole = h.whole } in
          subst (λ (d : Counts). Stands ((add p r, refusal_told e) ∷ past) true d t') (sym f.counts)
          (subst (λ (u : Lent R). Stands ((add p r, refusal_told e) ∷ past) true c u) (λ i. record { points = sym f.points i; readings = sym f.readings i; tets = sym f.tets i }) still)

      accepted_stands : (n : ℕ) → Accepted L G.admits c t.points t.readings t.tets p r c' t'.points t'.readings t'.tets n → Stands ((add p r, accepted n) ∷ past) true c' t'
      unfolding same
      accepted_stands n f =
          let k = conflict_is L G c t h.whole h.state order h.held p r in
          let yes : first_no questions_told ≡ 10 = ap (λ (k : Tet → Bool). first_no (same k)) (sym k) ∙ f.asked in
          let next = with_site L h.state p r in
          let numbered : count h.state ≡ n = count_is L G c t h.whole h.state order h.held ∙ sym f.number in
          let step : Step L G (sizes c) h.state (add p r) (accepted n) next =
          subst (λ (m : ℕ). Step L G (sizes c) h.state (add p r) (accepted m) next) numbered (step_adds h.held.still_open (accepted_as_told L G c t h.whole h.state order h.held p r yes)) in
          let allowed : Allowed L G (sizes c) ((add p r, accepted n) ∷ past) next = (h.state, h.allowed, step) in
          let alike : sizes c ≡ sizes c' = λ i. record { points = sym f.point_records i; tetrahedra = sym f.tet_records i } in
          let points_are = f.points ∙ ap (λ (m : ℕ). set t.points m (site_record p)) f.number in
          let readings_are = f.readings ∙ ap (λ (m : ℕ). set t.readings m r) f.number in
          let tets_are = f.tets ∙ ap (λ (k : Tet → Bool). table_after k t.tets c.tets n) k ∙ ap (table_after (conflicts L h.state p) t.tets c.tets) f.number in
          let point_count = f.point_count ∙ ap (λ (m : ℕ). m + 1) f.number in
          let tet_count = f.tet_count ∙ ap (λ (k : Tet → Bool). length (records_after k (used_tets c t.tets) n)) k ∙ ap (λ (m : ℕ). length (records_after (conflicts L h.state p) (used_tets c t.tets) m)) f.number in
          record {
            state = next;
            allowed = subst (λ (z : Tables). Allowed L G z ((add p r, accepted n) ∷ past) next) alike allowed;
            held = next_held L G c t h.whole h.state order h.held p r yes c' t' points_are readings_are tets_are point_count tet_count f.point_records f.tet_records;
            whole =
                next_whole L G c t h.whole h.state order h.held p r yes c' t' points_are readings_are tets_are point_count tet_count f.point_records f.tet_records
                (past_sound L G (sizes c) ((add p r, accepted n) ∷ past) next allowed);
          }

      pub added_stands : (a : Result ℕ Refusal) → AddsTo L G.admits c t p r c' t' a → Stands ((add p r, add_told a) ∷ past) true c' t'
      added_stands (Ok n) f = accepted_stands n f
      added_stands (Err e) f = refused_stands e f

    -- ---- sealing

    pub sealed_stands : Stands past true c t → Stands ((seal, sealed) ∷ past) false c t
    sealed_stands h = record {
      state = after_seal h.state;
      allowed = (h.state, h.allowed, step_seals h.held.still_open);
      held = record { places = h.held.places; readings = h.held.readings; mesh = h.held.mesh; still_open = refl };
      whole = h.whole;
    }

    -- ---- locating and stating

    module _ (h : Stands past false c t) where
      pub located_stands : (x y z : ℕ) (a : Result ℕ Refusal) → Located c t x y z a → Stands ((locate x y z, located_answer a) ∷ past) false c t
      located_stands x y z a g = record {
        state = h.state;
        allowed = (h.state, h.allowed, step_locates h.held.still_open (located_told h.state c t x y z h.held.places h.held.mesh h.whole g));
        held = h.held;
        whole = h.whole;
      }

      order_closed : InOrder L h.state
      order_closed = past_keeps_order L G (sizes c) past h.state h.allowed

      agree : (q : ℕ) → q < count h.state → reading_at t.readings q ≡ reading h.state q
      agree zero l = refl
      agree (suc zero) l = refl
      agree (suc (suc zero)) l = refl
      agree (suc (suc (suc zero))) l = refl
      agree (suc (suc (suc (suc j)))) l =
          let q = suc (suc (suc (suc j))) in
          let low : q < c.points = omega (arith, l, held_count c t h.state false h.whole h.held) in
          cond-false (ltb q 4) None (slice_get t.readings q) (le-ltb q 4 (omega arith))
          ∙ sym (nth_take t.readings c.points q low)
          ∙ sym (nth_drop (take c.points t.readings) j)
          ∙ ap (λ (rs : List R). slice_get rs j) h.held.readings
          ∙ ap (slice_get (map (λ a. a.reading) h.state.sites)) (let down : j ≡ q - 4 = omega arith in down)
          ∙ sym (cond-false (ltb q 4) None (slice_get (map (λ a. a.reading) h.state.sites) (q - 4)) (le-ltb q 4 (omega arith)))

      under : AllByRecursion (Under (count h.state)) h.state.mesh
      under = All-weaker (WellFormed (count h.state)) (Under (count h.state)) (λ u f. f.under) h.state.mesh order_closed.formed

      -- the figures of the tables are those of the state
      told : (f : Statement) → f ≡ figures G (spots c t.points) t.readings (mesh_of (used_tets c t.tets))
          → stated (map as_told f.lines) f.margin ≡ stated (lines G h.state) (margin h.state)
      told f e =
          let here : f ≡ figures G (points_of h.state) t.readings h.state.mesh =
          e ∙ ap (λ (ss : List Spot). figures G ss t.readings (mesh_of (used_tets c t.tets))) h.held.places ∙ ap (figures G (points_of h.state) t.readings) h.held.mesh in
          ap (λ (f : Statement). stated (map as_told f.lines) f.margin) here
          ∙ (λ i. stated (lines_told G h.state t.readings agree under i) (margin_told G h.state t.readings agree under i))

      pub stated_stands : (f f' : Statement) (a : Result (Unit {0}) Refusal) → Stated G c t f f' a → Stands ((state, state_told f' a) ∷ past) false c t
      stated_stands f f' (Err e) g = absurd (g.1 h.whole)
      stated_stands f f' (Ok u) g = record {
        state = h.state;
        allowed = (h.state, h.allowed, subst (λ (a : Answer). Step L G (sizes c) h.state state a h.state) (sym (told f' g.1)) (step_states h.held.still_open));
        held = h.held;
        whole = h.whole;
      }

  -- ---- what is promised

  pub stands_upheld : Eightfold G → (past : List (Call R × Answer)) (going : Bool) (c : Counts) (t : Lent R) → Stands past going c t → Upheld L G past going c t
  stands_upheld eight past going c t h =
      let ordered = past_keeps_order L G (sizes c) past h.state h.allowed in
      let whole_mesh : SoundMesh L (spots c t.points) (mesh_of (used_tets c t.tets)) =
      subst (λ (ss : List Spot). SoundMesh L ss (mesh_of (used_tets c t.tets))) (sym h.held.places)
      (subst (SoundMesh L (points_of h.state)) (sym h.held.mesh) (past_sound L G (sizes c) past h.state h.allowed)) in
      record {
        state = h.state;
        allowed = h.allowed;
        held = h.held;
        whole = h.whole;
        sound = sound_tables L (spots c t.points) c.points (used_tets c t.tets) h.whole.tets (subst Balanced (sym h.held.mesh) ordered.balanced) whole_mesh;
        statements = past_adds_up L G (sizes c) eight past h.state h.allowed;
        unbroken = past_unbroken L G (sizes c) past h.state h.allowed;
      }

-- ---- every past

module _ {M G R : Type 0} (lifts : M → Lift) (admitted : G → R → Bool) (classed : G → R → R → R → R → ℕ) where
  Standing : List (Call R × Answer) → Survey M G → Lent R → Type 0
  Standing past s t = Stands (lifts (measure_in s)) (meaning admitted classed (grading_in s)) past (is_open s) (counts_in s) t

  ran_stands : (past : List (Call R × Answer)) (s : Survey M G) (t : Lent R) → Ran lifts admitted classed past s t → Standing past s t
  unfolding Standing
  ran_stands past s t (creates m g o before after h) = record {
    state = created;
    allowed = refl;
    held = created_held m g before after o h;
    whole = created_whole m g before after o h;
  }
  ran_stands past s t (adds {past = past'} o o' before after p r a ran h same_measure same_grading) =
      let Before-stands = ran_stands past' (opened o) before ran in
      subst (λ (m : M). Stands (lifts m) (meaning admitted classed o'.grading) ((add p r, add_told a) ∷ past') true o'.counts after) (sym same_measure)
      (subst (λ (g : G). Stands (lifts o.measure) (meaning admitted classed g) ((add p r, add_told a) ∷ past') true o'.counts after) (sym same_grading)
      (added_stands (lifts o.measure) (meaning admitted classed o.grading) past' o.counts before Before-stands p r o'.counts after a h))
  ran_stands past s t (seals {past = past'} o z tables ran h) =
      let Before-stands = ran_stands past' (opened o) tables ran in
      subst (λ (m : M). Stands (lifts m) (meaning admitted classed z.grading) ((seal, sealed) ∷ past') false z.counts tables) (sym h.measure)
      (subst (λ (g : G). Stands (lifts o.measure) (meaning admitted classed g) ((seal, sealed) ∷ past') false z.counts tables) (sym h.grading)
      (subst (λ (c : Counts). Stands (lifts o.measure) (meaning admitted classed o.grading) ((seal, sealed) ∷ past') false c tables) (sym h.counts)
      (sealed_stands (lifts o.measure) (meaning admitted classed o.grading) past' o.counts tables Before-stands)))
  ran_stands past s t (locates {past = past'} z tables x y w a ran h) =
      located_stands (lifts z.measure) (meaning admitted classed z.grading) past' z.counts tables (ran_stands past' (closed z) tables ran) x y w a h
  ran_stands past s t (states {past = past'} z tables f f' a ran h) =
      stated_stands (lifts z.measure) (meaning admitted classed z.grading) past' z.counts tables (ran_stands past' (closed z) tables ran) f f' a h

  -- the promise holds of every past
  pub every_past : ((g : G) → Eightfold (meaning admitted classed g)) → EveryPast lifts admitted classed
  unfolding Standing
  every_past eight past s t h = stands_upheld (lifts (measure_in s)) (meaning admitted classed (grading_in s)) (eight (grading_in s)) past (is_open s) (counts_in s) t (ran_stands past s t h)

  pub kept : ((g : G) → Eightfold (meaning admitted classed g)) → (past : List (Call R × Answer)) (s : Survey M G) (t : Lent R) → Ran lifts admitted classed past s t → Kept lifts admitted classed past s t
  kept eight past s t h = record { ran = h; upheld = every_past eight past s t h }
