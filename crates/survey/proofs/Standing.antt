-- Creating and accepted adds leave whole tables that hold the state which the rules tell.
use Rattle.std.proofs.Common.{◌≡◌, ℕ, ◌+◌, ◌-◌, ◌<◌, ◌≤◌, true, List, [], ◌∷◌, ◌++◌, map, length, get_or, take, drop, set, replicate, pos, ◌<ℤ◌, sym, refl, ap, ◌∙◌, subst, inl, inr, append_assoc, arith, length-append, length-drop, length-set, length-take}
use Rattle.std.proofs.ByRecursion.{All-get_or}
use Rattle.std.proofs.lemmas.List.{drop-append-le, get_or_append_left, get_or_push, length-map, length-replicate, map_push, take_at, take_more_set}
use Rattle.std.proofs.lemmas.Bool.{cases_eq}
use Rattle.geometry.specs.Lifts.{Lift}
use Rattle.geometry.specs.Spots.{Spot}
use Rattle.mesh.specs.Added.{records_after, shell_faces}
use Rattle.mesh.specs.Adding.{conflicts, with_site}
use Rattle.mesh.specs.Records.{Whole, mesh_of, row, tet_of}
use Rattle.mesh.specs.Soundness.{SoundMesh}
use Rattle.mesh.specs.Spaces.{side_of}
use Rattle.mesh.specs.Surveys.{Grading, State, count, points as points_of}
use Rattle.mesh.specs.Tetrahedra.{Tet, big}
use Rattle.mesh.specs.declared.record.TetRecord.{TetRecord}
use Rattle.mesh.proofs.AnyPast.{InOrder, count_more, points_pushed}
use Rattle.mesh.proofs.RecordsOfStates.{read_with_site, records_after_fit, whole_with_site}
use Rattle.mesh.proofs.Sharing.{tet_row}
use Rattle.survey.specs.declared.counts.Counts.{Counts}
use Rattle.survey.specs.declared.record.PointRecord.{PointRecord}
use Rattle.survey.specs.Adds.{site_record}
use Rattle.survey.specs.Plans.{table_after, zero_record}
use Rattle.survey.specs.Questions.{first_no}
use Rattle.survey.specs.Tables.{Lent, blank_point, spot_of, spots, used_points, used_tets}
use Rattle.survey.specs.Upheld.{Holds}
use Rattle.survey.specs.Wholeness.{WholePoint, WholeTables}
use Rattle.survey.proofs.AddsTold.{asked, count_is, fits, light_enough, placed_on_grid, room_for_it, shut, whole_used}
use Rattle.survey.proofs.WholeUses.{used_points_length, used_tets_length}

-- ---- an accepted add

module _ {R : Type 0} (L : Lift) (G : Grading R) (c : Counts) (t : Lent R) (w : WholeTables c t.points (length t.readings) t.tets) (s : State R) (order : InOrder L s) (h : Holds c t true s)
    (p : Spot) (r : R) (yes : first_no (asked L G c t w s order h p r) ≡ 10)
  where
    abbrev after : List TetRecord
    after = records_after (conflicts L s p) (used_tets c t.tets) c.points

    abbrev next : State R
    next = with_site L s p r

    -- the tables and the counts that the add leaves
    module _ (c' : Counts) (t' : Lent R) (points_are : t'.points ≡ set t.points c.points (site_record p)) (readings_are : t'.readings ≡ set t.readings c.points r)
        (tets_are : t'.tets ≡ table_after (conflicts L s p) t.tets c.tets c.points) (point_count : c'.points ≡ c.points + 1) (tet_count : c'.tets ≡ length after)
        (point_records : c'.point_records ≡ c.point_records) (tet_records : c'.tet_records ≡ c.tet_records)
      where
        room : c.points < c.point_records
        room = room_for_it L G c t w s order h p r yes

        four : 4 ≤ c.points
        four = c.points_fit.0

        used_points_are : used_points c' t'.points ≡ used_points c t.points ++ site_record p ∷ []
        used_points_are = ap (λ (n : ℕ). take n t'.points) point_count ∙ ap (take (c.points + 1)) points_are ∙ take_more_set t.points c.points (site_record p) (omega (arith, room, w.point_table))

        places : spots c' t'.points ≡ points_of next
        places = ap (map spot_of) used_points_are ∙ map_push spot_of (used_points c t.points) (site_record p) ∙ ap (λ (ss : List Spot). ss ++ p ∷ []) h.places ∙ sym (points_pushed L s p r)

        readings : drop 4 (take c'.points t'.readings) ≡ map (λ a. a.reading) next.sites
        readings =
            ap (λ (n : ℕ). drop 4 (take n t'.readings)) point_count
            ∙ ap (λ (rs : List R). drop 4 (take (c.points + 1) rs)) readings_are
            ∙ ap (drop 4) (take_more_set t.readings c.points r (omega (arith, room, w.reading_table)))
            ∙ drop-append-le 4 (take c.points t.readings) (r ∷ []) (omega (arith, room, four, w.reading_table, length-take c.points t.readings))
            ∙ ap (λ (rs : List R). rs ++ r ∷ []) h.readings
            ∙ sym (map_push (λ a. a.reading) s.sites (record { place = p; reading = r }))

        ending : ℕ
        ending = c.tets + length (shell_faces (conflicts L s p) (used_tets c t.tets))

        table : t'.tets ≡ after ++ (replicate (ending - length after) zero_record ++ drop ending t.tets)
        unfolding ending
        table = tets_are ∙ append_assoc after (replicate (ending - length after) zero_record) (drop ending t.tets)

        used_tets_are : used_tets c' t'.tets ≡ after
        used_tets_are = ap (λ (n : ℕ). take n t'.tets) tet_count ∙ ap (take (length after)) table ∙ take_at after _ _ refl

        after_is : after ≡ records_after (conflicts L s p) (used_tets c t.tets) (count s)
        after_is = ap (records_after (conflicts L s p) (used_tets c t.tets)) (sym (count_is L G c t w s order h))

        mesh : mesh_of (used_tets c' t'.tets) ≡ next.mesh
        mesh = ap mesh_of (used_tets_are ∙ after_is) ∙ read_with_site L s order (used_tets c t.tets) (whole_used L G c t w s order h) h.mesh p r

        pub next_held : Holds c' t' true next
        next_held = record { places = places; readings = readings; mesh = mesh; still_open = refl }

        -- ---- wholeness

        after_fits : length after ≤ ending
        unfolding ending
        after_fits = omega (arith, records_after_fit (conflicts L s p) (used_tets c t.tets) c.points, used_tets_length c t.points (length t.readings) t.tets w)

        ending_fits : ending ≤ c.tet_records
        unfolding ending
        ending_fits = omega (arith, fits L G c t w s order h p r yes, used_tets_length c t.points (length t.readings) t.tets w)

        tet_table : length t'.tets ≡ c'.tet_records
        tet_table =
            ap length table
            ∙ length-append after (replicate (ending - length after) zero_record ++ drop ending t.tets)
            ∙ omega (arith, length-append (replicate (ending - length after) zero_record) (drop ending t.tets), length-replicate (ending - length after) zero_record, length-drop ending t.tets, after_fits, ending_fits, w.tet_table, tet_records)

        site_whole : WholePoint c.points (site_record p)
        site_whole = record {
          mark = refl;
          is_corner = λ l. absurd (omega (arith, four));
          placed = λ _. placed_on_grid L G c t w s order h p r yes;
          light = λ _. light_enough L G c t w s order h p r yes;
        }

        whole_points : (k : ℕ) → k < c'.points → WholePoint k (get_or (used_points c' t'.points) k blank_point)
        whole_points k l =
            let long = used_points_length c t.points (length t.readings) t.tets w in
            subst (λ (us : List PointRecord). WholePoint k (get_or us k blank_point)) (sym used_points_are)
            (elim (cases_eq k c.points) [
              | inl e ↦ subst (λ (j : ℕ). WholePoint j (get_or (used_points c t.points ++ site_record p ∷ []) j blank_point)) (sym e)
                  (subst (WholePoint c.points) (sym (get_or_push (used_points c t.points) (site_record p) blank_point c.points long)) site_whole)
              | inr e ↦ subst (WholePoint k) (sym (get_or_append_left (used_points c t.points) (site_record p ∷ []) blank_point k (omega (arith, e, l, point_count, long)))) (w.points k (omega (arith, e, l, point_count)))
            ])

        whole_tets : Whole c'.points (used_tets c' t'.tets)
        whole_tets =
            subst (λ (us : List TetRecord). Whole c'.points us) (sym (used_tets_are ∙ after_is))
            (subst (λ (n : ℕ). Whole n (records_after (conflicts L s p) (used_tets c t.tets) (count s))) (count_more L s p r ∙ ap (λ n. n + 1) (count_is L G c t w s order h) ∙ sym point_count)
            (whole_with_site L s order (used_tets c t.tets) (whole_used L G c t w s order h) h.mesh p r (shut L G c t w s order h p r yes)
            (omega (arith, ap length after_is, after_fits, ending_fits, c.tets_fit.1))))

        pub next_whole : SoundMesh L (points_of next) next.mesh → WholeTables c' t'.points (length t'.readings) t'.tets
        next_whole sound = record {
          point_table = ap length points_are ∙ length-set t.points c.points (site_record p) ∙ w.point_table ∙ sym point_records;
          reading_table = ap length readings_are ∙ length-set t.readings c.points r ∙ w.reading_table ∙ sym point_records;
          tet_table = tet_table;
          points = whole_points;
          tets = whole_tets;
          positive = λ k l.
              let low : k < length (used_tets c' t'.tets) = omega (arith, l, tet_count, ap length used_tets_are) in
              let many = length-map (used_tets c' t'.tets) tet_of in
              subst (λ (ss : List Spot). pos 0 <ℤ side_of ss (tet_of (row (used_tets c' t'.tets) k))) (sym places)
              (subst (λ (u : Tet). pos 0 <ℤ side_of (points_of next) u) (tet_row (used_tets c' t'.tets) k low)
              (subst (λ (us : List Tet). pos 0 <ℤ side_of (points_of next) (get_or us k big)) (sym mesh)
              (All-get_or (λ u. pos 0 <ℤ side_of (points_of next) u) next.mesh k big (omega (arith, low, many, ap length mesh)) sound.positive)));
        }
