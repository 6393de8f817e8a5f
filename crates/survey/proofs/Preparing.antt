-- What was asked of the hole by the flags is what the rules ask, and the records that were prepared are those after the add.
use Rattle.std.proofs.Common.{◌≡◌, ℕ, zero, suc, ◌+◌, ◌*◌, ◌<◌, ◌≤◌, Bool, true, false, ◌||◌, leb, List, [], ◌∷◌, length, sym, refl, ap, ◌∙◌, subst, arith}
use Rattle.std.proofs.lemmas.Bool.{leb-true}
use Rattle.algebra.specs.Lists.{some}
use Rattle.mesh.specs.Added.{drops, exposed, rank, records_after, shell_faces}
use Rattle.mesh.specs.Records.{every, row, tet_of}
use Rattle.mesh.specs.Tetrahedra.{Tet, has}
use Rattle.mesh.specs.declared.record.TetRecord.{TetRecord}
use Rattle.mesh.proofs.Ranks.{length-passing}
use Rattle.survey.specs.declared.cavity.plan.Plan.{Plan}
use Rattle.survey.specs.declared.prepare.Prepared.{Prepared}
use Rattle.survey.specs.declared.refusal.Refusal.{Refusal}
use Rattle.survey.specs.declared.refusal.Refusal.TheVariants.{PointTable, TetTable, NotWhole, OffGrid, Penalty, Reading, PointsFull, PlaceTaken, NoConflict, TetsFull, ShellOpen, Vanishes, Unowned}
use Rattle.survey.specs.Questions.{first_no}
use Rattle.survey.specs.Cavity.{Flagged, Ready, bare, bare_faces, gone, left}
use Rattle.survey.specs.Conflicts.{some_below, some_flag}
use Rattle.survey.specs.Edges.{edges_twice}
use Rattle.survey.specs.Plans.{flags, records}
use Rattle.survey.specs.Prepares.{Filled, NamesLost, hole_questions, stays_in}
use Rattle.survey.specs.Refusals.{number_of}
use Rattle.survey.specs.Stay.{faces_have, kept_has, remains}
use Rattle.survey.proofs.Holes.{rank_le}
use Rattle.survey.proofs.Renumbering.{kept_same, rank_exposed, shell_length, shell_same}

-- ---- the same questions, told from the flags of the dropped records

module _ (us : List TetRecord) (fs : List Bool) where
  abbrev pub faces : List ℕ
  faces = bare_faces us fs

  -- is a record dropped; do the used records and the shell faces fit; are the edges in two shell faces each; do all n points remain
  abbrev pub hole_answers : (n room : ℕ) → List Bool
  hole_answers n room =
      some_flag fs (length us)
      ∷ leb (length us + rank (bare us fs) (4 * length us)) room
      ∷ edges_twice us faces
      ∷ every (remains us fs faces) n
      ∷ []

  -- a refusal over a point names one that does not remain
  abbrev pub Names : (n : ℕ) → Refusal → Type 0
  Names n PointTable = Unit {0}
  Names n TetTable = Unit {0}
  Names n NotWhole = Unit {0}
  Names n OffGrid = Unit {0}
  Names n Penalty = Unit {0}
  Names n Reading = Unit {0}
  Names n PointsFull = Unit {0}
  Names n PlaceTaken = Unit {0}
  Names n NoConflict = Unit {0}
  Names n TetsFull = Unit {0}
  Names n ShellOpen = Unit {0}
  Names n (Vanishes q) = (q < n) × (remains us fs faces q ≡ false)
  Names n Unowned = Unit {0}

some_below_same : (p q : ℕ → Bool) (n : ℕ) → ((k : ℕ) → k < n → p k ≡ q k) → some_below p n ≡ some_below q n
some_below_same p q zero h = refl
some_below_same p q (suc n) h = λ i. some_below_same p q n (λ k l. h k (omega arith)) i || h n (omega arith) i

every_same : (p q : ℕ → Bool) (n : ℕ) → ((k : ℕ) → p k ≡ q k) → every p n ≡ every q n
every_same p q n h = ap (λ (r : ℕ → Bool). every r n) (λ i k. h k i)

-- where all four are answered yes, the second is
second_yes : (a b c d : Bool) → first_no (a ∷ b ∷ c ∷ d ∷ []) ≡ 4 → b ≡ true
second_yes true true c d h = refl
second_yes true false c d h = absurd (omega arith)
second_yes false b c d h = absurd (omega arith)

module _ (conflict : Tet → Bool) (us : List TetRecord) (fs : List Bool) (flagged : Flagged conflict us fs) (ready : Ready us fs) where
  shell_count : rank (bare us fs) (4 * length us) ≡ length (shell_faces conflict us)
  shell_count = sym (length-passing (exposed conflict us) (4 * length us) ∙ rank_exposed conflict us fs flagged ready (4 * length us) (omega arith))

  remains_same : (q : ℕ) → remains us fs (faces us fs) q ≡ stays_in conflict us q
  unfolding kept_has
  remains_same q =
      λ i. some (λ k. has q (tet_of (row us k))) (sym (kept_same conflict us fs flagged ready (length us) (omega arith)) i) || faces_have us (sym (shell_same conflict us fs flagged ready) i) q

  pub questions_same : (n room : ℕ) → hole_answers us fs n room ≡ hole_questions conflict us n room
  questions_same n room =
      λ i.
      some_below_same (gone fs) (drops conflict us) (length us) flagged i
      ∷ leb (length us + shell_count i) room
      ∷ edges_twice us (sym (shell_same conflict us fs flagged ready) i)
      ∷ every_same (remains us fs (faces us fs)) (stays_in conflict us) n remains_same i
      ∷ []

  pub names_same : (n : ℕ) (e : Refusal) → Names us fs n e → NamesLost conflict us n e
  names_same n PointTable h = tt
  names_same n TetTable h = tt
  names_same n NotWhole h = tt
  names_same n OffGrid h = tt
  names_same n Penalty h = tt
  names_same n Reading h = tt
  names_same n PointsFull h = tt
  names_same n PlaceTaken h = tt
  names_same n NoConflict h = tt
  names_same n TetsFull h = tt
  names_same n ShellOpen h = tt
  names_same n (Vanishes q) h = (h.0, sym (remains_same q) ∙ h.1)
  names_same n Unowned h = tt

  -- a refusal by the flags is one by the rules
  pub refused_same : (n room : ℕ) (e : Refusal) → number_of e ≡ 9 + first_no (hole_answers us fs n room) → first_no (hole_answers us fs n room) < 4 → Names us fs n e
      → (number_of e ≡ 9 + first_no (hole_questions conflict us n room)) × (first_no (hole_questions conflict us n room) < 4) × NamesLost conflict us n e
  refused_same n room e num low names =
      let same = ap first_no (questions_same n room) in
      (num ∙ ap (λ k. 9 + k) same, subst (λ (k : ℕ). k < 4) same low, names_same n e names)

-- ---- four times yes

-- what a plan over records of which the flags tell the conflicting ones fills
module _ (conflict : Tet → Bool) (p : Plan) (n room : ℕ) (flagged : Flagged conflict (records p) (flags p)) (yes : first_no (hole_questions conflict (records p) n room) ≡ 4) where
  faces_count : length p.shell.faces.now ≡ length (shell_faces conflict (records p))
  faces_count = shell_length (records p) (flags p) p.shell.faces.now p.shell.complete ∙ shell_count conflict (records p) (flags p) flagged p.shell.cavity.ready

  pub fitting : length (records p) + length (shell_faces conflict (records p)) ≤ room
  fitting = leb-true _ room (second_yes _ _ _ _ yes)

  pub filled : (q : Prepared) → q.records.now ≡ records_after conflict (records p) n → length q.records.now ≡ p.kept + length p.shell.faces.now
      → q.end ≡ length (records p) + length p.shell.faces.now → Filled conflict (records p) n room q
  filled q done c_is e_is =
      let us = records p in
      let few = rank_le (left (flags p)) (length us) in
      record {
        asked = yes;
        records = done;
        end = omega (arith, e_is, faces_count);
        fewer = omega (arith, c_is, e_is, few, p.total);
        fits = omega (arith, e_is, faces_count, fitting);
      }

-- the same over records that are the plan's
pub filled_over : (conflict : Tet → Bool) (p : Plan) (n room : ℕ) (us : List TetRecord) → us ≡ records p → Flagged conflict us (flags p) → first_no (hole_questions conflict us n room) ≡ 4
    → (q : Prepared) → q.records.now ≡ records_after conflict (records p) n → length q.records.now ≡ p.kept + length p.shell.faces.now
    → q.end ≡ length us + length p.shell.faces.now → Filled conflict us n room q
filled_over conflict p n room us same flagged asked q done long end =
    subst (λ (rs : List TetRecord). Filled conflict rs n room q) (sym same)
    (filled conflict p n room
    (subst (λ (rs : List TetRecord). Flagged conflict rs (flags p)) same flagged)
    (subst (λ (rs : List TetRecord). first_no (hole_questions conflict rs n room) ≡ 4) same asked)
    q done long (end ∙ ap (λ (rs : List TetRecord). length rs + length p.shell.faces.now) same))
