-- What comes of a file, call by call. Assumes nothing.
use Rattle.std.proofs.Common.{◌≡◌, ℕ, Bool, true, false, List, length, Some, None, Ok, Err, IsErrAnd, Option, Result, sym, refl, ap, ◌∙◌, subst, arith, MatchResult, String, string_bytes}
use Rattle.grading.specs.declared.assay.Reading.{Reading}
use Rattle.survey.specs.declared.refusal.Refusal.{Refusal as Refused}
use Rattle.std.specs.Global.{Global}
use Rattle.survey.specs.Creates.{unfit}
use Rattle.survey.specs.Tables.{Lent}
use Rattle.words.specs.declared.refusal.Refusal.{Refusal}
use Rattle.report.specs.declared.error.ReportError.{ReportError}
use Rattle.report.specs.declared.error.ReportError.TheVariants.{Refused as RefusedBy, OutOfMemory}
use Rattle.report.specs.Report
use Rattle.report.specs.Report.{Comes, Outcome, Printed, PrintedAs, Reported, ReportedAs, faulty, outcome_of, outside}

-- ---- a refusal of the survey as one of the file

-- what an answer was before `map_err`
pub accepted : {T : Type 0} (r : Result T Refused) (o : Result T Refusal) (Told : Refused → Refusal → Type 0)
    → MatchResult r (λ x. o ≡ Ok x) (λ e. IsErrAnd o (Told e)) → (x : T) → o ≡ Ok x → r ≡ Ok x
accepted {T} (Ok y) o Told m x e = let same : y ≡ x = cc in ap (λ (z : T). Ok z) same
accepted (Err d) (Ok y) Told m x e = elim m [ ]
accepted (Err d) (Err q) Told m x e = let z : ◌≡◌ {A = ℕ} 0 1 = cc in absurd (omega arith)

pub refused : {T : Type 0} (r : Result T Refused) (o : Result T Refusal) (Told : Refused → Refusal → Type 0)
    → MatchResult r (λ x. o ≡ Ok x) (λ e. IsErrAnd o (Told e)) → ((e : Refused) (q : Refusal) → Told e q → outcome_of (Err q) ≡ faulty (outside e) None)
    → (q : Refusal) → o ≡ Err q → (e : Refused) × (r ≡ Err e) × (outcome_of (Err q) ≡ faulty (outside e) None)
refused (Ok y) o Told m tells q e = let h = sym m ∙ e in let z : ◌≡◌ {A = ℕ} 0 1 = cc in absurd (omega arith)
refused (Err d) (Ok y) Told m tells q e = elim m [ ]
refused (Err d) (Err p) Told m tells q e = let same : p ≡ q = cc in (d, refl, ap (λ (s : Refusal). outcome_of (Err s)) (sym same) ∙ tells d p m)

-- tables of these lengths are not refused
fit : (p r t : ℕ) (e : Refused) → p ≡ 256 → r ≡ 256 → t ≡ 2048 → unfit p r t ≡ Some e → ⊥
fit p r t e hp hr ht h =
    let at_p = subst (λ (n : ℕ). unfit n r t ≡ Some e) hp h in
    let at_r = subst (λ (n : ℕ). unfit 256 n t ≡ Some e) hr at_p in
    let here : ◌≡◌ {A = Option Refused} None (Some e) = subst (λ (n : ℕ). unfit 256 256 n ≡ Some e) ht at_r in
    let z : ◌≡◌ {A = ℕ} 0 1 = cc in
    omega arith

module _ (b : List ℕ) (tables : Lent Reading) (p : length tables.points ≡ 256) (r : length tables.readings ≡ 256) (t : length tables.tets ≡ 2048) where
  pub reported : (z : Outcome) → Comes b tables z → (text : List ℕ) (flag : Bool) → Printed z text flag → Reported b text flag
  reported _ (Report.uncreated e h) text flag told = absurd (fit (length tables.points) (length tables.readings) (length tables.tets) e p r t h)
  reported _ (Report.created m g o start z made ends) text flag told =
      record {
        tables = tables;
        point_records = p;
        reading_records = r;
        tet_records = t;
        measure = m;
        grading = g;
        survey = o;
        start = start;
        created = made;
        came = z;
        ends = ends;
        printed = told;
      }

  pub reported_as : (z : Outcome) → Comes b tables z → (a : Result (String Global) ReportError) → PrintedAs z a → ReportedAs b a
  reported_as z h (Ok text) told = reported z h (string_bytes text) false told
  reported_as z h (Err (RefusedBy line)) told = reported z h (string_bytes line) true told
  reported_as z h (Err (OutOfMemory e)) told = tt
