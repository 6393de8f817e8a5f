use Rattle.std.proofs.Common.{[], ◌∷◌, ap, rules}
use Rattle.std.proofs.lemmas.Result.{err_from_is_err_and}
use Rattle.mesh.specs.Surveys.{seal, sealed}
use Rattle.survey.specs.Tables.{Lent}
use Rattle.words.specs.Feed.{after_adds}
use Rattle.report.specs.Report
use Rattle.report.proofs.Outcomes.{accepted, refused}
use Rattle.report.proofs.report.statement_of.Goals as goal

pub returns-in_err-survey : goal.returns-in_err-survey
returns-in_err-survey c =
    let p = err_from_is_err_and c.from_residual.result c.from_residual.ensures.1 in
    let why = refused c.create.result c.map_err.result _ c.map_err.ensures.cases (λ e q h. search rules) _ c.in_err-survey.was in
    rw (p.1, p.2, why.2) (Report.uncreated _ (rw why.1 at c.create.ensures.creates).0)

pub returns-in_err-feed : goal.returns-in_err-feed
returns-in_err-feed c =
    let p = err_from_is_err_and c.from_residual-in_err-feed.result c.from_residual-in_err-feed.ensures.1 in
    let made = accepted c.create.result c.map_err.result _ c.map_err.ensures.cases _ c.in_ok-survey.was in
    let starts = rw made at c.create.ensures.starts in
    let fed = c.in_err-feed.ensures.fed in
    rw (p.1, p.2) (Report.created _ _ _ _ _ (rw made at c.create.ensures.creates) (Report.stops _ _ _ _ fed.by (fed.continues [] starts.ran)))

pub returns-in_err-map_err : goal.returns-in_err-map_err
returns-in_err-map_err c =
    let made = accepted c.create.result c.map_err.result _ c.map_err.ensures.cases _ c.in_ok-survey.was in
    let starts = rw made at c.create.ensures.starts in
    let fed = c.in_ok-feed.ensures.fed in
    let closed = c.seal-sealed.ensures.continues _ (after_adds fed.by.adds []) (fed.continues [] starts.ran).ran in
    let why = refused c.state.result c.map_err-2.result _ c.map_err-2.ensures.cases (λ e q h. search rules) _ c.in_err-map_err.was in
    let same = c.shared.ensures in
    let told = rw (why.1, ap (λ (t : Lent _). t.points) same, ap (λ (t : Lent _). t.readings) same, ap (λ (t : Lent _). t.tets) same) at c.state.ensures.states in
    absurd (told.1 closed.upheld.whole)

pub returns : goal.returns
returns c =
    let made = accepted c.create.result c.map_err.result _ c.map_err.ensures.cases _ c.in_ok-survey.was in
    let starts = rw made at c.create.ensures.starts in
    let fed = c.in_ok-feed.ensures.fed in
    let closed = c.seal-sealed.ensures.continues _ (after_adds fed.by.adds []) (fed.continues [] starts.ran).ran in
    let done = accepted c.state.result c.map_err-2.result _ c.map_err-2.ensures.cases _ c.in_ok-map_err.was in
    let same = c.shared.ensures in
    let told = rw (done, ap (λ (t : Lent _). t.points) same, ap (λ (t : Lent _). t.readings) same, ap (λ (t : Lent _). t.tets) same) at c.state.ensures.states in
    let kept = rw (done, ap (λ (t : Lent _). t.points) same, ap (λ (t : Lent _). t.readings) same, ap (λ (t : Lent _). t.tets) same) at c.state.ensures.continues in
    Report.created _ _ _ _ _ (rw made at c.create.ensures.creates)
    (Report.states _ _ _ _ fed.by c.seal-sealed.ensures.seals told (kept ((seal, sealed) ∷ after_adds fed.by.adds []) closed.ran))
