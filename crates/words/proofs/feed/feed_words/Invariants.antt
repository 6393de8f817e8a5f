use Rattle.std.proofs.Common.{◌≡◌, ◌-◌}
use Rattle.survey.specs.Tables.{SameLengths, SameTables, lent}
use Rattle.words.specs.Contents.{label_text}
use Rattle.words.specs.Feed.{store}
use Rattle.words.specs.Word.{words}
use Rattle.words.proofs.Feeding.{Progress}
use Rattle.words.proofs.feed.feed_words.Given as goal

-- what was fed so far, by the measure and the grading that the survey keeps
abbrev pub invariant-loop-token : goal.invariant-loop-token
invariant-loop-token g l =
    Progress (g.M.Measure.lifts l.initial.survey.measure) (g.G.Grading.admitted l.initial.survey.grading) (g.G.Grading.decoded l.initial.survey.grading) l.file
    (store l.initial.survey (lent l.initial.tables))
    l.reader (label_text l.label)
    (store l.survey (lent l.tables))
    × (l.survey.measure ≡ l.initial.survey.measure) × (l.survey.grading ≡ l.initial.survey.grading) × SameTables l.initial.tables l.tables × SameLengths l.initial.tables l.tables

abbrev pub decreases-loop-token : goal.decreases-loop-token
decreases-loop-token g l = words l.file - l.reader.word
