use Rattle.std.proofs.Common.{rules}
use Rattle.grading.proofs.Amounts.{literal_zero}
use Rattle.mubdrax_c.proofs.reading.ReadingRecordFromReading.from.Goals as goal

pub returns-in-Missing : goal.returns-in-Missing
returns-in-Missing c = let z = literal_zero in search rules
