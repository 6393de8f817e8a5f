-- What an error of a report prints.
use Rattle.std.specs.Prelude.{ℕ, List, codes}
use Rattle.report.specs.declared.error.ReportError.{ReportError}
use Rattle.report.specs.declared.error.ReportError.TheVariants.{Refused, OutOfMemory}

abbrev pub error_text : ReportError → List ℕ
error_text (Refused line) = codes "the file is refused"
error_text (OutOfMemory error) = codes "memory allocation failed"
