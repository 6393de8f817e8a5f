use Rattle.std.proofs.Common.{◌≡◌, ◌++◌, drop, string_bytes}
use Rattle.report.specs.Text.{class_lines}
use Rattle.report.proofs.text.class_lines.Given as goal

-- the lines so far, and those of the classes that are left, are the lines of all
abbrev pub invariant-loop-class : goal.invariant-loop-class
invariant-loop-class l = string_bytes l.text ++ class_lines l.class-counter (drop l.class-counter l.lines) ≡ class_lines 0 l.lines
