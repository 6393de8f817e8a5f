use Rattle.std.proofs.Common.{true, false, subst}
use Rattle.mubdrax_c.specs.Texts.{Wrote, reported}
use Rattle.mubdrax_c.proofs.reporting.mubdrax_report.Goals as goal

pub returns-in-Ok : goal.returns-in-Ok
returns-in-Ok c =
    reported _ false c.in-Ok.ensures.reported
    (subst (λ b. Wrote b false c.args.room.now c.write_text.new.room c.write_text.result) c.as_bytes.ensures.value c.write_text.ensures)

pub returns-in-Err-Refused : goal.returns-in-Err-Refused
returns-in-Err-Refused c =
    let w = c.write_text-in-Err-Refused in
    reported _ true (rw c.in-Err-Refused.field-0-is at c.in-Err-Refused.ensures.reported)
    (subst (λ b. Wrote b true c.args.room.now w.new.room w.result) c.as_bytes-in-Err-Refused.ensures.value w.ensures)
