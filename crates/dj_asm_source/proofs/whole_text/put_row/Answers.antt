use Rattle.std.proofs.Common.{◌<◌, length, Ok, sym, subst}
use Rattle.dj_asm_source.specs.declared.unread.Row.{Row}
use Rattle.dj_asm_source.specs.declared.unread.Row.TheVariants as rows
use Rattle.dj_asm_source.specs.Unread.{UnreadLines, GivesRow, LeavesRow}
use Rattle.dj_asm_source.specs.SourceLines.{TextLines}
use Rattle.dj_asm_source.specs.Readings.{IsReading}
use Rattle.dj_asm_source.proofs.ReadingLaws.{goes_on_said}
use Rattle.dj_asm_source.proofs.whole_text.put_row.Goals as goal

pub returns-in_ok-push-in-Said : goal.returns-in_ok-push-in-Said
returns-in_ok-push-in-Said c = λ text so.
    let old : UnreadLines = c.args.unread.now in
    let new : UnreadLines = c.row.new.self in
    let gives : GivesRow old new (Ok (rows.Said c.in-Said.number c.in-Said.line)) = subst (λ (row : Row). GivesRow old new (Ok row)) c.in-Said.is c.in_ok-number.ensures.row in
    let leaves : LeavesRow old new (Ok (rows.Said c.in-Said.number c.in-Said.line)) = subst (λ (row : Row). LeavesRow old new (Ok row)) c.in-Said.is c.in_ok-number.ensures.left in
    subst (λ (read : TextLines). IsReading text read new × (length new.rest < length old.rest)) (sym c.in_ok-push-in-Said.ensures)
    (goes_on_said text c.args.read.now old new c.in-Said.number c.in-Said.line so gives leaves)
