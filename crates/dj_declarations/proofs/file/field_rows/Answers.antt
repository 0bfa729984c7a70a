use Rattle.dj_declarations.specs.MemberRows.{field_row_of}
use Rattle.dj_declarations.proofs.FileLaws.{rows_more, named_more}
use Rattle.dj_declarations.proofs.file.field_rows.Goals as goal

pub loop-field-preserved : goal.loop-field-preserved
loop-field-preserved c =
    let ms = c.args.fields.now in
    let i = c.loop-field.field-index in
    let m = c.field-item.result in
    record {
      rows = rows_more ms i m c.loop-field-test.true c.field-item.is (field_row_of c.args.places.now) c.loop-field.rows.items c.push.new.self.items c.in_ok-row.row c.loop-field.invariant.rows c.in_ok-row.ensures.row c.in_ok-push.ensures.items;
      named = named_more ms i m c.loop-field-test.true c.field-item.is c.args.places.now c.loop-field.invariant.named c.in_ok-row.ensures.named;
    }
