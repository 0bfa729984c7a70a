use Rattle.std.proofs.Common.{ap, ◌∙◌}
use Rattle.dj_class.specs.Members.{member_of}
use Rattle.dj_declarations.specs.declared.members.MemberBody.{MemberBody}
use Rattle.dj_declarations.specs.MemberRows.{member_row_of, method_row_of}
use Rattle.dj_declarations.proofs.FileLaws.{rows_more, named_more}
use Rattle.dj_declarations.proofs.file.method_rows.Goals as goal

pub loop-method-preserved : goal.loop-method-preserved
loop-method-preserved c =
    let ms = c.args.methods.now in
    let i = c.loop-method.method-index in
    let m = c.method-item.result in
    record {
      rows = rows_more ms i m c.loop-method-test.true c.method-item.is (method_row_of c.args.places.now) c.loop-method.rows.items c.push.new.self.items c.in_ok-row.row c.loop-method.invariant.rows (c.in_ok-row.ensures.row ∙ ap (λ (body : MemberBody). member_row_of c.args.places.now body (member_of m)) c.body_of.ensures) c.in_ok-push.ensures.items;
      named = named_more ms i m c.loop-method-test.true c.method-item.is c.args.places.now c.loop-method.invariant.named c.in_ok-row.ensures.named;
    }
