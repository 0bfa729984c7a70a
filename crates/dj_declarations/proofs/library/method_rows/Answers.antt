use Rattle.dj_declarations.proofs.LibraryLaws.{rows_of_more}
use Rattle.dj_declarations.proofs.library.method_rows.Goals as goal

pub loop-method-preserved : goal.loop-method-preserved
loop-method-preserved c =
    rows_of_more c.args.texts.now c.args.methods.now c.loop-method.method-index c.method-item.result
    c.loop-method.rows.items c.push.new.self.items c.in_ok-row.row c.loop-method-test.true c.method-item.is c.loop-method.invariant c.in_ok-row.ensures c.in_ok-push.ensures.items
