use Rattle.std.proofs.Common.{Err, subst}
use Rattle.dj_class.proofs.CodeLaws.{faulty_is_no_code}
use Rattle.dj_class.specs.CodeViews.{ReadsCode}
use Rattle.dj_class.specs.declared.class.ClassError.{ClassError}
use Rattle.dj_class.specs.declared.class.ClassError.TheVariants as errors
use Rattle.dj_rewrite_code.proofs.method.view_of.Goals as goal

pub unreachable-requires-in-Err-Cut : goal.unreachable-requires-in-Err-Cut
unreachable-requires-in-Err-Cut c =
    let fault : ReadsCode c.args.body.now (Err (errors.Cut c.in-Err-Cut.field-0-0)) =
    subst (λ (e : ClassError). ReadsCode c.args.body.now (Err e)) c.in-Err-Cut.field-0-is c.in-Err-Cut.ensures in
    faulty_is_no_code c.args.body.now (errors.Cut c.in-Err-Cut.field-0-0) fault c.requires.code.0 c.requires.code.1

pub unreachable-requires-in-Err-Trailing : goal.unreachable-requires-in-Err-Trailing
unreachable-requires-in-Err-Trailing c =
    let fault : ReadsCode c.args.body.now (Err (errors.Trailing c.in-Err-Trailing.field-0-0)) =
    subst (λ (e : ClassError). ReadsCode c.args.body.now (Err e)) c.in-Err-Trailing.field-0-is c.in-Err-Trailing.ensures in
    faulty_is_no_code c.args.body.now (errors.Trailing c.in-Err-Trailing.field-0-0) fault c.requires.code.0 c.requires.code.1
