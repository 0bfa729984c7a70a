use Rattle.std.proofs.Common.{List, subst}
use Rattle.std.proofs.lemmas.Result.{err_from_is_err_and}
use Rattle.dj_asm_source.specs.trusted.Lines.{FrameType}
use Rattle.dj_asm_source.specs.Reading.{Read}
use Rattle.dj_asm_tokens.specs.Views.{left_of}
use Rattle.dj_asm_source.specs.TypeViews.{type_view}
use Rattle.dj_asm_source.specs.Stops.{GivesRead}
use Rattle.dj_asm_source.proofs.TypeLists.{up_to_end, up_to_more, up_to_stop}
use Rattle.dj_asm_source.proofs.frame.two_more.Goals as goal

pub returns-in_err-second : goal.returns-in_err-second
returns-in_err-second c =
    let p = err_from_is_err_and c.from_residual.result c.from_residual.ensures.1 in
    rw (p.1, p.2) (up_to_stop 1 c.args.types (left_of c.args.at) c.in_err-second.field-0.0 c.in_default.ensures c.in_err-second.ensures)

pub returns : goal.returns
returns c =
    subst (λ (r : Read (List FrameType)). GivesRead (λ x. x.0) (λ x. left_of x.1) c.one_more.result r)
    (up_to_more 1 c.args.types (type_view c.in_ok-second.second) (left_of c.args.at) (left_of c.in_ok-second.at) c.in_default.ensures c.in_ok-second.ensures)
    (rw c.in_ok-push.ensures.ok at c.one_more.ensures)

pub returns-in-Some : goal.returns-in-Some
returns-in-Some c = up_to_end 1 c.args.types (left_of c.args.at) (left_of c.in-Some.rest) c.in-Some.ensures
