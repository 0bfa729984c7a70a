use Rattle.std.proofs.Common.{◌≡◌, ◌++◌, List, sym, subst}
use Rattle.std.proofs.lemmas.Result.{err_from_is_err_and}
use Rattle.dj_asm_source.specs.trusted.Lines.{FrameType}
use Rattle.dj_asm_source.specs.Reading.{read_map}
use Rattle.dj_asm_source.specs.LineReading.{types_until}
use Rattle.dj_asm_tokens.specs.Views.{left_of}
use Rattle.dj_asm_source.specs.TypeViews.{type_view}
use Rattle.dj_asm_source.specs.StartViews.{ends_types}
use Rattle.dj_asm_source.proofs.TypeLists.{until_end, until_more, until_stop}
use Rattle.dj_asm_source.proofs.frame.types_until.Goals as goal

pub returns-in-Some : goal.returns-in-Some
returns-in-Some c =
    until_end (ends_types c.args.end) c.loop-rest.types (left_of c.loop-rest.at) (left_of c.in-Some.rest) (types_until (ends_types c.args.end) (left_of c.args.at)) c.in-Some.ensures c.loop-rest.invariant

pub returns-in_err-ty : goal.returns-in_err-ty
returns-in_err-ty c =
    let p = err_from_is_err_and c.from_residual.result c.from_residual.ensures.1 in
    rw (p.1, p.2)
    (until_stop (ends_types c.args.end) c.loop-rest.types (left_of c.loop-rest.at) c.in_err-ty.field-0.0 (types_until (ends_types c.args.end) (left_of c.args.at)) c.in_default.ensures c.in_err-ty.ensures c.loop-rest.invariant)

pub loop-rest-preserved : goal.loop-rest-preserved
loop-rest-preserved c =
    subst (λ (types : List FrameType). read_map (λ more. types ++ more) (types_until (ends_types c.args.end) (left_of c.in_ok-ty.rest)) ≡ types_until (ends_types c.args.end) (left_of c.args.at)) (sym c.in_ok-push.ensures.ok)
    (until_more (ends_types c.args.end) c.loop-rest.types (type_view c.in_ok-ty.ty) (left_of c.loop-rest.at) (left_of c.in_ok-ty.rest) (types_until (ends_types c.args.end) (left_of c.args.at)) c.in_default.ensures c.in_ok-ty.ensures c.loop-rest.invariant)
