use Rattle.std.proofs.Common.{◌≡◌, ◌++◌, List, sym, subst, ◌∙◌}
use Rattle.std.proofs.lemmas.Result.{err_from_is_err_and}
use Rattle.dj_asm_source.specs.trusted.Lines.{Label}
use Rattle.dj_asm_source.specs.Reading.{read_map}
use Rattle.dj_asm_source.specs.LineReading.{targets}
use Rattle.dj_asm_tokens.specs.Views.{units_of, left_of}
use Rattle.dj_asm_source.proofs.SwitchLists.{targets_end, targets_end_stop, targets_more, targets_stop}
use Rattle.dj_asm_source.proofs.switch.targets.Goals as goal

pub returns-in_err-spot : goal.returns-in_err-spot
returns-in_err-spot c =
    let p = err_from_is_err_and c.from_residual.result c.from_residual.ensures.1 in
    rw (p.1, p.2) (targets_stop c.loop-targets.targets (left_of c.loop-targets.at) c.in_err-spot.field-0.0 (targets (left_of c.args.at)) c.in_err-spot.ensures c.loop-targets.invariant)

pub returns-in_err-default : goal.returns-in_err-default
returns-in_err-default c =
    let p = err_from_is_err_and c.from_residual-in_err-default.result c.from_residual-in_err-default.ensures.1 in
    rw (p.1, p.2)
    (targets_end_stop c.loop-targets.targets (left_of c.loop-targets.at) (left_of c.in_ok-spot.spot.rest) c.in_ok-spot.spot.line c.in_ok-spot.spot.column (units_of c.in_ok-spot.spot.word) c.in_err-default.field-0.0 (targets (left_of c.args.at))
    c.in_ok-spot.ensures (sym c.spells.ensures ∙ c.if-spells.true) c.in_err-default.ensures c.loop-targets.invariant)

pub returns-then-spells : goal.returns-then-spells
returns-then-spells c =
    targets_end c.loop-targets.targets (left_of c.loop-targets.at) (left_of c.in_ok-spot.spot.rest) (left_of c.in_ok-default.at) c.in_ok-spot.spot.line c.in_ok-spot.spot.column (units_of c.in_ok-spot.spot.word) (units_of c.in_ok-default.default) (targets (left_of c.args.at))
    c.in_ok-spot.ensures (sym c.spells.ensures ∙ c.if-spells.true) c.in_ok-default.ensures c.loop-targets.invariant

pub loop-targets-preserved : goal.loop-targets-preserved
loop-targets-preserved c =
    subst (λ (ts : List Label). read_map (λ (x : List Label × Label). (ts ++ x.0, x.1)) (targets (left_of c.in_ok-spot.spot.rest)) ≡ targets (left_of c.args.at)) (sym c.in_ok-push.ensures)
    (targets_more c.loop-targets.targets (left_of c.loop-targets.at) (left_of c.in_ok-spot.spot.rest) c.in_ok-spot.spot.line c.in_ok-spot.spot.column (units_of c.in_ok-spot.spot.word) (targets (left_of c.args.at))
    c.in_ok-spot.ensures (sym c.spells.ensures ∙ c.if-spells.false) c.loop-targets.invariant)
