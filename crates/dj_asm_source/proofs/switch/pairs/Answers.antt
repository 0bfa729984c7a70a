use Rattle.std.proofs.Common.{◌≡◌, ◌++◌, List, ℤ, None, sym, subst, ◌∙◌, FitsSigned, rules}
use Rattle.std.specs.Int.{w32}
use Rattle.std.proofs.lemmas.Int.{to_z-of_z}
use Rattle.std.proofs.lemmas.Result.{err_from_is_err_and}
use Rattle.dj_asm_source.specs.trusted.Lines.{Label}
use Rattle.dj_asm_source.specs.Reading.{read_map}
use Rattle.dj_asm_source.specs.LineReading.{LabelPairs, pairs_after}
use Rattle.dj_asm_tokens.specs.Views.{units_of, left_of}
use Rattle.dj_asm_source.proofs.PairLists.{pairs_end, pairs_end_stop, pairs_stop, pairs_key_stop, pairs_target_stop, pairs_more, pair_shorter}
use Rattle.dj_asm_source.proofs.switch.pairs.Goals as goal

pub returns-in_err-spot : goal.returns-in_err-spot
returns-in_err-spot c =
    let p = err_from_is_err_and c.from_residual.result c.from_residual.ensures.1 in
    rw (p.1, p.2) (pairs_stop c.loop-pairs.pairs (left_of c.loop-pairs.at) c.in_err-spot.field-0.0 (pairs_after None (left_of c.args.at)) c.in_err-spot.ensures c.loop-pairs.invariant)

pub returns-in_err-default : goal.returns-in_err-default
returns-in_err-default c =
    let p = err_from_is_err_and c.from_residual-in_err-default.result c.from_residual-in_err-default.ensures.1 in
    rw (p.1, p.2)
    (pairs_end_stop c.loop-pairs.pairs (left_of c.loop-pairs.at) (left_of c.in_ok-spot.spot.rest) c.in_ok-spot.spot.line c.in_ok-spot.spot.column (units_of c.in_ok-spot.spot.word) c.in_err-default.field-0.0 (pairs_after None (left_of c.args.at))
    c.in_ok-spot.ensures (sym c.spells.ensures ∙ c.if-spells.true) c.in_err-default.ensures c.loop-pairs.invariant)

pub returns-then-spells : goal.returns-then-spells
returns-then-spells c =
    pairs_end c.loop-pairs.pairs (left_of c.loop-pairs.at) (left_of c.in_ok-spot.spot.rest) (left_of c.in_ok-default.at) c.in_ok-spot.spot.line c.in_ok-spot.spot.column (units_of c.in_ok-spot.spot.word) (units_of c.in_ok-default.default) (pairs_after None (left_of c.args.at))
    c.in_ok-spot.ensures (sym c.spells.ensures ∙ c.if-spells.true) c.in_ok-default.ensures c.loop-pairs.invariant

pub returns-in_err-key : goal.returns-in_err-key
returns-in_err-key c =
    let p = err_from_is_err_and c.from_residual-in_err-key.result c.from_residual-in_err-key.ensures.1 in
    rw (p.1, p.2)
    (pairs_key_stop c.loop-pairs.pairs (left_of c.loop-pairs.at) (left_of c.in_ok-spot.spot.rest) c.in_ok-spot.spot.line c.in_ok-spot.spot.column (units_of c.in_ok-spot.spot.word) c.in_err-key.field-0.0 (pairs_after None (left_of c.args.at))
    c.in_ok-spot.ensures (sym c.spells.ensures ∙ c.if-spells.false) c.in_err-key.ensures c.loop-pairs.invariant)

pub returns-in_err-target : goal.returns-in_err-target
returns-in_err-target c =
    let p = err_from_is_err_and c.from_residual-in_err-target.result c.from_residual-in_err-target.ensures.1 in
    rw (p.1, p.2)
    (pairs_target_stop c.loop-pairs.pairs (left_of c.loop-pairs.at) (left_of c.in_ok-spot.spot.rest) (left_of c.in_ok-key.rest) c.in_ok-spot.spot.line c.in_ok-spot.spot.column (units_of c.in_ok-spot.spot.word) c.in_ok-key.key c.in_err-target.field-0.0 (pairs_after None (left_of c.args.at))
    c.in_ok-spot.ensures (sym c.spells.ensures ∙ c.if-spells.false) c.in_ok-key.ensures c.in_err-target.ensures c.loop-pairs.invariant)

pub loop-pairs-smaller : goal.loop-pairs-smaller
loop-pairs-smaller c = pair_shorter (left_of c.loop-pairs.at) (left_of c.in_ok-key.rest) (left_of c.in_ok-target.rest) c.in_ok-key.key (units_of c.in_ok-target.target) c.in_ok-key.ensures c.in_ok-target.ensures

pub loop-pairs-preserved : goal.loop-pairs-preserved
loop-pairs-preserved c =
    let fits : FitsSigned w32 c.in_ok-key.key = search rules in
    subst (λ (ps : List (ℤ × Label)). read_map (λ (x : LabelPairs). (ps ++ x.0, x.1)) (pairs_after None (left_of c.in_ok-target.rest)) ≡ pairs_after None (left_of c.args.at)) (sym (rw (to_z-of_z w32 c.in_ok-key.key fits) at c.in_ok-push.ensures))
    (pairs_more c.loop-pairs.pairs (left_of c.loop-pairs.at) (left_of c.in_ok-spot.spot.rest) (left_of c.in_ok-key.rest) (left_of c.in_ok-target.rest) c.in_ok-spot.spot.line c.in_ok-spot.spot.column (units_of c.in_ok-spot.spot.word) (units_of c.in_ok-target.target) c.in_ok-key.key (pairs_after None (left_of c.args.at))
    c.in_ok-spot.ensures (sym c.spells.ensures ∙ c.if-spells.false) c.in_ok-key.ensures c.in_ok-target.ensures c.loop-pairs.invariant)
