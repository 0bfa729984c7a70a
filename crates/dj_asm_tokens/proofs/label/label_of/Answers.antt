use Rattle.std.proofs.Common.{◌≡◌, ◌+◌, ◌-◌, ℕ, List, ◌∷◌, take, drop, length, ap, ◌∙◌, arith}
use Rattle.std.proofs.lemmas.List.{take_rest, length-drop}
use Rattle.dj_asm_tokens.proofs.LabelWords.{first_at, past_end, ends_after, no_units}
use Rattle.dj_asm_tokens.proofs.label.label_of.Goals as goal

pub before_colon-requires-clause-last : goal.before_colon-requires-clause-last
before_colon-requires-clause-last c =
    first_at c.args.bytes.now _ c.loop-at.at c.first_unit-unit.result.0 c.first_unit-unit.result.1 (take_rest c.args.bytes.now c.loop-at.at) c.first_unit-unit.ensures.unit
    ∙ ap (λ (us : List ℕ). c.first_unit-unit.result.0 ∷ us) (past_end c.args.bytes.now (c.loop-at.at + c.first_unit-unit.result.1) (omega arith))

pub loop-at-preserved : goal.loop-at-preserved
loop-at-preserved c =
    let size : length (take (length c.args.bytes.now - c.loop-at.at) (drop c.loop-at.at c.args.bytes.now)) ≡ length c.args.bytes.now - c.loop-at.at = ap length (take_rest c.args.bytes.now c.loop-at.at) ∙ length-drop c.loop-at.at c.args.bytes.now in
    record {
      within = omega arith;
      ends =
          ends_after c.args.bytes.now (drop c.loop-at.at c.args.bytes.now) (drop (c.loop-at.at + c.first_unit-unit.result.1) c.args.bytes.now) c.first_unit-unit.result.0
          (first_at c.args.bytes.now _ c.loop-at.at c.first_unit-unit.result.0 c.first_unit-unit.result.1 (take_rest c.args.bytes.now c.loop-at.at) c.first_unit-unit.ensures.unit)
          (omega (arith, length-drop (c.loop-at.at + c.first_unit-unit.result.1) c.args.bytes.now)) c.loop-at.invariant.ends;
    }

pub returns : goal.returns
returns c = no_units c.args.bytes.now (drop c.loop-at.at c.args.bytes.now) (past_end c.args.bytes.now c.loop-at.at (omega arith)) c.loop-at.invariant.ends
