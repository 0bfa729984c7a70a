use Rattle.std.proofs.Common.{◌++◌, ◌∷◌, [], map, ap, ◌∙◌, arith}
use Rattle.std.proofs.lemmas.List.{take_all, map_push, length-map}
use Rattle.dj_straight.specs.trusted.Instructions.{instruction_of}
use Rattle.dj_straight.specs.Methods.{action_view}
use Rattle.dj_edge.proofs.Lists.{mapped_more}
use Rattle.dj_straight.proofs.straight.code.actions_of.Goals as goal

pub loop-instr-preserved : goal.loop-instr-preserved
loop-instr-preserved c =
    let before = map action_view c.loop-instr.actions.items in
    ap (map action_view) c.in_ok-push.ensures.items ∙ map_push action_view c.loop-instr.actions.items c.action_of.result
    ∙ ap (λ does. before ++ does ∷ []) c.action_of.ensures
    ∙ mapped_more instruction_of c.args.instrs.now c.loop-instr.instr-index c.instr-item.result before c.loop-instr-test.true c.instr-item.is c.loop-instr.invariant

pub returns : goal.returns
returns c =
    c.loop-instr.invariant
    ∙ take_all c.loop-instr.instr-index (map instruction_of c.args.instrs.now) (omega (arith, length-map c.args.instrs.now instruction_of, c.loop-instr-test.false))
