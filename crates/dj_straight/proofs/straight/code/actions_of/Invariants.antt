use Rattle.std.proofs.Common.{◌≡◌, map, take}
use Rattle.dj_straight.specs.trusted.Instructions.{instruction_of}
use Rattle.dj_straight.specs.Methods.{action_view}
use Rattle.dj_straight.proofs.straight.code.actions_of.Given as goal

-- what the instructions so far do
abbrev pub invariant-loop-instr : goal.invariant-loop-instr
invariant-loop-instr l = map action_view l.actions.items ≡ take l.instr-index (map instruction_of l.instrs)
