use Rattle.std.proofs.Common.{All}
use Rattle.dj_straight.specs.declared.program.Action.{Action}
use Rattle.dj_straight.specs.Methods.{action_view, code_view}
use Rattle.dj_straight.specs.Machines.{machine_view}
use Rattle.dj_straight.specs.Running.{PushesNull}
use Rattle.dj_straight.proofs.StraightRuns.{Reached}
use Rattle.dj_straight.proofs.Linked.{IsLinked}
use Rattle.dj_straight.proofs.machine.run_method.Given as goal

abbrev pub invariant-loop-action : goal.invariant-loop-action
invariant-loop-action l = record {
  reached : Reached (code_view l.method) l.input l.thresholds l.action-index (machine_view l.machine) l.costs;
  linked : All (λ (a : Action). PushesNull (action_view a)) l.method.actions.items → IsLinked (machine_view l.machine);
}
