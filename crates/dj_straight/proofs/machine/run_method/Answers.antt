use Rattle.std.proofs.Common.{◌≡◌, ◌<◌, List, length, map, slice_get, slice_index_or, Some, refl, subst, arith}
use Rattle.std.proofs.lemmas.List.{length-map}
use Rattle.dj_straight.specs.declared.program.Action.{Action}
use Rattle.dj_straight.specs.declared.program.Action.TheVariants.{Nop}
use Rattle.dj_straight.proofs.Shapes.{all_hold}
use Rattle.dj_straight.specs.trusted.Methods.{straight_signature}
use Rattle.dj_straight.specs.Methods.{code_view, action_view}
use Rattle.dj_straight.specs.declared.machine.turns.Advance.{Advance}
use Rattle.dj_straight.specs.Machines.{machine_view}
use Rattle.dj_straight.specs.Turns.{TurnsDo, GoesWithin}
use Rattle.dj_straight.proofs.Linked.{first_linked, next_linked, end_linked, action_null}
use Rattle.dj_straight.proofs.StraightRuns.{reached_first, first_part, has_effect, reached_next, runs_to, straight_end, action_at}
use Rattle.dj_straight.proofs.machine.run_method.Goals as goal

pub loop-action-init : goal.loop-action-init
loop-action-init c =
    let code = code_view c.args.method.now in
    let m = machine_view c.in_ok-machine.machine in
    let some : 0 < length code.instructions = omega (arith, length-map c.args.method.now.actions.items action_view, c.requires.some) in
    let first : m ≡ first_part code.max_locals c.args.input.now =
    rw (c.in_ok-machine.ensures.locals, c.in_ok-machine.ensures.operands, c.in_ok-machine.ensures.heap) refl in
    record {
      reached = reached_first code c.args.input.now c.args.thresholds m c.requires.shape some first;
      linked = λ null. first_linked code.max_locals c.args.input.now m first;
    }

pub turns-requires-clause-sound : goal.turns-requires-clause-sound
turns-requires-clause-sound c =
    let code = code_view c.args.method.now in
    let action = slice_index_or c.as_slice-action-items.result.now c.loop-action.action-index Nop in
    let at = subst (λ (xs : List Action). slice_get (map action_view xs) c.loop-action.action-index ≡ Some (action_view action)) c.as_slice-action-items.ensures.value
    (action_at c.as_slice-action-items.result.now c.loop-action.action-index Nop c.loop-action-test.true) in
    has_effect code c.args.input.now c.args.thresholds c.loop-action.action-index (action_view action) (machine_view c.loop-action.machine) c.loop-action.costs
    refl (all_hold straight_signature code refl c.requires.shape) c.loop-action.invariant.reached at

pub returns-in-End-clause-runs : goal.returns-in-End-clause-runs
returns-in-End-clause-runs c =
    let code = code_view c.args.method.now in
    let action = slice_index_or c.as_slice-action-items.result.now c.loop-action.action-index Nop in
    let at = subst (λ (xs : List Action). slice_get (map action_view xs) c.loop-action.action-index ≡ Some (action_view action)) c.as_slice-action-items.ensures.value
    (action_at c.as_slice-action-items.result.now c.loop-action.action-index Nop c.loop-action-test.true) in
    runs_to code c.args.input.now c.args.thresholds c.loop-action.action-index (action_view action) (machine_view c.loop-action.machine) c.loop-action.costs
    refl (all_hold straight_signature code refl c.requires.shape) c.loop-action.invariant.reached at (machine_view c.turns.new.self) c.in-End.ending
    (subst (λ (r : Advance). TurnsDo c.args.thresholds c.loop-action.costs (action_view action) (machine_view c.loop-action.machine) (machine_view c.turns.new.self) r) c.in-End.is
    c.in_ok-paid.ensures.turns)

pub returns-in-End-clause-kinds : goal.returns-in-End-clause-kinds
returns-in-End-clause-kinds c =
    let action = slice_index_or c.as_slice-action-items.result.now c.loop-action.action-index Nop in
    straight_end c.args.thresholds c.loop-action.costs (action_view action) (machine_view c.loop-action.machine) (machine_view c.turns.new.self) c.in-End.ending
    (subst (λ (r : Advance). TurnsDo c.args.thresholds c.loop-action.costs (action_view action) (machine_view c.loop-action.machine) (machine_view c.turns.new.self) r) c.in-End.is
    c.in_ok-paid.ensures.turns)

pub returns-in-End-clause-linked : goal.returns-in-End-clause-linked
returns-in-End-clause-linked c = λ null.
    let action = slice_index_or c.as_slice-action-items.result.now c.loop-action.action-index Nop in
    end_linked c.args.thresholds c.loop-action.costs action (machine_view c.loop-action.machine) (machine_view c.turns.new.self) c.in-End.ending
    (action_null c.args.method.now.actions.items c.as_slice-action-items.result.now c.loop-action.action-index Nop c.as_slice-action-items.ensures.value c.loop-action-test.true null)
    (c.loop-action.invariant.linked null)
    (subst (λ (r : Advance). TurnsDo c.args.thresholds c.loop-action.costs (action_view action) (machine_view c.loop-action.machine) (machine_view c.turns.new.self) r) c.in-End.is
    c.in_ok-paid.ensures.turns)

pub loop-action-preserved : goal.loop-action-preserved
loop-action-preserved c =
    let code = code_view c.args.method.now in
    let action = slice_index_or c.as_slice-action-items.result.now c.loop-action.action-index Nop in
    let at = subst (λ (xs : List Action). slice_get (map action_view xs) c.loop-action.action-index ≡ Some (action_view action)) c.as_slice-action-items.ensures.value
    (action_at c.as_slice-action-items.result.now c.loop-action.action-index Nop c.loop-action-test.true) in
    let turns = subst (λ (r : Advance). TurnsDo c.args.thresholds c.loop-action.costs (action_view action) (machine_view c.loop-action.machine) (machine_view c.turns.new.self) r) c.in-Go.is
    c.in_ok-paid.ensures.turns in
    record {
      reached = reached_next code c.args.input.now c.args.thresholds c.loop-action.action-index (action_view action) (machine_view c.loop-action.machine) c.loop-action.costs
          refl (all_hold straight_signature code refl c.requires.shape) c.loop-action.invariant.reached at (machine_view c.turns.new.self) c.in-Go.paid
          turns (subst (λ (r : Advance). GoesWithin c.args.thresholds r) c.in-Go.is (c.in_ok-paid.ensures.within c.loop-action.invariant.reached.within));
      linked = λ null. next_linked c.args.thresholds c.loop-action.costs c.in-Go.paid action (machine_view c.loop-action.machine) (machine_view c.turns.new.self)
          (action_null c.args.method.now.actions.items c.as_slice-action-items.result.now c.loop-action.action-index Nop c.as_slice-action-items.ensures.value c.loop-action-test.true null)
          (c.loop-action.invariant.linked null) turns;
    }
