-- The turns of an instruction, as the machine makes them.
use Rattle.std.specs.Prelude.{◌≡◌, ◌≤◌, ◌⊎◌, ⊤, List, [], Some}
use Rattle.dj_names.specs.declared.run.Value.{Value}
use Rattle.dj_names.specs.declared.run.Charge.TheVariants as charges
use Rattle.dj_names.specs.declared.run.Costs.{Costs}
use Rattle.dj_names.specs.declared.run.Thresholds.{Thresholds}
use Rattle.dj_names.specs.declared.run.Message.TheVariants as messages
use Rattle.dj_names.specs.declared.run.Outcome.{Outcome}
use Rattle.dj_names.specs.declared.run.Outcome.TheVariants as outcomes
use Rattle.dj_names.specs.trusted.Values.{raised_class}
use Rattle.dj_straight.specs.trusted.State.{Heap}
use Rattle.dj_straight.specs.trusted.Instructions.{Instruction}
use Rattle.dj_straight.specs.trusted.Effects.{StraightPart, Flow, Next, Raise, Back, Broken, goes}
use Rattle.dj_straight.specs.trusted.Step.{result_outcome}
use Rattle.dj_straight.specs.trusted.Charges as model
use Rattle.dj_straight.specs.trusted.Charges.{Amount, paid, own_amounts}
use Rattle.dj_straight.specs.Machines.{straight_effect}
use Rattle.dj_straight.specs.declared.machine.pay.Charged.{Charged}
use Rattle.dj_straight.specs.declared.machine.pay.Charged.TheVariants as charged
use Rattle.dj_straight.specs.declared.machine.turns.Advance.{Advance}
use Rattle.dj_straight.specs.declared.machine.turns.Advance.TheVariants as turns

-- the charges of a straight instruction, the same in every program
abbrev pub straight_amounts : Instruction → List Value → List Amount
straight_amounts i operands = own_amounts [] (Some i) operands

abbrev pub charged_view : Charged → model.Payment
charged_view (charged.Paid costs) = model.Paid costs
charged_view (charged.Exceeds costs) = model.Exceeds charges.Alloc costs

abbrev pub PaysWithin : Thresholds → Charged → Type 0
PaysWithin most (charged.Paid costs) = costs.alloc ≤ most.alloc
PaysWithin most (charged.Exceeds costs) = ⊤

-- the run ends in this way where an instruction ends it
abbrev pub FlowEnds : Heap → Flow → Outcome → Type 0
FlowEnds heap (Raise raised) outcome = outcome ≡ outcomes.Threw (raised_class raised) messages.Null
FlowEnds heap (Back result) outcome = outcome ≡ result_outcome heap result
FlowEnds heap Broken outcome = outcome ≡ outcomes.Link
FlowEnds heap _ outcome = ⊥

-- the instruction is done, at these costs
abbrev pub IsDone : Costs → Instruction → StraightPart → StraightPart → Advance → Type 0
IsDone costs i before after (turns.Go now) = (now ≡ costs) × (straight_effect i before ≡ Some (goes after Next))
IsDone costs i before after (turns.End e) =
    (e.costs ≡ costs) × (p : StraightPart) × (flow : Flow) × (straight_effect i before ≡ Some (goes p flow)) × FlowEnds p.heap flow e.outcome

-- the instruction's charges are added, and then it is done
abbrev pub TurnsDo : Thresholds → Costs → Instruction → StraightPart → StraightPart → Advance → Type 0
TurnsDo most costs i before after r =
    ((now : Costs) × (paid most costs (straight_amounts i before.operands) ≡ model.Paid now) × IsDone now i before after r) ⊎ IsStopped most costs i before r where
      IsStopped : Thresholds → Costs → Instruction → StraightPart → Advance → Type 0
      IsStopped most costs i before (turns.Go now) = ⊥
      IsStopped most costs i before (turns.End e) =
          (paid most costs (straight_amounts i before.operands) ≡ model.Exceeds charges.Alloc e.costs) × (e.outcome ≡ outcomes.Stopped charges.Alloc)

abbrev pub GoesWithin : Thresholds → Advance → Type 0
GoesWithin most (turns.Go costs) = costs.alloc ≤ most.alloc
GoesWithin most (turns.End e) = ⊤
