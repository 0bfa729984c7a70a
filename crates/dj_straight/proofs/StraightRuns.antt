-- The loop over a method's instructions: how far the model's run has come.
use Rattle.std.proofs.Common.{◌≡◌, ℕ, zero, suc, ◌+◌, ◌-◌, ◌*◌, ◌<◌, ◌≤◌, inl, inr, true, false, List, [], ◌∷◌, length, replicate, Option, Some, None, IsSome, IsTrue, slice_get, get_or, map, refl, sym, ap, subst, ◌∙◌, arith}
use Rattle.std.specs.Option.{option_map}
use Rattle.std.proofs.lemmas.Option.{slice_get-map, slice_get-get_or}
use Rattle.std.proofs.lemmas.List.{length-replicate}
use Rattle.dj_names.specs.declared.run.Value.{Value}
use Rattle.dj_names.specs.declared.run.Value.TheVariants as values
use Rattle.dj_names.specs.declared.run.Charge.TheVariants as charges
use Rattle.dj_names.specs.declared.run.Costs.{Costs}
use Rattle.dj_names.specs.declared.run.Thresholds.{Thresholds}
use Rattle.dj_names.specs.declared.run.Outcome.{Outcome}
use Rattle.dj_names.specs.declared.run.Element.TheVariants as elements
use Rattle.dj_straight.specs.trusted.Program.{Program, MethodName, Code}
use Rattle.dj_straight.specs.trusted.State.{Heap, Frame, State}
use Rattle.dj_straight.specs.trusted.Instructions.{Instruction, ends}
use Rattle.dj_straight.specs.trusted.Effects.{StraightPart, Flow, Next, To, Raise, Throw, Back, Broken, Full, Effect, effect, goes, Found, Null, NoArray, IsArray, array_at}
use Rattle.dj_straight.specs.trusted.Step.{result_outcome, bytes_in}
use Rattle.dj_straight.specs.trusted.Charges as model
use Rattle.dj_straight.specs.trusted.Charges.{paid, own_amounts, no_costs}
use Rattle.dj_straight.specs.trusted.Metered.{Run, Goes, Ends, turns, RunsTo, metered_terms, input_array, input_size}
use Rattle.dj_straight.specs.trusted.FrameKinds.{Kinds, Read}
use Rattle.dj_straight.specs.trusted.Shape.{StateBefore, Holds, after, first_kinds}
use Rattle.dj_straight.specs.Shape.{HasShape, AllHold}
use Rattle.dj_straight.specs.Sound.{LocalsHave, HasKinds, HasSoundEffect, IsSoundFlow}
use Rattle.dj_straight.proofs.Turns.{Stands, turns_more, turns_next, turns_raise, turns_back, turns_broken, turns_stopped, first_state, statics_none, begins_plainly}
use Rattle.dj_straight.proofs.Sound.{sound_effect}
use Rattle.dj_straight.proofs.Programs.{same_effect, same_amounts}
use Rattle.dj_straight.proofs.Shapes.{one_state}
use Rattle.dj_straight.specs.declared.machine.StraightEnding.{StraightEnding}
use Rattle.dj_straight.specs.declared.machine.turns.Advance.TheVariants as ways
use Rattle.dj_straight.specs.declared.program.Action.{Action}
use Rattle.dj_straight.specs.trusted.Methods.{straight_signature}
use Rattle.dj_straight.specs.Methods.{action_view}
use Rattle.dj_straight.specs.Running.{IsPlainEntry, IsStraightEnd}
use Rattle.dj_straight.specs.Machines.{straight_terms, straight_effect}
use Rattle.dj_straight.specs.Turns.{straight_amounts, TurnsDo, FlowEnds}

abbrev pub frame_at : MethodName → ℕ → StraightPart → Frame
frame_at entry number p = record { method = entry; number = number; locals = p.locals; operands = p.operands; paid = false }

-- the state of the model where the machine stands at an instruction
abbrev pub state_at : Program → MethodName → List ℕ → ℕ → StraightPart → Costs → State
state_at program entry input number p costs =
    record (first_state program entry input) { heap = p.heap; statics = p.statics; literals = p.literals; frames = frame_at entry number p ∷ []; costs = costs }

-- the model's run stands where the machine does, with values of the kinds before the instruction
pub record Reached (code : Code) (input : List ℕ) (most : Thresholds) (number : ℕ) (p : StraightPart) (costs : Costs) : Type 0 where
  pub reaches : (program : Program) (entry : MethodName) → IsPlainEntry program entry code
      → turns program most (2 * number) (first_state program entry input) ≡ Goes (state_at program entry input number p costs)
  pub more : number < length code.instructions
  pub kinds : Kinds
  pub state : StateBefore straight_signature code [] number kinds
  pub values : HasKinds p.locals p.operands kinds
  pub long : length p.locals ≡ code.max_locals
  pub within : costs.alloc ≤ most.alloc

-- ---- the beginning

none_have : (n : ℕ) → LocalsHave (replicate n None) (replicate n None)
none_have zero = tt
none_have (suc n) = none_have n

abbrev pub first_part : ℕ → List ℕ → StraightPart
first_part max_locals input = record {
  locals = Some (values.Ref 1) ∷ replicate (max_locals - 1) None;
  operands = [];
  heap = record { objects = input_array input ∷ []; used = input_size input };
  statics = [];
  literals = [];
}

first_is : (program : Program) (entry : MethodName) (code : Code) (input : List ℕ) → IsPlainEntry program entry code
    → first_state program entry input ≡ state_at program entry input 0 (first_part code.max_locals input) no_costs
first_is program entry code input plain =
    rw (statics_none program plain.no_fields, plain.code_is) refl

pub reached_first : (code : Code) (input : List ℕ) (most : Thresholds) (p : StraightPart) → HasShape straight_signature code → 0 < length code.instructions
    → p ≡ first_part code.max_locals input → Reached code input most 0 p no_costs
unfolding turns
reached_first code input most p shape some is =
    let enough : 1 ≤ code.max_locals = shape.parameters in
    rw is (record {
      reaches = λ program entry plain. ap Goes (first_is program entry code input plain);
      more = some;
      kinds = first_kinds straight_signature code;
      state = refl;
      values = record { locals = (refl, none_have (code.max_locals - 1)); operands = refl };
      long = omega (arith, length-replicate {A = Option Value} (code.max_locals - 1) None);
      within = omega arith;
    })

-- ---- an instruction

module _ (code : Code) (input : List ℕ) (most : Thresholds) (number : ℕ) (i : Instruction) (p : StraightPart) (costs : Costs)
    (no_handlers : code.ranges ≡ []) (each : AllHold straight_signature code (Read [])) (reached : Reached code input most number p costs)
    (at : slice_get code.instructions number ≡ Some i) where
  -- what is left of the kinds, and that the instruction has an effect
  record Finds : Type 0 where
    left : Kinds
    found : after straight_signature code i reached.kinds ≡ Some left
    sound : HasSoundEffect [] straight_terms straight_signature code i left p
    last : suc number ≡ length code.instructions → IsTrue (ends i)

  finds : Finds
  finds =
      let h : Holds straight_signature code [] number = each number reached.more in
      let kinds_are : h.before ≡ reached.kinds = one_state straight_signature code [] number h.before reached.kinds h.state reached.state in
      let both : Some h.instruction ≡ Some i = sym h.at ∙ at in
      let same : h.instruction ≡ i = cc in
      let found : after straight_signature code i reached.kinds ≡ Some h.left =
      subst (λ (k : Kinds). after straight_signature code i k ≡ Some h.left) kinds_are
      (subst (λ (j : Instruction). after straight_signature code j h.before ≡ Some h.left) same h.found) in
      record {
        left = h.left;
        found = found;
        sound = sound_effect [] straight_terms straight_signature code i reached.kinds h.left p refl reached.values reached.long found;
        last = λ e. subst (λ (j : Instruction). IsTrue (ends j)) same (h.last e);
      }

  pub has_effect : IsSome (straight_effect i p)
  has_effect = rw finds.sound.1 refl

  -- in every program
  its_effect : (program : Program) (e : Effect) → straight_effect i p ≡ Some e → effect program (metered_terms most) i p ≡ Some e
  its_effect program e h = same_effect program [] (metered_terms most) straight_terms i p refl ∙ h

  its_payment : (program : Program) (payment : model.Payment) → paid most costs (straight_amounts i p.operands) ≡ payment
      → paid most costs (own_amounts program (Some i) p.operands) ≡ payment
  its_payment program payment e = ap (paid most costs) (same_amounts program [] i p.operands) ∙ e

  stands : (program : Program) (entry : MethodName) → IsPlainEntry program entry code
      → Stands program (state_at program entry input number p costs) (frame_at entry number p) code i
  stands program entry plain = record {
    frames = refl;
    code_is = plain.code_is;
    no_handlers = no_handlers;
    at = at;
    unpaid = refl;
    no_initialiser = plain.no_initialiser;
  }

  -- this many turns later
  later : (program : Program) (entry : MethodName) → IsPlainEntry program entry code → (n : ℕ) (r : Run)
      → turns program most n (state_at program entry input number p costs) ≡ r → turns program most (2 * number + n) (first_state program entry input) ≡ r
  later program entry plain n r e =
      turns_more program most (2 * number) n (first_state program entry input) (state_at program entry input number p costs) (reached.reaches program entry plain) ∙ e

  -- the flow is sound where it goes on
  goes_on : (next : StraightPart) → straight_effect i p ≡ Some (goes next Next) → IsSoundFlow straight_signature code i finds.left next Next
  goes_on next e =
      let both : Some finds.sound.0 ≡ Some (goes next Next) = sym finds.sound.1 ∙ e in
      let same : finds.sound.0 ≡ goes next Next = cc in
      subst (λ (x : Effect). IsSoundFlow straight_signature code i finds.left x.part x.flow) same finds.sound.2

  pub reached_next : (next : StraightPart) (now : Costs) → TurnsDo most costs i p next (ways.Go now) → now.alloc ≤ most.alloc
      → Reached code input most (number + 1) next now
  reached_next next now (inr stopped) within = absurd stopped
  reached_next next now (inl done) within =
      let payment : paid most costs (straight_amounts i p.operands) ≡ model.Paid now = done.1 ∙ ap model.Paid (sym done.2.0) in
      let flow = goes_on next done.2.1 in
      let not_last : suc number ≡ length code.instructions → ⊥ = λ e. let both : true ≡ false = sym (finds.last e) ∙ flow.1 in absurd cc in
      let more : number < length code.instructions = reached.more in
      let count : 2 * number + 2 ≡ 2 * (number + 1) = omega arith in
      let one : suc number ≡ number + 1 = omega arith in
      record {
        reaches = λ program entry plain.
            subst (λ (n : ℕ). turns program most n (first_state program entry input) ≡ Goes (state_at program entry input (number + 1) next now)) count
            (later program entry plain 2 (Goes (state_at program entry input (number + 1) next now))
            (turns_next program most (state_at program entry input number p costs) (frame_at entry number p) code i (stands program entry plain) now (its_payment program _ payment) next (its_effect program _ done.2.1)));
        more = omega arith;
        kinds = finds.left;
        state = subst (λ (n : ℕ). StateBefore straight_signature code [] n finds.left) one (reached.kinds, i, reached.state, at, flow.1, finds.found);
        values = flow.0.0;
        long = flow.0.1;
        within = within;
      }

  -- the run ends in this way, if it does after this many turns from here
  ended : (program : Program) (entry : MethodName) → IsPlainEntry program entry code → (n : ℕ) (outcome : Outcome) (now : Costs)
      → turns program most n (state_at program entry input number p costs) ≡ Ends outcome now → RunsTo program entry input most outcome now
  ended program entry plain n outcome now e =
      (2 * number + n, rw (begins_plainly program entry input most plain.no_fields plain.none_above) (later program entry plain n (Ends outcome now) e))

  done_end : (program : Program) (entry : MethodName) → IsPlainEntry program entry code → (q : StraightPart) (flow : Flow) (outcome : Outcome) (now : Costs)
      → paid most costs (straight_amounts i p.operands) ≡ model.Paid now → straight_effect i p ≡ Some (goes q flow) → FlowEnds q.heap flow outcome
      → turns program most 2 (state_at program entry input number p costs) ≡ Ends outcome now
  done_end program entry plain q Next outcome now payment e end = absurd end
  done_end program entry plain q (To n) outcome now payment e end = absurd end
  done_end program entry plain q (Throw n) outcome now payment e end = absurd end
  done_end program entry plain q (Full used size) outcome now payment e end = absurd end
  done_end program entry plain q (Raise raised) outcome now payment e end =
      turns_raise program most (state_at program entry input number p costs) (frame_at entry number p) code i (stands program entry plain) now (its_payment program _ payment) q raised (its_effect program _ e)
      ∙ ap (λ (o : Outcome). Ends o now) (sym end)
  done_end program entry plain q (Back result) outcome now payment e end =
      turns_back program most (state_at program entry input number p costs) (frame_at entry number p) code i (stands program entry plain) now (its_payment program _ payment) q result (its_effect program _ e)
      ∙ ap (λ (o : Outcome). Ends o now) (sym end)
  done_end program entry plain q Broken outcome now payment e end =
      turns_broken program most (state_at program entry input number p costs) (frame_at entry number p) code i (stands program entry plain) now (its_payment program _ payment) q (its_effect program _ e)
      ∙ ap (λ (o : Outcome). Ends o now) (sym end)

  pub runs_to : (next : StraightPart) (e : StraightEnding) → TurnsDo most costs i p next (ways.End e)
      → (program : Program) (entry : MethodName) → IsPlainEntry program entry code → RunsTo program entry input most e.outcome e.costs
  runs_to next e (inl done) program entry plain =
      let payment : paid most costs (straight_amounts i p.operands) ≡ model.Paid e.costs = done.1 ∙ ap model.Paid (sym done.2.0) in
      ended program entry plain 2 e.outcome e.costs (done_end program entry plain done.2.1 done.2.2 e.outcome e.costs payment done.2.3 done.2.4)
  runs_to next e (inr stopped) program entry plain =
      ended program entry plain 1 e.outcome e.costs
      (turns_stopped program most (state_at program entry input number p costs) (frame_at entry number p) code i (stands program entry plain) charges.Alloc e.costs (its_payment program _ stopped.0)
      ∙ ap (λ (o : Outcome). Ends o e.costs) (sym stopped.1))

-- ---- a method's instructions

pub action_at : (actions : List Action) (n : ℕ) (d : Action) → n < length actions → slice_get (map action_view actions) n ≡ Some (action_view (get_or actions n d))
action_at actions n d within = slice_get-map action_view actions n ∙ ap (option_map action_view) (slice_get-get_or actions n d within)

-- ---- outcomes

straight_result : (heap : Heap) (result : Option Value) → IsStraightEnd (result_outcome heap result)
straight_result heap None = tt
straight_result heap (Some (values.Int z)) = tt
straight_result heap (Some (values.Long z)) = tt
straight_result heap (Some (values.Ref zero)) = tt
straight_result heap (Some (values.Ref (suc n))) = straight_bytes (array_at heap.objects (suc n)) where
  straight_bytes : (found : Found) → IsStraightEnd (bytes_in found)
  straight_bytes Null = tt
  straight_bytes NoArray = tt
  straight_bytes (IsArray class elements.Boolean contents) = tt
  straight_bytes (IsArray class elements.Byte contents) = tt
  straight_bytes (IsArray class elements.Char contents) = tt
  straight_bytes (IsArray class elements.Short contents) = tt
  straight_bytes (IsArray class elements.Int contents) = tt
  straight_bytes (IsArray class elements.Long contents) = tt
  straight_bytes (IsArray class elements.Ref contents) = tt

straight_flow : (heap : Heap) (flow : Flow) (outcome : Outcome) → FlowEnds heap flow outcome → IsStraightEnd outcome
straight_flow heap Next outcome end = absurd end
straight_flow heap (To n) outcome end = absurd end
straight_flow heap (Throw n) outcome end = absurd end
straight_flow heap (Full used size) outcome end = absurd end
straight_flow heap (Raise raised) outcome end = rw end tt
straight_flow heap (Back result) outcome end = rw end (straight_result heap result)
straight_flow heap Broken outcome end = rw end tt

pub straight_end : (most : Thresholds) (costs : Costs) (i : Instruction) (p next : StraightPart) (e : StraightEnding) → TurnsDo most costs i p next (ways.End e) → IsStraightEnd e.outcome
straight_end most costs i p next e (inl done) = straight_flow done.2.1.heap done.2.2 e.outcome done.2.4
straight_end most costs i p next e (inr stopped) = rw stopped.1 tt
