-- Code with shape runs to an end.
use Rattle.std.proofs.Common.{◌≡◌, ℕ, zero, suc, ◌+◌, ◌-◌, ◌*◌, ◌<◌, ◌≤◌, Bool, true, false, List, [], ◌∷◌, length, Some, refl, sym, subst, ◌∙◌, IsTrue, IsFalse, arith}
use Rattle.dj_names.specs.declared.run.Value.TheVariants as values
use Rattle.dj_names.specs.declared.run.Costs.{Costs}
use Rattle.dj_names.specs.declared.run.Thresholds.{Thresholds}
use Rattle.dj_names.specs.declared.run.Outcome.{Outcome}
use Rattle.dj_straight.specs.trusted.Program.{Program, MethodName, Code, code_of, is_initialiser}
use Rattle.dj_straight.specs.trusted.State.{Frame, State}
use Rattle.dj_straight.specs.trusted.Instructions.{Instruction, ends}
use Rattle.dj_straight.specs.trusted.Effects.{StraightPart, Flow, Next, To, Raise, Throw, Back, Broken, Full, effect}
use Rattle.dj_straight.specs.trusted.Step.{part_of, at_number}
use Rattle.dj_straight.specs.trusted.Charges.{own_amounts, paid, Payment, Paid, Exceeds}
use Rattle.dj_straight.specs.trusted.Metered.{Ends, turns, run, metered_terms}
use Rattle.dj_straight.specs.trusted.Initialisation.{new_frame}
use Rattle.dj_straight.specs.trusted.FrameKinds.{Signature, Kinds, Read}
use Rattle.dj_straight.specs.trusted.Shape.{StateBefore, Holds, first_kinds}
use Rattle.dj_straight.specs.Shape.{AllHold}
use Rattle.dj_straight.specs.Sound.{HasKinds, HasSoundEffect, IsSoundFlow}
use Rattle.dj_straight.specs.Laws.{IsStraightEntry}
use Rattle.dj_straight.proofs.Turns.{Stands, turns_more, turns_ended, turns_next, turns_raise, turns_back, turns_broken, turns_full, turns_stopped, first_state, begins_plainly}
use Rattle.dj_straight.proofs.Sound.{sound_effect, first_kinds_hold}
use Rattle.dj_straight.proofs.Shapes.{one_state, all_hold}

-- an instruction after which the run goes on isn't the last
more_left : (number count total : ℕ) (last : Bool) → number + suc count ≡ total → (suc number ≡ total → IsTrue last) → IsFalse last
    → 0 < count
more_left number zero total last is at_end goes_on =
    let end : suc number ≡ total = omega arith in
    let both : true ≡ false = sym (at_end end) ∙ goes_on in
    absurd cc
more_left number (suc count) total last is at_end goes_on = omega arith

-- no instruction is among none
no_target : {A : Type 0} (k : ℕ) → k < 0 → A
no_target k below = absurd (omega arith)

module _ (program : Program) (most : Thresholds) (signature : Signature) (code : Code)
    (no_handlers : code.ranges ≡ []) (each : AllHold signature code (Read [])) where
  -- the run ends within this many turns
  abbrev EndsFrom : ℕ → State → Type 0
  EndsFrom n s = (outcome : Outcome) × (costs : Costs) × (turns program most n s ≡ Ends outcome costs)

  -- the frame stands alone at an unpaid instruction, with values of the kinds before it
  record IsAt (s : State) (f : Frame) : Type 0 where
    kinds : Kinds
    frames : s.frames ≡ f ∷ []
    code_is : code_of program f.method ≡ Some code
    unpaid : f.paid ≡ false
    no_initialiser : is_initialiser f.method ≡ false
    state : StateBefore signature code [] f.number kinds
    values : HasKinds f.locals f.operands kinds
    long : length f.locals ≡ code.max_locals

  later : (m n : ℕ) (s : State) → m ≤ n → EndsFrom m s → EndsFrom n s
  later m n s le e =
      let whole : m + (n - m) ≡ n = omega arith in
      (e.0, e.1, subst (λ k. turns program most k s ≡ Ends e.0 e.1) whole (turns_ended program most m (n - m) s e.0 e.1 e.2))

  -- what follows the payment, where the rest of the code ends
  done : (n : ℕ) (s : State) (f : Frame) (i : Instruction) (left : Kinds) (costs : Costs) → IsAt s f → Stands program s f code i
      → ((t : State) (g : Frame) → IsAt t g → f.number + 1 ≡ g.number → IsFalse (ends i) → EndsFrom n t)
      → (IsFalse (ends i) → StateBefore signature code [] (suc f.number) left)
      → paid most s.costs (own_amounts program (Some i) f.operands) ≡ Paid costs
      → (p : StraightPart) (flow : Flow) → effect program (metered_terms most) i (part_of f s) ≡ Some (record { part = p; flow = flow })
      → IsSoundFlow signature code i left p flow
      → EndsFrom (2 + n) s
  done n s f i left costs at stands rest state payment p Next e sound =
      let f2 : Frame = at_number f p (f.number + 1) in
      let s2 : State = record s { heap = p.heap; statics = p.statics; literals = p.literals; frames = f2 ∷ []; costs = costs } in
      let same : suc f.number ≡ f.number + 1 = omega arith in
      let there : IsAt s2 f2 = record {
        kinds = left;
        frames = refl;
        code_is = at.code_is;
        unpaid = refl;
        no_initialiser = at.no_initialiser;
        state = subst (λ k. StateBefore signature code [] k left) same (state sound.1);
        values = sound.0.0;
        long = sound.0.1;
      } in
      let r = rest s2 f2 there refl sound.1 in
      (r.0, r.1, turns_more program most 2 n s s2 (turns_next program most s f code i stands costs payment p e) ∙ r.2)
  done n s f i left costs at stands rest state payment p (To number) e sound = no_target sound.1.0 sound.1.1
  done n s f i left costs at stands rest state payment p (Throw exception) e sound = absurd cc
  done n s f i left costs at stands rest state payment p (Raise raised) e sound =
      later 2 (2 + n) s (omega arith) (_, _, turns_raise program most s f code i stands costs payment p raised e)
  done n s f i left costs at stands rest state payment p (Back result) e sound =
      later 2 (2 + n) s (omega arith) (_, _, turns_back program most s f code i stands costs payment p result e)
  done n s f i left costs at stands rest state payment p Broken e sound =
      later 2 (2 + n) s (omega arith) (_, _, turns_broken program most s f code i stands costs payment p e)
  done n s f i left costs at stands rest state payment p (Full used size) e sound =
      later 2 (2 + n) s (omega arith) (_, _, turns_full program most s f code i stands costs payment p used size e)

  paying : (n : ℕ) (s : State) (f : Frame) (i : Instruction) (left : Kinds) → IsAt s f → Stands program s f code i
      → ((t : State) (g : Frame) → IsAt t g → f.number + 1 ≡ g.number → IsFalse (ends i) → EndsFrom n t)
      → (IsFalse (ends i) → StateBefore signature code [] (suc f.number) left) → HasSoundEffect program (metered_terms most) signature code i left (part_of f s)
      → (payment : Payment) → paid most s.costs (own_amounts program (Some i) f.operands) ≡ payment → EndsFrom (2 + n) s
  paying n s f i left at stands rest state sound (Paid costs) payment =
      done n s f i left costs at stands rest state payment sound.0.part sound.0.flow sound.1 sound.2
  paying n s f i left at stands rest state sound (Exceeds charge costs) payment =
      later 1 (2 + n) s (omega arith) (_, _, turns_stopped program most s f code i stands charge costs payment)

  -- this many instructions are left
  ends_from : (count : ℕ) (s : State) (f : Frame) → IsAt s f → f.number + count ≡ length code.instructions → 0 < count
      → EndsFrom (2 * count) s
  ends_from zero s f at total some = absurd (omega arith)
  ends_from (suc count) s f at total some =
      let h : Holds signature code [] f.number = each f.number (omega arith) in
      let kinds_are : at.kinds ≡ h.before = one_state signature code [] f.number at.kinds h.before at.state h.state in
      let stands : Stands program s f code h.instruction = record {
        frames = at.frames;
        code_is = at.code_is;
        no_handlers = no_handlers;
        at = h.at;
        unpaid = at.unpaid;
        no_initialiser = at.no_initialiser;
      } in
      let values : HasKinds f.locals f.operands h.before = rw kinds_are at at.values in
      let sound = sound_effect program (metered_terms most) signature code h.instruction h.before h.left (part_of f s) refl values at.long h.found in
      let turns_are : 2 + 2 * count ≡ 2 * suc count = omega arith in
      let rest : (t : State) (g : Frame) → IsAt t g → f.number + 1 ≡ g.number → IsFalse (ends h.instruction) → EndsFrom (2 * count) t
      = λ t g there next goes_on. ends_from count t g there (omega arith)
      (more_left f.number count (length code.instructions) (ends h.instruction) total h.last goes_on) in
      subst (λ n. EndsFrom n s) turns_are (paying (2 * count) s f h.instruction h.left at stands rest
      (λ goes_on. (h.before, h.instruction, h.state, h.at, goes_on, h.found)) sound _ refl)

pub straight_code_ends : (program : Program) (entry : MethodName) (signature : Signature) (code : Code) (input : List ℕ) (most : Thresholds)
    → IsStraightEntry program entry signature code
    → (outcome : Outcome) × (costs : Costs) × (run program entry input most (2 * length code.instructions) ≡ Ends outcome costs)
straight_code_ends program entry signature code input most is =
    let f : Frame = new_frame program entry (values.Ref 1 ∷ []) in
    let s : State = first_state program entry input in
    let first = first_kinds_hold signature code program entry 1 is.code_is is.parameters is.shape.parameters in
    let each : AllHold signature code (Read []) = all_hold signature code is.no_frames is.shape in
    let at : IsAt program most signature code is.no_handlers each s f = record {
      kinds = first_kinds signature code;
      frames = refl;
      code_is = is.code_is;
      unpaid = refl;
      no_initialiser = is.no_initialiser;
      state = refl;
      values = first.0;
      long = first.1;
    } in
    let e = ends_from program most signature code is.no_handlers each (length code.instructions) s f at (omega arith) is.some in
    (e.0, e.1, rw (begins_plainly program entry input most is.no_fields is.no_initialisers) e.2)
