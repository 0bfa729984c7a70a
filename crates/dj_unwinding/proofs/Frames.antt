-- Frames as the model sees them, where an exception goes up them and where methods return.
use Rattle.std.proofs.Common.{◌≡◌, ◌<◌, ℕ, ◌+◌, Bool, true, false, List, [], ◌∷◌, ◌++◌, length, Option, Some, None, nat_le, nat_lt, ◌&&◌, if◌then◌else◌, refl, sym, ap, subst, ◌∙◌, arith, Contains}
use Rattle.std.specs.Prelude.{slice_get, unwrap_or}
use Rattle.std.specs.Option.{option_map}
use Rattle.std.proofs.lemmas.Option.{none-some, slice_get_within}
use Rattle.dj_names.specs.declared.descriptor.Ty.{Ty}
use Rattle.dj_names.specs.declared.run.Value.{Value}
use Rattle.dj_names.specs.declared.run.Value.TheVariants as values
use Rattle.dj_names.specs.declared.run.Outcome.TheVariants as outcomes
use Rattle.dj_names.specs.trusted.Types.{Name}
use Rattle.dj_model.specs.trusted.Types.{Prefix, Declared}
use Rattle.dj_model.specs.trusted.Program.{Program, Class, Range, code_of, is_initialiser}
use Rattle.dj_model.specs.trusted.Linking.{option_list, member_class}
use Rattle.dj_model.specs.trusted.State.{Frame, State}
use Rattle.dj_model.specs.Sound.{IsSound}
use Rattle.dj_model.specs.trusted.Step.{StepAnswer, Went, catches, handler_in, handler_of, caught, ends_with, leaves_frame, at_handler, unwound, message_of, resumed}
use Rattle.dj_model.proofs.SoundLinks.{here, later}
use Rattle.dj_stack.specs.Frames.{StackFrame, SameFrames, SameButNumber, SameButOperands, below_top, top_method, top_number, top_locals, top_operands, top_room}
use Rattle.dj_class_table.specs.Tables.{name_of}
use Rattle.dj_image.specs.Imaged.{Imaged, program_of}
use Rattle.dj_current_method.specs.Activations.{declared_at, frame_seen, frames_seen, IsActivation, AreActivations}
use Rattle.dj_current_method.specs.Reported.{IsInitialiserOf}
use Rattle.dj_current_method.proofs.Standing.{code_of_activation, below_stand, same_stand}
use Rattle.dj_current_method.proofs.Rooms.{handler_room}
use Rattle.dj_unwinding.specs.declared.returning.Returned.TheVariants as returns
use Rattle.dj_unwinding.specs.declared.unwinding.Unwound.{Unwound}
use Rattle.dj_unwinding.specs.declared.unwinding.Unwound.TheVariants as unwinds
use Rattle.dj_unwinding.specs.Resuming.{HasRoom, Resumes}
use Rattle.dj_unwinding.specs.Returns.{HasRoomBelow, IsReturned}
use Rattle.dj_unwinding.specs.Unwinding.{class_name_at, frames_unwound, IsUnwound, GoesOn}
use Rattle.dj_unwinding.proofs.Catching.{body_of_code}

-- ---- returns

-- the caller, as the model sees it, after its call is done
resumed_seen : (program : Program) (caller : StackFrame) (below : List StackFrame) (new : List StackFrame) (value : Option Value) → Resumes (caller ∷ below) new value
    → record (frame_seen program caller) { number = caller.number + 1; operands = option_list value ++ caller.operands; paid = false } ∷ frames_seen program below ≡ frames_seen program new
resumed_seen program caller below [] value is = absurd (omega (arith, is.frames.count))
resumed_seen program caller below (g ∷ rest) value is =
    λ i. record {
      method = declared_at program (sym is.frames.method i);
      number = sym is.number i;
      locals = sym is.locals i;
      operands = sym is.operands i;
      paid = false;
    } ∷ frames_seen program (sym is.frames.below i)

pub last_returned : (program : Program) (old : List StackFrame) (value : Option Value) → length old ≡ 1 → IsReturned program old old value returns.Last
last_returned program [] value one s = absurd (omega (arith, one))
last_returned program (f ∷ []) value one s = refl
last_returned program (f ∷ (g ∷ below)) value one s = absurd (omega (arith, one))

pub initialiser_returned : (program : Program) (old new : List StackFrame) (value : Option Value) → 0 < length old → (length old ≡ 1 → ⊥) → new ≡ below_top old
    → true ≡ is_initialiser (declared_at program (top_method old)) → IsReturned program old new value returns.Back
initialiser_returned program [] new value some more is init s = absurd (omega (arith, some))
initialiser_returned program (f ∷ []) new value some more is init s = absurd (more refl)
initialiser_returned program (f ∷ (caller ∷ below)) new value some more is init s =
    let test : is_initialiser (declared_at program f.method) ≡ true = sym init in
    let left : resumed (frame_seen program f) value (frame_seen program caller) ≡ frame_seen program caller = rw test refl in
    ap (λ (c : Frame Declared). Went (record s { frames = c ∷ frames_seen program below })) left
    ∙ ap (λ (frames : List StackFrame). Went (record s { frames = frames_seen program frames })) (sym is)

pub method_returned : (program : Program) (old mid new : List StackFrame) (value : Option Value) → 0 < length old → (length old ≡ 1 → ⊥) → mid ≡ below_top old
    → false ≡ is_initialiser (declared_at program (top_method old)) → Resumes mid new value → IsReturned program old new value returns.Back
method_returned program [] mid new value some more is init resumes s = absurd (omega (arith, some))
method_returned program (f ∷ []) mid new value some more is init resumes s = absurd (more refl)
method_returned program (f ∷ (caller ∷ below)) mid new value some more is init resumes s =
    let test : is_initialiser (declared_at program f.method) ≡ false = sym init in
    let left : resumed (frame_seen program f) value (frame_seen program caller)
    ≡ record (frame_seen program caller) { number = caller.number + 1; operands = option_list value ++ caller.operands; paid = false } = rw test refl in
    let from : Resumes (caller ∷ below) new value = subst (λ (frames : List StackFrame). Resumes frames new value) is resumes in
    ap (λ (c : Frame Declared). Went (record s { frames = c ∷ frames_seen program below })) left
    ∙ ap (λ (frames : List (Frame Declared)). Went (record s { frames = frames })) (resumed_seen program caller below new value from)

pub room_below : (program : Program) (old mid : List StackFrame) (value : Option Value) → (length old ≡ 1 → ⊥) → 0 < length old → HasRoomBelow program old value → mid ≡ below_top old
    → false ≡ is_initialiser (declared_at program (top_method old)) → HasRoom mid value
room_below program [] mid value more some room is init = absurd (omega (arith, some))
room_below program (f ∷ []) mid value more some room is init = absurd (more refl)
room_below program (f ∷ (caller ∷ below)) mid value more some room is init =
    subst (λ (frames : List StackFrame). HasRoom frames value) (sym is) (room (sym init))

pub some_below : (old mid : List StackFrame) → (length old ≡ 1 → ⊥) → 0 < length old → mid ≡ below_top old → 0 < length mid
some_below [] mid more some is = absurd (omega (arith, some))
some_below (f ∷ []) mid more some is = absurd (more refl)
some_below (f ∷ (caller ∷ below)) mid more some is = subst (λ (frames : List StackFrame). 0 < length frames) (sym is) (omega arith)

pub popped_stand : (imaged : Imaged) (old new : List StackFrame) → AreActivations imaged old → new ≡ below_top old → AreActivations imaged new
popped_stand imaged old new are is = subst (λ (frames : List StackFrame). AreActivations imaged frames) (sym is) (below_stand imaged old are)

pub resumed_stand : (imaged : Imaged) (old mid new : List StackFrame) (value : Option Value) → AreActivations imaged old → mid ≡ below_top old → Resumes mid new value → AreActivations imaged new
resumed_stand imaged old mid new value are is resumes = same_stand imaged mid new resumes.frames (popped_stand imaged old mid are is)

-- ---- exceptions

abbrev Handler : Imaged → Ty → StackFrame → Option ℕ
Handler imaged class f = handler_of (program_of imaged) imaged.prefix class f.number (code_of (program_of imaged) (declared_at (program_of imaged) f.method))

-- that of the top frame
abbrev pub top_handler : Imaged → Ty → List StackFrame → Option ℕ
top_handler imaged class frames =
    handler_of (program_of imaged) imaged.prefix class (top_number frames) (code_of (program_of imaged) (declared_at (program_of imaged) (top_method frames)))

caught_seen : (program : Program) (f : StackFrame) (below new : List StackFrame) (exception handler : ℕ) → SameFrames (f ∷ below) new → top_number new ≡ handler → top_locals new ≡ f.locals
    → top_operands new ≡ values.Ref exception ∷ [] → caught (frame_seen program f) exception handler ∷ frames_seen program below ≡ frames_seen program new
caught_seen program f below [] exception handler same number locals operands = absurd (omega (arith, same.count))
caught_seen program f below (g ∷ rest) exception handler same number locals operands =
    λ i. record {
      method = declared_at program (sym same.method i);
      number = sym number i;
      locals = sym locals i;
      operands = sym operands i;
      paid = false;
    } ∷ frames_seen program (sym same.below i)

module _ (imaged : Imaged) (class : Ty) (exception : ℕ) where
  abbrev Below : State → List StackFrame → StepAnswer
  Below s below = frames_unwound imaged s class exception below

  -- the top frame first
  top_first : (s : State) (f : StackFrame) (below : List StackFrame) → frames_unwound imaged s class exception (f ∷ below)
      ≡ at_handler imaged.prefix s class exception (frame_seen (program_of imaged) f) (frames_seen (program_of imaged) below) (Handler imaged class f) (Below s below)
  unfolding unwound
  top_first s f below = refl

  pub caught_on_top : (old mid new : List StackFrame) (handler : ℕ) → 0 < length old → Some handler ≡ top_handler imaged class old → SameButNumber old mid → top_number mid ≡ handler
      → SameButOperands mid new → top_operands new ≡ values.Ref exception ∷ [] → IsUnwound imaged class exception old new unwinds.Caught
  caught_on_top [] mid new handler some is first number second operands s = absurd (omega (arith, some))
  caught_on_top (f ∷ below) mid new handler some is first number second operands s =
      let same : SameFrames (f ∷ below) new = record {
        count = second.frames.count ∙ first.frames.count;
        method = second.frames.method ∙ first.frames.method;
        room = second.frames.room ∙ first.frames.room;
        below = second.frames.below ∙ first.frames.below;
      } in
      let seen = caught_seen (program_of imaged) f below new exception handler same (second.number ∙ number) (second.locals ∙ first.locals) operands in
      top_first s f below
      ∙ (ap (λ (h : Option ℕ). at_handler imaged.prefix s class exception (frame_seen (program_of imaged) f) (frames_seen (program_of imaged) below) h (Below s below)) (sym is)
      ∙ ap (λ (frames : List (Frame Declared)). Went (record s { frames = frames })) seen)

  past_top : (s : State) (f : StackFrame) (below : List StackFrame) → None ≡ Handler imaged class f → frames_unwound imaged s class exception (f ∷ below)
      ≡ leaves_frame imaged.prefix s class exception (frame_seen (program_of imaged) f) (Below s below)
  past_top s f below is =
      top_first s f below
      ∙ ap (λ (h : Option ℕ). at_handler imaged.prefix s class exception (frame_seen (program_of imaged) f) (frames_seen (program_of imaged) below) h (Below s below)) (sym is)

  pub left_initialiser : (old new : List StackFrame) (left : ℕ) → 0 < length old → None ≡ top_handler imaged class old → IsInitialiserOf imaged (top_method old) left
      → IsUnwound imaged class exception old new (unwinds.Init left)
  left_initialiser [] new left some is init s = absurd (omega (arith, some))
  left_initialiser (f ∷ below) new left some is init s =
      let test = init.is in
      let name : (declared_at (program_of imaged) f.method).class ≡ class_name_at (program_of imaged) left = sym (ap (λ (o : Option Name). unwrap_or o []) init.class_is) in
      let out : leaves_frame imaged.prefix s class exception (frame_seen (program_of imaged) f) (Below s below)
      ≡ ends_with imaged.prefix s class (outcomes.Init (declared_at (program_of imaged) f.method).class (member_class imaged.prefix class) (message_of s.heap exception)) = rw test refl in
      past_top s f below is ∙ (out
      ∙ ap (λ (n : Name). ends_with imaged.prefix s class (outcomes.Init n (member_class imaged.prefix class) (message_of s.heap exception))) name)

  pub went_past : (old new : List StackFrame) → 0 < length old → None ≡ top_handler imaged class old → is_initialiser (declared_at (program_of imaged) (top_method old)) ≡ false
      → new ≡ below_top old → GoesOn imaged class exception old new
  went_past [] new some is init e s = absurd (omega (arith, some))
  went_past (f ∷ below) new some is init e s =
      let out : leaves_frame imaged.prefix s class exception (frame_seen (program_of imaged) f) (Below s below) ≡ Below s below = rw init refl in
      past_top s f below is ∙ (out ∙ ap (Below s) (sym e))

  pub left_last : (old : List StackFrame) → length old ≡ 0 → IsUnwound imaged class exception old old unwinds.Threw
  unfolding unwound
  left_last [] none s = refl
  left_last (f ∷ below) none s = absurd (omega (arith, none))

pub initialiser_known : (imaged : Imaged) (method left : ℕ) → IsInitialiserOf imaged method left → left < length (program_of imaged)
initialiser_known imaged method left is = by (slice_get (program_of imaged) left) refl is.class_is where
  by : (o : Option Class) → slice_get (program_of imaged) left ≡ o → option_map name_of o ≡ Some (declared_at (program_of imaged) method).class → left < length (program_of imaged)
  by None e f = absurd (none-some _ f)
  by (Some c) e f = slice_get_within (program_of imaged) left c e

-- ---- room at a handler

found_row : (program : Program) (prefix : Prefix) (class : Ty) (number : ℕ) (ranges : List Range) (handler : ℕ) → handler_in program prefix class number ranges ≡ Some handler → (range : Range) × Contains ranges range
found_row program prefix class number [] handler e = absurd (none-some handler e)
found_row program prefix class number (range ∷ ranges) handler e =
    by (nat_le range.start number && nat_lt number range.end && catches program prefix class range.catches) (found_row program prefix class number ranges handler) e where
      by : (b : Bool) → (handler_in program prefix class number ranges ≡ Some handler → (r : Range) × Contains ranges r)
          → (if b then Some range.handler else handler_in program prefix class number ranges) ≡ Some handler → (r : Range) × Contains (range ∷ ranges) r
      by true more f = (range, here range ranges)
      by false more f = let found = more f in (found.0, later found.0 range ranges found.1)

activation_room : (imaged : Imaged) → IsSound (program_of imaged) imaged.prefix → (class : Ty) (f : StackFrame) → IsActivation imaged f → (handler : ℕ) → Some handler ≡ Handler imaged class f → 0 < f.room
activation_room imaged sound class f is handler e =
    let code = code_of_activation imaged sound.formed f is in
    let found = found_row (program_of imaged) imaged.prefix class f.number is.code.ranges handler
    (sym (ap (handler_of (program_of imaged) imaged.prefix class f.number) code) ∙ sym e) in
    let body = body_of_code (program_of imaged) (declared_at (program_of imaged) f.method) is.code code in
    let most = handler_room (program_of imaged) imaged.prefix sound (declared_at (program_of imaged) f.method) body.method is.code body.there body.body found.0 found.1 in
    let room = is.room in
    omega (arith, most, room)

pub room_for_exception : (imaged : Imaged) → IsSound (program_of imaged) imaged.prefix → (class : Ty) (old mid : List StackFrame) (handler : ℕ) → 0 < length old → AreActivations imaged old
    → Some handler ≡ top_handler imaged class old → SameButNumber old mid → 0 < top_room mid
room_for_exception imaged sound class [] mid handler some are e same = absurd (omega (arith, some))
room_for_exception imaged sound class (f ∷ below) mid handler some are e same =
    let room = activation_room imaged sound class f are.0 handler e in
    let as_much = same.frames.room in
    omega (arith, room, as_much)

pub caught_stand : (imaged : Imaged) (old mid new : List StackFrame) → AreActivations imaged old → SameButNumber old mid → SameButOperands mid new → AreActivations imaged new
caught_stand imaged old mid new are first second = same_stand imaged mid new second.frames (same_stand imaged old mid first.frames are)

-- ---- one frame after the other

pub goes_then : (imaged : Imaged) (class : Ty) (exception : ℕ) (old mid new : List StackFrame) → GoesOn imaged class exception old mid → GoesOn imaged class exception mid new
    → GoesOn imaged class exception old new
goes_then imaged class exception old mid new first second s = first s ∙ second s

pub unwound_then : (imaged : Imaged) (class : Ty) (exception : ℕ) (old mid new : List StackFrame) (how : Unwound) → GoesOn imaged class exception old mid → IsUnwound imaged class exception mid new how
    → IsUnwound imaged class exception old new how
unwound_then imaged class exception old mid new how first second s = first s ∙ second s

pub shorter : (old new : List StackFrame) → 0 < length old → new ≡ below_top old → length new < length old
shorter [] new some is = absurd (omega (arith, some))
shorter (f ∷ below) new some is = subst (λ (frames : List StackFrame). length frames < length (f ∷ below)) (sym is) (omega arith)
