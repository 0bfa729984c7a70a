-- How the top frame goes on, in the model and over an image.
use Rattle.std.proofs.Common.{◌≡◌, ◌<◌, ℕ, ◌+◌, List, [], ◌∷◌, length, Option, Some, refl, sym, ap, subst, ◌∙◌, arith, false}
use Rattle.std.proofs.lemmas.Option.{same_Some}
use Rattle.dj_names.specs.declared.run.Charge.{Charge}
use Rattle.dj_names.specs.declared.run.Raised.{Raised}
use Rattle.dj_names.specs.declared.run.Value.{Value}
use Rattle.dj_names.specs.declared.run.Outcome.{Outcome}
use Rattle.dj_names.specs.declared.descriptor.Ty.{Ty}
use Rattle.dj_names.specs.Heaps.{heap_map}
use Rattle.dj_model.specs.trusted.Types.{Declared, Prefix}
use Rattle.dj_model.specs.trusted.Program.{Program}
use Rattle.dj_model.specs.trusted.State.{Terms, State, Frame, Flow, Way, Next, To, Raise, Back, Goes, Catch, Stop, Call, End}
use Rattle.dj_model.specs.trusted.Step.{settle, result_outcome}
use Rattle.dj_library_types.specs.Numbered as numbered
use Rattle.dj_heap.specs.Heaps.{LimitedHeap}
use Rattle.dj_stack.specs.Frames.{StackFrame, SameButNumber, SameButOperands, top_number, top_operands}
use Rattle.dj_natives.specs.Known.{AreKnown}
use Rattle.dj_numbering.specs.Typed.{types_of}
use Rattle.dj_image.specs.Imaged.{Imaged, program_of, typed_of}
use Rattle.dj_current_method.specs.Activations.{declared_at, frame_seen, frames_seen, AreActivations}
use Rattle.dj_current_method.proofs.Standing.{same_stand}
use Rattle.dj_unwinding.specs.Returns.{IsReturned}
use Rattle.dj_unwinding.specs.declared.returning.Returned.TheVariants as returns
use Rattle.std.specs.Prelude.{Result, Ok, Err, IfOk}
use Rattle.std.specs.declared.alloc.AllocError.{AllocError}
use Rattle.dj_settling.specs.declared.settled.Settled.{Settled}
use Rattle.dj_settling.specs.declared.settled.Settled.TheVariants as settles
use Rattle.dj_settling.specs.Reported.{On, Over, reported_of}
use Rattle.dj_settling.specs.Settling.{Settles, native_settled, raising, seen_in, throwing, throwing_stop, top_settled}

module _ (imaged : Imaged) (exceeded : Option Charge) where
  abbrev Flows : Flow → LimitedHeap → LimitedHeap → List StackFrame → List StackFrame → Settled → Type 0
  Flows flow before after old new result = Settles imaged exceeded (top_settled (program_of imaged) imaged.prefix flow) before after old new result

  -- ---- returns

  pub went_back : (h : LimitedHeap) (old new : List StackFrame) (value : Option Value) → 0 < length old → IsReturned (program_of imaged) old new value returns.Back
      → AreKnown (types_of (typed_of imaged)) h → AreActivations imaged new
      → Settles imaged exceeded (top_settled (program_of imaged) imaged.prefix (Goes (Back value))) h h old new settles.Went
  unfolding settle
  went_back h [] new value some reported known stand = absurd (omega (arith, some))
  went_back h (f ∷ below) new value some reported known stand =
      record { answers = λ terms s limit charge. ap reported_of (reported (seen_in imaged h (f ∷ below) s)); limit = refl; known = known; stand = stand }

  pub last_ended : (h : LimitedHeap) (old new : List StackFrame) (value : Option Value) (outcome : Outcome) → 0 < length old → IsReturned (program_of imaged) old new value returns.Last
      → ((type_of : ℕ → Ty) → outcome ≡ result_outcome (heap_map type_of h.heap) value) → AreKnown (types_of (typed_of imaged)) h → AreActivations imaged new
      → Settles imaged exceeded (top_settled (program_of imaged) imaged.prefix (Goes (Back value))) h h old new (settles.Ended outcome)
  unfolding settle
  last_ended h [] new value outcome some reported is known stand = absurd (omega (arith, some))
  last_ended h (f ∷ below) new value outcome some reported is known stand = record {
    answers = λ terms s limit charge.
        ap reported_of (reported (seen_in imaged h (f ∷ below) s))
        ∙ ap (λ (o : Outcome). Over o s.account s.answers) (sym (is (numbered.type_at (types_of (typed_of imaged)))));
    limit = refl;
    known = known;
    stand = stand;
  }

  -- ---- exceptions

  pub as_raised : (raised : Raised) (before after : LimitedHeap) (old new : List StackFrame) (result : Result Settled AllocError) → 0 < length old
      → IfOk result (λ settled. Settles imaged exceeded (raising imaged raised) before after old new settled)
      → IfOk result (λ settled. Settles imaged exceeded (top_settled (program_of imaged) imaged.prefix (Goes (Raise raised))) before after old new settled)
  unfolding settle
  as_raised raised before after [] new result some settles = absurd (omega (arith, some))
  as_raised raised before after (f ∷ below) new (Err e) some settles = tt
  as_raised raised before after (f ∷ below) new (Ok result) some settles =
      record { answers = λ terms s limit charge. settles.answers terms s limit charge; limit = settles.limit; known = settles.known; stand = settles.stand }

  pub as_caught : (exception : ℕ) (h : LimitedHeap) (old new : List StackFrame) (result : Result Settled AllocError) → 0 < length old → IfOk result (λ settled. Settles imaged exceeded (throwing imaged exception) h h old new settled)
      → IfOk result (λ settled. Settles imaged exceeded (top_settled (program_of imaged) imaged.prefix (Catch exception)) h h old new settled)
  unfolding settle
  as_caught exception h [] new result some settles = absurd (omega (arith, some))
  as_caught exception h (f ∷ below) new (Err e) some settles = tt
  as_caught exception h (f ∷ below) new (Ok result) some settles =
      record { answers = λ terms s limit charge. settles.answers terms s limit charge; limit = settles.limit; known = settles.known; stand = settles.stand }

  pub as_stopped : (before after : LimitedHeap) (old new : List StackFrame) (result : Result Settled AllocError) → 0 < length old → IfOk result (λ settled. Settles imaged exceeded (throwing_stop imaged) before after old new settled)
      → IfOk result (λ settled. Settles imaged exceeded (top_settled (program_of imaged) imaged.prefix Stop) before after old new settled)
  unfolding settle
  as_stopped before after [] new result some settles = absurd (omega (arith, some))
  as_stopped before after (f ∷ below) new (Err e) some settles = tt
  as_stopped before after (f ∷ below) new (Ok result) some settles =
      record { answers = λ terms s limit charge. settles.answers terms s limit charge; limit = settles.limit; known = settles.known; stand = settles.stand }

  pub as_ended : (outcome : Outcome) (h : LimitedHeap) (frames : List StackFrame) → 0 < length frames → AreKnown (types_of (typed_of imaged)) h → AreActivations imaged frames
      → Settles imaged exceeded (top_settled (program_of imaged) imaged.prefix (End outcome)) h h frames frames (settles.Ended outcome)
  unfolding settle
  as_ended outcome h [] some known stand = absurd (omega (arith, some))
  as_ended outcome h (f ∷ below) some known stand = record { answers = λ terms s limit charge. refl; limit = refl; known = known; stand = stand }

  -- ---- another instruction

  -- the top frame, as the model sees it, at another instruction
  moved_seen : (f : StackFrame) (below new : List StackFrame) (number : ℕ) → top_number new ≡ number → SameButNumber (f ∷ below) new
      → record (frame_seen (program_of imaged) f) { number = number; paid = false } ∷ frames_seen (program_of imaged) below ≡ frames_seen (program_of imaged) new
  moved_seen f below [] number at same = absurd (omega (arith, same.frames.count))
  moved_seen f below (g ∷ rest) number at same = λ i. record {
    method = declared_at (program_of imaged) (sym same.frames.method i);
    number = sym at i;
    locals = sym same.locals i;
    operands = sym same.operands i;
    paid = false;
  } ∷ frames_seen (program_of imaged) (sym same.frames.below i)

  pub went_on : (h : LimitedHeap) (old new : List StackFrame) → 0 < length old → top_number new ≡ top_number old + 1 → SameButNumber old new
      → AreKnown (types_of (typed_of imaged)) h → AreActivations imaged old
      → Settles imaged exceeded (top_settled (program_of imaged) imaged.prefix (Goes Next)) h h old new settles.Went
  unfolding settle
  went_on h [] new some at same known stand = absurd (omega (arith, some))
  went_on h (f ∷ below) new some at same known stand = record {
    answers = λ terms s limit charge. ap (λ (frames : List (Frame Declared)). On (record (seen_in imaged h (f ∷ below) s) { frames = frames })) (moved_seen f below new (f.number + 1) at same);
    limit = refl;
    known = known;
    stand = same_stand imaged (f ∷ below) new same.frames stand;
  }

  pub went_to : (h : LimitedHeap) (old new : List StackFrame) (number : ℕ) → 0 < length old → top_number new ≡ number → SameButNumber old new
      → AreKnown (types_of (typed_of imaged)) h → AreActivations imaged old
      → Settles imaged exceeded (top_settled (program_of imaged) imaged.prefix (Goes (To number))) h h old new settles.Went
  unfolding settle
  went_to h [] new number some at same known stand = absurd (omega (arith, some))
  went_to h (f ∷ below) new number some at same known stand = record {
    answers = λ terms s limit charge. ap (λ (frames : List (Frame Declared)). On (record (seen_in imaged h (f ∷ below) s) { frames = frames })) (moved_seen f below new number at same);
    limit = refl;
    known = known;
    stand = same_stand imaged (f ∷ below) new same.frames stand;
  }

  -- ---- native methods

  native_is : (flow : Flow) (terms : Terms) (t : State) → native_settled (program_of imaged) imaged.prefix [] flow terms t ≡ top_settled (program_of imaged) imaged.prefix flow terms t
  native_is flow terms t = by t.frames where
    by : (frames : List (Frame Declared)) → native_settled (program_of imaged) imaged.prefix [] flow terms (record t { frames = frames }) ≡ top_settled (program_of imaged) imaged.prefix flow terms (record t { frames = frames })
    by [] = refl
    by (f ∷ below) = refl

  native_so : (flow own : Flow) (before after : LimitedHeap) (old new : List StackFrame) (result : Settled)
      → Settles imaged exceeded (top_settled (program_of imaged) imaged.prefix own) before after old new result → Some own ≡ Some flow
      → Settles imaged exceeded (native_settled (program_of imaged) imaged.prefix [] flow) before after old new result
  native_so flow own before after old new result settles same =
      let is : own ≡ flow = same_Some own flow same in
      let moved : Settles imaged exceeded (top_settled (program_of imaged) imaged.prefix flow) before after old new result =
      subst (λ (f : Flow). Settles imaged exceeded (top_settled (program_of imaged) imaged.prefix f) before after old new result) is settles in
      record {
        answers = λ terms s limit charge. ap reported_of (native_is flow terms (seen_in imaged before old s)) ∙ moved.answers terms s limit charge;
        limit = moved.limit;
        known = moved.known;
        stand = moved.stand;
      }

  pub as_native : (flow own : Flow) (before after : LimitedHeap) (old new : List StackFrame) (result : Result Settled AllocError)
      → IfOk result (λ settled. Settles imaged exceeded (top_settled (program_of imaged) imaged.prefix own) before after old new settled) → Some own ≡ Some flow
      → IfOk result (λ settled. Settles imaged exceeded (native_settled (program_of imaged) imaged.prefix [] flow) before after old new settled)
  as_native flow own before after old new (Err e) settles same = tt
  as_native flow own before after old new (Ok result) settles same = native_so flow own before after old new result settles same

  gave_seen : (f : StackFrame) (below mid new : List StackFrame) (v : Value) → SameButOperands (f ∷ below) mid → top_operands mid ≡ v ∷ f.operands
      → top_number new ≡ top_number mid + 1 → SameButNumber mid new
      → record (frame_seen (program_of imaged) f) { number = f.number + 1; operands = v ∷ f.operands; paid = false } ∷ frames_seen (program_of imaged) below ≡ frames_seen (program_of imaged) new
  gave_seen f below mid [] v first pushed at second = absurd (omega (arith, second.frames.count, first.frames.count))
  gave_seen f below mid (g ∷ rest) v first pushed at second =
      let method : g.method ≡ f.method = second.frames.method ∙ first.frames.method in
      let number : g.number ≡ f.number + 1 = at ∙ ap (λ (n : ℕ). n + 1) first.number in
      let locals : g.locals ≡ f.locals = second.locals ∙ first.locals in
      let operands : g.operands ≡ v ∷ f.operands = second.operands ∙ pushed in
      let rest_is : rest ≡ below = second.frames.below ∙ first.frames.below in
      λ i. record {
        method = declared_at (program_of imaged) (sym method i);
        number = sym number i;
        locals = sym locals i;
        operands = sym operands i;
        paid = false;
      } ∷ frames_seen (program_of imaged) (sym rest_is i)

  pub gave : (h : LimitedHeap) (old mid new : List StackFrame) (v : Value) → 0 < length old → SameButOperands old mid → top_operands mid ≡ v ∷ top_operands old
      → top_number new ≡ top_number mid + 1 → SameButNumber mid new → AreKnown (types_of (typed_of imaged)) h → AreActivations imaged old
      → Settles imaged exceeded (native_settled (program_of imaged) imaged.prefix (v ∷ []) (Goes Next)) h h old new settles.Went
  unfolding settle
  gave h [] mid new v some first pushed at second known stand = absurd (omega (arith, some))
  gave h (f ∷ below) mid new v some first pushed at second known stand = record {
    answers = λ terms s limit charge. ap (λ (frames : List (Frame Declared)). On (record (seen_in imaged h (f ∷ below) s) { frames = frames })) (gave_seen f below mid new v first pushed at second);
    limit = refl;
    known = known;
    stand = same_stand imaged mid new second.frames (same_stand imaged (f ∷ below) mid first.frames stand);
  }

  pub as_given : (flow : Flow) (v : Value) (h : LimitedHeap) (old new : List StackFrame) (result : Result Settled AllocError)
      → IfOk result (λ settled. Settles imaged exceeded (native_settled (program_of imaged) imaged.prefix (v ∷ []) (Goes Next)) h h old new settled) → Some (Goes Next) ≡ Some flow
      → IfOk result (λ settled. Settles imaged exceeded (native_settled (program_of imaged) imaged.prefix (v ∷ []) flow) h h old new settled)
  as_given flow v h old new (Err e) settles same = tt
  as_given flow v h old new (Ok result) settles same =
      subst (λ (f : Flow). Settles imaged exceeded (native_settled (program_of imaged) imaged.prefix (v ∷ []) f) h h old new result) (same_Some (Goes Next) flow same) settles

-- ---- what stands in the state in place of the frames doesn't matter

way_alike : (program : Program) (prefix : Prefix) (terms : Terms) (s : State) (f : Frame Declared) (below : List (Frame Declared)) (way : Way)
    → reported_of (settle program prefix terms s f below (Goes way)) ≡ reported_of (top_settled program prefix (Goes way) terms (record s { frames = f ∷ below }))
unfolding settle
way_alike program prefix terms s f below Next = refl
way_alike program prefix terms s f below (To number) = refl
way_alike program prefix terms s f below (Raise raised) = refl
way_alike program prefix terms s f [] (Back value) = refl
way_alike program prefix terms s f (caller ∷ below) (Back value) = refl

pub settled_alike : (program : Program) (prefix : Prefix) (terms : Terms) (s : State) (f : Frame Declared) (below : List (Frame Declared)) (flow : Flow)
    → reported_of (settle program prefix terms s f below flow) ≡ reported_of (top_settled program prefix flow terms (record s { frames = f ∷ below }))
unfolding settle
settled_alike program prefix terms s f below (Goes way) = way_alike program prefix terms s f below way
settled_alike program prefix terms s f below (Catch exception) = refl
settled_alike program prefix terms s f below Stop = refl
settled_alike program prefix terms s f below (Call method arguments) = refl
settled_alike program prefix terms s f below (End outcome) = refl
