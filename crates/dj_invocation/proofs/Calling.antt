-- Where a call of the model calls a method, the frames are as the model's step leaves them.
use Rattle.std.proofs.Common.{◌≡◌, ℕ, Bool, true, false, List, [], ◌∷◌, map, length, Option, Some, nat_le, if◌then◌else◌, refl, sym, ap, ◌∙◌, arith}
use Rattle.std.proofs.lemmas.Bool.Decides.{nat_tests}
use Rattle.std.proofs.lemmas.List.{length-map}
use Rattle.dj_names.specs.declared.run.Value.{Value}
use Rattle.dj_names.specs.declared.run.Outcome.TheVariants as outcomes
use Rattle.dj_model.specs.trusted.Types.{Declared}
use Rattle.dj_model.specs.trusted.Program.{Code, body_code, code_in, code_of}
use Rattle.dj_model.specs.trusted.Linking.{declared_of}
use Rattle.dj_model.specs.trusted.State.{Frame, State}
use Rattle.dj_model.specs.trusted.Initialisation.{locals_for, new_frame}
use Rattle.dj_model.specs.trusted.Step.{Went, Ended, called}
use Rattle.dj_stack.specs.Frames.{StackFrame}
use Rattle.dj_image.specs.Imaged.{program_of}
use Rattle.dj_invocation.specs.Operands.{with_operands}
use Rattle.dj_invocation.specs.Invoking.{Site, Calls, Enters, IsTooDeep, taken_values, left_frames}

-- a frame in the model, where methods have these names
abbrev pub seen_as : (ℕ → Declared) → StackFrame → Frame Declared
seen_as name f = record { method = name f.method; number = f.number; locals = f.locals; operands = f.operands; paid = false }

same_count : (operands : List Value) (frames : List StackFrame) → length (with_operands operands frames) ≡ length frames
same_count operands [] = refl
same_count operands (frame ∷ below) = refl

count_seen : (name : ℕ → Declared) (operands : List Value) (frames : List StackFrame) → length (map (seen_as name) (with_operands operands frames)) ≡ length frames
count_seen name operands frames = length-map (with_operands operands frames) (seen_as name) ∙ same_count operands frames

code_there : (s : Site) (calls : Calls s) → code_of (program_of s.imaged) (declared_of calls.found) ≡ Some calls.code
unfolding code_of
code_there s calls = ap code_in calls.its ∙ ap body_code calls.runs

pub entered_called : (s : Site) (new : List StackFrame) (e : Enters s new) (name : ℕ → Declared) (state : State) → name e.calls.method.number ≡ declared_of e.calls.found
    → called (program_of s.imaged) (record state { frames = map (seen_as name) (left_frames s e.calls.taken) }) (declared_of e.calls.found) (taken_values s e.calls.taken)
    ≡ Went (record state { frames = map (seen_as name) new })
entered_called s new e name state named =
    let args : List Value = taken_values s e.calls.taken in
    let left : List (Frame Declared) = map (seen_as name) (left_frames s e.calls.taken) in
    let count : length left ≡ length s.frames = count_seen name _ s.frames in
    let few : nat_le 1024 (length left) ≡ false = (let less = e.few in grind (arith, nat_tests, count, less)) in
    ap (λ (b : Bool). if b then Ended outcomes.TooDeep (record state { frames = left })
    else Went (record state { frames = new_frame (program_of s.imaged) (declared_of e.calls.found) args ∷ left })) few
    ∙ (ap (λ (code : Option Code). Went (record state { frames = record { method = declared_of e.calls.found; number = 0; locals = locals_for code args; operands = []; paid = false } ∷ left }))
    (code_there s e.calls)
    ∙ (ap (λ (m : Declared). Went (record state { frames = record { method = m; number = 0; locals = locals_for (Some e.calls.code) args; operands = []; paid = false } ∷ left })) (sym named)
    ∙ ap (λ (frames : List StackFrame). Went (record state { frames = map (seen_as name) frames })) (sym e.frames)))

pub deep_called : (s : Site) (new : List StackFrame) (e : IsTooDeep s new) (name : ℕ → Declared) (state : State)
    → called (program_of s.imaged) (record state { frames = map (seen_as name) new }) (declared_of e.calls.found) (taken_values s e.calls.taken)
    ≡ Ended outcomes.TooDeep (record state { frames = map (seen_as name) new })
deep_called s new e name state =
    let frames : List (Frame Declared) = map (seen_as name) new in
    let count : length frames ≡ length s.frames = ap (λ (fs : List StackFrame). length (map (seen_as name) fs)) e.frames ∙ count_seen name _ s.frames in
    let many : nat_le 1024 (length frames) ≡ true = (let more = e.many in grind (arith, nat_tests, count, more)) in
    ap (λ (b : Bool). if b then Ended outcomes.TooDeep (record state { frames = frames })
    else Went (record state { frames = new_frame (program_of s.imaged) (declared_of e.calls.found) (taken_values s e.calls.taken) ∷ frames })) many
