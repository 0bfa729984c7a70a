-- Frames that have the kinds that shape says: each is at an instruction of its method, and one that waits for a result has room for it.
use Rattle.std.proofs.Common.{◌≡◌, ◌<◌, Bool, true, false, length, Option, Some, None, sym, ap, ◌∙◌, arith}
use Rattle.std.proofs.lemmas.List.{length-map}
use Rattle.std.proofs.lemmas.Option.{none-some, same_Some, slice_get_within}
use Rattle.dj_names.specs.declared.descriptor.Kind.{Kind}
use Rattle.dj_names.specs.declared.descriptor.Desc.{Desc}
use Rattle.dj_model.specs.trusted.Program.{Code}
use Rattle.dj_model.specs.Sound.{IsProgram}
use Rattle.dj_model.specs.trusted.Kinds.{Signature, call_signature, with_receiver, signature_of}
use Rattle.dj_model.specs.Standing.{IsAt, IsWaiting, result_of}
use Rattle.dj_model.proofs.SoundFrames.{code_is}
use Rattle.dj_program.specs.trusted.Codes.{code_in}
use Rattle.dj_program.specs.trusted.Naming.{instruction_in}
use Rattle.dj_program.specs.Views.{parts_of}
use Rattle.dj_program.specs.declared.code.MethodCode.{MethodCode}
use Rattle.dj_stack.specs.Frames.{StackFrame}
use Rattle.dj_image.specs.Imaged.{Imaged, program_of}
use Rattle.dj_image.specs.Codes.{HasInstr}
use Rattle.dj_current_method.specs.Activations.{declared_at, frame_seen, IsActivation}
use Rattle.dj_current_method.specs.Reported.{IsCodeOf}
use Rattle.dj_current_method.proofs.Standing.{code_of_activation}
use Rattle.dj_current_method.proofs.Rooms.{result_room}

-- the image has the instruction at which a frame is
pub has_instruction : (imaged : Imaged) (f : StackFrame) (code : MethodCode) → IsCodeOf imaged f.method code → IsAt (program_of imaged) (frame_seen (program_of imaged) f)
    → HasInstr imaged f.method f.number
unfolding code_in
has_instruction imaged f code reported at =
    let own : Code = code_in reported.pool (parts_of code) in
    let there = code_is (program_of imaged) (declared_at (program_of imaged) f.method) at.method at.code at.there at.body in
    let same : at.code ≡ own = same_Some at.code own (sym there ∙ reported.is) in
    let within : f.number < length at.code.instructions = slice_get_within at.code.instructions f.number at.instruction at.at in
    let count : length at.code.instructions ≡ length code.code.code =
    ap (λ (c : Code). length c.instructions) same ∙ length-map code.code.code (instruction_in reported.pool) in
    record { code = record { pool = reported.pool; parts = parts_of code }; own = reported.own; within = omega (arith, within, count) }

-- a frame that waits for a result has room for it
pub waiting_room : (imaged : Imaged) → IsProgram (program_of imaged) → (f : StackFrame) → IsActivation imaged f → (result : Kind)
    → IsWaiting (program_of imaged) (Some result) (frame_seen (program_of imaged) f) → length f.operands < f.room
waiting_room imaged formed f is result waits =
    let at = waits.at in
    let there = code_is (program_of imaged) (declared_at (program_of imaged) f.method) at.method at.code at.there at.body in
    let same : at.code ≡ is.code = same_Some at.code is.code (sym there ∙ code_of_activation imaged formed f is) in
    let most : at.code.max_stack ≡ is.code.max_stack = ap (λ (c : Code). c.max_stack) same in
    let room = is.room in
    let few = result_room at.signature at.code at.instruction at.before waits.left result f.operands waits.calls waits.found waits.gives in
    omega (arith, few, most, room)

-- the kind of a method's result is that of its signature
pub result_is : (static : Bool) (desc : Desc) (signature : Signature) → signature_of static desc ≡ Some signature → result_of (call_signature desc) ≡ signature.result
result_is static desc signature e = by static (call_signature desc) e where
  by : (b : Bool) (o : Option Signature) → with_receiver b o ≡ Some signature → result_of o ≡ signature.result
  by b None f = absurd (none-some signature f)
  by true (Some s) f = ap (λ (x : Signature). x.result) (same_Some s signature f)
  by false (Some s) f = let is : result_of (with_receiver false (Some s)) ≡ result_of (Some signature) = ap result_of f in is
