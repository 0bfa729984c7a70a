-- Where frames have the kinds that shape says, a caller has room for what is returned to it.
use Rattle.std.proofs.Common.{◌≡◌, false, List, [], ◌∷◌, Option, Some, None, sym, subst, ◌∙◌, inl, inr}
use Rattle.std.specs.Option.{option_map}
use Rattle.std.proofs.lemmas.Bool.{false≢true}
use Rattle.dj_names.specs.declared.descriptor.Kind.{Kind}
use Rattle.dj_names.specs.declared.run.Value.{Value}
use Rattle.dj_names.specs.trusted.Values.{value_kind}
use Rattle.dj_model.specs.trusted.Program.{is_initialiser}
use Rattle.dj_model.specs.trusted.Kinds.{call_signature}
use Rattle.dj_model.specs.Sound.{IsProgram}
use Rattle.dj_model.specs.Standing.{IsWaiting, AreStanding, result_of}
use Rattle.dj_stack.specs.Frames.{StackFrame}
use Rattle.dj_image.specs.Imaged.{Imaged, program_of}
use Rattle.dj_current_method.specs.Activations.{declared_at, frame_seen, frames_seen, AreActivations}
use Rattle.dj_current_method.proofs.Calls.{waiting_room}
use Rattle.dj_unwinding.specs.Resuming.{HasRoom}
use Rattle.dj_unwinding.specs.Returns.{HasRoomBelow}

-- the kind of the value, where there is one, is that of the method's result
abbrev pub IsResult : Imaged → StackFrame → Option Value → Type 0
IsResult imaged f value = option_map value_kind value ≡ result_of (call_signature (declared_at (program_of imaged) f.method).desc)

abbrev pub IsTopResult : Imaged → List StackFrame → Option Value → Type 0
IsTopResult imaged [] value = Unit {0}
IsTopResult imaged (f ∷ below) value = IsResult imaged f value

pub room_of_caller : (imaged : Imaged) → IsProgram (program_of imaged) → (frames : List StackFrame) → AreActivations imaged frames → AreStanding (program_of imaged) (frames_seen (program_of imaged) frames)
    → (value : Option Value) → IsTopResult imaged frames value → HasRoomBelow (program_of imaged) frames value
room_of_caller imaged formed [] are stand value is = tt
room_of_caller imaged formed (f ∷ []) are stand value is = tt
room_of_caller imaged formed (f ∷ (caller ∷ below)) are stand value is = λ other. by value is other where
  by : (value : Option Value) → IsResult imaged f value → is_initialiser (declared_at (program_of imaged) f.method) ≡ false → HasRoom (caller ∷ below) value
  by None is other = tt
  by (Some v) is other = elim stand.1.0 [
    | inl init ↦ absurd (false≢true (sym other ∙ init.0))
    | inr waits ↦ waiting_room imaged formed caller are.1.0 (value_kind v)
        (subst (λ (result : Option Kind). IsWaiting (program_of imaged) result (frame_seen (program_of imaged) caller)) (sym is) waits.1)
  ]
