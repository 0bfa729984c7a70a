-- What is asked of a machine at run time: objects that may be thrown, and frames with room.
use Rattle.std.proofs.Common.{◌≡◌, ◌<◌, ◌⊎◌, ℕ, zero, suc, ◌+◌, Bool, true, List, [], ◌∷◌, ◌++◌, length, reverse, Option, Some, None, IsSome, refl, sym, ap, subst, ◌∙◌, inl, inr, arith}
use Rattle.std.specs.Prelude.{slice_get}
use Rattle.std.specs.Option.{option_map}
use Rattle.std.proofs.lemmas.Grind.{reverse_onto}
use Rattle.std.proofs.lemmas.Option.{same_Some}
use Rattle.dj_names.specs.declared.descriptor.Ty.{Ty}
use Rattle.dj_names.specs.trusted.Heaps.{Object, Instance, Array, Text}
use Rattle.dj_model.specs.trusted.Program.{Program, Code, code_of}
use Rattle.dj_model.specs.Sound.{IsProgram}
use Rattle.dj_heap.specs.Heaps.{LimitedHeap, object_in}
use Rattle.dj_heap.specs.Calls.{made_as}
use Rattle.dj_heap.specs.declared.object.Made.TheVariants as made
use Rattle.dj_stack.specs.Frames.{StackFrame, frame_at, top_operands, top_room}
use Rattle.dj_natives.specs.Known.{AreKnown}
use Rattle.dj_natives.proofs.Performed.{known_at}
use Rattle.dj_program.specs.trusted.Codes.{code_in}
use Rattle.dj_program.specs.Views.{parts_of}
use Rattle.dj_program.specs.declared.code.MethodCode.{MethodCode}
use Rattle.dj_numbering.specs.Typed.{types_of}
use Rattle.dj_numbering.specs.Members.{all_methods}
use Rattle.dj_image.specs.Imaged.{Imaged, program_of, typed_of}
use Rattle.dj_current_method.specs.Activations.{AreActivations, IsActivation, declared_at}
use Rattle.dj_current_method.specs.Reported.{IsCodeOf}
use Rattle.dj_current_method.proofs.Standing.{code_of_activation, method_within}
use Rattle.dj_unwinding.proofs.Tops.{on_top}
use Rattle.dj_settling.specs.Settling.{IsThrown}

-- ---- objects

pub instance_thrown : (imaged : Imaged) (h : LimitedHeap) (r : ℕ) → AreKnown (types_of (typed_of imaged)) h → option_map made_as (object_in h r) ≡ Some made.Instance → IsThrown imaged h r
instance_thrown imaged h r known e = by (object_in h r) refl e where
  by : (o : Option (Object ℕ)) → object_in h r ≡ o → option_map made_as o ≡ Some made.Instance → IsThrown imaged h r
  by None is e = absurd cc
  by (Some (Instance class fields)) is e =
      let k = known_at (types_of (typed_of imaged)) h r (Instance class fields) is known in
      record { object = Instance class fields; there = is; class = record { within = k.class; plain = ap (λ (t : Ty). t.dims) k.holds.1 } }
  by (Some (Array class element contents)) is e = absurd cc
  by (Some (Text class units)) is e = absurd cc

-- ---- frames by their numbers

last_or_prefix : (xs : List StackFrame) (g : StackFrame) (n : ℕ) (f : StackFrame) → slice_get (xs ++ g ∷ []) n ≡ Some f → (slice_get xs n ≡ Some f) ⊎ (g ≡ f)
last_or_prefix [] g zero f e = inr (same_Some g f e)
last_or_prefix [] g (suc n) f e = absurd cc
last_or_prefix (x ∷ xs) g zero f e = inl e
last_or_prefix (x ∷ xs) g (suc n) f e = last_or_prefix xs g n f e

activation_at : (imaged : Imaged) (frames : List StackFrame) (n : ℕ) (f : StackFrame) → AreActivations imaged frames → frame_at frames n ≡ Some f → IsActivation imaged f
activation_at imaged [] n f stand e = absurd cc
activation_at imaged (g ∷ below) n f stand e =
    elim (last_or_prefix (reverse below) g n f (sym (ap (λ (frames : List StackFrame). slice_get frames n) (reverse_onto below g [])) ∙ e)) [
      | inl prefix ↦ activation_at imaged below n f stand.1 prefix
      | inr same ↦ subst (IsActivation imaged) same stand.0
    ]

-- ---- their methods and their room

at_frame : (frames : List StackFrame) (n m : ℕ) (part : StackFrame → ℕ) → option_map part (frame_at frames n) ≡ Some m → (f : StackFrame) → frame_at frames n ≡ Some f → part f ≡ m
at_frame frames n m part e f is = same_Some (part f) m (sym (ap (option_map part) is) ∙ e)

pub frame_within : (imaged : Imaged) (frames : List StackFrame) (n method : ℕ) → AreActivations imaged frames → option_map (λ (frame : StackFrame). frame.method) (frame_at frames n) ≡ Some method
    → method < length (all_methods (program_of imaged))
frame_within imaged frames n method stand e = by (frame_at frames n) refl e where
  by : (o : Option StackFrame) → frame_at frames n ≡ o → option_map (λ (frame : StackFrame). frame.method) o ≡ Some method → method < length (all_methods (program_of imaged))
  by None is e = absurd cc
  by (Some f) is e =
      subst (λ (k : ℕ). k < length (all_methods (program_of imaged))) (same_Some f.method method e) (method_within imaged f (activation_at imaged frames n f stand is))

pub roomy : (imaged : Imaged) → IsProgram (program_of imaged) → (frames : List StackFrame) (n method count : ℕ) (code : MethodCode) → AreActivations imaged frames
    → option_map (λ (frame : StackFrame). frame.method) (frame_at frames n) ≡ Some method → option_map (λ (frame : StackFrame). length frame.operands) (frame_at frames n) ≡ Some count
    → IsCodeOf imaged method code → count < code.max_stack → (frame : StackFrame) → frame_at frames n ≡ Some frame → length frame.operands < frame.room
unfolding code_in
roomy imaged formed frames n method count code stand m c is less frame at =
    let act = activation_at imaged frames n frame stand at in
    let method_is : frame.method ≡ method = at_frame frames n method (λ (f : StackFrame). f.method) m frame at in
    let count_is : length frame.operands ≡ count = at_frame frames n count (λ (f : StackFrame). length f.operands) c frame at in
    let own : Code = code_in is.pool (parts_of code) in
    let reported : code_of (program_of imaged) (declared_at (program_of imaged) frame.method) ≡ Some own =
    ap (λ (k : ℕ). code_of (program_of imaged) (declared_at (program_of imaged) k)) method_is ∙ is.is in
    let same : act.code ≡ own = same_Some act.code own (sym (code_of_activation imaged formed frame act) ∙ reported) in
    let most : act.code.max_stack ≡ code.max_stack = ap (λ (k : Code). k.max_stack) same in
    let room = act.room in
    omega (arith, less, count_is, most, room)

-- ---- the top frame

abbrev pub IsRoomy : List StackFrame → ℕ → Type 0
IsRoomy frames n = (frame : StackFrame) → frame_at frames n ≡ Some frame → length frame.operands < frame.room

pub top_roomy : (frames : List StackFrame) (n : ℕ) → n + 1 ≡ length frames → IsRoomy frames n → length (top_operands frames) < top_room frames
top_roomy [] n e roomy = absurd (omega (arith, e))
top_roomy (f ∷ below) n e roomy = roomy f (on_top f below n (omega (arith, e)))
