-- Which steps need no memory, and which may, by plain values.
use Rattle.std.proofs.Common.{◌≡◌, ℕ, Bool, true, false, List, [], ◌∷◌, Some, None, codes, pos, refl, sym, ap, ◌∙◌}
use Rattle.std.proofs.lemmas.Bool.{false≢true}
use Rattle.std.proofs.lemmas.Option.{same_Some}
use Rattle.std.specs.Int.{int_wrap}
use Rattle.dj_names.specs.declared.descriptor.Ty.{Ty}
use Rattle.dj_names.specs.declared.run.Outcome.{Outcome}
use Rattle.dj_names.specs.declared.run.Outcome.TheVariants as outcomes
use Rattle.dj_names.specs.declared.run.Value.{Value}
use Rattle.dj_names.specs.declared.run.Value.TheVariants as values
use Rattle.dj_names.specs.trusted.Heaps.{Heap, Instance}
use Rattle.dj_names.specs.trusted.Types.{class_type}
use Rattle.dj_names.specs.trusted.Library.{int}
use Rattle.dj_model.specs.trusted.Types.{Declared}
use Rattle.dj_model.specs.trusted.Instructions.{AnInt, AText, Instruction, New, PushText, Throw}
use Rattle.dj_model.specs.trusted.Opcodes.{instruction_of, simple}
use Rattle.dj_model.specs.trusted.Program.{Program, Range, code_of, has_initialiser, initialiser_of}
use Rattle.dj_model.specs.trusted.Linking.{most_classes, chain_of, interfaces_from, interfaces_above, is_subclass, is_subtype, field_order, resolve_field, field_count, place_of, static_place}
use Rattle.dj_model.specs.trusted.Values.{on_values}
use Rattle.dj_model.specs.trusted.State.{Frame, State, Terms, Uncounted, instruction_at}
use Rattle.dj_model.specs.trusted.Charging.{new_account}
use Rattle.dj_model.specs.trusted.Effects.{effect, used_class}
use Rattle.dj_model.specs.trusted.Initialisation.{Ready, Waits, is_initialised, mark, with_constants, constants_of, initialise, new_frame}
use Rattle.dj_model.specs.trusted.Step.{Ended, Went, part_of, prepared, settle, step, unwound}
use Rattle.dj_model.specs.SmallRuns.{a_type, a_with, c_type, catch, class, class_with, code, entry, field, field_with, initialiser_with, interface_method, lang_name, constant, method, method_desc, method_with, newarray, op, throws_plainly, verify_with}
use Rattle.dj_image_step.specs.Memory.{NeedsNoMemory, makes, raises}
use Rattle.dj_ops.specs.Mnemonics.{nop, iconst_5, aload_0, iaload, iastore, pop, iadd, ireturn, areturn, return, getstatic, getfield, putfield, invokevirtual, invokespecial, invokestatic, new, anewarray, arraylength, athrow, checkcast, instanceof}

-- ---- which instructions make something

made : makes (class new c_type) ∷ makes (newarray 8) ∷ makes (class anewarray c_type) ∷ makes (constant (AText (codes "a"))) ∷ makes (method invokevirtual c_type (codes "f") [] None) ∷ makes (method invokespecial c_type (codes "f") [] None) ∷ makes (method invokestatic c_type (codes "f") [] None) ∷ makes (interface_method 1 c_type (codes "f") [] None) ∷ []
    ≡ true ∷ true ∷ true ∷ true ∷ true ∷ true ∷ true ∷ true ∷ []
unfolding instruction_of simple
made = refl

not_made : makes (op nop) ∷ makes (op aload_0) ∷ makes (constant (AnInt (pos 1))) ∷ makes (op iaload) ∷ makes (op iastore) ∷ makes (op iadd) ∷ makes (op ireturn) ∷ makes (op arraylength) ∷ makes (op athrow) ∷ makes (field getstatic c_type (codes "s") int) ∷ makes (field putfield c_type (codes "n") int) ∷ makes (class checkcast c_type) ∷ makes (class instanceof c_type) ∷ []
    ≡ false ∷ false ∷ false ∷ false ∷ false ∷ false ∷ false ∷ false ∷ false ∷ false ∷ false ∷ false ∷ false ∷ []
unfolding instruction_of simple
not_made = refl

-- ---- a program, and states of its runs

-- A's verify is this code; C has a field n, a static field s and an initialiser; and there is the class Throwable
abbrev program : List Instruction → List Range → Program
program instructions ranges =
    a_with (verify_with instructions ranges ∷ method_with 9 (codes "f") [] (Some int) (code (op iconst_5 ∷ op ireturn ∷ []) []) ∷ [])
    ∷ class_with (codes "C") (field_with 0 (codes "n") int None ∷ field_with 8 (codes "s") int None ∷ []) (initialiser_with (op return ∷ []) ∷ [])
    ∷ class_with (lang_name (codes "Throwable")) [] [] ∷ []

-- an object of C, and one of Throwable
abbrev heap : Heap Ty
heap = record { objects = Instance c_type (7 ∷ []) ∷ Instance (class_type (lang_name (codes "Throwable"))) (0 ∷ 0 ∷ []) ∷ []; used = 56 }

abbrev terms : Terms
terms = record { limit = None; counting = Uncounted }

-- verify at the instruction of this number, with these operands
abbrev verify : ℕ → List Value → Frame Declared
verify number operands = record { method = entry; number = number; locals = []; operands = operands; paid = false }

-- f before its return of 5
abbrev f : Frame Declared
f = record { method = record { class = codes "A"; name = codes "f"; desc = method_desc [] (Some int) }; number = 1; locals = []; operands = values.Int (pos 5) ∷ []; paid = false }

-- whether C is initialised, and the frames
abbrev state : Bool → List (Frame Declared) → State
state begun frames = record { heap = heap; statics = 0 ∷ []; initialised = true ∷ begun ∷ true ∷ []; literals = []; frames = frames; account = new_account; answers = [] }

abbrev NeedsNone : List Instruction → List Range → State → Type 0
NeedsNone instructions ranges s = NeedsNoMemory (program instructions ranges) [] terms s

-- ---- steps that need none

plain_step : NeedsNone (op nop ∷ op return ∷ []) [] (state true (verify 0 [] ∷ []))
unfolding instruction_of simple code_of on_values effect used_class settle step
plain_step = record {
  top = verify 0 [];
  below = [];
  frames = refl;
  instruction = op nop;
  at = refl;
  makes = refl;
  ready = refl;
  raises = refl;
  next = state true (verify 1 [] ∷ []);
  goes = refl;
}

-- of C's object, and of C itself once it is initialised
get_field : NeedsNone (field getfield c_type (codes "n") int ∷ op pop ∷ []) [] (state true (verify 0 (values.Ref 1 ∷ []) ∷ []))
unfolding int_wrap instruction_of simple code_of most_classes chain_of interfaces_from interfaces_above is_subclass is_subtype field_order resolve_field field_count place_of on_values effect used_class settle step
get_field = record {
  top = verify 0 (values.Ref 1 ∷ []);
  below = [];
  frames = refl;
  instruction = field getfield c_type (codes "n") int;
  at = refl;
  makes = refl;
  ready = refl;
  raises = refl;
  next = state true (verify 1 (values.Int (pos 7) ∷ []) ∷ []);
  goes = refl;
}

get_static : NeedsNone (field getstatic c_type (codes "s") int ∷ op pop ∷ []) [] (state true (verify 0 [] ∷ []))
unfolding int_wrap instruction_of simple code_of has_initialiser most_classes chain_of interfaces_from field_order resolve_field static_place on_values effect used_class is_initialised mark with_constants constants_of initialise settle step
get_static = record {
  top = verify 0 [];
  below = [];
  frames = refl;
  instruction = field getstatic c_type (codes "s") int;
  at = refl;
  makes = refl;
  ready = refl;
  raises = refl;
  next = state true (verify 1 (values.Int (pos 0) ∷ []) ∷ []);
  goes = refl;
}

-- to verify, which called f
return_to_caller : NeedsNone (method invokestatic a_type (codes "f") [] (Some int) ∷ op pop ∷ []) [] (state true (f ∷ verify 0 [] ∷ []))
unfolding instruction_of simple code_of on_values effect used_class settle step
return_to_caller = record {
  top = f;
  below = verify 0 [] ∷ [];
  frames = refl;
  instruction = op ireturn;
  at = refl;
  makes = refl;
  ready = refl;
  raises = refl;
  next = state true (verify 1 (values.Int (pos 5) ∷ []) ∷ []);
  goes = refl;
}

caught_throw : NeedsNone (op athrow ∷ op pop ∷ []) (catch (lang_name (codes "Throwable")) 0 1 1 ∷ []) (state true (verify 0 (values.Ref 2 ∷ []) ∷ []))
unfolding instruction_of simple code_of most_classes chain_of interfaces_from interfaces_above is_subclass is_subtype on_values effect used_class unwound settle step
caught_throw = record {
  top = verify 0 (values.Ref 2 ∷ []);
  below = [];
  frames = refl;
  instruction = op athrow;
  at = refl;
  makes = refl;
  ready = refl;
  raises = refl;
  next = state true (verify 1 (values.Ref 2 ∷ []) ∷ []);
  goes = refl;
}

-- ---- steps that may need some

abbrev first_or : Frame Declared → List (Frame Declared) → Frame Declared
first_or other [] = other
first_or other (x ∷ frames) = x

-- the top frame and its instruction are those that the rest is about
same_top : {program : Program} {s : State} (top : Frame Declared) (below : List (Frame Declared)) → s.frames ≡ top ∷ below → (n : NeedsNoMemory program [] terms s) → n.top ≡ top
same_top top below frames n = sym (ap (first_or top) (sym frames ∙ n.frames))

same_instruction : {program : Program} {s : State} (top : Frame Declared) (below : List (Frame Declared)) (i : Instruction) → s.frames ≡ top ∷ below
    → instruction_at program top ≡ Some i → (n : NeedsNoMemory program [] terms s) → n.instruction ≡ i
same_instruction {program} top below i frames at n = same_Some n.instruction i (sym n.at ∙ (ap (instruction_at program) (same_top top below frames n) ∙ at))

-- what makes something
making : {program : Program} {s : State} (top : Frame Declared) (below : List (Frame Declared)) (i : Instruction) → s.frames ≡ top ∷ below
    → instruction_at program top ≡ Some i → makes i ≡ true → NeedsNoMemory program [] terms s → ⊥
making top below i frames at does n = false≢true (sym n.makes ∙ (ap makes (same_instruction top below i frames at n) ∙ does))

-- what raises an exception of its own
raising : {program : Program} {s : State} (top : Frame Declared) (below : List (Frame Declared)) (i : Instruction) → s.frames ≡ top ∷ below
    → instruction_at program top ≡ Some i → raises (effect program [] terms top.method.class i (part_of top s)) ≡ true → NeedsNoMemory program [] terms s → ⊥
raising {program} {s} top below i frames at does n =
    false≢true (sym n.raises
    ∙ (ap (λ (j : Instruction). raises (effect program [] terms n.top.method.class j (part_of n.top s))) (same_instruction top below i frames at n)
    ∙ (ap (λ (x : Frame Declared). raises (effect program [] terms x.method.class i (part_of x s))) (same_top top below frames n) ∙ does)))

-- what initialises a class before
waiting : {program : Program} {s : State} (top : Frame Declared) (below : List (Frame Declared)) (i : Instruction) (later : State) → s.frames ≡ top ∷ below
    → instruction_at program top ≡ Some i → prepared program [] terms (used_class program [] i) s ≡ Waits later → NeedsNoMemory program [] terms s → ⊥
waiting {program} {s} top below i later frames at waits n =
    let e : Ready s ≡ Waits later = sym n.ready ∙ (ap (λ (j : Instruction). prepared program [] terms (used_class program [] j) s) (same_instruction top below i frames at n) ∙ waits) in
    absurd cc

-- what ends the run
ending : {program : Program} {s : State} (outcome : Outcome) (last : State) → step program [] terms s ≡ Ended outcome last → NeedsNoMemory program [] terms s → ⊥
ending outcome last ends n = let e : Went n.next ≡ Ended outcome last = sym n.goes ∙ ends in absurd cc

-- of a class that is initialised already
new_object : NeedsNone (class new c_type ∷ op pop ∷ []) [] (state true (verify 0 [] ∷ [])) → ⊥
unfolding instruction_of simple code_of
new_object = making (verify 0 []) [] (New c_type) refl refl refl

text : NeedsNone (constant (AText (codes "a")) ∷ op pop ∷ []) [] (state true (verify 0 [] ∷ [])) → ⊥
unfolding instruction_of simple code_of
text = making (verify 0 []) [] (PushText (codes "a")) refl refl refl

static_call : NeedsNone (method invokestatic a_type (codes "f") [] (Some int) ∷ op pop ∷ []) [] (state true (verify 0 [] ∷ [])) → ⊥
unfolding instruction_of simple code_of
static_call = making (verify 0 []) [] (method invokestatic a_type (codes "f") [] (Some int)) refl refl refl

-- a call of an object's method, which would be none here
object_call : NeedsNone (method invokevirtual c_type (codes "f") [] (Some int) ∷ op pop ∷ []) [] (state true (verify 0 (values.Ref 1 ∷ []) ∷ [])) → ⊥
unfolding instruction_of simple code_of
object_call = making (verify 0 (values.Ref 1 ∷ [])) [] (method invokevirtual c_type (codes "f") [] (Some int)) refl refl refl

throw_of_null : NeedsNone (op athrow ∷ op pop ∷ []) (catch (lang_name (codes "Throwable")) 0 1 1 ∷ []) (state true (verify 0 (values.Ref 0 ∷ []) ∷ [])) → ⊥
unfolding instruction_of simple code_of on_values effect
throw_of_null = raising (verify 0 (values.Ref 0 ∷ [])) [] Throw refl refl refl

get_field_of_null : NeedsNone (field getfield c_type (codes "n") int ∷ op pop ∷ []) [] (state true (verify 0 (values.Ref 0 ∷ []) ∷ [])) → ⊥
unfolding int_wrap instruction_of simple code_of most_classes chain_of interfaces_from interfaces_above is_subclass is_subtype field_order resolve_field field_count place_of on_values effect
get_field_of_null = raising (verify 0 (values.Ref 0 ∷ [])) [] (field getfield c_type (codes "n") int) refl refl refl

-- C's initialiser stands above first
get_static_before : NeedsNone (field getstatic c_type (codes "s") int ∷ op pop ∷ []) [] (state false (verify 0 [] ∷ [])) → ⊥
unfolding int_wrap instruction_of simple code_of has_initialiser most_classes chain_of interfaces_from field_order resolve_field static_place used_class is_initialised mark with_constants constants_of initialise
get_static_before = waiting (verify 0 []) [] (field getstatic c_type (codes "s") int)
    (state true (new_frame (program (field getstatic c_type (codes "s") int ∷ op pop ∷ []) []) (initialiser_of (codes "C")) [] ∷ verify 0 [] ∷ [])) refl refl refl

-- nobody called verify
last_return : NeedsNone (op areturn ∷ []) [] (state true (verify 0 (values.Ref 0 ∷ []) ∷ [])) → ⊥
unfolding instruction_of simple code_of on_values effect used_class settle step
last_return = ending outcomes.OkNull (state true (verify 0 (values.Ref 0 ∷ []) ∷ [])) refl

-- nothing catches it
uncaught_throw : NeedsNone (op athrow ∷ []) [] (state true (verify 0 (values.Ref 2 ∷ []) ∷ [])) → ⊥
unfolding instruction_of simple code_of most_classes chain_of interfaces_from interfaces_above is_subclass is_subtype on_values effect used_class unwound settle step
uncaught_throw = ending (throws_plainly (codes "Throwable")) (state true (verify 0 (values.Ref 2 ∷ []) ∷ [])) refl
