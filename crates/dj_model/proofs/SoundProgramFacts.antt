-- A sound program of files, and programs that differ from it in one place and aren't.
use Rattle.std.proofs.Common.{◌≡◌, ℕ, ◌<◌, ◌≤◌, true, List, [], ◌∷◌, map, Option, Some, None, refl, ap, subst, ◌∙◌, arith, codes, pos}
use Rattle.std.specs.Prelude.{slice_index_or, slice_get}
use Rattle.dj_names.specs.declared.descriptor.Kind.TheVariants as kinds
use Rattle.dj_names.specs.declared.native.NativeId.TheVariants as natives
use Rattle.dj_names.specs.declared.descriptor.Desc.TheVariants as descs
use Rattle.dj_names.specs.declared.run.Thresholds.{Thresholds}
use Rattle.dj_names.specs.trusted.Types.{Name, class_type}
use Rattle.dj_names.specs.Types.{sandbox_prefix, in_sandbox}
use Rattle.dj_edge.specs.declared.host.HostAnswer.TheVariants as host
use Rattle.dj_names.specs.trusted.Library.{int, stop_class}
use Rattle.dj_ops.specs.declared.frames.VType.TheVariants as types
use Rattle.dj_ops.specs.declared.frames.Form.{Form}
use Rattle.dj_ops.specs.declared.frames.Form.TheVariants as forms
use Rattle.dj_ops.specs.declared.frames.Frame.{Frame}
use Rattle.dj_model.specs.trusted.Instructions.{Instruction}
use Rattle.dj_model.specs.trusted.Opcodes.{instruction_of, simple}
use Rattle.dj_model.specs.trusted.Program.{Program, Class, Field, Method, Body, Abstract, Native, Runs, Code, Range, Int, Text, class_at}
use Rattle.dj_model.specs.trusted.Linking.{most_classes, chain_of, interfaces_from, interfaces_above, field_order, resolve_method, resolve_field}
use Rattle.dj_model.specs.Libraries.{metered_program, raw_program, sandbox_program}
use Rattle.dj_model.specs.NativeKinds.{native_signature}
use Rattle.dj_model.specs.trusted.Values.{moved}
use Rattle.dj_model.specs.trusted.Kinds.{frames_after}
use Rattle.dj_model.specs.trusted.Shape.{after, state_before}
use Rattle.dj_model.specs.Sound.{ReachesTop, top, below, IsCode, IsClass, IsSoundClass, IsSound, is_linked}
use Rattle.dj_model.specs.trusted.Natives.{Word, Nanos, Millis}
use Rattle.dj_model.specs.Runs.{metered_run}
use Rattle.dj_model.specs.Standing.{result_of, IsUnanswered, AsksNothing, RunStands, IsEntry}
use Rattle.dj_model.specs.SmallRuns.{op, jump, iinc, class, construct, method, a_class, a_type, method_with, plain_constructor, class_with, field_with, catch_all, catch, byte_array, entry}
use Rattle.dj_model.proofs.SoundPrograms.{sound_test, sound_from, code_test}
use Rattle.dj_model.proofs.SoundRuns.{metered_stands}
use Rattle.dj_model.proofs.QuietLibraries.{quiet_all, to_asks, metered_asks_nothing}
use Rattle.dj_ops.specs.Mnemonics.{nop, iconst_0, iload_1, aload_0, istore_1, pop, dup, ifne, goto, areturn, return, invokestatic, new}

abbrev frame : ℕ → Form → Frame
frame at form = record { at = at; form = form }

abbrev body : List Instruction → List Range → List Frame → Body
body instructions ranges frames = Runs (record { max_stack = 2; max_locals = 2; instructions = instructions; ranges = ranges; frames = Some frames })

-- new C, dup, invokespecial <init>, pop, iconst_0, istore_1, L: iload_1, ifne E, iinc 1 1, goto L, E: aload_0, areturn, H: pop, aload_0, areturn
abbrev loop : List Instruction
loop = class new (class_type (codes "C")) ∷ op dup ∷ construct (class_type (codes "C")) [] ∷ op pop ∷ op iconst_0 ∷ op istore_1 ∷ op iload_1 ∷ jump ifne 10 ∷ iinc 1 (pos 1) ∷ jump goto 6 ∷ op aload_0 ∷ op areturn ∷ op pop ∷ op aload_0 ∷ op areturn ∷ []

abbrev loop_frames : List Frame
loop_frames = frame 6 (forms.Append (types.Integer ∷ [])) ∷ frame 10 forms.Same ∷ frame 12 (forms.Full (types.Object 1 ∷ []) (types.Object 2 ∷ [])) ∷ []

abbrev verify : Body → Method
verify code = method_with 9 (codes "verify") (byte_array ∷ []) (Some byte_array) code

abbrev a_of : List Range → Class
a_of ranges = record (class_with a_class [] (verify (body loop ranges loop_frames) ∷ [])) { interfaces = codes "I" ∷ [] }

abbrev a_sound : Class
a_sound = a_of (catch (codes "C") 4 10 12 ∷ [])

abbrev c_of : List Field → List Method → Class
c_of fields methods = class_with (codes "C") fields (plain_constructor ∷ methods)

abbrev c_sound : Class
c_sound = c_of (field_with 8 (codes "f") int (Some (Int (pos 1))) ∷ []) (method_with 8 (codes "<clinit>") [] None (body (op return ∷ []) [] []) ∷ [])

abbrev i_of : Option Name → ℕ → Class
i_of superclass flags = record (class_with (codes "I") [] []) { superclass = superclass; flags = flags }

abbrev i_sound : Class
i_sound = i_of (Some (codes "java/lang/Object")) 1537

abbrev files : Class → Class → Class → Program
files a c i = metered_program (a ∷ c ∷ i ∷ [])

sound_files : sound_test (files a_sound c_sound i_sound) [] ≡ true
unfolding metered_program native_signature most_classes chain_of interfaces_from interfaces_above field_order resolve_method resolve_field is_linked instruction_of simple moved frames_after after state_before
sound_files = refl

sound_program : IsSound (files a_sound c_sound i_sound) []
sound_program = sound_from (files a_sound c_sound i_sound) [] sound_files

-- ---- the class in this place isn't sound

abbrev at_place : Program → ℕ → Class → Type 0
at_place program k c = slice_get program k ≡ Some c

listed_class : at_place (files a_sound c_sound (i_of (Some (codes "java/lang/Object")) 33)) 0 a_sound × (IsSoundClass (files a_sound c_sound (i_of (Some (codes "java/lang/Object")) 33)) [] a_sound → ⊥)
unfolding metered_program
listed_class = (refl, λ is. let no = is.interfaces in absurd cc)

below_class : IsSoundClass (files a_sound c_sound (i_of (Some (codes "C")) 1537)) [] (i_of (Some (codes "C")) 1537) → ⊥
unfolding metered_program
below_class is = let no = is.above_interface in absurd cc

below_text : IsSoundClass (files a_sound (record c_sound { superclass = Some (codes "java/lang/String") }) i_sound) [] (record c_sound { superclass = Some (codes "java/lang/String") }) → ⊥
unfolding metered_program most_classes chain_of
below_text is = let no = is.above in absurd cc

abbrev below_stop_class : Class
below_stop_class = record (class_with (in_sandbox a_class) [] []) { superclass = Some stop_class }

below_stop : IsSoundClass (sandbox_program (below_stop_class ∷ [])) sandbox_prefix below_stop_class → ⊥
unfolding sandbox_program most_classes chain_of
below_stop is = let no = is.above_stop in absurd cc

abbrev text_field : Class
text_field = c_of (field_with 8 (codes "f") int (Some (Text [])) ∷ []) []

other_constant : IsSoundClass (files a_sound text_field i_sound) [] text_field → ⊥
other_constant is = let no = is.fields in absurd cc

abbrev catching_class : Class
catching_class = a_of (catch (codes "B") 4 10 12 ∷ [])

other_catch : IsSoundClass (files catching_class c_sound i_sound) [] catching_class → ⊥
unfolding metered_program
other_catch is = let no = (is.bodies (verify (body loop (catch (codes "B") 4 10 12 ∷ []) loop_frames)) (0, omega arith, refl)).caught in absurd cc

abbrev native_class : Class
native_class = class_with (codes "C") [] (method_with 9 (codes "n") [] None (Native natives.StringLength) ∷ [])

other_native : IsSoundClass (files a_sound native_class i_sound) [] native_class → ⊥
unfolding native_signature
other_native is =
    let no : None ≡ Some kinds.Int = ap result_of (is.bodies (method_with 9 (codes "n") [] None (Native natives.StringLength)) (0, omega arith, refl)) in absurd cc

abbrev calling_class : Class
calling_class = class_with (codes "C") [] (method_with 9 (codes "n") [] None (body (method invokestatic a_type (codes "none") [] None ∷ op return ∷ []) [] []) ∷ [])

other_call : IsSoundClass (files a_sound calling_class i_sound) [] calling_class → ⊥
unfolding metered_program most_classes chain_of interfaces_from interfaces_above resolve_method is_linked instruction_of
other_call is = let no = (is.bodies (method_with 9 (codes "n") [] None (body (method invokestatic a_type (codes "none") [] None ∷ op return ∷ []) [] [])) (0, omega arith, refl)).linked in absurd cc

-- ---- well-formed programs

abbrev empty : Name → Class
empty name = class_with name [] []

falling : IsSound (empty (codes "B") ∷ empty (codes "A") ∷ []) [] → ⊥
falling is = let no = is.formed.names in absurd cc

two_fields : (program : Program) → IsClass program (class_with (codes "C") (field_with 0 (codes "f") int None ∷ field_with 8 (codes "f") int None ∷ []) []) → ⊥
two_fields program is = let no = is.fields in absurd cc

two_methods : (program : Program) → IsClass program (class_with (codes "C") [] (method_with 1 (codes "m") [] None Abstract ∷ method_with 9 (codes "m") [] None Abstract ∷ [])) → ⊥
two_methods program is = let no = is.methods in absurd cc

-- a class above itself, and one above which there is none of that name
abbrev circle : Program
circle = record (empty (codes "C")) { superclass = Some (codes "C") } ∷ []

never_ends : (name : Name) → name ≡ codes "C" → ReachesTop circle name → ⊥
never_ends name is (top class c at none) =
    let there : Some (record (empty (codes "C")) { superclass = Some (codes "C") }) ≡ Some c = subst (λ (n : Name). class_at circle n ≡ Some c) is at in
    let same : Some (codes "C") ≡ c.superclass = cc in let no : Some (codes "C") ≡ None = same ∙ none in absurd cc
never_ends name is (below class above c at next more) =
    let there : Some (record (empty (codes "C")) { superclass = Some (codes "C") }) ≡ Some c = subst (λ (n : Name). class_at circle n ≡ Some c) is at in
    let same : Some (codes "C") ≡ c.superclass = cc in let up : Some (codes "C") ≡ Some above = same ∙ next in
    let name_is : above ≡ codes "C" = cc in never_ends above name_is more

missing_above : ReachesTop (record (empty (codes "C")) { superclass = Some (codes "D") } ∷ []) (codes "D") → ⊥
missing_above (top class c at none) = absurd cc
missing_above (below class above c at next more) = absurd cc

-- ---- code

abbrev code : List Instruction → List Range → List Frame → Code
code instructions ranges frames = record { max_stack = 2; max_locals = 2; instructions = instructions; ranges = ranges; frames = Some frames }

abbrev two : List Instruction
two = op aload_0 ∷ op areturn ∷ []

-- the last place is inside; a range may end after it
codes_inside : map code_test (code two [] [] ∷ code (op nop ∷ jump goto 1 ∷ []) [] [] ∷ code two (catch_all 1 2 1 ∷ []) [] ∷ code two [] (frame 1 forms.Same ∷ []) ∷ []) ≡ true ∷ true ∷ true ∷ true ∷ []
unfolding instruction_of simple
codes_inside = refl

no_code : IsCode (code [] [] []) → ⊥
no_code is = let no = is.some in absurd (omega (arith, no))

target_outside : IsCode (code (jump goto 1 ∷ []) [] []) → ⊥
unfolding instruction_of
target_outside is = let no = is.targets_within (jump goto 1) (0, omega arith, refl) in absurd cc

handler_outside : IsCode (code two (catch_all 0 1 2 ∷ []) []) → ⊥
handler_outside is = let no : 2 < 2 = is.handlers_within (catch_all 0 1 2) (0, omega arith, refl) in absurd (omega (arith, no))

range_empty : IsCode (code two (catch_all 1 1 0 ∷ []) []) → ⊥
range_empty is = let no : 1 < 1 = (is.ranges_within (catch_all 1 1 0) (0, omega arith, refl)).0 in absurd (omega (arith, no))

range_outside : IsCode (code two (catch_all 0 3 0 ∷ []) []) → ⊥
range_outside is = let no : 3 ≤ 2 = (is.ranges_within (catch_all 0 3 0) (0, omega arith, refl)).1 in absurd (omega (arith, no))

frame_outside : IsCode (code two [] (frame 2 forms.Same ∷ [])) → ⊥
frame_outside is = let no : 2 < 2 = is.frames_within (frame 2 forms.Same ∷ []) refl (frame 2 forms.Same) (0, omega arith, refl) in absurd (omega (arith, no))

-- ---- programs that ask the host

-- the methods of the clocks are those of the raw library alone
raw_asks : AsksNothing (raw_program []) → ⊥
unfolding raw_program
raw_asks quiet =
    let no : Some Nanos ≡ None = quiet (slice_index_or (raw_program []) 22 (empty [])) (slice_index_or (slice_index_or (raw_program []) 22 (empty [])).methods 2 (method_with 0 [] [] None Abstract)) natives.NanoTime
    (22, omega arith, refl) (2, omega arith, refl) refl [] in absurd cc

asks_nothing : AsksNothing (files a_sound c_sound i_sound)
asks_nothing = metered_asks_nothing (a_sound ∷ c_sound ∷ i_sound ∷ []) (to_asks (a_sound ∷ c_sound ∷ i_sound ∷ []) (quiet_all (a_sound ∷ c_sound ∷ i_sound ∷ []) refl))

-- a missing answer, and one of another kind
unanswered : IsUnanswered Word [] × IsUnanswered Word (host.Nanos (pos 1) ∷ []) × (IsUnanswered Word (host.Word (pos 1) ∷ host.Nanos (pos 1) ∷ []) → ⊥) × (IsUnanswered Millis (host.Millis (pos 1) ∷ []) → ⊥)
unanswered = (tt, refl, λ none. absurd cc, λ none. absurd cc)

-- ---- the program's runs

entry_is : IsEntry (files a_sound c_sound i_sound) entry
unfolding metered_program
entry_is = record {
  method = verify (body loop (catch (codes "C") 4 10 12 ∷ []) loop_frames);
  there = refl;
  code = _;
  body = refl;
  signature = record { parameters = kinds.Ref ∷ []; result = Some kinds.Ref };
  described = refl;
  takes = refl;
}

-- no method of that name, and one without code
no_entry : IsEntry (files a_sound c_sound i_sound) (record entry { name = codes "none" }) → ⊥
unfolding metered_program
no_entry e = let no = e.there in absurd cc

no_code_entry : IsEntry (metered_program []) (record { class = codes "java/lang/String"; name = codes "length"; desc = descs.Method [] (Some int) }) → ⊥
unfolding metered_program
no_code_entry e =
    let there : Some (slice_index_or (slice_index_or (metered_program []) 19 (empty [])).methods 0 (method_with 0 [] [] None Abstract)) ≡ Some e.method = e.there in
    let body_is : Native natives.StringLength ≡ e.method.body = cc in let no : Native natives.StringLength ≡ Runs e.code = body_is ∙ e.body in absurd cc

-- whatever the input, the thresholds and the number of turns are, the run of the sound program goes on with frames that stand, or has ended
runs_on : (input : List ℕ) (most : Thresholds) (n : ℕ) → RunStands (files a_sound c_sound i_sound) (metered_run (files a_sound c_sound i_sound) entry input most n)
runs_on input most n = metered_stands (files a_sound c_sound i_sound) sound_program asks_nothing entry input most n entry_is
