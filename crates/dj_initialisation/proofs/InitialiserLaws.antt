-- Initialisers of classes by numbers, and their frames, are those of the model.
use Rattle.std.proofs.Common.{Bor, ◌≡◌, ℕ, zero, suc, ◌+◌, ◌-◌, ◌<◌, ◌≤◌, ◌&&◌, Bool, true, false, List, [], ◌∷◌, ◌++◌, length, drop, get_or, reverse, replicate, Option, Some, None, codes, refl, sym, ap, subst, ◌∙◌, arith, inl, inr, if◌then◌else◌, append_assoc}
use Rattle.std.specs.Prelude.{All, slice_get, unwrap_or, nat_lt}
use Rattle.std.specs.Option.{option_map}
use Rattle.std.proofs.lemmas.Bool.{and_parts, cases_lt, false≢true}
use Rattle.std.proofs.lemmas.Grind.{flat_map-append}
use Rattle.std.proofs.lemmas.List.{drop_more, drop_all, length_push, length-append, reverse-append}
use Rattle.std.proofs.lemmas.List.Elements.{All-head, All-tail}
use Rattle.std.proofs.lemmas.Option.{same_Some, get_or_from_slice_get, slice_get_within}
use Rattle.dj_names.specs.declared.descriptor.Desc.{Desc}
use Rattle.dj_names.specs.declared.run.Value.{Value}
use Rattle.dj_names.specs.trusted.Types.{Name, same_name, same_desc}
use Rattle.dj_model.specs.trusted.Types.{Declared, initialiser_name, no_parameters}
use Rattle.dj_model.specs.trusted.Program.{Program, Class, Method, Code, Runs, Body, Abstract, Native, method_in, method_of, method_at, runs_static, code_in, has_code, code_of, has_initialiser, initialiser_of, is_named, is_static, body_code}
use Rattle.dj_model.specs.trusted.Linking.{FoundMethod}
use Rattle.dj_model.specs.trusted.State.{Frame}
use Rattle.dj_model.specs.trusted.Initialisation as initialisation
use Rattle.dj_model.specs.trusted.Initialisation.{initialiser_frames, locals_for}
use Rattle.dj_model.specs.Sound.{IsProgram}
use Rattle.dj_stack.specs.Frames.{StackFrame, new_frame}
use Rattle.dj_declarations.proofs.DescTests.{same_name_is, same_name_itself, same_desc_is}
use Rattle.dj_class_table.specs.Tables.{methods_at, methods_of}
use Rattle.dj_resolution.specs.Linked.{class_name}
use Rattle.dj_resolution.proofs.Resolution.{class_of_name}
use Rattle.dj_numbering.specs.Members.{all_methods, methods_before, IsMethodThere}
use Rattle.dj_numbering.specs.declared.types.MemberOf.{MemberOf}
use Rattle.dj_numbering.proofs.Starts.{some_there}
use Rattle.dj_program.specs.trusted.Codes as part_codes
use Rattle.dj_program.specs.declared.code.MethodCode.{MethodCode}
use Rattle.dj_image.specs.Codes.{SaysBody, IsBodyAt}
use Rattle.dj_image.specs.declared.image.Body.TheVariants as bodies
use Rattle.dj_image.specs.Imaged.{Imaged, program_of, typed_of}
use Rattle.dj_current_method.specs.Activations.{declared_at, frame_seen, frames_seen, AreActivations}
use Rattle.dj_current_method.proofs.Numbers.{declared_there, method_of_number, initialiser_of_number}
use Rattle.dj_current_method.proofs.Reported.{no_initialiser_reported, initialiser_reported}
use Rattle.dj_initialisation.specs.declared.initialisers.Initialiser.{Initialiser}
use Rattle.dj_initialisation.specs.Waiting.{names_of}
use Rattle.dj_initialisation.specs.Initialisers.{AreInitialisers, IsInitialiser, IsInitialiserOf, RunsIt, RunsAt, initialiser_count, one_if, pushed, spells_initialiser, with_initialiser}
use Rattle.dj_initialisation.proofs.Members as members
use Rattle.dj_initialisation.proofs.Members.{found_method}
use Rattle.dj_initialisation.proofs.PlaceLaws.{names_differ}
use Rattle.dj_initialisation.proofs.FieldLaws.{reported_if}

-- ---- loops over classes

pub pushed_push : (each : List (Option Initialiser)) (ks : List ℕ) (k : ℕ) (frames : List StackFrame)
    → pushed each (ks ++ k ∷ []) frames ≡ with_initialiser (get_or each k None) (pushed each ks frames)
pushed_push each [] k frames = refl
pushed_push each (j ∷ ks) k frames = pushed_push each ks k (with_initialiser (get_or each j None) frames)

pub count_push : (each : List (Option Initialiser)) (ks : List ℕ) (k : ℕ) → initialiser_count each (ks ++ k ∷ []) ≡ initialiser_count each ks + one_if (get_or each k None)
count_push each [] k = omega arith
count_push each (j ∷ ks) k = let later = count_push each ks k in omega (arith, later)

pub at_most_one : (o : Option Initialiser) → one_if o ≤ 1
at_most_one None = omega arith
at_most_one (Some i) = omega arith

-- ---- their frames

whole : (n : ℕ) → n ≡ n - 0
whole n = omega arith

abbrev frame_with : Declared → List (Option Value) → Frame Declared
frame_with m locals = record { method = m; number = 0; locals = locals; operands = []; paid = false }

-- the frame of one
one_seen : (imaged : Imaged) (class : Name) (i : Initialiser) → IsInitialiser imaged class i
    → frame_seen (program_of imaged) (new_frame i.method i.locals i.room) ≡ initialisation.new_frame (program_of imaged) (initialiser_of class) []
one_seen imaged class i is =
    ap (λ (m : Declared). frame_with m (replicate i.locals None)) (declared_there (program_of imaged) i.method is.found is.there ∙ is.is)
    ∙ ap (λ (n : ℕ). frame_with (initialiser_of class) (replicate n None)) (is.locals ∙ whole is.code.max_locals)
    ∙ ap (λ (o : Option Code). frame_with (initialiser_of class) (locals_for o [])) (sym is.own)

first_seen : (imaged : Imaged) (class : Name) (frames : List StackFrame) (o : Option Initialiser) → IsInitialiserOf imaged class o
    → frames_seen (program_of imaged) (with_initialiser o frames) ≡ initialiser_frames (program_of imaged) (class ∷ []) ++ frames_seen (program_of imaged) frames
first_seen imaged class frames None none =
    ap (λ (b : Bool). ((if b then initialisation.new_frame (program_of imaged) (initialiser_of class) [] ∷ [] else []) ++ []) ++ frames_seen (program_of imaged) frames) (sym none)
first_seen imaged class frames (Some i) is =
    ap (λ (f : Frame Declared). f ∷ frames_seen (program_of imaged) frames) (one_seen imaged class i is)
    ∙ ap (λ (b : Bool). ((if b then initialisation.new_frame (program_of imaged) (initialiser_of class) [] ∷ [] else []) ++ []) ++ frames_seen (program_of imaged) frames) (sym is.has)

frames_more : (program : Program) (names : List Name) (name : Name) → initialiser_frames program (names ++ name ∷ []) ≡ initialiser_frames program names ++ initialiser_frames program (name ∷ [])
frames_more program names name =
    flat_map-append (λ (class : Name). if has_initialiser program class then initialisation.new_frame program (initialiser_of class) [] ∷ [] else []) names (name ∷ [])

-- those of the highest class on top
pub frames_above : (imaged : Imaged) (each : List (Option Initialiser)) (ks : List ℕ) (frames : List StackFrame) → AreInitialisers imaged each → All (λ k. k < length (program_of imaged)) ks
    → frames_seen (program_of imaged) (pushed each ks frames) ≡ initialiser_frames (program_of imaged) (reverse (names_of (program_of imaged) ks)) ++ frames_seen (program_of imaged) frames
frames_above imaged each [] frames are within = refl
frames_above imaged each (k ∷ ks) frames are within =
    frames_above imaged each ks (with_initialiser (get_or each k None) frames) are (All-tail (λ k. k < length (program_of imaged)) k ks within)
    ∙ ap (λ (fs : List (Frame Declared)). initialiser_frames (program_of imaged) (reverse (names_of (program_of imaged) ks)) ++ fs)
    (first_seen imaged (class_name (program_of imaged) k) frames (get_or each k None) (are.each k (All-head (λ k. k < length (program_of imaged)) k ks within)))
    ∙ sym (append_assoc (initialiser_frames (program_of imaged) (reverse (names_of (program_of imaged) ks))) (initialiser_frames (program_of imaged) (class_name (program_of imaged) k ∷ [])) (frames_seen (program_of imaged) frames))
    ∙ ap (λ (fs : List (Frame Declared)). fs ++ frames_seen (program_of imaged) frames)
    (sym (frames_more (program_of imaged) (reverse (names_of (program_of imaged) ks)) (class_name (program_of imaged) k))
    ∙ ap (initialiser_frames (program_of imaged)) (sym (reverse-append (class_name (program_of imaged) k ∷ []) (names_of (program_of imaged) ks))))

-- there are this many
one_count : (imaged : Imaged) (class : Name) (o : Option Initialiser) → IsInitialiserOf imaged class o → length (initialiser_frames (program_of imaged) (class ∷ [])) ≡ one_if o
one_count imaged class None none = ap (λ (b : Bool). length ((if b then initialisation.new_frame (program_of imaged) (initialiser_of class) [] ∷ [] else []) ++ [])) none
one_count imaged class (Some i) is = ap (λ (b : Bool). length ((if b then initialisation.new_frame (program_of imaged) (initialiser_of class) [] ∷ [] else []) ++ [])) is.has

pub frames_count : (imaged : Imaged) (each : List (Option Initialiser)) (ks : List ℕ) → AreInitialisers imaged each → All (λ k. k < length (program_of imaged)) ks
    → length (initialiser_frames (program_of imaged) (reverse (names_of (program_of imaged) ks))) ≡ initialiser_count each ks
frames_count imaged each [] are within = refl
frames_count imaged each (k ∷ ks) are within =
    let later = frames_count imaged each ks are (All-tail (λ k. k < length (program_of imaged)) k ks within) in
    let one = one_count imaged (class_name (program_of imaged) k) (get_or each k None) (are.each k (All-head (λ k. k < length (program_of imaged)) k ks within)) in
    let long = length-append (initialiser_frames (program_of imaged) (reverse (names_of (program_of imaged) ks))) (initialiser_frames (program_of imaged) (class_name (program_of imaged) k ∷ [])) in
    ap (λ (ns : List Name). length (initialiser_frames (program_of imaged) ns)) (reverse-append (class_name (program_of imaged) k ∷ []) (names_of (program_of imaged) ks))
    ∙ ap length (frames_more (program_of imaged) (reverse (names_of (program_of imaged) ks)) (class_name (program_of imaged) k))
    ∙ omega (arith, later, one, long)

-- and they stand over the image
pub stand_on : (imaged : Imaged) (each : List (Option Initialiser)) (ks : List ℕ) (frames : List StackFrame) → AreInitialisers imaged each → All (λ k. k < length (program_of imaged)) ks
    → AreActivations imaged frames → AreActivations imaged (pushed each ks frames)
stand_on imaged each [] frames are within stand = stand
stand_on imaged each (k ∷ ks) frames are within stand =
    stand_on imaged each ks (with_initialiser (get_or each k None) frames) are (All-tail (λ k. k < length (program_of imaged)) k ks within)
    (by (get_or each k None) (are.each k (All-head (λ k. k < length (program_of imaged)) k ks within)))
  where
    by : (o : Option Initialiser) → IsInitialiserOf imaged (class_name (program_of imaged) k) o → AreActivations imaged (with_initialiser o frames)
    by None none = stand
    by (Some i) is = (record { found = is.found; there = is.there; code = is.code; runs = is.runs; room = is.room }, stand)

-- ---- how one is found

-- none of the methods so far has an initialiser's name and descriptor
pub record NoneYet (methods : List Method) (at : ℕ) : Type 0 where
  pub same : method_in methods initialiser_name no_parameters ≡ method_in (drop at methods) initialiser_name no_parameters

pub none_yet : (methods : List Method) → NoneYet methods 0
none_yet methods = record { same = refl }

pub none_more : (methods : List Method) (at : ℕ) (m : Method) → slice_get methods at ≡ Some m → is_named initialiser_name no_parameters m.name m.desc ≡ false → NoneYet methods at → NoneYet methods (at + 1)
none_more methods at m is other none = record {
  same = none.same
      ∙ ap (λ (ms : List Method). method_in ms initialiser_name no_parameters)
      (drop_more methods at m (slice_get_within methods at m is) ∙ ap (λ (x : Method). x ∷ drop (at + 1) methods) (get_or_from_slice_get methods at m m is))
      ∙ ap (λ (b : Bool). if b then Some m else method_in (drop (at + 1) methods) initialiser_name no_parameters) other;
}

pub none_there : (program : Program) (class at : ℕ) → IsProgram program → class < length program → length (methods_at program class) ≤ at → NoneYet (methods_at program class) at
    → has_initialiser program (class_name program class) ≡ false
unfolding has_initialiser
none_there program class at formed lt end none =
    ap (λ (o : Option Class). runs_static (method_of o initialiser_name no_parameters)) (class_of_name program class (names_differ program formed) lt)
    ∙ by (slice_get program class) (none.same ∙ ap (λ (ms : List Method). method_in ms initialiser_name no_parameters) (drop_all at (methods_at program class) end))
  where
    by : (o : Option Class) → method_in (methods_of o) initialiser_name no_parameters ≡ None → runs_static (method_of o initialiser_name no_parameters) ≡ false
    by None e = refl
    by (Some c) e = ap runs_static e

-- the method of a class at a place, and its number
pub record IsMethodOf (program : Program) (class at number : ℕ) : Type 0 where
  pub method : Method
  pub stands : slice_get (methods_at program class) at ≡ Some method
  pub there : slice_get (all_methods program) number ≡ Some (record { class = class_name program class; method = method })

pub method_of_class : (program : Program) (class at number : ℕ) → class < length program → at < length (methods_at program class) → number ≡ methods_before program class + at → IsMethodOf program class at number
method_of_class program class at number within lt is =
    let c : (c : Class) × (slice_get program class ≡ Some c) = some_there program class within in
    let long : length (methods_at program class) ≡ length c.0.methods = ap (λ (o : Option Class). length (methods_of o)) c.1 in
    let m : (m : Method) × (slice_get (methods_at program class) at ≡ Some m) = some_there (methods_at program class) at lt in
    let stands : slice_get c.0.methods at ≡ Some m.0 = sym (ap (λ (o : Option Class). slice_get (methods_of o) at) c.1) ∙ m.1 in
    let name : class_name program class ≡ c.0.name = ap (λ (o : Option Class). unwrap_or (option_map (λ (x : Class). x.name) o) []) c.1 in
    record {
      method = m.0;
      stands = m.1;
      there = ap (slice_get (all_methods program)) is ∙ members.method_of_number program class at c.0 c.1 (omega (arith, lt, long)) ∙ ap (option_map (found_method c.0)) stands
          ∙ ap (λ (n : Name). Some (record { class = n; method = m.0 })) (sym name);
    }

methods_within : (program : Program) (class at : ℕ) → at < length (methods_at program class) → class < length program
methods_within program class at lt = by (slice_get program class) refl lt where
  by : (o : Option Class) → slice_get program class ≡ o → at < length (methods_of o) → class < length program
  by None e lt = absurd (omega (arith, lt))
  by (Some c) e lt = slice_get_within program class c e

pub method_reported : (program : Program) (class at : ℕ) (number : Option ℕ) → number ≡ (if nat_lt at (length (methods_at program class)) then Some (methods_before program class + at) else None)
    → (n : ℕ) → number ≡ Some n → IsMethodOf program class at n
method_reported program class at number is n reported =
    let parts = reported_if at (length (methods_at program class)) (methods_before program class) number is n reported in
    method_of_class program class at n (methods_within program class at parts.0) parts.0 parts.1

pub method_number_within : (program : Program) (class at n : ℕ) → IsMethodOf program class at n → n < length (all_methods program)
method_number_within program class at n m = slice_get_within (all_methods program) n _ m.there

-- the texts are those of an initialiser where the test says so
spelled_parts : (name desc : List ℕ) → spells_initialiser name desc ≡ true → (name ≡ codes "<clinit>") × (desc ≡ codes "()V")
spelled_parts name desc e =
    let parts = and_parts (same_name name initialiser_name) (same_name desc (codes "()V")) e in
    (same_name_is name initialiser_name parts.0, same_name_is desc (codes "()V") parts.1)

other_spelled : (name desc : List ℕ) → spells_initialiser name desc ≡ false → (name ≡ codes "<clinit>") × (desc ≡ codes "()V") → ⊥
other_spelled name desc e is =
    let same : spells_initialiser name desc ≡ true =
    ap (λ (b : Bool). b && same_name desc (codes "()V")) (same_name_itself name initialiser_name is.0) ∙ same_name_itself desc (codes "()V") is.1 in
    false≢true (sym e ∙ same)

-- where the test says no, the method has another name or descriptor
pub other_named : (imaged : Imaged) (class at number : ℕ) (reported : MemberOf) (m : IsMethodOf (program_of imaged) class at number) → IsMethodThere (typed_of imaged) number reported
    → spells_initialiser reported.name.now reported.desc.now ≡ false → is_named initialiser_name no_parameters m.method.name m.method.desc ≡ false
other_named imaged class at number reported m there other =
    sym (initialiser_of_number (program_of imaged) number _ m.there) ∙ no_initialiser_reported imaged number reported there (other_spelled reported.name.now reported.desc.now other)

-- and where it says yes, it is the initialiser of the class
pub named_so : (imaged : Imaged) (class at number : ℕ) (reported : MemberOf) (m : IsMethodOf (program_of imaged) class at number) → IsMethodThere (typed_of imaged) number reported
    → spells_initialiser reported.name.now reported.desc.now ≡ true → declared_at (program_of imaged) number ≡ initialiser_of (class_name (program_of imaged) class)
named_so imaged class at number reported m there so =
    let is = (initialiser_reported imaged number reported there (spelled_parts reported.name.now reported.desc.now so)).is in
    let named = sym (initialiser_of_number (program_of imaged) number _ m.there) ∙ is in
    let parts = and_parts (same_name m.method.name initialiser_name) (same_desc m.method.desc no_parameters) named in
    declared_there (program_of imaged) number _ m.there
    ∙ ap (λ (n : Name). record { class = class_name (program_of imaged) class; name = n; desc = m.method.desc }) (same_name_is m.method.name initialiser_name parts.0)
    ∙ ap (λ (d : Desc). record { class = class_name (program_of imaged) class; name = initialiser_name; desc = d }) (same_desc_is m.method.desc no_parameters parts.1)

pub found_so : (imaged : Imaged) (class at number : ℕ) (reported : MemberOf) (o : Option Initialiser) → IsProgram (program_of imaged) → (m : IsMethodOf (program_of imaged) class at number)
    → IsMethodThere (typed_of imaged) number reported → spells_initialiser reported.name.now reported.desc.now ≡ true → RunsAt imaged number reported.flags o
    → IsInitialiserOf imaged (class_name (program_of imaged) class) o
unfolding has_initialiser code_of
found_so imaged class at number reported o formed m there so runs = by o runs where
  named : declared_at (program_of imaged) number ≡ initialiser_of (class_name (program_of imaged) class)
  named = named_so imaged class at number reported m there so

  first : method_at (program_of imaged) (initialiser_of (class_name (program_of imaged) class)) ≡ Some m.method
  first = ap (method_at (program_of imaged)) (sym named) ∙ method_of_number (program_of imaged) formed number _ m.there

  flags : reported.flags ≡ m.method.flags
  flags = there.flags ∙ ap (λ (f : FoundMethod). f.method.flags) (same_Some there.found _ (sym there.there ∙ m.there))

  by : (o : Option Initialiser) → RunsAt imaged number reported.flags o → IsInitialiserOf imaged (class_name (program_of imaged) class) o
  by None none = ap runs_static first ∙ ap (λ (n : ℕ). is_static n && has_code m.method.body) (sym flags) ∙ none _ m.there
  by (Some i) is =
      let body : m.method.body ≡ Runs is.code = ap (λ (f : FoundMethod). f.method.body) (sym (same_Some is.found _ (sym is.there ∙ m.there))) ∙ is.runs in
      record {
        has = ap runs_static first ∙ ap (λ (b : Body). is_static m.method.flags && has_code b) body
            ∙ ap (λ (n : ℕ). is_static n && true) (sym flags) ∙ ap (λ (b : Bool). b && true) is.static;
        found = is.found;
        there = ap (slice_get (all_methods (program_of imaged))) is.number ∙ is.there;
        is = sym (declared_there (program_of imaged) number is.found is.there) ∙ named;
        code = is.code;
        runs = is.runs;
        own = ap code_in first ∙ ap body_code body;
        locals = is.locals;
        room = is.room;
      }

-- what is recorded of a method that runs code
pub runs_reported : (imaged : Imaged) (method flags : ℕ) (code : Bor MethodCode) (i : Initialiser) → is_static flags ≡ true → IsBodyAt imaged method (bodies.Code code)
    → i.method ≡ method → i.locals ≡ code.now.max_locals → i.room ≡ code.now.max_stack → RunsIt imaged method flags i
unfolding part_codes.code_in
runs_reported imaged method flags code i static at number locals room = by at.found.method.body refl at.says where
  by : (body : Body) → at.found.method.body ≡ body → SaysBody imaged method body (bodies.Code code) → RunsIt imaged method flags i
  by Abstract e t = absurd t
  by (Native id) e t = absurd t
  by (Runs own) e t = record {
    static = static;
    number = number;
    found = at.found;
    there = at.there;
    code = own;
    runs = e;
    locals = locals ∙ sym (ap (λ (c : Code). c.max_locals) t.2);
    room = room ∙ sym (ap (λ (c : Code). c.max_stack) t.2);
  }

-- ---- those of all classes

-- of the classes so far
pub record AreSoFar (imaged : Imaged) (class : ℕ) (each : List (Option Initialiser)) : Type 0 where
  pub count : length each ≡ class
  pub each_is : (k : ℕ) → k < class → k < length (program_of imaged) → IsInitialiserOf imaged (class_name (program_of imaged) k) (get_or each k None)

get_push : (each : List (Option Initialiser)) (o : Option Initialiser) (k : ℕ) → k < length each → get_or (each ++ o ∷ []) k None ≡ get_or each k None
get_push [] o k lt = absurd (omega (arith, lt))
get_push (x ∷ each) o zero lt = refl
get_push (x ∷ each) o (suc k) lt = get_push each o k (omega (arith, lt))

get_end : (each : List (Option Initialiser)) (o : Option Initialiser) (k : ℕ) → length each ≡ k → get_or (each ++ o ∷ []) k None ≡ o
get_end [] o zero e = refl
get_end [] o (suc k) e = absurd (omega (arith, e))
get_end (x ∷ each) o zero e = absurd (omega (arith, e))
get_end (x ∷ each) o (suc k) e = get_end each o k (omega (arith, e))

pub so_far_more : (imaged : Imaged) (class : ℕ) (each more : List (Option Initialiser)) (o : Option Initialiser) → AreSoFar imaged class each
    → (class < length (program_of imaged) → IsInitialiserOf imaged (class_name (program_of imaged) class) o) → more ≡ each ++ o ∷ [] → AreSoFar imaged (class + 1) more
so_far_more imaged class each more o are is pushed_so = record {
  count = ap length pushed_so ∙ length_push each o ∙ ap (λ (n : ℕ). n + 1) are.count;
  each_is = λ k below within. subst (IsInitialiserOf imaged (class_name (program_of imaged) k)) (sym (ap (λ (xs : List (Option Initialiser)). get_or xs k None) pushed_so))
      (elim (cases_lt k class) [
        | inl before ↦ subst (IsInitialiserOf imaged (class_name (program_of imaged) k)) (sym (get_push each o k (let e = are.count in omega (arith, e, before)))) (are.each_is k before within)
        | inr after ↦
            (let same : class ≡ k = omega (arith, after, below) in
            subst (IsInitialiserOf imaged (class_name (program_of imaged) k)) (sym (get_end each o k (are.count ∙ same)))
            (subst (λ (n : ℕ). IsInitialiserOf imaged (class_name (program_of imaged) n) o) same (is (subst (λ (n : ℕ). n < length (program_of imaged)) (sym same) within))))
      ]);
}

pub so_far_all : (imaged : Imaged) (count : ℕ) (each : List (Option Initialiser)) → length (program_of imaged) ≤ count → AreSoFar imaged count each → AreInitialisers imaged each
so_far_all imaged count each all are = record { each = λ k lt. are.each_is k (omega (arith, lt, all)) lt }
