-- A step in a program with other names of classes is the step in the program, with other names.
use Rattle.std.proofs.Common.{◌≡◌, ℕ, ◌+◌, Bool, true, false, List, [], ◌∷◌, ◌++◌, map, length, reverse, Option, Some, None, nat_eq, nat_lt, nat_le, refl, sym, ap, ◌∙◌, if◌then◌else◌, inl, inr}
use Rattle.std.proofs.lemmas.List.{map-append, length-map}
use mathlib.Core.List.{reverse_aux}
use Rattle.std.specs.Option.{option_map}
use Rattle.std.specs.Prelude.{⊤, IfSome}
use Rattle.std.proofs.lemmas.Option.{slice_get-map}
use Rattle.dj_names.specs.declared.descriptor.Ty.{Ty}
use Rattle.dj_names.specs.declared.descriptor.Desc.{Desc}
use Rattle.dj_names.specs.declared.run.Value.{Value}
use Rattle.dj_names.specs.declared.run.Value.TheVariants as values
use Rattle.dj_names.specs.declared.run.Element.TheVariants as elements
use Rattle.dj_names.specs.declared.run.Charge.{Charge}
use Rattle.dj_names.specs.declared.run.Raised.{Raised}
use Rattle.dj_names.specs.declared.run.Outcome.{Outcome}
use Rattle.dj_names.specs.declared.run.Outcome.TheVariants as outcomes
use Rattle.dj_names.specs.trusted.Values.{raised_class}
use Rattle.dj_names.specs.trusted.Heaps.{Object, Instance, Array, Text, Heap, class_of, object_at, object_size, with_new, next_number}
use Rattle.dj_names.specs.Heaps.{object_map, heap_map}
use Rattle.dj_names.specs.trusted.Types.{Name, class_type}
use Rattle.dj_names.specs.Types.{type_map, desc_map}
use Rattle.dj_names.specs.trusted.Library.{stop_class}
use Rattle.dj_model.specs.trusted.Types.{Prefix, Declared, is_stop}
use Rattle.dj_model.specs.Types.{declared_map}
use Rattle.dj_model.specs.trusted.Instructions.{Named, Nothing, AnInt, ALong, AText, AClass, AField, AMethod, AnInterfaceMethod, Another, Instruction}
use Rattle.dj_model.specs.Instructions.{named_map, instruction_map}
use Rattle.dj_model.specs.trusted.Program.{Program, Code, Range, Field, Constant, Int, Long, Text as TextConstant, Unfit, class_at, fields_of, is_static, code_of, is_initialiser, initialiser_of, has_initialiser}
use Rattle.dj_model.specs.Program.{program_map, code_map, range_map, field_map, class_map}
use Rattle.dj_model.specs.trusted.Linking.{member_class, chain, static_place}
use Rattle.dj_model.specs.trusted.State.{Terms, Frame, State, instruction_in, instruction_at, Way, Next, To, Raise, Back, Flow, Goes, Catch, Stop, Call, End, Effect}
use Rattle.dj_model.specs.State.{frame_map, state_map, flow_map, effect_map}
use Rattle.dj_model.specs.trusted.Arrays.{Found, Null, NoArray, IsArray, array_at, passes_limit}
use Rattle.dj_model.specs.trusted.Performing.{class_at_number, object_field}
use Rattle.dj_model.specs.trusted.Members.{Kept, with_literal}
use Rattle.dj_model.specs.trusted.Effects.{effect, used_class}
use Rattle.dj_model.specs.trusted.Initialisation.{locals_for, new_frame, most_frames, is_initialised, mark, mark_all, not_initialised, Initialised, Ready, Waits, Fails, then_ready, with_text, with_constant, with_constants, constants_of, initialiser_frames, with_frames, initialise_all, initialise}
use Rattle.dj_model.specs.trusted.Step.{StepAnswer, Went, Ended, text_in, message_of, catches_named, catches, handler_in, handler_of, caught, stopped_by, ends_with, leaves_frame, at_handler, unwound, throw, throw_new, new_exception, new_stop, stop_from, throw_stop_or, called, bytes_in, result_outcome, resumed, returned, settle_way, settle, part_of, with_part, frame_with, settled, prepared, done, act, step_of, step}
use Rattle.dj_model.specs.Mapping.{IsNameMap, KeepsStop, outcome_map, initialised_map, answer_map}
use Rattle.dj_model.proofs.MappedNames as names
use Rattle.dj_model.proofs.MappedNames.{either}
use Rattle.dj_model.proofs.MappedHeaps.{object_at_mapped, class_of_mapped, size_alike, array_at_mapped, found_array}
use Rattle.dj_model.proofs.MappedMembers as members
use Rattle.dj_model.proofs.MappedEffects as effects
use Rattle.dj_model.proofs.Flows.{KeepsFlow, flows_kept}

reversed_onto : {A B : Type 0} (h : A → B) (xs acc : List A) → map h (reverse_aux xs acc) ≡ reverse_aux (map h xs) (map h acc)
reversed_onto h [] acc = refl
reversed_onto h (x ∷ xs) acc = reversed_onto h xs (x ∷ acc)

reversed : {A B : Type 0} (h : A → B) (xs : List A) → map h (reverse xs) ≡ reverse (map h xs)
reversed h xs = reversed_onto h xs []

module _ (f : Name → Name) (p q : Prefix) (is : IsNameMap f p q) (program : Program) where
  abbrev pub other : Program
  other = program_map f (code_map f) program

  at : (name : Name) → class_at other (f name) ≡ option_map (class_map f (code_map f)) (class_at program name)
  at name = names.class_mapped f (code_map f) p q is program name

  statics : (class name : Name) (desc : Desc) → static_place other (f class) name (desc_map f desc) ≡ static_place program class name desc
  statics class name desc = names.static_place_alike f (code_map f) p q is program class name desc

  -- ---- new frames

  locals_alike : (code : Option Code) (arguments : List Value) → locals_for (option_map (code_map f) code) arguments ≡ locals_for code arguments
  locals_alike None arguments = refl
  locals_alike (Some code) arguments = refl

  pub new_frame_mapped : (m : Declared) (arguments : List Value)
      → new_frame other (declared_map f m) arguments ≡ frame_map (declared_map f) (new_frame program m arguments)
  new_frame_mapped m arguments =
      rw (names.code_of_mapped f (code_map f) p q is program other at m, locals_alike (code_of program m) arguments) refl

  -- ---- initialisation

  initialised_alike : (classes : Program) (flags : List Bool) (class : Name)
      → is_initialised (program_map f (code_map f) classes) flags (f class) ≡ is_initialised classes flags class
  unfolding is_initialised
  initialised_alike [] flags class = refl
  initialised_alike (c ∷ classes) [] class = refl
  initialised_alike (c ∷ classes) (flag ∷ flags) class =
      rw (names.same_names f (code_map f) p q is c.name class, initialised_alike classes flags class) refl

  mark_alike : (classes : Program) (class : Name) (flags : List Bool) → mark (program_map f (code_map f) classes) (f class) flags ≡ mark classes class flags
  unfolding mark
  mark_alike [] class flags = refl
  mark_alike (c ∷ classes) class [] = refl
  mark_alike (c ∷ classes) class (flag ∷ flags) = rw (names.same_names f (code_map f) p q is c.name class, mark_alike classes class flags) refl

  mark_all_alike : (classes : List Name) (flags : List Bool) → mark_all other (map f classes) flags ≡ mark_all program classes flags
  mark_all_alike [] flags = refl
  mark_all_alike (class ∷ classes) flags = ap (mark_all other (map f classes)) (mark_alike program class flags) ∙ mark_all_alike classes (mark program class flags)

  pending_mapped : (flags : List Bool) (classes : List Name) → not_initialised other flags (map f classes) ≡ map f (not_initialised program flags classes)
  pending_mapped flags [] = refl
  pending_mapped flags (class ∷ classes) =
      rw (initialised_alike program flags class, mark_alike program class flags, pending_mapped (mark program class flags) classes)
      (go (is_initialised program flags class)) where
        go : (b : Bool) → (if b then [] else f class ∷ []) ++ map f (not_initialised program (mark program class flags) classes)
            ≡ map f ((if b then [] else class ∷ []) ++ not_initialised program (mark program class flags) classes)
        go true = refl
        go false = refl

  then_mapped : (next other_next : State → Initialised) → ((s : State) → other_next (state_map f s) ≡ initialised_map f (next s))
      → (i : Initialised) → then_ready other_next (initialised_map f i) ≡ initialised_map f (then_ready next i)
  then_mapped next other_next e (Ready s) = e s
  then_mapped next other_next e (Waits s) = refl
  then_mapped next other_next e (Fails outcome s) = refl

  with_text_mapped : (s : State) (place : ℕ) (units : List ℕ) (k : Option Kept)
      → with_text (state_map f s) place units (option_map (members.kept_map f (code_map f) p q is program other at statics) k) ≡ initialised_map f (with_text s place units k)
  with_text_mapped s place units None = refl
  with_text_mapped s place units (Some k) = refl

  constant_mapped : (terms : Terms) (s : State) (place : ℕ) (constant : Option Constant)
      → with_constant q terms (state_map f s) place constant ≡ initialised_map f (with_constant p terms s place constant)
  constant_mapped terms s place None = refl
  constant_mapped terms s place (Some (Int z)) = refl
  constant_mapped terms s place (Some (Long z)) = refl
  constant_mapped terms s place (Some (TextConstant units)) =
      rw (members.literal_mapped f (code_map f) p q is program other at statics terms.limit s.heap s.literals units)
      (with_text_mapped s place units (with_literal terms.limit p s.heap s.literals units))
  constant_mapped terms s place (Some Unfit) = refl

  field_mapped : (terms : Terms) (s : State) (class : Name) (x : Field)
      → (if is_static x.flags then with_constant q terms (state_map f s) (static_place other (f class) x.name (desc_map f x.desc)) x.constant else Ready (state_map f s))
      ≡ initialised_map f (if is_static x.flags then with_constant p terms s (static_place program class x.name x.desc) x.constant else Ready s)
  field_mapped terms s class x =
      rw (names.static_place_alike f (code_map f) p q is program class x.name x.desc, constant_mapped terms s (static_place program class x.name x.desc) x.constant)
      (elim (either (is_static x.flags)) [ inl e ↦ rw e refl | inr e ↦ rw e refl ])

  constants_mapped : (terms : Terms) (class : Name) (fields : List Field) (s : State)
      → with_constants other q terms (f class) (map (field_map f) fields) (state_map f s) ≡ initialised_map f (with_constants program p terms class fields s)
  unfolding with_constants
  constants_mapped terms class [] s = refl
  constants_mapped terms class (x ∷ fields) s =
      ap (then_ready (with_constants other q terms (f class) (map (field_map f) fields))) (field_mapped terms s class x)
      ∙ then_mapped (with_constants program p terms class fields) (with_constants other q terms (f class) (map (field_map f) fields))
      (constants_mapped terms class fields) (if is_static x.flags then with_constant p terms s (static_place program class x.name x.desc) x.constant else Ready s)

  all_constants_mapped : (terms : Terms) (classes : List Name) (s : State)
      → constants_of other q terms (map f classes) (state_map f s) ≡ initialised_map f (constants_of program p terms classes s)
  unfolding constants_of
  all_constants_mapped terms [] s = refl
  all_constants_mapped terms (class ∷ classes) s =
      ap (then_ready (constants_of other q terms (map f classes)))
      (ap (λ fields. with_constants other q terms (f class) fields (state_map f s)) (ap fields_of (names.class_mapped f (code_map f) p q is program class) ∙ names.fields_mapped f (code_map f) p q is (class_at program class))
      ∙ constants_mapped terms class (fields_of (class_at program class)) s)
      ∙ then_mapped (constants_of program p terms classes) (constants_of other q terms (map f classes)) (all_constants_mapped terms classes)
      (with_constants program p terms class (fields_of (class_at program class)) s)

  initialiser_frames_mapped : (classes : List Name)
      → initialiser_frames other (map f classes) ≡ map (frame_map (declared_map f)) (initialiser_frames program classes)
  initialiser_frames_mapped [] = refl
  initialiser_frames_mapped (class ∷ classes) =
      rw (names.has_initialiser_alike f (code_map f) p q is program other at class, new_frame_mapped (initialiser_of class) [], initialiser_frames_mapped classes)
      (elim (either (has_initialiser program class)) [ inl e ↦ rw e refl | inr e ↦ rw e refl ])

  with_frames_mapped : (s : State) (frames : List (Frame Declared))
      → with_frames (state_map f s) (map (frame_map (declared_map f)) frames) ≡ initialised_map f (with_frames s frames)
  with_frames_mapped s [] = refl
  with_frames_mapped s (x ∷ frames) =
      rw (length-map frames (frame_map (declared_map f)), length-map s.frames (frame_map (declared_map f)), ← map-append (frame_map (declared_map f)) frames s.frames)
      (elim (either (nat_lt most_frames (length (x ∷ frames) + length s.frames))) [ inl e ↦ rw e refl | inr e ↦ rw e refl ])

  all_mapped : (terms : Terms) (classes : List Name) (s : State)
      → initialise_all other q terms (map f classes) (state_map f s) ≡ initialised_map f (initialise_all program p terms classes s)
  all_mapped terms classes s =
      let marked : State = record s { initialised = mark_all program classes s.initialised } in
      rw (mark_all_alike classes s.initialised, all_constants_mapped terms classes marked)
      (then_mapped (λ next. with_frames next (initialiser_frames program classes)) (λ next. with_frames next (initialiser_frames other (map f classes)))
      (λ next. ap (with_frames (state_map f next)) (initialiser_frames_mapped classes) ∙ with_frames_mapped next (initialiser_frames program classes))
      (constants_of program p terms classes marked))

  pub initialise_mapped : (terms : Terms) (class : Name) (s : State)
      → initialise other q terms (f class) (state_map f s) ≡ initialised_map f (initialise program p terms class s)
  unfolding initialise
  initialise_mapped terms class s =
      ap (λ classes. initialise_all other q terms classes (state_map f s))
      (ap (λ classes. reverse (not_initialised other s.initialised classes)) (names.chain_mapped f (code_map f) p q is program other at class)
      ∙ (ap reverse (pending_mapped s.initialised (chain program class)) ∙ sym (reversed f (not_initialised program s.initialised (chain program class)))))
      ∙ all_mapped terms (reverse (not_initialised program s.initialised (chain program class))) s

  -- ---- exceptions

  text_alike : (o : Option (Object Ty)) → text_in (option_map (object_map (type_map f)) o) ≡ text_in o
  text_alike None = refl
  text_alike (Some (Instance class fields)) = refl
  text_alike (Some (Array class element contents)) = refl
  text_alike (Some (Text class units)) = refl

  message_alike : (heap : Heap Ty) (exception : ℕ) → message_of (heap_map (type_map f) heap) exception ≡ message_of heap exception
  message_alike heap exception =
      ap (λ r. text_in (object_at (map (object_map (type_map f)) heap.objects) r))
      (ap (λ o. object_field o 0) (object_at_mapped (type_map f) heap.objects exception) ∙ members.field_alike f (code_map f) p q is program other at statics (object_at heap.objects exception) 0)
      ∙ (ap text_in (object_at_mapped (type_map f) heap.objects (object_field (object_at heap.objects exception) 0)) ∙ text_alike (object_at heap.objects (object_field (object_at heap.objects exception) 0)))

  catches_named_alike : (class : Ty) (named : Named) → catches_named other q (type_map f class) (named_map f named) ≡ catches_named program p class named
  catches_named_alike class (AClass caught) = names.subtype_alike f (code_map f) p q is program other at class caught
  catches_named_alike class Nothing = refl
  catches_named_alike class (AnInt z) = refl
  catches_named_alike class (ALong z) = refl
  catches_named_alike class (AText units) = refl
  catches_named_alike class (AField m) = refl
  catches_named_alike class (AMethod m) = refl
  catches_named_alike class (AnInterfaceMethod m) = refl
  catches_named_alike class Another = refl

  catches_alike : (class : Ty) (named : Option Named) → catches other q (type_map f class) (option_map (named_map f) named) ≡ catches program p class named
  catches_alike class None = refl
  catches_alike class (Some named) = catches_named_alike class named

  handler_alike : (class : Ty) (number : ℕ) (ranges : List Range)
      → handler_in other q (type_map f class) number (map (range_map f) ranges) ≡ handler_in program p class number ranges
  handler_alike class number [] = refl
  handler_alike class number (range ∷ ranges) = rw (catches_alike class range.catches, handler_alike class number ranges) refl

  handler_of_alike : (class : Ty) (number : ℕ) (code : Option Code)
      → handler_of other q (type_map f class) number (option_map (code_map f) code) ≡ handler_of program p class number code
  handler_of_alike class number None = refl
  handler_of_alike class number (Some code) = handler_alike class number code.ranges

  stopped_alike : (charge : Option Charge) (outcome : Outcome) → stopped_by charge (outcome_map f outcome) ≡ outcome_map f (stopped_by charge outcome)
  stopped_alike None outcome = refl
  stopped_alike (Some charge) outcome = refl

  ends_mapped : (s : State) (class : Ty) (outcome : Outcome)
      → ends_with q (state_map f s) (type_map f class) (outcome_map f outcome) ≡ answer_map f (ends_with p s class outcome)
  ends_mapped s class outcome =
      rw (is.stop class, stopped_alike s.account.exceeded outcome) (elim (either (is_stop p class)) [ inl e ↦ rw e refl | inr e ↦ rw e refl ])

  leaves_mapped : (s : State) (class : Ty) (exception : ℕ) (x : Frame Declared) (below other_below : StepAnswer) → other_below ≡ answer_map f below
      → leaves_frame q (state_map f s) (type_map f class) exception (frame_map (declared_map f) x) other_below
      ≡ answer_map f (leaves_frame p s class exception x below)
  leaves_mapped s class exception x below other_below e =
      rw (names.initialiser_alike f (code_map f) p q is x.method, names.member_class_mapped f (code_map f) p q is class, message_alike s.heap exception, e)
      (elim (either (is_initialiser x.method)) [
        | inl i ↦ rw i (ends_mapped s class (outcomes.Init x.method.class (member_class p class) (message_of s.heap exception)))
        | inr i ↦ rw i refl
      ])

  handled_mapped : (s : State) (class : Ty) (exception : ℕ) (x : Frame Declared) (below : List (Frame Declared)) (handler : Option ℕ) (a b : StepAnswer) → b ≡ answer_map f a
      → at_handler q (state_map f s) (type_map f class) exception (frame_map (declared_map f) x) (map (frame_map (declared_map f)) below) handler b
      ≡ answer_map f (at_handler p s class exception x below handler a)
  handled_mapped s class exception x below (Some handler) a b e = refl
  handled_mapped s class exception x below None a b e = leaves_mapped s class exception x a b e

  pub unwound_mapped : (s : State) (class : Ty) (exception : ℕ) (frames : List (Frame Declared))
      → unwound other q (state_map f s) (type_map f class) exception (map (frame_map (declared_map f)) frames)
      ≡ answer_map f (unwound program p s class exception frames)
  unfolding unwound
  unwound_mapped s class exception [] =
      rw (names.member_class_mapped f (code_map f) p q is class, message_alike s.heap exception)
      (ends_mapped s class (outcomes.Threw (member_class p class) (message_of s.heap exception)))
  unwound_mapped s class exception (x ∷ below) =
      rw (names.code_of_mapped f (code_map f) p q is program other at x.method, handler_of_alike class x.number (code_of program x.method))
      (handled_mapped s class exception x below (handler_of program p class x.number (code_of program x.method)) _ _ (unwound_mapped s class exception below))

  throw_mapped : (s : State) (exception : ℕ) → throw other q (state_map f s) exception ≡ answer_map f (throw program p s exception)
  throw_mapped s exception =
      ap (λ (class : Ty). unwound other q (state_map f s) class exception (map (frame_map (declared_map f)) s.frames))
      (members.class_at_mapped f (code_map f) p q is program other at statics s.heap exception)
      ∙ unwound_mapped s (class_at_number s.heap exception) exception s.frames

  throw_new_mapped : (terms : Terms) (s : State) (o : Object Ty)
      → throw_new other q terms (state_map f s) (object_map (type_map f) o) ≡ answer_map f (throw_new program p terms s o)
  throw_new_mapped terms s o = rw (size_alike (type_map f) o) (go (passes_limit terms.limit (s.heap.used + object_size o))) where
    made : State
    made = record s { heap = with_new s.heap o }

    thrown : throw other q (record (state_map f s) { heap = record { objects = map (object_map (type_map f)) s.heap.objects ++ object_map (type_map f) o ∷ []; used = s.heap.used + object_size o } })
        (next_number (heap_map (type_map f) s.heap)) ≡ answer_map f (throw program p made (next_number s.heap))
    thrown = rw (← map-append (object_map (type_map f)) s.heap.objects (o ∷ []), length-map s.heap.objects (object_map (type_map f)))
        (throw_mapped made (next_number s.heap))

    go : (full : Bool)
        → (if full then Ended (outcomes.HeapFull s.heap.used (object_size o)) (state_map f s)
        else throw other q (record (state_map f s) { heap = record { objects = map (object_map (type_map f)) s.heap.objects ++ object_map (type_map f) o ∷ []; used = s.heap.used + object_size o } })
        (next_number (heap_map (type_map f) s.heap)))
        ≡ answer_map f (if full then Ended (outcomes.HeapFull s.heap.used (object_size o)) s else throw program p made (next_number s.heap))
    go true = refl
    go false = thrown

  exception_mapped : (raised : Raised) → new_exception q raised ≡ object_map (type_map f) (new_exception p raised)
  exception_mapped raised = ap (λ (name : Name). Instance (class_type name) (0 ∷ 0 ∷ [])) (sym (is.library (raised_class raised)))

  -- ---- the object that stops a run

  -- where it is thrown, its name is the same
  stop_from_alike : (r : ℕ) (objects : List (Object Ty)) → stop_from q r (map (object_map (type_map f)) objects) ≡ stop_from p r objects
  stop_from_alike r [] = refl
  stop_from_alike r (o ∷ objects) =
      rw (class_of_mapped (type_map f) o, is.stop (class_of o), stop_from_alike (r + 1) objects) refl

  stop_mapped : f stop_class ≡ stop_class → (terms : Terms) (s : State) (r : Option ℕ)
      → throw_stop_or other q terms (state_map f s) r ≡ answer_map f (throw_stop_or program p terms s r)
  stop_mapped keeps terms s None =
      ap (throw_new other q terms (state_map f s)) (ap (λ (name : Name). Instance (class_type name) []) (sym keeps)) ∙ throw_new_mapped terms s new_stop
  stop_mapped keeps terms s (Some r) = throw_mapped s r

  -- ---- calls and returns

  called_mapped : (s : State) (m : Declared) (arguments : List Value)
      → called other (state_map f s) (declared_map f m) arguments ≡ answer_map f (called program s m arguments)
  called_mapped s m arguments =
      rw (length-map s.frames (frame_map (declared_map f)), new_frame_mapped m arguments)
      (elim (either (nat_le most_frames (length s.frames))) [ inl e ↦ rw e refl | inr e ↦ rw e refl ])

  bytes_alike : (found : Found Ty) → bytes_in (found_array (type_map f) found) ≡ outcome_map f (bytes_in found)
  bytes_alike Null = refl
  bytes_alike NoArray = refl
  bytes_alike (IsArray class elements.Boolean contents) = refl
  bytes_alike (IsArray class elements.Byte contents) = refl
  bytes_alike (IsArray class elements.Char contents) = refl
  bytes_alike (IsArray class elements.Short contents) = refl
  bytes_alike (IsArray class elements.Int contents) = refl
  bytes_alike (IsArray class elements.Long contents) = refl
  bytes_alike (IsArray class elements.Ref contents) = refl

  outcome_alike : (heap : Heap Ty) (result : Option Value) → result_outcome (heap_map (type_map f) heap) result ≡ outcome_map f (result_outcome heap result)
  outcome_alike heap None = refl
  outcome_alike heap (Some (values.Int z)) = refl
  outcome_alike heap (Some (values.Long z)) = refl
  outcome_alike heap (Some (values.Ref r)) =
      rw (array_at_mapped (type_map f) heap r, bytes_alike (array_at heap r)) (elim (either (nat_eq r 0)) [ inl e ↦ rw e refl | inr e ↦ rw e refl ])

  resumed_mapped : (x : Frame Declared) (result : Option Value) (caller : Frame Declared)
      → resumed (frame_map (declared_map f) x) result (frame_map (declared_map f) caller) ≡ frame_map (declared_map f) (resumed x result caller)
  resumed_mapped x result caller = rw (names.initialiser_alike f (code_map f) p q is x.method)
      (elim (either (is_initialiser x.method)) [ inl e ↦ rw e refl | inr e ↦ rw e refl ])

  returned_mapped : (s : State) (x : Frame Declared) (result : Option Value) (below : List (Frame Declared))
      → returned (state_map f s) (frame_map (declared_map f) x) result (map (frame_map (declared_map f)) below) ≡ answer_map f (returned s x result below)
  returned_mapped s x result [] = ap (λ outcome. Ended outcome (state_map f s)) (outcome_alike s.heap result)
  returned_mapped s x result (caller ∷ below) =
      ap (λ (y : Frame Declared). Went (record (state_map f s) { frames = y ∷ map (frame_map (declared_map f)) below })) (resumed_mapped x result caller)

  -- ---- the step

  way_mapped : (terms : Terms) (s : State) (x : Frame Declared) (below : List (Frame Declared)) (way : Way)
      → settle_way other q terms (state_map f s) (frame_map (declared_map f) x) (map (frame_map (declared_map f)) below) way
      ≡ answer_map f (settle_way program p terms s x below way)
  way_mapped terms s x below Next = refl
  way_mapped terms s x below (To number) = refl
  way_mapped terms s x below (Raise raised) =
      ap (throw_new other q terms (state_map f (record s { frames = x ∷ below }))) (exception_mapped raised)
      ∙ throw_new_mapped terms (record s { frames = x ∷ below }) (new_exception p raised)
  way_mapped terms s x below (Back result) = returned_mapped s x result below

  -- no outcome of an effect names a class
  pub settle_mapped : (terms : Terms) (s : State) (x : Frame Declared) (below : List (Frame Declared)) (flow : Flow) → KeepsFlow f flow
      → settle other q terms (state_map f s) (frame_map (declared_map f) x) (map (frame_map (declared_map f)) below) (flow_map f flow)
      ≡ answer_map f (settle program p terms s x below flow)
  unfolding settle
  settle_mapped terms s x below (Goes way) keeps = way_mapped terms s x below way
  settle_mapped terms s x below (Catch exception) keeps = throw_mapped (record s { frames = x ∷ below }) exception
  settle_mapped terms s x below Stop keeps =
      ap (throw_stop_or other q terms (state_map f (record s { frames = x ∷ below }))) (stop_from_alike 1 s.heap.objects)
      ∙ stop_mapped keeps terms (record s { frames = x ∷ below }) (stop_from p 1 s.heap.objects)
  settle_mapped terms s x below (Call m arguments) keeps = called_mapped (record s { frames = x ∷ below }) m arguments
  settle_mapped terms s x below (End outcome) keeps = ap (λ o. Ended o (state_map f s)) (sym keeps)

  abbrev KeepsEffect : Option Effect → Type 0
  KeepsEffect None = ⊤
  KeepsEffect (Some e) = KeepsFlow f e.flow

  settled_mapped : (terms : Terms) (s : State) (x : Frame Declared) (below : List (Frame Declared)) (e : Option Effect) → KeepsEffect e
      → settled other q terms (state_map f s) (frame_map (declared_map f) x) (map (frame_map (declared_map f)) below) (option_map (effect_map f) e)
      ≡ answer_map f (settled program p terms s x below e)
  settled_mapped terms s x below None keeps = refl
  settled_mapped terms s x below (Some e) keeps = settle_mapped terms (with_part s e.part) (frame_with x e.part) below e.flow keeps

  prepared_mapped : (terms : Terms) (class : Option Name) (s : State)
      → prepared other q terms (option_map f class) (state_map f s) ≡ initialised_map f (prepared program p terms class s)
  prepared_mapped terms None s = refl
  prepared_mapped terms (Some class) s = initialise_mapped terms class s

  done_mapped : (terms : Terms) → KeepsStop f terms.counting → (x : Frame Declared) (below : List (Frame Declared)) (i : Instruction) (prep : Initialised)
      → done other q terms (frame_map (declared_map f) x) (map (frame_map (declared_map f)) below) (instruction_map f i) (initialised_map f prep)
      ≡ answer_map f (done program p terms x below i prep)
  done_mapped terms keeps x below i (Ready s) =
      ap (settled other q terms (state_map f s) (frame_map (declared_map f) x) (map (frame_map (declared_map f)) below))
      (effects.effect_mapped f (code_map f) p q is program other at statics terms x.method.class i (part_of x s))
      ∙ settled_mapped terms s x below (effect program p terms x.method.class i (part_of x s)) (kept (effect program p terms x.method.class i (part_of x s)) (flows_kept f program p terms keeps x.method.class i (part_of x s))) where
        kept : (e : Option Effect) → IfSome e (λ e. KeepsFlow f e.flow) → KeepsEffect e
        kept None k = tt
        kept (Some e) k = k
  done_mapped terms keeps x below i (Waits s) = refl
  done_mapped terms keeps x below i (Fails outcome s) = refl

  act_mapped : (terms : Terms) → KeepsStop f terms.counting → (s : State) (x : Frame Declared) (below : List (Frame Declared)) (i : Option Instruction)
      → act other q terms (state_map f s) (frame_map (declared_map f) x) (map (frame_map (declared_map f)) below) (option_map (instruction_map f) i)
      ≡ answer_map f (act program p terms s x below i)
  act_mapped terms keeps s x below None = refl
  act_mapped terms keeps s x below (Some i) =
      ap (done other q terms (frame_map (declared_map f) x) (map (frame_map (declared_map f)) below) (instruction_map f i))
      (ap (λ class. prepared other q terms class (state_map f s)) (effects.used_mapped f (code_map f) p q is program other at statics i)
      ∙ prepared_mapped terms (used_class program p i) s)
      ∙ done_mapped terms keeps x below i (prepared program p terms (used_class program p i) s)

  instruction_mapped : (code : Option Code) (number : ℕ) → instruction_in (option_map (code_map f) code) number ≡ option_map (instruction_map f) (instruction_in code number)
  instruction_mapped None number = refl
  instruction_mapped (Some code) number = slice_get-map (instruction_map f) code.instructions number

  pub at_mapped : (x : Frame Declared) → instruction_at other (frame_map (declared_map f) x) ≡ option_map (instruction_map f) (instruction_at program x)
  at_mapped x = ap (λ code. instruction_in code x.number) (names.code_of_mapped f (code_map f) p q is program other at x.method) ∙ instruction_mapped (code_of program x.method) x.number

  step_of_mapped : (terms : Terms) → KeepsStop f terms.counting → (s : State) (frames : List (Frame Declared))
      → step_of other q terms (state_map f s) (map (frame_map (declared_map f)) frames) ≡ answer_map f (step_of program p terms s frames)
  step_of_mapped terms keeps s [] = refl
  step_of_mapped terms keeps s (x ∷ below) =
      ap (act other q terms (state_map f s) (frame_map (declared_map f) x) (map (frame_map (declared_map f)) below)) (at_mapped x)
      ∙ act_mapped terms keeps s x below (instruction_at program x)

  pub step_mapped : (terms : Terms) → KeepsStop f terms.counting → (s : State) → step other q terms (state_map f s) ≡ answer_map f (step program p terms s)
  unfolding step
  step_mapped terms keeps s = step_of_mapped terms keeps s s.frames
