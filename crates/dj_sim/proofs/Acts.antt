-- What an act of the metered run is in the plain run of the rewritten program.
use Rattle.std.proofs.Common.{◌≡◌, ℕ, zero, suc, ◌+◌, ◌<◌, ◌&&◌, ◌||◌, Bool, true, false, List, [], ◌∷◌, ◌++◌, map, length, Option, Some, None, slice_get, nat_eq, nat_lt, nat_le, refl, sym, ap, ◌∙◌, if◌then◌else◌, inl, inr, arith}
use Rattle.std.specs.List.{flat_map}
use Rattle.std.specs.Option.{option_map}
use Rattle.std.proofs.lemmas.List.{length-map}
use Rattle.std.proofs.lemmas.Option.{none-some, slice_get-map}
use Rattle.dj_names.specs.declared.descriptor.Desc.{Desc}
use Rattle.dj_names.specs.declared.descriptor.Ty.{Ty}
use Rattle.dj_names.specs.declared.run.Value.{Value}
use Rattle.dj_names.specs.Heaps.{heap_map}
use Rattle.dj_names.specs.trusted.Types.{Name}
use Rattle.dj_names.specs.Types.{in_sandbox, sandbox_prefix, type_map, desc_map}
use Rattle.dj_model.specs.trusted.Types.{Declared}
use Rattle.dj_model.specs.Types.{declared_map}
use Rattle.dj_model.specs.trusted.Instructions.{Instruction, Named, Nothing, AnInt, ALong, AText, AClass, AField, AMethod, AnInterfaceMethod, Another}
use Rattle.dj_model.specs.Instructions.{named_map, instruction_map}
use Rattle.dj_model.specs.trusted.Program.{Program, Class, Code, Range, class_at, code_of, is_initialiser}
use Rattle.dj_model.specs.Program.{class_map, program_map, range_map}
use Rattle.dj_model.specs.trusted.Libraries.{library_class}
use Rattle.dj_names.specs.Library.{below_object, accounter_class, accounter_methods}
use Rattle.dj_model.specs.trusted.Linking.{static_place, member_class}
use Rattle.dj_model.specs.trusted.State.{Terms, Frame, State, instruction_in, instruction_at, Way, Next, To, Raise, Back, Flow, Goes, Catch, Stop, Call, End}
use Rattle.dj_model.specs.trusted.Arrays.{Found, Null, NoArray, IsArray, array_at, passes_limit}
use Rattle.dj_model.specs.trusted.Performing.{class_at_number, object_field}
use Rattle.dj_model.specs.Mapping.{outcome_map}
use Rattle.dj_names.specs.trusted.Heaps.{Object, Instance, Array, Text, Heap, object_at, object_size, with_new, next_number}
use Rattle.dj_names.specs.Heaps.{object_map}
use Rattle.dj_names.specs.trusted.Types.{class_type}
use Rattle.dj_names.specs.trusted.Values.{raised_class}
use Rattle.dj_names.specs.declared.run.Value.TheVariants as values
use Rattle.dj_names.specs.declared.run.Element.TheVariants as elements
use Rattle.dj_names.specs.declared.run.Raised.{Raised}
use Rattle.dj_names.specs.declared.run.Outcome.{Outcome}
use Rattle.dj_names.specs.declared.run.Outcome.TheVariants as outcomes
use Rattle.dj_names.specs.trusted.Library.{stop_class}
use Rattle.std.proofs.lemmas.List.{map-append}
use Rattle.dj_model.proofs.MappedHeaps.{object_at_mapped, size_alike, array_at_mapped, found_array}
use Rattle.dj_model.proofs.MappedMembers as members
use Rattle.dj_model.proofs.Flows.{KeepsFlow}
use Rattle.dj_model.specs.trusted.Initialisation.{locals_for, new_frame, most_frames}
use Rattle.dj_model.specs.trusted.Step.{StepAnswer, Went, Ended, catches, handler_in, handler_of, caught, resumed, text_in, message_of, ends_with, leaves_frame, at_handler, unwound, throw, throw_new, new_exception, called, bytes_in, result_outcome, returned, settle_way, settle}
use Rattle.dj_model.specs.Runs.{starts_handler}
use Rattle.dj_model.proofs.MappedNames as names
use Rattle.dj_model.proofs.NameMaps.{sandbox_map, accounter_apart, prefix_at, prefix_statics}
use Rattle.dj_groups.specs.Groups.{Group, own_of, group_at, groups_from, groups_of, group_of, start, own, pieces}
use Rattle.dj_groups.specs.Rewritten.{inserted_instruction, own_instruction, range_pieces, in_groups, rewritten_code}
use Rattle.dj_groups.specs.Laws.{is_in}
use Rattle.dj_groups.proofs.GroupLaws.{start_zero}
use Rattle.dj_sim.specs.Simulation.{groups_in, part_at, place_in, frame_image, state_image, AreWaitingPaid, AreActing, answer_image}
use Rattle.dj_sim.proofs.Places.{either, own_at, inserted_at, next_start, are_over, pieces_over_own}

-- ---- rewritten code

-- the instruction itself, under other names and with its targets at other places
abbrev pub moved_to : (ℕ → ℕ) → Instruction → Instruction
moved_to place i = own_instruction place (own_of i) (instruction_map in_sandbox i)

abbrev pub regrouped_instruction : List Group → Instruction → Instruction
regrouped_instruction gs i = moved_to (start gs) i

-- a piece of a range
abbrev pub piece_of : List Group → Range → ℕ × ℕ → Range
piece_of gs range p = record range { start = p.0; end = p.1; handler = start gs range.handler }

-- the ranges of rewritten code
abbrev pub ranges_of : List Group → List Range → List Range
ranges_of gs ranges = flat_map (range_pieces gs) (map (range_map in_sandbox) ranges)

-- the accounter and the class of the object that stops a run
abbrev pub front : List Class
front = library_class (below_object accounter_class accounter_methods) ∷ library_class (below_object stop_class []) ∷ []

-- ---- where an effect goes on

abbrev pub way_at : (ℕ → ℕ) → Way → Way
way_at place (To number) = To (place number)
way_at place way = way

-- the same with targets at other places, and with the other names
abbrev pub flow_image : (ℕ → ℕ) → Flow → Flow
flow_image place (Goes way) = Goes (way_at place way)
flow_image place (Catch exception) = Catch exception
flow_image place Stop = Stop
flow_image place (Call m arguments) = Call (declared_map in_sandbox m) arguments
flow_image place (End outcome) = End outcome

module _ (program : Program) where
  abbrev pub other : Program
  other = front ++ program_map in_sandbox (rewritten_code program) program

  pub at : (name : Name) → class_at other (in_sandbox name) ≡ option_map (class_map in_sandbox (rewritten_code program)) (class_at program name)
  at name = prefix_at in_sandbox front (program_map in_sandbox (rewritten_code program) program) accounter_apart name
      ∙ names.class_mapped in_sandbox (rewritten_code program) [] sandbox_prefix sandbox_map program name

  pub statics : (class name : Name) (desc : Desc) → static_place other (in_sandbox class) name (desc_map in_sandbox desc) ≡ static_place program class name desc
  statics class name desc = prefix_statics in_sandbox front (program_map in_sandbox (rewritten_code program) program) accounter_apart class name (desc_map in_sandbox desc)
      ∙ names.static_place_alike in_sandbox (rewritten_code program) [] sandbox_prefix sandbox_map program class name desc

  pub code_image : (m : Declared) → code_of other (declared_map in_sandbox m) ≡ option_map (rewritten_code program) (code_of program m)
  code_image m = names.code_of_mapped in_sandbox (rewritten_code program) [] sandbox_prefix sandbox_map program other at m

  -- ---- instructions

  as_many : (arrives : ℕ → Bool) (number : ℕ) (is : List Instruction) → length (groups_from program arrives number is) ≡ length is
  as_many arrives number [] = refl
  as_many arrives number (i ∷ is) = ap suc (as_many arrives (number + 1) is)

  pub as_many_groups : (code : Code) → length (groups_of program code) ≡ length code.instructions
  unfolding groups_of
  as_many_groups code = as_many (starts_handler (Some code)) 0 code.instructions

  mapped_length : (code : Code) → length (groups_of program code) ≡ length (map (instruction_map in_sandbox) code.instructions)
  mapped_length code = as_many_groups code ∙ sym (length-map code.instructions (instruction_map in_sandbox))

  group_from : (arrives : ℕ → Bool) (number : ℕ) (is : List Instruction) (k : ℕ) (i : Instruction) → slice_get is k ≡ Some i
      → group_at (groups_from program arrives number is) k ≡ group_of program (arrives (number + k)) i
  group_from arrives number [] k i there = absurd (none-some i there)
  group_from arrives number (x ∷ is) zero i there =
      let e : number ≡ number + 0 = omega arith in
      let same : x ≡ i = cc in
      ap (λ n. group_of program (arrives n) x) e ∙ ap (group_of program (arrives (number + 0))) same
  group_from arrives number (x ∷ is) (suc k) i there =
      let e : number + 1 + k ≡ number + suc k = omega arith in
      group_from arrives (number + 1) is k i there ∙ ap (λ n. group_of program (arrives n) i) e

  -- the group of an instruction
  pub group_there : (code : Code) (k : ℕ) (i : Instruction) → slice_get code.instructions k ≡ Some i
      → group_at (groups_of program code) k ≡ group_of program (starts_handler (Some code) k) i
  unfolding groups_of
  group_there code k i there =
      let e : 0 + k ≡ k = omega arith in
      group_from (starts_handler (Some code)) 0 code.instructions k i there ∙ ap (λ n. group_of program (starts_handler (Some code) n) i) e

  -- the instruction itself in rewritten code
  pub itself_at : (code : Code) (k : ℕ)
      → slice_get (rewritten_code program code).instructions (own (groups_of program code) k) ≡ option_map (regrouped_instruction (groups_of program code)) (slice_get code.instructions k)
  unfolding rewritten_code in_groups
  itself_at code k =
      own_at inserted_instruction (own_instruction (start (groups_of program code))) (groups_of program code) (map (instruction_map in_sandbox) code.instructions) (mapped_length code) k
      ∙ (ap (option_map (own_instruction (start (groups_of program code)) (group_at (groups_of program code) k).own)) (slice_get-map (instruction_map in_sandbox) code.instructions k)
      ∙ by (slice_get code.instructions k) refl) where
        by : (o : Option Instruction) → slice_get code.instructions k ≡ o
            → option_map (own_instruction (start (groups_of program code)) (group_at (groups_of program code) k).own) (option_map (instruction_map in_sandbox) o)
            ≡ option_map (regrouped_instruction (groups_of program code)) o
        by None there = refl
        by (Some i) there = ap (λ (g : Group). Some (own_instruction (start (groups_of program code)) g.own (instruction_map in_sandbox i))) (group_there code k i there)

  -- what is inserted before it
  pub part_there : (code : Code) (k j : ℕ) → j < length (part_at (groups_of program code) k)
      → slice_get (rewritten_code program code).instructions (start (groups_of program code) k + j) ≡ slice_get (part_at (groups_of program code) k) j
  unfolding rewritten_code in_groups
  part_there code k j inside =
      inserted_at inserted_instruction (own_instruction (start (groups_of program code))) (groups_of program code) (map (instruction_map in_sandbox) code.instructions) (mapped_length code) k j inside

  -- the instruction of a paid frame
  paid_in : (code : Option Code) (number : ℕ)
      → instruction_in (option_map (rewritten_code program) code) (own (groups_in program code) number)
      ≡ option_map (regrouped_instruction (groups_in program code)) (instruction_in code number)
  paid_in None number = refl
  paid_in (Some code) number = itself_at code number

  pub paid_instruction : (x : Frame Declared) → x.paid ≡ true
      → instruction_at other (frame_image program x) ≡ option_map (regrouped_instruction (groups_in program (code_of program x.method))) (instruction_at program x)
  paid_instruction x e =
      ap (λ code. instruction_in code (frame_image program x).number) (code_image x.method)
      ∙ (ap (λ paid. instruction_in (option_map (rewritten_code program) (code_of program x.method)) (place_in (groups_in program (code_of program x.method)) paid x.number)) e
      ∙ paid_in (code_of program x.method) x.number)

  -- ---- new frames, and the next instruction

  locals_alike : (code : Option Code) (arguments : List Value) → locals_for (option_map (rewritten_code program) code) arguments ≡ locals_for code arguments
  unfolding rewritten_code in_groups
  locals_alike None arguments = refl
  locals_alike (Some code) arguments = refl

  pub new_frame_image : (m : Declared) (arguments : List Value)
      → new_frame other (declared_map in_sandbox m) arguments ≡ frame_image program (new_frame program m arguments)
  new_frame_image m arguments =
      rw (code_image m, locals_alike (code_of program m) arguments, start_zero (groups_in program (code_of program m))) refl

  number_after : (gs : List Group) (number : ℕ) → own gs number + 1 ≡ start gs (number + 1)
  number_after gs number = let e : suc number ≡ number + 1 = omega arith in next_start gs number ∙ ap (start gs) e

  pub resumed_image : (x : Frame Declared) (result : Option Value) (caller : Frame Declared) → (is_initialiser x.method ≡ false → caller.paid ≡ true)
      → resumed (frame_image program x) result (frame_image program caller) ≡ frame_image program (resumed x result caller)
  resumed_image x result caller paid = rw (names.initialiser_alike in_sandbox (rewritten_code program) [] sandbox_prefix sandbox_map x.method)
      (elim (either (is_initialiser x.method)) [ inl e ↦ rw e refl | inr e ↦ rw (e, paid e, number_after (groups_in program (code_of program caller.method)) caller.number) refl ])

  -- ---- handlers

  catches_alike : (class : Ty) (named : Option Named) → catches other sandbox_prefix (type_map in_sandbox class) (option_map (named_map in_sandbox) named) ≡ catches program [] class named
  catches_alike class None = refl
  catches_alike class (Some (AClass caught)) = names.subtype_alike in_sandbox (rewritten_code program) [] sandbox_prefix sandbox_map program other at class caught
  catches_alike class (Some Nothing) = refl
  catches_alike class (Some (AnInt z)) = refl
  catches_alike class (Some (ALong z)) = refl
  catches_alike class (Some (AText units)) = refl
  catches_alike class (Some (AField m)) = refl
  catches_alike class (Some (AMethod m)) = refl
  catches_alike class (Some (AnInterfaceMethod m)) = refl
  catches_alike class (Some Another) = refl

  -- the pieces of a range, and then the other ranges
  pub in_range_pieces : (class : Ty) (n : ℕ) (gs : List Group) (range : Range) (ps : List (ℕ × ℕ)) (rest : List Range)
      → handler_in other sandbox_prefix class n (map (piece_of gs range) ps ++ rest)
      ≡ (if are_over ps n && catches other sandbox_prefix class range.catches then Some (start gs range.handler) else handler_in other sandbox_prefix class n rest)
  in_range_pieces class n gs range [] rest = refl
  in_range_pieces class n gs range (p ∷ ps) rest = rw (in_range_pieces class n gs range ps rest)
      (go (is_in n p) (are_over ps n) (catches other sandbox_prefix class range.catches)) where
        go : (a b c : Bool)
            → (if a && c then Some (start gs range.handler) else (if b && c then Some (start gs range.handler) else handler_in other sandbox_prefix class n rest))
            ≡ (if (a || b) && c then Some (start gs range.handler) else handler_in other sandbox_prefix class n rest)
        go true b true = refl
        go true true false = refl
        go true false false = refl
        go false b c = refl

  handlers_alike : (class : Ty) (gs : List Group) (number : ℕ) (ranges : List Range)
      → handler_in other sandbox_prefix (type_map in_sandbox class) (own gs number) (ranges_of gs ranges)
      ≡ option_map (start gs) (handler_in program [] class number ranges)
  handlers_alike class gs number [] = refl
  handlers_alike class gs number (range ∷ ranges) =
      in_range_pieces (type_map in_sandbox class) (own gs number) gs (range_map in_sandbox range) (pieces gs range.start range.end) (ranges_of gs ranges)
      ∙ rw (pieces_over_own gs range.start range.end number, catches_alike class range.catches, handlers_alike class gs number ranges)
      (elim (either (nat_le range.start number && nat_lt number range.end && catches program [] class range.catches)) [ inl e ↦ rw e refl | inr e ↦ rw e refl ])

  pub handler_image : (class : Ty) (code : Option Code) (number : ℕ)
      → handler_of other sandbox_prefix (type_map in_sandbox class) (own (groups_in program code) number) (option_map (rewritten_code program) code)
      ≡ option_map (start (groups_in program code)) (handler_of program [] class number code)
  unfolding rewritten_code in_groups
  handler_image class None number = refl
  handler_image class (Some code) number = handlers_alike class (groups_of program code) number code.ranges

  -- ---- leaving frames

  abbrev pub frames_image : List (Frame Declared) → List (Frame Declared)
  frames_image frames = map (frame_image program) frames

  text_alike : (o : Option (Object Ty)) → text_in (option_map (object_map (type_map in_sandbox)) o) ≡ text_in o
  text_alike None = refl
  text_alike (Some (Instance class fields)) = refl
  text_alike (Some (Array class element contents)) = refl
  text_alike (Some (Text class units)) = refl

  message_alike : (heap : Heap Ty) (exception : ℕ) → message_of (heap_map (type_map in_sandbox) heap) exception ≡ message_of heap exception
  message_alike heap exception =
      ap (λ r. text_in (object_at (map (object_map (type_map in_sandbox)) heap.objects) r))
      (ap (λ o. object_field o 0) (object_at_mapped (type_map in_sandbox) heap.objects exception)
      ∙ members.field_alike in_sandbox (rewritten_code program) [] sandbox_prefix sandbox_map program other at statics (object_at heap.objects exception) 0)
      ∙ (ap text_in (object_at_mapped (type_map in_sandbox) heap.objects (object_field (object_at heap.objects exception) 0)) ∙ text_alike (object_at heap.objects (object_field (object_at heap.objects exception) 0)))

  module _ (touched : Bool) where
    abbrev image : State → State
    image s = state_image program touched s

    abbrev answered : StepAnswer → StepAnswer
    answered a = answer_image program touched a

    -- no object of the metered run stops a run
    ends_image : (s : State) (class : Ty) (outcome : Outcome)
        → ends_with sandbox_prefix (image s) (type_map in_sandbox class) (outcome_map in_sandbox outcome) ≡ answered (ends_with [] s class outcome)
    ends_image s class outcome = rw (sandbox_map.stop class) refl

    leaves_image : (s : State) (class : Ty) (exception : ℕ) (x : Frame Declared) (below other_below : StepAnswer)
        → (is_initialiser x.method ≡ false → other_below ≡ answered below)
        → leaves_frame sandbox_prefix (image s) (type_map in_sandbox class) exception (frame_image program x) other_below
        ≡ answered (leaves_frame [] s class exception x below)
    leaves_image s class exception x below other_below e =
        rw (
          names.initialiser_alike in_sandbox (rewritten_code program) [] sandbox_prefix sandbox_map x.method,
          names.member_class_mapped in_sandbox (rewritten_code program) [] sandbox_prefix sandbox_map class,
          message_alike s.heap exception,
        )
        (elim (either (is_initialiser x.method)) [
          | inl i ↦ rw i (ends_image s class (outcomes.Init x.method.class (member_class [] class) (message_of s.heap exception)))
          | inr i ↦ rw (i, e i) refl
        ])

    handled_image : (s : State) (class : Ty) (exception : ℕ) (x : Frame Declared) (below : List (Frame Declared)) (handler : Option ℕ) (a b : StepAnswer)
        → (is_initialiser x.method ≡ false → b ≡ answered a)
        → at_handler sandbox_prefix (image s) (type_map in_sandbox class) exception (frame_image program x) (frames_image below)
        (option_map (start (groups_in program (code_of program x.method))) handler) b
        ≡ answered (at_handler [] s class exception x below handler a)
    handled_image s class exception x below (Some handler) a b e = refl
    handled_image s class exception x below None a b e = leaves_image s class exception x a b e

    pub unwound_image : (s : State) (class : Ty) (exception : ℕ) (frames : List (Frame Declared)) → AreActing frames
        → unwound other sandbox_prefix (image s) (type_map in_sandbox class) exception (frames_image frames)
        ≡ answered (unwound program [] s class exception frames)
    unfolding unwound
    unwound_image s class exception [] acting =
        rw (names.member_class_mapped in_sandbox (rewritten_code program) [] sandbox_prefix sandbox_map class, message_alike s.heap exception)
        (ends_image s class (outcomes.Threw (member_class [] class) (message_of s.heap exception)))
    unwound_image s class exception (x ∷ below) acting =
        rw (code_image x.method, acting.0, handler_image class (code_of program x.method) x.number)
        (handled_image s class exception x below (handler_of program [] class x.number (code_of program x.method)) _ _
        (λ i. unwound_image s class exception below (acting.1.0 i, acting.1.1)))

    throw_image : (s : State) (exception : ℕ) → AreActing s.frames → throw other sandbox_prefix (image s) exception ≡ answered (throw program [] s exception)
    throw_image s exception acting =
        ap (λ (class : Ty). unwound other sandbox_prefix (image s) class exception (frames_image s.frames))
        (members.class_at_mapped in_sandbox (rewritten_code program) [] sandbox_prefix sandbox_map program other at statics s.heap exception)
        ∙ unwound_image s (class_at_number s.heap exception) exception s.frames acting

    throw_new_image : (terms : Terms) (s : State) (o : Object Ty) → AreActing s.frames
        → throw_new other sandbox_prefix terms (image s) (object_map (type_map in_sandbox) o) ≡ answered (throw_new program [] terms s o)
    throw_new_image terms s o acting = rw (size_alike (type_map in_sandbox) o) (go (passes_limit terms.limit (s.heap.used + object_size o))) where
      made : State
      made = record s { heap = with_new s.heap o }

      made_image : State
      made_image = record (image s) { heap = record { objects = map (object_map (type_map in_sandbox)) s.heap.objects ++ object_map (type_map in_sandbox) o ∷ []; used = s.heap.used + object_size o } }

      thrown : throw other sandbox_prefix made_image (next_number (heap_map (type_map in_sandbox) s.heap)) ≡ answered (throw program [] made (next_number s.heap))
      thrown = rw (← map-append (object_map (type_map in_sandbox)) s.heap.objects (o ∷ []), length-map s.heap.objects (object_map (type_map in_sandbox)))
          (throw_image made (next_number s.heap) acting)

      go : (full : Bool)
          → (if full then Ended (outcomes.HeapFull s.heap.used (object_size o)) (image s)
          else throw other sandbox_prefix made_image (next_number (heap_map (type_map in_sandbox) s.heap)))
          ≡ answered (if full then Ended (outcomes.HeapFull s.heap.used (object_size o)) s else throw program [] made (next_number s.heap))
      go true = refl
      go false = thrown

    exception_image : (raised : Raised) → new_exception sandbox_prefix raised ≡ object_map (type_map in_sandbox) (new_exception [] raised)
    exception_image raised = ap (λ (name : Name). Instance (class_type name) (0 ∷ 0 ∷ [])) (sym (sandbox_map.library (raised_class raised)))

    -- ---- calls and returns

    called_image : (s : State) (m : Declared) (arguments : List Value)
        → called other (image s) (declared_map in_sandbox m) arguments ≡ answered (called program s m arguments)
    called_image s m arguments =
        rw (length-map s.frames (frame_image program), new_frame_image m arguments)
        (elim (either (nat_le most_frames (length s.frames))) [ inl e ↦ rw e refl | inr e ↦ rw e refl ])

    bytes_alike : (found : Found Ty) → bytes_in (found_array (type_map in_sandbox) found) ≡ outcome_map in_sandbox (bytes_in found)
    bytes_alike Null = refl
    bytes_alike NoArray = refl
    bytes_alike (IsArray class elements.Boolean contents) = refl
    bytes_alike (IsArray class elements.Byte contents) = refl
    bytes_alike (IsArray class elements.Char contents) = refl
    bytes_alike (IsArray class elements.Short contents) = refl
    bytes_alike (IsArray class elements.Int contents) = refl
    bytes_alike (IsArray class elements.Long contents) = refl
    bytes_alike (IsArray class elements.Ref contents) = refl

    outcome_alike : (heap : Heap Ty) (result : Option Value) → result_outcome (heap_map (type_map in_sandbox) heap) result ≡ outcome_map in_sandbox (result_outcome heap result)
    outcome_alike heap None = refl
    outcome_alike heap (Some (values.Int z)) = refl
    outcome_alike heap (Some (values.Long z)) = refl
    outcome_alike heap (Some (values.Ref r)) =
        rw (array_at_mapped (type_map in_sandbox) heap r, bytes_alike (array_at heap r)) (elim (either (nat_eq r 0)) [ inl e ↦ rw e refl | inr e ↦ rw e refl ])

    returned_image : (s : State) (x : Frame Declared) (result : Option Value) (below : List (Frame Declared)) → AreWaitingPaid (x ∷ below)
        → returned (image s) (frame_image program x) result (frames_image below) ≡ answered (returned s x result below)
    returned_image s x result [] waiting = ap (λ outcome. Ended outcome (image s)) (outcome_alike s.heap result)
    returned_image s x result (caller ∷ below) waiting =
        ap (λ (y : Frame Declared). Went (record (image s) { frames = y ∷ frames_image below })) (resumed_image x result caller waiting.0)

    -- ---- what follows an effect

    way_image : (terms : Terms) (s : State) (x : Frame Declared) (below : List (Frame Declared)) (way : Way) → AreActing (x ∷ below)
        → settle_way other sandbox_prefix terms (image s) (frame_image program x) (frames_image below) (way_at (start (groups_in program (code_of program x.method))) way)
        ≡ answered (settle_way program [] terms s x below way)
    way_image terms s x below Next acting = rw (acting.0, number_after (groups_in program (code_of program x.method)) x.number) refl
    way_image terms s x below (To number) acting = refl
    way_image terms s x below (Raise raised) acting =
        ap (throw_new other sandbox_prefix terms (image (record s { frames = x ∷ below }))) (exception_image raised)
        ∙ throw_new_image terms (record s { frames = x ∷ below }) (new_exception [] raised) acting
    way_image terms s x below (Back result) acting = returned_image s x result below acting.1

    pub settle_image : (terms : Terms) (s : State) (x : Frame Declared) (below : List (Frame Declared)) (flow : Flow) → KeepsFlow in_sandbox flow → AreActing (x ∷ below)
        → settle other sandbox_prefix terms (image s) (frame_image program x) (frames_image below) (flow_image (start (groups_in program (code_of program x.method))) flow)
        ≡ answered (settle program [] terms s x below flow)
    unfolding settle
    settle_image terms s x below (Goes way) keeps acting = way_image terms s x below way acting
    settle_image terms s x below (Catch exception) keeps acting = throw_image (record s { frames = x ∷ below }) exception acting
    settle_image terms s x below Stop keeps acting = absurd (let no : in_sandbox stop_class ≡ stop_class = keeps in let longer : length (in_sandbox stop_class) ≡ length stop_class = ap (λ (name : Name). length name) no in omega (arith, longer))
    settle_image terms s x below (Call m arguments) keeps acting = called_image (record s { frames = x ∷ below }) m arguments
    settle_image terms s x below (End outcome) keeps acting = ap (λ o. Ended o (image s)) (sym keeps)
