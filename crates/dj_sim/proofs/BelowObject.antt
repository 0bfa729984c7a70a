-- The class of each object of a metered run is below Object.
use Rattle.std.proofs.Common.{◌≡◌, ℕ, ◌+◌, Bool, true, false, ℤ, pos, negsuc, List, [], ◌∷◌, ◌++◌, map, length, replicate, reverse, Option, Some, None, nat_eq, nat_le, nat_lt, refl, sym, subst, inl, inr, arith, if◌then◌else◌}
use Rattle.std.specs.Prelude.{⊤, IfSome, IsSome, not, ◌&&◌}
use Rattle.std.specs.Option.{option_map}
use Rattle.std.proofs.lemmas.Bool.Decides.{nat_tests}
use Rattle.dj_names.specs.declared.descriptor.Of.{Of}
use Rattle.dj_names.specs.declared.descriptor.Of.TheVariants as ofs
use Rattle.dj_names.specs.declared.descriptor.Ty.{Ty}
use Rattle.dj_names.specs.declared.run.Element.{Element}
use Rattle.dj_names.specs.declared.run.Value.{Value}
use Rattle.dj_names.specs.declared.run.Value.TheVariants as values
use Rattle.dj_names.specs.declared.run.Raised.{Raised}
use Rattle.dj_names.specs.declared.run.Charge.TheVariants as charges
use Rattle.dj_names.specs.declared.run.Thresholds.{Thresholds}
use Rattle.dj_names.specs.trusted.Heaps.{Object, Instance, Array, Text, Heap, class_of, object_at, object_size, array_size, text_size, with_new, next_number}
use Rattle.dj_names.specs.trusted.Types.{Name, same_name, class_type}
use Rattle.dj_names.specs.trusted.Values.{raised_class}
use Rattle.dj_edge.specs.declared.host.HostAnswer.{HostAnswer}
use Rattle.dj_model.specs.trusted.Types.{Declared, object_name, string_name, is_stop}
use Rattle.dj_model.specs.trusted.Instructions.{Instruction, New, NewArray}
use Rattle.dj_model.specs.trusted.Program.{Program, Class, Field, Constant, Int, Long, Text as TextConstant, Unfit, class_at, fields_of, is_static, is_initialiser, code_of}
use Rattle.dj_model.specs.trusted.Linking.{chain, static_place, interfaces_above, is_among, is_subclass, is_subtype, member_class}
use Rattle.dj_model.specs.trusted.State.{Terms, Metered, Literal, Part, Frame, State, Next, To, Raise, Back, Flow, Goes, Catch, Stop, Call, End, Effect, goes}
use Rattle.dj_model.specs.trusted.Arrays.{OnHeap, make, make_elements, make_array, passes_limit}
use Rattle.dj_model.specs.trusted.Charging.{Charged, Fine, Over, charge_one}
use Rattle.dj_model.specs.trusted.Natives.{Answer, Returns, Raises, MakesText, KeepsText, MakesChars, SetsFields, SetsElements, Adds, Rethrows}
use Rattle.dj_model.specs.trusted.Performing.{class_at_number, Making, Made, NotMade, ended_by, making_then, text_object, chars_object, with_fields_in, with_elements_in, set_object, set_fields, set_elements, raises_after, returns_made, keeps_made, goes_on, perform}
use Rattle.dj_model.specs.trusted.Members.{Kept, kept_or_made, literal_in, with_literal, push_kept}
use Rattle.dj_model.specs.trusted.Effects.{heap_effect, new_object, effect, used_class}
use Rattle.dj_model.specs.trusted.Initialisation.{most_frames, Initialised, Ready, Waits, Fails, then_ready, with_text, with_constant, with_constants, constants_of, mark_all, not_initialised, initialiser_frames, with_frames, initialise}
use Rattle.dj_model.specs.trusted.Step.{StepAnswer, Went, Ended, IllFormed, handler_of, at_handler, unwound, throw_new, new_exception, returned, settle, with_part, frame_with, part_of, settled, prepared, done, act, step_of, step}
use Rattle.dj_model.specs.trusted.Runs.{input_array, input_heap, start_state, begun, begin}
use Rattle.dj_model.specs.Charging.{charge_all}
use Rattle.dj_model.specs.Runs.{amounts, top_is_paid, paid_run, answer_run, metered_terms, turn}
use Rattle.dj_model.specs.Sound.{is_there, is_class_of, is_linked, IsSound}
use Rattle.dj_model.specs.Standing.{AreStanding}
use Rattle.dj_model.proofs.Flows.{either_way}
use Rattle.dj_model.proofs.Fits.{PlainFlow}
use Rattle.dj_model.proofs.SoundLinks.{both_parts, class_contained}
use Rattle.dj_sim.specs.Counting.{terms_with}
use Rattle.dj_sim.specs.Objects.{HasBase, AnswerBelow, RunBelow}
use Rattle.dj_sim.specs.Simulation.{AreBelowObject}
use Rattle.dj_sim.proofs.Places.{either}
use Rattle.dj_sim.proofs.Related.{SameClasses, MildSome, same_classes, Makes, effect_related}
use Rattle.dj_sim.proofs.SoundTurns.{found_there, linked_there}

-- ---- classes below Object

abbrev IsBelow : Program → Ty → Type 0
IsBelow program class = is_subtype program [] class (class_type (object_name [])) ≡ true

among_more : (names more : List Name) (name : Name) → is_among names name ≡ true → is_among (names ++ more) name ≡ true
among_more [] more name e = absurd (let no : false ≡ true = e in cc)
among_more (n ∷ names) more name e = elim (either (same_name name n)) [
  | inl here ↦ rw here refl
  | inr other ↦ rw other (among_more names more name (rw other at e))
]

array_below : (program : Program) (class : Ty) → not (nat_eq class.dims 0) ≡ true → IsBelow program class
unfolding is_subtype
array_below program class e =
    let more : nat_lt 0 class.dims ≡ true = grind (arith, nat_tests, e) in
    rw more refl

module _ (program : Program) (base : HasBase program) where
  class_there : (name : Name) → IsSome (class_at program name) → IsBelow program (class_type name)
  unfolding is_subtype is_subclass
  class_there name k = go (class_at program name) refl k where
    go : (o : Option Class) → class_at program name ≡ o → IsSome o → is_among (chain program name ++ interfaces_above program name) (object_name []) ≡ true
    go None e k = absurd (let no : false ≡ true = k in cc)
    go (Some c) e k =
        let found = class_contained program name c e in
        among_more (chain program name) (interfaces_above program name) (object_name []) (subst (λ (n : Name). is_among (chain program n) (object_name []) ≡ true) found.1 (base.below c found.0))

  new_below : (class : Ty) → is_class_of program class ≡ true → nat_eq class.dims 0 ≡ true → IsBelow program class
  new_below class there zero_dims = go class.of class.dims there zero_dims where
    known : (name : Name) (o : Option Class) → class_at program name ≡ o → IsSome o → IsBelow program (class_type name)
    known name o e k = class_there name (subst IsSome (sym e) k)

    go : (of : Of) (dims : ℕ) → is_there program of dims ≡ true → nat_eq dims 0 ≡ true → IsBelow program (record { of = of; dims = dims })
    go (ofs.Base b) dims there none = absurd (let no : not (nat_eq dims 0) ≡ true = there in grind (arith, nat_tests, no, none))
    go (ofs.Class name) dims there none =
        let zero_is : 0 ≡ dims = grind (arith, nat_tests, none) in
        subst (λ d. IsBelow program (record { of = ofs.Class name; dims = d })) zero_is (named (class_at program name) refl there) where
          named : (o : Option Class) → class_at program name ≡ o → is_there program (ofs.Class name) dims ≡ true → IsBelow program (class_type name)
          named None e there = absurd (let no : false ≡ true = rw e at there in cc)
          named (Some c) e there = known name (Some c) e refl

  -- ---- heaps

  abbrev AreBelow : Heap Ty → Type 0
  AreBelow heap = AreBelowObject program heap.objects

  one_more : (objects : List (Object Ty)) (o : Object Ty) → AreBelowObject program objects → IsBelow program (class_of o) → AreBelowObject program (objects ++ o ∷ [])
  one_more [] o all k = (k, tt)
  one_more (x ∷ objects) o all k = (all.0, one_more objects o all.1 k)

  same_below : (a b : List (Object Ty)) → map class_of b ≡ map class_of a → AreBelowObject program a → AreBelowObject program b
  same_below a [] e all = tt
  same_below [] (y ∷ b) e all = absurd cc
  same_below (x ∷ a) (y ∷ b) e all =
      let first : class_of y ≡ class_of x = cc in
      let rest : map class_of b ≡ map class_of a = cc in
      (subst (IsBelow program) (sym first) all.0, same_below a b rest all.1)

  -- ---- effects

  -- the object that stops a run isn't thrown
  abbrev NotStopped : Flow → Type 0
  NotStopped Stop = ⊥
  NotStopped flow = ⊤

  abbrev Keeps : Effect → Type 0
  Keeps e = AreBelow e.part.heap × NotStopped e.flow

  abbrev KeepsSome : Option Effect → Type 0
  KeepsSome o = IfSome o Keeps

  abbrev Related : Heap Ty → Option Effect → Option Effect → Type 0
  Related heap a b = AreBelow heap → KeepsSome b

  not_stopped : (flow : Flow) → PlainFlow flow → NotStopped flow
  not_stopped (Goes way) plain = tt
  not_stopped (Catch exception) plain = tt
  not_stopped Stop plain = plain
  not_stopped (Call m arguments) plain = tt
  not_stopped (End outcome) plain = tt

  mild_keeps : (heap : Heap Ty) (o : Option Effect) → MildSome heap o → Related heap o o
  mild_keeps heap None k = λ all. tt
  mild_keeps heap (Some e) k = λ all. (same_below heap.objects e.part.heap.objects k.1 all, not_stopped e.flow k.0)

  text_below : (units : List ℕ) → IsBelow program (class_of (text_object [] units))
  text_below units = class_there (string_name []) base.string

  chars_below : (units : List ℕ) → IsBelow program (class_of (chars_object units))
  unfolding is_subtype
  chars_below units = refl

  -- what is made, or what follows in its place
  abbrev KeepsMaking : Making → Type 0
  KeepsMaking (Made x r) = AreBelow x.heap
  KeepsMaking (NotMade e) = Keeps e

  making_keeps : (limit : Option ℕ) (x : Part) (o : Object Ty) (c : Charged) → AreBelow x.heap → IsBelow program (class_of o) → KeepsMaking (making_then limit o (ended_by x c))
  making_keeps limit x o (Over charge account) all k = (all, tt)
  making_keeps limit x o (Fine account) all k = either_way KeepsMaking (passes_limit limit (x.heap.used + object_size o)) _ _ (all, tt) (one_more x.heap.objects o all k)

  returns_keep : (m : Making) → KeepsMaking m → Keeps (returns_made m)
  returns_keep (Made x r) k = (k, tt)
  returns_keep (NotMade e) k = k

  fields_same : (x : Part) (r : ℕ) (vs : List Value) → SameClasses x.heap (set_fields x r vs).heap
  fields_same x r vs = go (object_at x.heap.objects r) refl where
    go : (o : Option (Object Ty)) → object_at x.heap.objects r ≡ o → SameClasses x.heap (set_object x r (with_fields_in o vs)).heap
    go None e = refl
    go (Some (Instance class fields)) e = same_classes x.heap r (Instance class fields) _ e refl
    go (Some (Array class element contents)) e = refl
    go (Some (Text class units)) e = refl

  elements_same : (x : Part) (r : ℕ) (now : List ℤ) → SameClasses x.heap (set_elements x r now).heap
  elements_same x r now = go (object_at x.heap.objects r) refl where
    go : (o : Option (Object Ty)) → object_at x.heap.objects r ≡ o → SameClasses x.heap (set_object x r (with_elements_in o now)).heap
    go None e = refl
    go (Some (Instance class fields)) e = refl
    go (Some (Array class element contents)) e = either_way (λ (o : Option (Object Ty)). SameClasses x.heap (set_object x r o).heap) (nat_eq (length now) (length contents)) _ _
        (same_classes x.heap r (Array class element contents) (Array class element now) e refl) refl
    go (Some (Text class units)) e = refl

  keeps_keep : (r : ℕ) (m : Making) → KeepsMaking m → Keeps (keeps_made r m)
  keeps_keep r (Made x n) k = (same_below x.heap.objects _ (fields_same x r (values.Ref n ∷ [])) k, tt)
  keeps_keep r (NotMade e) k = k

  adds_keep : (x : Part) (c : Charged) → AreBelow x.heap → Keeps (goes_on (ended_by x c))
  adds_keep x (Fine account) all = (all, tt)
  adds_keep x (Over charge account) all = (all, tt)

  raises_keep : (x : Part) (raised : Option Raised) → AreBelow x.heap → Keeps (raises_after x raised)
  raises_keep x None all = (all, tt)
  raises_keep x (Some raised) all = (all, tt)

  rethrows_keep : (x : Part) (object : ℕ) (b : Bool) → AreBelow x.heap → Keeps (goes x (if b then Catch object else Goes Next))
  rethrows_keep x object true all = (all, tt)
  rethrows_keep x object false all = (all, tt)

  module _ (limit : Option ℕ) (most : Thresholds) where
    abbrev terms : Terms
    terms = terms_with limit (Metered most)

    performs : (x : Part) (a : Answer) → Related x.heap (Some (perform [] terms x a)) (Some (perform [] terms x a))
    unfolding perform
    performs x (Returns result) = λ all. (all, tt)
    performs x (Raises raised) = λ all. (all, tt)
    performs x (MakesText units) = λ all. returns_keep _ (making_keeps limit x (text_object [] units) (charge_one most x.account charges.Alloc (object_size (text_object [] units))) all (text_below units))
    performs x (KeepsText object units) = λ all. keeps_keep object _ (making_keeps limit x (text_object [] units) (charge_one most x.account charges.Alloc (object_size (text_object [] units))) all (text_below units))
    performs x (MakesChars units) = λ all. returns_keep _ (making_keeps limit x (chars_object units) (charge_one most x.account charges.Alloc (object_size (chars_object units))) all (chars_below units))
    performs x (SetsFields object vs) = λ all. (same_below x.heap.objects _ (fields_same x object vs) all, tt)
    performs x (SetsElements array contents raised) = λ all. raises_keep (set_elements x array contents) raised (same_below x.heap.objects _ (elements_same x array contents) all)
    performs x (Adds charge n) = λ all. adds_keep x (charge_one most x.account charge n) all
    performs x (Rethrows object) = λ all. rethrows_keep x object (is_stop [] (class_at_number x.heap object)) all

    literal_keeps : (heap : Heap Ty) (literals : List Literal) (units : List ℕ) → AreBelow heap → IfSome (with_literal limit [] heap literals units) (λ k. AreBelow k.heap)
    unfolding with_literal
    literal_keeps heap literals units all = go (literal_in literals units) where
      go : (r : Option ℕ) → IfSome (kept_or_made limit [] heap literals units r) (λ k. AreBelow k.heap)
      go (Some r) = all
      go None = either_way (λ (k : Option Kept). IfSome k (λ k. AreBelow k.heap)) (passes_limit limit (heap.used + text_size units)) _ _ tt (one_more heap.objects (text_object [] units) all (text_below units))

    texts : (x : Part) (units : List ℕ) → Related x.heap (Some (push_kept x units (with_literal limit [] x.heap x.literals units))) (Some (push_kept x units (with_literal limit [] x.heap x.literals units)))
    texts x units = λ all. go (with_literal limit [] x.heap x.literals units) all (literal_keeps x.heap x.literals units all) where
      go : (k : Option Kept) → AreBelow x.heap → IfSome k (λ k. AreBelow k.heap) → Keeps (push_kept x units k)
      go None all k = (all, tt)
      go (Some kept) all k = (k, tt)

    abbrev HeapKeeps : Part → OnHeap Ty → Type 0
    HeapKeeps x e = Keeps (heap_effect x e)

    make_keeps : (x : Part) (o : Object Ty) → IsBelow program (class_of o) → AreBelow x.heap → HeapKeeps x (make limit x.heap x.operands x.operands o)
    make_keeps x o k all = either_way (HeapKeeps x) (passes_limit limit (x.heap.used + object_size o)) _ _ (all, tt) (one_more x.heap.objects o all k, tt)

    elements_keep : (x : Part) (full : Bool) (class : Ty) (element : Element) (operands rest : List Value) (n : ℕ) → IsBelow program class → AreBelow x.heap
        → HeapKeeps x (make_elements full class element x.heap operands rest n)
    elements_keep x true class element operands rest n k all = (all, tt)
    elements_keep x false class element operands rest n k all = (one_more x.heap.objects (Array class element (replicate n (pos 0))) all k, tt)

    array_keeps : (x : Part) (class : Ty) (element : Element) (operands : List Value) → IsBelow program class → AreBelow x.heap → KeepsSome (option_map (heap_effect x) (make_array limit class element x.heap operands))
    unfolding make_array
    array_keeps x class element (values.Int (pos n) ∷ rest) k all = elements_keep x (passes_limit limit (x.heap.used + array_size element n)) class element (values.Int (pos n) ∷ rest) rest n k all
    array_keeps x class element (values.Int (negsuc n) ∷ rest) k all = (all, tt)
    array_keeps x class element _ k all = tt

    makes : (i : Instruction) (x : Part) → is_linked program [] i ≡ true → Makes program [] terms terms Related mild_keeps performs texts i x
    unfolding is_linked
    makes (New class) x linked = λ all.
        let plain = both_parts (is_class_of program class && nat_eq class.dims 0 && not (same_name (member_class [] class) (string_name []))) (not (is_stop [] class)) linked in
        let there = both_parts (is_class_of program class && nat_eq class.dims 0) (not (same_name (member_class [] class) (string_name []))) plain.0 in
        let class_is = both_parts (is_class_of program class) (nat_eq class.dims 0) there.0 in
        make_keeps x (new_object program [] class) (new_below class class_is.0 class_is.1) all
    makes (NewArray class element) x linked = λ all.
        let there = both_parts (is_class_of program class && not (nat_eq class.dims 0)) (nat_lt class.dims 256) linked in
        let dims = both_parts (is_class_of program class) (not (nat_eq class.dims 0)) there.0 in
        array_keeps x class element x.operands (array_below program class dims.1) all
    makes i x linked = tt

    effect_keeps : (own : Name) (i : Instruction) (x : Part) → is_linked program [] i ≡ true → AreBelow x.heap → KeepsSome (effect program [] terms own i x)
    effect_keeps own i x linked all = effect_related program [] terms terms Related mild_keeps performs texts own i x (makes i x linked) all

    -- ---- what follows an effect

    abbrev Below : StepAnswer → Type 0
    Below a = AnswerBelow program a

    unwound_below : (t : State) (class : Ty) (exception : ℕ) (frames : List (Frame Declared)) → AreBelow t.heap → Below (unwound program [] t class exception frames)
    unfolding unwound
    unwound_below t class exception [] all = all
    unwound_below t class exception (f ∷ below) all = go (handler_of program [] class f.number (code_of program f.method)) (unwound_below t class exception below all) where
      go : (handler : Option ℕ) → Below (unwound program [] t class exception below) → Below (at_handler [] t class exception f below handler (unwound program [] t class exception below))
      go (Some handler) more = all
      go None more = either_way Below (is_initialiser f.method) _ _ all more

    thrown_below : (t : State) (raised : Raised) → AreBelow t.heap → Below (throw_new program [] terms t (new_exception [] raised))
    thrown_below t raised all = either_way Below (passes_limit limit (t.heap.used + object_size (new_exception [] raised))) _ _ all
        (unwound_below (record t { heap = with_new t.heap (new_exception [] raised) }) _ (next_number t.heap) t.frames
        (one_more t.heap.objects (new_exception [] raised) all (class_there (raised_class raised) (base.raised raised))))

    returned_below : (t : State) (f : Frame Declared) (result : Option Value) (below : List (Frame Declared)) → AreBelow t.heap → Below (returned t f result below)
    returned_below t f result [] all = all
    returned_below t f result (caller ∷ below) all = all

    settle_below : (t : State) (f : Frame Declared) (below : List (Frame Declared)) (flow : Flow) → NotStopped flow → AreBelow t.heap → Below (settle program [] terms t f below flow)
    unfolding settle
    settle_below t f below (Goes Next) k all = all
    settle_below t f below (Goes (To number)) k all = all
    settle_below t f below (Goes (Raise raised)) k all = thrown_below (record t { frames = f ∷ below }) raised all
    settle_below t f below (Goes (Back result)) k all = returned_below t f result below all
    settle_below t f below (Catch exception) k all = unwound_below (record t { frames = f ∷ below }) _ exception (f ∷ below) all
    settle_below t f below Stop k all = absurd k
    settle_below t f below (Call m arguments) k all = either_way Below (nat_le most_frames (length (f ∷ below))) _ _ all all
    settle_below t f below (End outcome) k all = all

    settled_below : (t : State) (f : Frame Declared) (below : List (Frame Declared)) (e : Option Effect) → KeepsSome e → Below (settled program [] terms t f below e)
    settled_below t f below None k = tt
    settled_below t f below (Some e) k = settle_below (with_part t e.part) (frame_with f e.part) below e.flow k.1 k.0

    -- ---- initialisation

    abbrev InitBelow : Initialised → Type 0
    InitBelow (Ready t) = AreBelow t.heap
    InitBelow (Waits t) = AreBelow t.heap
    InitBelow (Fails outcome t) = AreBelow t.heap

    then_below : (next : State → Initialised) → ((t : State) → AreBelow t.heap → InitBelow (next t)) → (i : Initialised) → InitBelow i → InitBelow (then_ready next i)
    then_below next each (Ready t) k = each t k
    then_below next each (Waits t) k = k
    then_below next each (Fails outcome t) k = k

    constant_below : (t : State) (place : ℕ) (constant : Option Constant) → AreBelow t.heap → InitBelow (with_constant [] terms t place constant)
    constant_below t place None all = all
    constant_below t place (Some (Int z)) all = all
    constant_below t place (Some (Long z)) all = all
    constant_below t place (Some (TextConstant units)) all = go (with_literal limit [] t.heap t.literals units) (literal_keeps t.heap t.literals units all) where
      go : (k : Option Kept) → IfSome k (λ k. AreBelow k.heap) → InitBelow (with_text t place units k)
      go None k = all
      go (Some kept) k = k
    constant_below t place (Some Unfit) all = all

    constants_below : (class : Name) (fields : List Field) (t : State) → AreBelow t.heap → InitBelow (with_constants program [] terms class fields t)
    unfolding with_constants
    constants_below class [] t all = all
    constants_below class (f ∷ fields) t all = then_below (with_constants program [] terms class fields) (constants_below class fields)
        (if is_static f.flags then with_constant [] terms t (static_place program class f.name f.desc) f.constant else Ready t)
        (either_way InitBelow (is_static f.flags) _ _ (constant_below t (static_place program class f.name f.desc) f.constant all) all)

    all_constants_below : (classes : List Name) (t : State) → AreBelow t.heap → InitBelow (constants_of program [] terms classes t)
    unfolding constants_of
    all_constants_below [] t all = all
    all_constants_below (class ∷ classes) t all = then_below (constants_of program [] terms classes) (all_constants_below classes)
        (with_constants program [] terms class (fields_of (class_at program class)) t) (constants_below class (fields_of (class_at program class)) t all)

    frames_below : (frames : List (Frame Declared)) (t : State) → AreBelow t.heap → InitBelow (with_frames t frames)
    frames_below [] t all = all
    frames_below (f ∷ frames) t all = either_way InitBelow (nat_lt most_frames (length (f ∷ frames) + length t.frames)) _ _ all all

    initialise_below : (class : Name) (t : State) → AreBelow t.heap → InitBelow (initialise program [] terms class t)
    unfolding initialise
    initialise_below class t all = then_below (λ next. with_frames next (initialiser_frames program classes)) (frames_below (initialiser_frames program classes))
        (constants_of program [] terms classes (record t { initialised = mark_all program classes t.initialised })) (all_constants_below classes _ all) where
          classes : List Name
          classes = reverse (not_initialised program t.initialised (chain program class))

    prepared_below : (used : Option Name) (t : State) → AreBelow t.heap → InitBelow (prepared program [] terms used t)
    prepared_below None t all = all
    prepared_below (Some class) t all = initialise_below class t all

    -- ---- the step, and the start

    done_below : (f : Frame Declared) (below : List (Frame Declared)) (i : Instruction) → is_linked program [] i ≡ true → (r : Initialised) → InitBelow r → Below (done program [] terms f below i r)
    done_below f below i linked (Ready t) k = settled_below t f below (effect program [] terms f.method.class i (part_of f t)) (effect_keeps f.method.class i (part_of f t) linked k)
    done_below f below i linked (Waits t) k = k
    done_below f below i linked (Fails outcome t) k = k

    pub step_below : IsSound program [] → (t : State) → AreStanding program t.frames → AreBelow t.heap → Below (step program [] terms t)
    unfolding step
    step_below sound t standing all = by t.frames standing where
      by : (frames : List (Frame Declared)) → AreStanding program frames → Below (step_of program [] terms t frames)
      by [] s = absurd s
      by (f ∷ below) s = subst (λ (o : Option Instruction). Below (act program [] terms t f below o)) (sym (found_there program sound f s.0))
          (done_below f below _ (linked_there program sound f s.0) (prepared program [] terms (used_class program [] _) t) (prepared_below (used_class program [] _) t all))

    begun_below : (i : Initialised) → InitBelow i → Below (begun i)
    begun_below (Ready t) k = k
    begun_below (Waits t) k = k
    begun_below (Fails outcome t) k = k

    pub begin_below : (entry : Declared) (input : List ℕ) (answers : List HostAnswer) → Below (begin program [] terms entry input answers)
    unfolding begin is_subtype
    begin_below entry input answers = either_way Below (passes_limit limit (object_size (input_array input))) _ _ tt
        (begun_below (initialise program [] terms entry.class (start_state program entry (input_heap input) answers)) (initialise_below entry.class (start_state program entry (input_heap input) answers) (refl, tt)))

  -- ---- a turn

  answer_below : (a : StepAnswer) → AnswerBelow program a → RunBelow program (answer_run a)
  answer_below (Went t) k = k
  answer_below (Ended outcome t) k = tt
  answer_below IllFormed k = tt

  paid_below : (t : State) (c : Charged) → AreBelow t.heap → RunBelow program (paid_run t c)
  paid_below t (Fine account) all = all
  paid_below t (Over charge account) all = tt

  pub turn_below : IsSound program [] → (most : Thresholds) (t : State) → AreStanding program t.frames → AreBelow t.heap → RunBelow program (turn program most t)
  unfolding turn
  turn_below sound most t standing all = either_way (RunBelow program) (top_is_paid t.frames) _ _
      (answer_below (step program [] (metered_terms most) t) (step_below None most sound t standing all)) (paid_below t (charge_all most (amounts program [] t) t.account) all)
