-- A step where the accounter counts is the step where the run counts, but a charge that passes its threshold throws the object that stops the run.
use Rattle.std.proofs.Common.{◌≡◌, ℕ, ◌+◌, Bool, true, false, List, [], ◌∷◌, reverse, Option, Some, None, refl, sym, ap, subst, ◌∙◌, inl, inr, if◌then◌else◌}
use Rattle.std.specs.Prelude.{⊤, IfSome}
use Rattle.std.specs.Option.{option_map}
use Rattle.dj_names.specs.declared.descriptor.Ty.{Ty}
use Rattle.dj_names.specs.declared.run.Charge.{Charge}
use Rattle.dj_names.specs.declared.run.Charge.TheVariants as charges
use Rattle.dj_names.specs.declared.run.Raised.{Raised}
use Rattle.dj_names.specs.declared.run.Outcome.TheVariants as outcomes
use Rattle.dj_names.specs.declared.run.Thresholds.{Thresholds}
use Rattle.dj_names.specs.trusted.Heaps.{Object, Heap, object_size, with_new, next_number}
use Rattle.dj_names.specs.trusted.Types.{Name}
use Rattle.dj_edge.specs.declared.host.HostAnswer.{HostAnswer}
use Rattle.dj_model.specs.trusted.Types.{Prefix, Declared, is_stop}
use Rattle.dj_model.specs.trusted.Instructions.{New, NewArray, Instruction}
use Rattle.dj_model.specs.trusted.Program.{Program, Field, Constant, Int, Long, Text, Unfit, class_at, fields_of, is_static}
use Rattle.dj_model.specs.trusted.Linking.{chain, static_place}
use Rattle.dj_model.specs.trusted.State.{Terms, Metered, Accounted, Account, Part, Frame, State, instruction_at, Next, To, Raise, Back, Flow, Goes, Catch, Stop, Call, End, Effect, goes}
use Rattle.dj_model.specs.trusted.Arrays.{OnHeap, make, make_array, passes_limit}
use Rattle.dj_model.specs.trusted.Charging.{Charged, Fine, Over, passes, added, charge_after, charge_one}
use Rattle.dj_model.specs.trusted.Natives.{Answer, Returns, Raises, MakesText, KeepsText, MakesChars, SetsFields, SetsElements, Adds, Rethrows}
use Rattle.dj_model.specs.trusted.Performing.{class_at_number, ended_by, thrown_by, Made, NotMade, making_then, text_object, chars_object, returns_made, keeps_made, goes_on, set_elements, raises_after, perform}
use Rattle.dj_model.specs.trusted.Members.{Kept, with_literal, push_kept}
use Rattle.dj_model.specs.trusted.Effects.{flow_of, heap_effect, new_object, effect, used_class}
use Rattle.dj_model.specs.trusted.Initialisation.{Initialised, Ready, Waits, Fails, then_ready, with_constant, with_constants, constants_of, mark_all, not_initialised, initialiser_frames, with_frames, initialise}
use Rattle.dj_model.specs.trusted.Step.{StepAnswer, Ended, settle, stop_from, throw_stop_or, with_part, frame_with, part_of, settled, prepared, done, act, step_of, step}
use Rattle.dj_model.specs.trusted.Runs.{begun, begin, input_array, input_heap, empty_heap, start_state}
use Rattle.dj_model.proofs.Flows.{either_way}
use Rattle.dj_model.proofs.Fits.{PlainFlow, make_fits, make_array_fits}
use Rattle.dj_sim.proofs.Related.{MildSome, Makes, effect_related}
use Rattle.dj_model.specs.Laws.{Grows}
use Rattle.dj_sim.specs.Counting.{terms_with, CountsAs}

-- an end by a charge becomes the object that stops the run
abbrev pub stop_flow : Flow → Flow
stop_flow (End (outcomes.Stopped charge)) = Stop
stop_flow flow = flow

abbrev pub stops : Effect → Effect
stops e = record e { flow = stop_flow e.flow }

-- a charge that ends the run is the one that the account has as exceeded
abbrev FlowTold : Account → Flow → Type 0
FlowTold a (End (outcomes.Stopped charge)) = a.exceeded ≡ Some charge
FlowTold a flow = ⊤

abbrev pub Told : Effect → Type 0
Told e = FlowTold e.part.account e.flow

abbrev Alike : Effect → Effect → Type 0
Alike a b = (a ≡ stops b) × Told b

abbrev pub AlikeSome : Option Effect → Option Effect → Type 0
AlikeSome a b = (a ≡ option_map stops b) × IfSome b Told

some_alike : (a b : Effect) → Alike a b → AlikeSome (Some a) (Some b)
some_alike a b e = (ap Some e.0, e.1)

-- ---- charges

abbrev NamesCharge : Charged → Type 0
NamesCharge (Fine account) = ⊤
NamesCharge (Over charge account) = account.exceeded ≡ Some charge

charge_named : (most : Thresholds) (a : Account) (charge : Charge) (n : ℕ) → NamesCharge (charge_one most a charge n)
unfolding charge_one
charge_named most a charge n = go a.exceeded refl where
  go : (before : Option Charge) → a.exceeded ≡ before → NamesCharge (charge_after most a charge n before)
  go None e = either_way NamesCharge (passes most (added a.costs charge n) charge) _ _ refl tt
  go (Some before) e = e

goes_counts : (p : Part) (c : Charged) → NamesCharge c → Alike (goes_on (thrown_by p c)) (goes_on (ended_by p c))
goes_counts p (Fine account) k = (refl, tt)
goes_counts p (Over charge account) k = (refl, k)

returns_counts : (limit : Option ℕ) (p : Part) (o : Object Ty) (c : Charged) → NamesCharge c → Alike (returns_made (making_then limit o (thrown_by p c))) (returns_made (making_then limit o (ended_by p c)))
returns_counts limit p o (Over charge account) k = (refl, k)
returns_counts limit p o (Fine account) k = go (passes_limit limit (p.heap.used + object_size o)) where
  made : Part
  made = record p { account = account }

  go : (b : Bool) → Alike (returns_made (if b then NotMade (goes made (End (outcomes.HeapFull p.heap.used (object_size o)))) else Made (record made { heap = with_new p.heap o }) (next_number p.heap)))
      (returns_made (if b then NotMade (goes made (End (outcomes.HeapFull p.heap.used (object_size o)))) else Made (record made { heap = with_new p.heap o }) (next_number p.heap)))
  go true = (refl, tt)
  go false = (refl, tt)

keeps_counts : (limit : Option ℕ) (p : Part) (r : ℕ) (o : Object Ty) (c : Charged) → NamesCharge c → Alike (keeps_made r (making_then limit o (thrown_by p c))) (keeps_made r (making_then limit o (ended_by p c)))
keeps_counts limit p r o (Over charge account) k = (refl, k)
keeps_counts limit p r o (Fine account) k = go (passes_limit limit (p.heap.used + object_size o)) where
  made : Part
  made = record p { account = account }

  go : (b : Bool) → Alike (keeps_made r (if b then NotMade (goes made (End (outcomes.HeapFull p.heap.used (object_size o)))) else Made (record made { heap = with_new p.heap o }) (next_number p.heap)))
      (keeps_made r (if b then NotMade (goes made (End (outcomes.HeapFull p.heap.used (object_size o)))) else Made (record made { heap = with_new p.heap o }) (next_number p.heap)))
  go true = (refl, tt)
  go false = (refl, tt)

-- ---- effects

plain_alike : (e : Effect) → PlainFlow e.flow → Alike e e
plain_alike e plain = go e.flow plain where
  go : (flow : Flow) → PlainFlow flow → Alike (record e { flow = flow }) (record e { flow = flow })
  go (Goes way) plain = (refl, tt)
  go (Catch exception) plain = (refl, tt)
  go Stop plain = (refl, tt)
  go (Call m arguments) plain = (refl, tt)
  go (End (outcomes.Stopped charge)) plain = absurd plain
  go (End outcomes.OkNull) plain = (refl, tt)
  go (End (outcomes.OkBytes bytes)) plain = (refl, tt)
  go (End (outcomes.Threw class message)) plain = (refl, tt)
  go (End (outcomes.Init class exception message)) plain = (refl, tt)
  go (End outcomes.Link) plain = (refl, tt)
  go (End outcomes.TooDeep) plain = (refl, tt)
  go (End (outcomes.HeapFull used size)) plain = (refl, tt)
  go (End (outcomes.OutOfSteps steps)) plain = (refl, tt)

ready_same : (a b : State → Initialised) → ((s : State) → a s ≡ b s) → (r : Initialised) → then_ready a r ≡ then_ready b r
ready_same a b each (Ready s) = each s
ready_same a b each (Waits s) = refl
ready_same a b each (Fails outcome s) = refl

-- ---- native methods, and every family

module _ (program : Program) (prefix : Prefix) (limit : Option ℕ) (most : Thresholds) where
  abbrev accounted : Terms
  accounted = terms_with limit (Accounted most)

  abbrev metered : Terms
  metered = terms_with limit (Metered most)

  raises_told : (p : Part) (raised : Option Raised) → Alike (raises_after p raised) (raises_after p raised)
  raises_told p None = (refl, tt)
  raises_told p (Some raised) = (refl, tt)

  rethrows : (p : Part) (object : ℕ) (b : Bool) → Alike (goes p (if b then Catch object else Goes Next)) (goes p (if b then Catch object else Goes Next))
  rethrows p object true = (refl, tt)
  rethrows p object false = (refl, tt)

  perform_counts : (p : Part) (a : Answer) → Alike (perform prefix accounted p a) (perform prefix metered p a)
  unfolding perform
  perform_counts p (Returns result) = (refl, tt)
  perform_counts p (Raises raised) = (refl, tt)
  perform_counts p (MakesText units) = returns_counts limit p (text_object prefix units) (charge_one most p.account charges.Alloc (object_size (text_object prefix units))) (charge_named most p.account charges.Alloc _)
  perform_counts p (KeepsText object units) = keeps_counts limit p object (text_object prefix units) (charge_one most p.account charges.Alloc (object_size (text_object prefix units))) (charge_named most p.account charges.Alloc _)
  perform_counts p (MakesChars units) = returns_counts limit p (chars_object units) (charge_one most p.account charges.Alloc (object_size (chars_object units))) (charge_named most p.account charges.Alloc _)
  perform_counts p (SetsFields object vs) = (refl, tt)
  perform_counts p (SetsElements array contents raised) = raises_told (set_elements p array contents) raised
  perform_counts p (Adds charge n) = goes_counts p (charge_one most p.account charge n) (charge_named most p.account charge n)
  perform_counts p (Rethrows object) = rethrows p object (is_stop prefix (class_at_number p.heap object))

  texts_count : (p : Part) (units : List ℕ) (k : Option Kept) → Alike (push_kept p units k) (push_kept p units k)
  texts_count p units None = (refl, tt)
  texts_count p units (Some k) = (refl, tt)

  mild_alike : (heap : Heap Ty) (o : Option Effect) → MildSome heap o → AlikeSome o o
  mild_alike heap None k = (refl, tt)
  mild_alike heap (Some e) k = some_alike e e (plain_alike e k.0)

  heap_alike : (p : Part) (o : Option (OnHeap Ty)) → IfSome o (λ e. Grows p.heap e.heap × PlainFlow (flow_of e.result)) → AlikeSome (option_map (heap_effect p) o) (option_map (heap_effect p) o)
  heap_alike p None k = (refl, tt)
  heap_alike p (Some e) k = some_alike _ _ (plain_alike (heap_effect p e) k.1)

  abbrev EffectAlike : Heap Ty → Option Effect → Option Effect → Type 0
  EffectAlike heap a b = AlikeSome a b

  answers_alike : (p : Part) (a : Answer) → EffectAlike p.heap (Some (perform prefix accounted p a)) (Some (perform prefix metered p a))
  answers_alike p a = some_alike _ _ (perform_counts p a)

  texts_alike : (p : Part) (units : List ℕ) → EffectAlike p.heap (Some (push_kept p units (with_literal limit prefix p.heap p.literals units))) (Some (push_kept p units (with_literal limit prefix p.heap p.literals units)))
  texts_alike p units = some_alike _ _ (texts_count p units (with_literal limit prefix p.heap p.literals units))

  makes_alike : (i : Instruction) (p : Part) → Makes program prefix accounted metered EffectAlike mild_alike answers_alike texts_alike i p
  makes_alike (New class) p = heap_alike p (Some (make limit p.heap p.operands p.operands (new_object program prefix class))) (make_fits limit p.heap p.operands p.operands (new_object program prefix class))
  makes_alike (NewArray class element) p = heap_alike p (make_array limit class element p.heap p.operands) (make_array_fits limit class element p.heap p.operands)
  makes_alike i p = tt

  pub effect_counts : (own : Name) (i : Instruction) (x : Part) → AlikeSome (effect program prefix accounted own i x) (effect program prefix metered own i x)
  effect_counts own i x = effect_related program prefix accounted metered EffectAlike mild_alike answers_alike texts_alike own i x (makes_alike i x)

  -- ---- initialisation doesn't count

  constant_same : (s : State) (place : ℕ) (constant : Option Constant) → with_constant prefix accounted s place constant ≡ with_constant prefix metered s place constant
  constant_same s place None = refl
  constant_same s place (Some (Int z)) = refl
  constant_same s place (Some (Long z)) = refl
  constant_same s place (Some (Text units)) = refl
  constant_same s place (Some Unfit) = refl

  constants_same : (class : Name) (fields : List Field) (s : State) → with_constants program prefix accounted class fields s ≡ with_constants program prefix metered class fields s
  unfolding with_constants
  constants_same class [] s = refl
  constants_same class (f ∷ fields) s = ap (then_ready (with_constants program prefix accounted class fields)) (one (is_static f.flags))
      ∙ ready_same (with_constants program prefix accounted class fields) (with_constants program prefix metered class fields) (constants_same class fields) _ where
        one : (b : Bool) → (if b then with_constant prefix accounted s (static_place program class f.name f.desc) f.constant else Ready s) ≡ (if b then with_constant prefix metered s (static_place program class f.name f.desc) f.constant else Ready s)
        one true = constant_same s (static_place program class f.name f.desc) f.constant
        one false = refl

  all_constants_same : (classes : List Name) (s : State) → constants_of program prefix accounted classes s ≡ constants_of program prefix metered classes s
  unfolding constants_of
  all_constants_same [] s = refl
  all_constants_same (class ∷ classes) s = ap (then_ready (constants_of program prefix accounted classes)) (constants_same class (fields_of (class_at program class)) s)
      ∙ ready_same (constants_of program prefix accounted classes) (constants_of program prefix metered classes) (all_constants_same classes) _

  pub initialise_same : (class : Name) (s : State) → initialise program prefix accounted class s ≡ initialise program prefix metered class s
  unfolding initialise
  initialise_same class s = ap (then_ready (λ next. with_frames next (initialiser_frames program classes))) (all_constants_same classes (record s { initialised = mark_all program classes s.initialised })) where
    classes : List Name
    classes = reverse (not_initialised program s.initialised (chain program class))

  prepared_same : (used : Option Name) (s : State) → prepared program prefix accounted used s ≡ prepared program prefix metered used s
  prepared_same None s = refl
  prepared_same (Some class) s = initialise_same class s

  -- ---- the step

  abbrev Counts : State → StepAnswer → StepAnswer → Type 0
  Counts s a b = CountsAs program prefix accounted s a b

  stop_same : (s : State) (r : Option ℕ) → throw_stop_or program prefix accounted s r ≡ throw_stop_or program prefix metered s r
  stop_same s None = refl
  stop_same s (Some r) = refl

  settle_counts : (s t : State) (f : Frame Declared) (below : List (Frame Declared)) → s.frames ≡ f ∷ below → (p : Part) (flow : Flow) → FlowTold p.account flow
      → Counts s (settle program prefix accounted (with_part t p) (frame_with f p) below (stop_flow flow)) (settle program prefix metered (with_part t p) (frame_with f p) below flow)
  unfolding settle
  settle_counts s t f below e p (Goes Next) k = inl refl
  settle_counts s t f below e p (Goes (To number)) k = inl refl
  settle_counts s t f below e p (Goes (Raise raised)) k = inl refl
  settle_counts s t f below e p (Goes (Back result)) k = inl refl
  settle_counts s t f below e p (Catch exception) k = inl refl
  settle_counts s t f below e p Stop k = inl (stop_same (record (with_part t p) { frames = frame_with f p ∷ below }) (stop_from prefix 1 p.heap.objects))
  settle_counts s t f below e p (Call m arguments) k = inl refl
  settle_counts s t f below e p (End (outcomes.Stopped charge)) k = inr (record {
    charge = charge;
    end = with_part t p;
    ends = refl;
    exceeded = k;
    top = f;
    below = below;
    frames = e;
    locals = p.locals;
    operands = p.operands;
    thrown = refl;
  })
  settle_counts s t f below e p (End outcomes.OkNull) k = inl refl
  settle_counts s t f below e p (End (outcomes.OkBytes bytes)) k = inl refl
  settle_counts s t f below e p (End (outcomes.Threw class message)) k = inl refl
  settle_counts s t f below e p (End (outcomes.Init class exception message)) k = inl refl
  settle_counts s t f below e p (End outcomes.Link) k = inl refl
  settle_counts s t f below e p (End outcomes.TooDeep) k = inl refl
  settle_counts s t f below e p (End (outcomes.HeapFull used size)) k = inl refl
  settle_counts s t f below e p (End (outcomes.OutOfSteps steps)) k = inl refl

  settled_counts : (s t : State) (f : Frame Declared) (below : List (Frame Declared)) → s.frames ≡ f ∷ below → (a b : Option Effect) → AlikeSome a b
      → Counts s (settled program prefix accounted t f below a) (settled program prefix metered t f below b)
  settled_counts s t f below e a None k = inl (ap (settled program prefix accounted t f below) k.0)
  settled_counts s t f below e a (Some b) k = subst (λ (o : Option Effect). Counts s (settled program prefix accounted t f below o) (settled program prefix metered t f below (Some b))) (sym k.0)
      (settle_counts s t f below e b.part b.flow k.1)

  done_counts : (s : State) (f : Frame Declared) (below : List (Frame Declared)) → s.frames ≡ f ∷ below → (i : Instruction) (r : Initialised)
      → Counts s (done program prefix accounted f below i r) (done program prefix metered f below i r)
  done_counts s f below e i (Ready t) = settled_counts s t f below e _ _ (effect_counts f.method.class i (part_of f t))
  done_counts s f below e i (Waits t) = inl refl
  done_counts s f below e i (Fails outcome t) = inl refl

  pub step_counts : (s : State) → Counts s (step program prefix accounted s) (step program prefix metered s)
  unfolding step
  step_counts s = by s.frames refl where
    with_instruction : (f : Frame Declared) (below : List (Frame Declared)) → s.frames ≡ f ∷ below → (o : Option Instruction) → Counts s (act program prefix accounted s f below o) (act program prefix metered s f below o)
    with_instruction f below e None = inl refl
    with_instruction f below e (Some i) = subst (λ (r : Initialised). Counts s (done program prefix accounted f below i r) (done program prefix metered f below i (prepared program prefix metered (used_class program prefix i) s)))
        (sym (prepared_same (used_class program prefix i) s)) (done_counts s f below e i (prepared program prefix metered (used_class program prefix i) s))

    by : (frames : List (Frame Declared)) → s.frames ≡ frames → Counts s (step_of program prefix accounted s frames) (step_of program prefix metered s frames)
    by [] e = inl refl
    by (f ∷ below) e = with_instruction f below e (instruction_at program f)

  pub begin_same : (entry : Declared) (input : List ℕ) (answers : List HostAnswer) → begin program prefix accounted entry input answers ≡ begin program prefix metered entry input answers
  unfolding begin
  begin_same entry input answers = go (passes_limit limit (object_size (input_array input))) where
    go : (b : Bool)
        → (if b then Ended (outcomes.HeapFull 0 (object_size (input_array input))) (start_state program entry empty_heap answers)
        else begun (initialise program prefix accounted entry.class (start_state program entry (input_heap input) answers)))
        ≡ (if b then Ended (outcomes.HeapFull 0 (object_size (input_array input))) (start_state program entry empty_heap answers)
        else begun (initialise program prefix metered entry.class (start_state program entry (input_heap input) answers)))
    go true = refl
    go false = ap begun (initialise_same entry.class (start_state program entry (input_heap input) answers))
