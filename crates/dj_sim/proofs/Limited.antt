-- A run with a limit on the heap's bytes is the run without one, or the heap is full.
use Rattle.std.proofs.Common.{◌≡◌, ◌⊎◌, ℕ, zero, suc, ◌+◌, ◌<◌, Bool, true, false, pos, negsuc, List, [], ◌∷◌, ◌++◌, length, replicate, reverse, Option, Some, None, nat_le, nat_lt, refl, sym, ap, subst, inl, inr, arith, if◌then◌else◌}
use Rattle.std.proofs.lemmas.List.{length-replicate}
use Rattle.std.proofs.lemmas.Bool.Decides.{nat_tests}
use Rattle.std.specs.Prelude.{Err, IfSome}
use Rattle.std.specs.Option.{option_map}
use Rattle.dj_names.specs.declared.descriptor.Ty.{Ty}
use Rattle.dj_names.specs.declared.run.Element.{Element}
use Rattle.dj_names.specs.declared.run.Value.{Value}
use Rattle.dj_names.specs.declared.run.Value.TheVariants as values
use Rattle.dj_names.specs.declared.run.Charge.TheVariants as charges
use Rattle.dj_names.specs.declared.run.Outcome.TheVariants as outcomes
use Rattle.dj_names.specs.trusted.Heaps.{Object, Heap, object_size, text_size, array_size, with_new, next_number}
use Rattle.dj_names.specs.trusted.Types.{Name}
use Rattle.dj_edge.specs.declared.host.HostAnswer.{HostAnswer}
use Rattle.dj_model.specs.trusted.Types.{Prefix, Declared}
use Rattle.dj_model.specs.trusted.Instructions.{Instruction, New, NewArray}
use Rattle.dj_model.specs.trusted.Program.{Program, Field, Constant, Int, Long, Text, Unfit, class_at, fields_of, is_static, is_initialiser, code_of}
use Rattle.dj_model.specs.trusted.Linking.{chain, static_place}
use Rattle.dj_model.specs.trusted.State.{Terms, Counting, Part, Frame, State, instruction_at, Next, To, Raise, Back, Flow, Goes, Catch, Stop, Call, End, Effect, goes}
use Rattle.dj_model.specs.trusted.Arrays.{flows, with_value, make, make_elements, make_array}
use Rattle.dj_model.specs.trusted.Natives.{Answer, Returns, Raises, MakesText, KeepsText, MakesChars, SetsFields, SetsElements, Adds, Rethrows}
use Rattle.dj_model.specs.trusted.Performing.{Counted, Within, Halts, counted, Made, NotMade, making_then, text_object, chars_object, returns_made, keeps_made, perform}
use Rattle.dj_model.specs.trusted.Members.{Kept, kept_or_made, literal_in, with_literal, push_kept}
use Rattle.dj_model.specs.trusted.Effects.{heap_effect, new_object, effect, used_class}
use Rattle.dj_model.specs.trusted.Initialisation.{most_frames, Initialised, Ready, Waits, Fails, then_ready, with_text, with_constant, with_constants, constants_of, mark_all, not_initialised, initialiser_frames, with_frames, initialise}
use Rattle.dj_model.specs.trusted.Step.{StepAnswer, Went, Ended, IllFormed, handler_of, at_handler, unwound, throw_new, new_exception, new_stop, stop_from, throw_stop_or, returned, settle, with_part, frame_with, part_of, settled, prepared, done, act, step_of, step}
use Rattle.dj_model.specs.trusted.Runs.{input_array, input_heap, empty_heap, start_state, begun, begin, Ran, Going, Finished, NoStep, one_more, then_steps, from_start, steps}
use Rattle.dj_model.specs.Laws.{Grows, AnswerGrows}
use Rattle.dj_model.proofs.Flows.{either_way}
use Rattle.dj_model.proofs.Fits.{Fits, fields_fit}
use Rattle.dj_model.proofs.EffectFits.{kept_fits, effect_fits}
use Rattle.dj_model.proofs.StepFits.{steps_grow}
use Rattle.dj_sim.specs.Counting.{terms_with}
use Rattle.dj_sim.specs.Limits.{IsFull, AnswerFull, AnswerAbove, IsLimited, RanFull, RanAbove, RanLimited}
use Rattle.dj_sim.proofs.Related.{MildSome, Makes, effect_related}

above_grown : (limit : ℕ) (a b : Heap Ty) → Grows a b → limit < a.used → limit < b.used
above_grown limit a b g l = omega (arith, l, g.used)

passed : (limit bytes : ℕ) → nat_lt limit bytes ≡ true → limit < bytes
passed limit bytes e = grind (arith, nat_tests, e)

-- either the limit isn't passed, or the other side follows from that it is
by_limit : {A : Type 0} (Related : A → A → Type 0) (limit bytes : ℕ) (full fits : A) → (limit < bytes → Related full fits) → Related fits fits
    → Related (if nat_lt limit bytes then full else fits) fits
by_limit Related limit bytes full fits above same = go (nat_lt limit bytes) refl where
  go : (b : Bool) → nat_lt limit bytes ≡ b → Related (if b then full else fits) fits
  go true e = above (passed limit bytes e)
  go false e = same

module _ (program : Program) (prefix : Prefix) (limit : ℕ) (counting : Counting) where
  abbrev limited : Terms
  limited = terms_with (Some limit) counting

  abbrev free : Terms
  free = terms_with None counting

  -- ---- effects

  abbrev FlowFull : Flow → Type 0
  FlowFull (End outcome) = IsFull limit outcome
  FlowFull flow = ⊥

  abbrev SomeFull : Option Effect → Type 0
  SomeFull None = ⊥
  SomeFull (Some e) = FlowFull e.flow

  abbrev SomeAbove : Option Effect → Type 0
  SomeAbove None = ⊥
  SomeAbove (Some e) = limit < e.part.heap.used

  abbrev Limits : Option Effect → Option Effect → Type 0
  Limits a b = (a ≡ b) ⊎ (SomeFull a × SomeAbove b)

  abbrev OneLimits : Effect → Effect → Type 0
  OneLimits a b = Limits (Some a) (Some b)

  returns_limited : (x : Part) (o : Object Ty) (c : Counted) → OneLimits (returns_made (making_then (Some limit) o c)) (returns_made (making_then None o c))
  returns_limited x o (Halts e) = inl refl
  returns_limited x o (Within y) = go (nat_lt limit (y.heap.used + object_size o)) refl where
    go : (b : Bool) → nat_lt limit (y.heap.used + object_size o) ≡ b
        → OneLimits (returns_made (if b then NotMade (goes y (End (outcomes.HeapFull y.heap.used (object_size o)))) else Made (record y { heap = with_new y.heap o }) (next_number y.heap)))
        (returns_made (Made (record y { heap = with_new y.heap o }) (next_number y.heap)))
    go true e = inr (passed limit (y.heap.used + object_size o) e, passed limit (y.heap.used + object_size o) e)
    go false e = inl refl

  keeps_limited : (x : Part) (r : ℕ) (o : Object Ty) (c : Counted) → OneLimits (keeps_made r (making_then (Some limit) o c)) (keeps_made r (making_then None o c))
  keeps_limited x r o (Halts e) = inl refl
  keeps_limited x r o (Within y) = go (nat_lt limit (y.heap.used + object_size o)) refl where
    made : Part
    made = record y { heap = with_new y.heap o }

    go : (b : Bool) → nat_lt limit (y.heap.used + object_size o) ≡ b
        → OneLimits (keeps_made r (if b then NotMade (goes y (End (outcomes.HeapFull y.heap.used (object_size o)))) else Made made (next_number y.heap))) (keeps_made r (Made made (next_number y.heap)))
    go true e = inr (
      passed limit (y.heap.used + object_size o) e,
      above_grown limit made.heap _ (fields_fit made r (values.Ref (next_number y.heap) ∷ [])).0 (passed limit (y.heap.used + object_size o) e),
    )
    go false e = inl refl

  performs : (x : Part) (a : Answer) → OneLimits (perform prefix limited x a) (perform prefix free x a)
  unfolding perform
  performs x (Returns result) = inl refl
  performs x (Raises raised) = inl refl
  performs x (MakesText units) = returns_limited x (text_object prefix units) (counted counting x charges.Alloc (object_size (text_object prefix units)))
  performs x (KeepsText object units) = keeps_limited x object (text_object prefix units) (counted counting x charges.Alloc (object_size (text_object prefix units)))
  performs x (MakesChars units) = returns_limited x (chars_object units) (counted counting x charges.Alloc (object_size (chars_object units)))
  performs x (SetsFields object vs) = inl refl
  performs x (SetsElements array contents raised) = inl refl
  performs x (Adds charge n) = inl refl
  performs x (Rethrows object) = inl refl

  texts : (x : Part) (units : List ℕ) → OneLimits (push_kept x units (with_literal (Some limit) prefix x.heap x.literals units)) (push_kept x units (with_literal None prefix x.heap x.literals units))
  unfolding with_literal
  texts x units = go (literal_in x.literals units) where
    go : (r : Option ℕ) → OneLimits (push_kept x units (kept_or_made (Some limit) prefix x.heap x.literals units r)) (push_kept x units (kept_or_made None prefix x.heap x.literals units r))
    go (Some r) = inl refl
    go None = by (nat_lt limit (x.heap.used + text_size units)) refl where
      made : Kept
      made = record {
        object = next_number x.heap;
        heap = with_new x.heap (text_object prefix units);
        literals = x.literals ++ record { units = units; object = next_number x.heap } ∷ [];
      }

      by : (b : Bool) → nat_lt limit (x.heap.used + text_size units) ≡ b → OneLimits (push_kept x units (if b then None else Some made)) (push_kept x units (Some made))
      by true e = inr (passed limit (x.heap.used + text_size units) e, passed limit (x.heap.used + text_size units) e)
      by false e = inl refl

  makes_object : (x : Part) (o : Object Ty) → OneLimits (heap_effect x (make (Some limit) x.heap x.operands x.operands o)) (heap_effect x (make None x.heap x.operands x.operands o))
  makes_object x o = go (nat_lt limit (x.heap.used + object_size o)) refl where
    go : (b : Bool) → nat_lt limit (x.heap.used + object_size o) ≡ b
        → OneLimits (heap_effect x (if b then flows x.heap x.operands (Err (outcomes.HeapFull x.heap.used (object_size o))) else with_value (with_new x.heap o) x.operands (values.Ref (next_number x.heap))))
        (heap_effect x (with_value (with_new x.heap o) x.operands (values.Ref (next_number x.heap))))
    go true e = inr (passed limit (x.heap.used + object_size o) e, passed limit (x.heap.used + object_size o) e)
    go false e = inl refl

  makes_array : (class : Ty) (element : Element) (x : Part) → Limits (option_map (heap_effect x) (make_array (Some limit) class element x.heap x.operands)) (option_map (heap_effect x) (make_array None class element x.heap x.operands))
  unfolding make_array
  makes_array class element x = go x.operands where
    go : (operands : List Value) → Limits (option_map (heap_effect x) (make_array (Some limit) class element x.heap operands)) (option_map (heap_effect x) (make_array None class element x.heap operands))
    go (values.Int (pos n) ∷ rest) = by (nat_lt limit (x.heap.used + array_size element n)) refl where
      sized : limit < x.heap.used + array_size element n → limit < x.heap.used + array_size element (length (replicate n (pos 0)))
      sized l = subst (λ k. limit < x.heap.used + array_size element k) (sym (length-replicate n (pos 0))) l

      by : (b : Bool) → nat_lt limit (x.heap.used + array_size element n) ≡ b
          → OneLimits (heap_effect x (make_elements b class element x.heap (values.Int (pos n) ∷ rest) rest n)) (heap_effect x (make_elements false class element x.heap (values.Int (pos n) ∷ rest) rest n))
      by true e = inr (passed limit (x.heap.used + array_size element n) e, sized (passed limit (x.heap.used + array_size element n) e))
      by false e = inl refl
    go (values.Int (negsuc n) ∷ rest) = inl refl
    go _ = inl refl

  abbrev EffectLimits : Heap Ty → Option Effect → Option Effect → Type 0
  EffectLimits heap a b = Limits a b

  mild : (heap : Heap Ty) (o : Option Effect) → MildSome heap o → Limits o o
  mild heap o k = inl refl

  makes : (i : Instruction) (x : Part) → Makes program prefix limited free EffectLimits mild performs texts i x
  makes (New class) x = makes_object x (new_object program prefix class)
  makes (NewArray class element) x = makes_array class element x
  makes i x = tt

  effect_limited : (own : Name) (i : Instruction) (x : Part) → Limits (effect program prefix limited own i x) (effect program prefix free own i x)
  effect_limited own i x = effect_related program prefix limited free EffectLimits mild performs texts own i x (makes i x)

  -- ---- above the limit the heap stays so

  unwound_above : (t : State) (class : Ty) (exception : ℕ) (frames : List (Frame Declared)) → limit < t.heap.used → AnswerAbove limit (unwound program prefix t class exception frames)
  unfolding unwound
  unwound_above t class exception [] l = l
  unwound_above t class exception (f ∷ below) l = go (handler_of program prefix class f.number (code_of program f.method)) (unwound_above t class exception below l) where
    go : (handler : Option ℕ) → AnswerAbove limit (unwound program prefix t class exception below)
        → AnswerAbove limit (at_handler prefix t class exception f below handler (unwound program prefix t class exception below))
    go (Some handler) more = l
    go None more = either_way (AnswerAbove limit) (is_initialiser f.method) _ _ l more

  thrown_above : (t : State) (o : Object Ty) → limit < t.heap.used + object_size o → AnswerAbove limit (throw_new program prefix free t o)
  thrown_above t o l = unwound_above (record t { heap = with_new t.heap o }) _ (next_number t.heap) t.frames l

  more_bytes : (t : State) (o : Object Ty) → limit < t.heap.used → limit < t.heap.used + object_size o
  more_bytes t o l = omega (arith, l)

  stop_above : (t : State) (r : Option ℕ) → limit < t.heap.used → AnswerAbove limit (throw_stop_or program prefix free t r)
  stop_above t None l = thrown_above t new_stop (more_bytes t new_stop l)
  stop_above t (Some r) l = unwound_above t _ r t.frames l

  returned_above : (t : State) (f : Frame Declared) (result : Option Value) (below : List (Frame Declared)) → limit < t.heap.used → AnswerAbove limit (returned t f result below)
  returned_above t f result [] l = l
  returned_above t f result (caller ∷ below) l = l

  settle_above : (t : State) (f : Frame Declared) (below : List (Frame Declared)) (flow : Flow) → limit < t.heap.used → AnswerAbove limit (settle program prefix free t f below flow)
  unfolding settle
  settle_above t f below (Goes Next) l = l
  settle_above t f below (Goes (To number)) l = l
  settle_above t f below (Goes (Raise raised)) l = thrown_above (record t { frames = f ∷ below }) (new_exception prefix raised) (more_bytes t (new_exception prefix raised) l)
  settle_above t f below (Goes (Back result)) l = returned_above t f result below l
  settle_above t f below (Catch exception) l = unwound_above (record t { frames = f ∷ below }) _ exception (f ∷ below) l
  settle_above t f below Stop l = stop_above (record t { frames = f ∷ below }) (stop_from prefix 1 t.heap.objects) l
  settle_above t f below (Call m arguments) l = either_way (AnswerAbove limit) (nat_le most_frames (length (f ∷ below))) _ _ l l
  settle_above t f below (End outcome) l = l

  settled_above : (t : State) (f : Frame Declared) (below : List (Frame Declared)) (i : Instruction) → limit < t.heap.used
      → AnswerAbove limit (settled program prefix free t f below (effect program prefix free f.method.class i (part_of f t)))
  settled_above t f below i l = go (effect program prefix free f.method.class i (part_of f t)) (effect_fits program prefix free f.method.class i (part_of f t)) where
    go : (e : Option Effect) → IfSome e (Fits counting (part_of f t)) → AnswerAbove limit (settled program prefix free t f below e)
    go None k = tt
    go (Some e) k = settle_above (with_part t e.part) (frame_with f e.part) below e.flow (above_grown limit t.heap e.part.heap k.heap l)

  -- ---- a step, from an effect

  thrown_limited : (t : State) (o : Object Ty) → IsLimited limit (throw_new program prefix limited t o) (throw_new program prefix free t o)
  thrown_limited t o = by_limit (IsLimited limit) limit (t.heap.used + object_size o) (Ended (outcomes.HeapFull t.heap.used (object_size o)) t) (throw_new program prefix free t o)
      (λ l. inr (l, thrown_above t o l)) (inl refl)

  stop_limited : (t : State) (r : Option ℕ) → IsLimited limit (throw_stop_or program prefix limited t r) (throw_stop_or program prefix free t r)
  stop_limited t None = thrown_limited t new_stop
  stop_limited t (Some r) = inl refl

  settle_limited : (t : State) (f : Frame Declared) (below : List (Frame Declared)) (flow : Flow) → IsLimited limit (settle program prefix limited t f below flow) (settle program prefix free t f below flow)
  unfolding settle
  settle_limited t f below (Goes Next) = inl refl
  settle_limited t f below (Goes (To number)) = inl refl
  settle_limited t f below (Goes (Raise raised)) = thrown_limited (record t { frames = f ∷ below }) (new_exception prefix raised)
  settle_limited t f below (Goes (Back result)) = inl refl
  settle_limited t f below (Catch exception) = inl refl
  settle_limited t f below Stop = stop_limited (record t { frames = f ∷ below }) (stop_from prefix 1 t.heap.objects)
  settle_limited t f below (Call m arguments) = inl refl
  settle_limited t f below (End outcome) = inl refl

  settled_limited : (t : State) (f : Frame Declared) (below : List (Frame Declared)) (a b : Option Effect) → Limits a b
      → IsLimited limit (settled program prefix limited t f below a) (settled program prefix free t f below b)
  unfolding settle
  settled_limited t f below a b (inl same) = subst (λ (o : Option Effect). IsLimited limit (settled program prefix limited t f below a) (settled program prefix free t f below o)) same (alone a) where
    alone : (o : Option Effect) → IsLimited limit (settled program prefix limited t f below o) (settled program prefix free t f below o)
    alone None = inl refl
    alone (Some e) = settle_limited (with_part t e.part) (frame_with f e.part) below e.flow
  settled_limited t f below None b (inr k) = absurd k.0
  settled_limited t f below (Some e) None (inr k) = absurd k.1
  settled_limited t f below (Some e) (Some d) (inr k) = inr (full e.flow k.0, settle_above (with_part t d.part) (frame_with f d.part) below d.flow k.1) where
    full : (flow : Flow) → FlowFull flow → AnswerFull limit (settle program prefix limited (with_part t e.part) (frame_with f e.part) below flow)
    full (End outcome) h = h
    full (Goes way) h = absurd h
    full (Catch exception) h = absurd h
    full Stop h = absurd h
    full (Call m arguments) h = absurd h

  -- ---- initialisation

  abbrev InitFull : Initialised → Type 0
  InitFull (Ready t) = ⊥
  InitFull (Waits t) = ⊥
  InitFull (Fails outcome t) = IsFull limit outcome

  abbrev InitAbove : Initialised → Type 0
  InitAbove (Ready t) = limit < t.heap.used
  InitAbove (Waits t) = limit < t.heap.used
  InitAbove (Fails outcome t) = limit < t.heap.used

  abbrev InitLimited : Initialised → Initialised → Type 0
  InitLimited a b = (a ≡ b) ⊎ (InitFull a × InitAbove b)

  then_above : (next : State → Initialised) → ((t : State) → limit < t.heap.used → InitAbove (next t)) → (i : Initialised) → InitAbove i → InitAbove (then_ready next i)
  then_above next each (Ready t) l = each t l
  then_above next each (Waits t) l = l
  then_above next each (Fails outcome t) l = l

  then_limited : (a b : State → Initialised) → ((t : State) → InitLimited (a t) (b t)) → ((t : State) → limit < t.heap.used → InitAbove (b t)) → (i j : Initialised) → InitLimited i j
      → InitLimited (then_ready a i) (then_ready b j)
  then_limited a b each above i j (inl same) = subst (λ (k : Initialised). InitLimited (then_ready a i) (then_ready b k)) same (alone i) where
    alone : (k : Initialised) → InitLimited (then_ready a k) (then_ready b k)
    alone (Ready t) = each t
    alone (Waits t) = inl refl
    alone (Fails outcome t) = inl refl
  then_limited a b each above (Ready t) j (inr k) = absurd k.0
  then_limited a b each above (Waits t) j (inr k) = absurd k.0
  then_limited a b each above (Fails outcome t) j (inr k) = inr (k.0, then_above b above j k.1)

  text_above : (t : State) (place : ℕ) (units : List ℕ) (k : Option Kept) → limit < t.heap.used → IfSome k (λ k. Grows t.heap k.heap) → InitAbove (with_text t place units k)
  text_above t place units None l g = l
  text_above t place units (Some k) l g = above_grown limit t.heap k.heap g l

  constant_above : (t : State) (place : ℕ) (constant : Option Constant) → limit < t.heap.used → InitAbove (with_constant prefix free t place constant)
  constant_above t place None l = l
  constant_above t place (Some (Int z)) l = l
  constant_above t place (Some (Long z)) l = l
  constant_above t place (Some (Text units)) l = text_above t place units (with_literal None prefix t.heap t.literals units) l (kept_fits program prefix free None t.heap t.literals units)
  constant_above t place (Some Unfit) l = l

  constants_above : (class : Name) (fields : List Field) (t : State) → limit < t.heap.used → InitAbove (with_constants program prefix free class fields t)
  unfolding with_constants
  constants_above class [] t l = l
  constants_above class (f ∷ fields) t l = then_above (with_constants program prefix free class fields) (constants_above class fields)
      (if is_static f.flags then with_constant prefix free t (static_place program class f.name f.desc) f.constant else Ready t)
      (either_way InitAbove (is_static f.flags) _ _ (constant_above t (static_place program class f.name f.desc) f.constant l) l)

  all_constants_above : (classes : List Name) (t : State) → limit < t.heap.used → InitAbove (constants_of program prefix free classes t)
  unfolding constants_of
  all_constants_above [] t l = l
  all_constants_above (class ∷ classes) t l = then_above (constants_of program prefix free classes) (all_constants_above classes)
      (with_constants program prefix free class (fields_of (class_at program class)) t) (constants_above class (fields_of (class_at program class)) t l)

  frames_above : (frames : List (Frame Declared)) (t : State) → limit < t.heap.used → InitAbove (with_frames t frames)
  frames_above [] t l = l
  frames_above (f ∷ frames) t l = either_way InitAbove (nat_lt most_frames (length (f ∷ frames) + length t.frames)) _ _ l l

  initialise_above : (class : Name) (t : State) → limit < t.heap.used → InitAbove (initialise program prefix free class t)
  unfolding initialise
  initialise_above class t l = then_above (λ next. with_frames next (initialiser_frames program classes)) (frames_above (initialiser_frames program classes))
      (constants_of program prefix free classes (record t { initialised = mark_all program classes t.initialised })) (all_constants_above classes _ l) where
        classes : List Name
        classes = reverse (not_initialised program t.initialised (chain program class))

  text_limited : (t : State) (place : ℕ) (units : List ℕ)
      → InitLimited (with_text t place units (with_literal (Some limit) prefix t.heap t.literals units)) (with_text t place units (with_literal None prefix t.heap t.literals units))
  unfolding with_literal
  text_limited t place units = go (literal_in t.literals units) where
    go : (r : Option ℕ) → InitLimited (with_text t place units (kept_or_made (Some limit) prefix t.heap t.literals units r)) (with_text t place units (kept_or_made None prefix t.heap t.literals units r))
    go (Some r) = inl refl
    go None = by (nat_lt limit (t.heap.used + text_size units)) refl where
      made : Kept
      made = record {
        object = next_number t.heap;
        heap = with_new t.heap (text_object prefix units);
        literals = t.literals ++ record { units = units; object = next_number t.heap } ∷ [];
      }

      by : (b : Bool) → nat_lt limit (t.heap.used + text_size units) ≡ b → InitLimited (with_text t place units (if b then None else Some made)) (with_text t place units (Some made))
      by true e = inr (passed limit (t.heap.used + text_size units) e, passed limit (t.heap.used + text_size units) e)
      by false e = inl refl

  constant_limited : (t : State) (place : ℕ) (constant : Option Constant) → InitLimited (with_constant prefix limited t place constant) (with_constant prefix free t place constant)
  constant_limited t place None = inl refl
  constant_limited t place (Some (Int z)) = inl refl
  constant_limited t place (Some (Long z)) = inl refl
  constant_limited t place (Some (Text units)) = text_limited t place units
  constant_limited t place (Some Unfit) = inl refl

  constants_limited : (class : Name) (fields : List Field) (t : State) → InitLimited (with_constants program prefix limited class fields t) (with_constants program prefix free class fields t)
  unfolding with_constants
  constants_limited class [] t = inl refl
  constants_limited class (f ∷ fields) t = then_limited (with_constants program prefix limited class fields) (with_constants program prefix free class fields) (constants_limited class fields) (constants_above class fields) _ _ (one (is_static f.flags)) where
    one : (b : Bool) → InitLimited (if b then with_constant prefix limited t (static_place program class f.name f.desc) f.constant else Ready t) (if b then with_constant prefix free t (static_place program class f.name f.desc) f.constant else Ready t)
    one true = constant_limited t (static_place program class f.name f.desc) f.constant
    one false = inl refl

  all_constants_limited : (classes : List Name) (t : State) → InitLimited (constants_of program prefix limited classes t) (constants_of program prefix free classes t)
  unfolding constants_of
  all_constants_limited [] t = inl refl
  all_constants_limited (class ∷ classes) t = then_limited (constants_of program prefix limited classes) (constants_of program prefix free classes) (all_constants_limited classes) (all_constants_above classes) _ _
      (constants_limited class (fields_of (class_at program class)) t)

  initialise_limited : (class : Name) (t : State) → InitLimited (initialise program prefix limited class t) (initialise program prefix free class t)
  unfolding initialise
  initialise_limited class t = then_limited (λ next. with_frames next (initialiser_frames program classes)) (λ next. with_frames next (initialiser_frames program classes)) (λ next. inl refl)
      (frames_above (initialiser_frames program classes)) _ _ (all_constants_limited classes (record t { initialised = mark_all program classes t.initialised })) where
        classes : List Name
        classes = reverse (not_initialised program t.initialised (chain program class))

  prepared_limited : (used : Option Name) (t : State) → InitLimited (prepared program prefix limited used t) (prepared program prefix free used t)
  prepared_limited None t = inl refl
  prepared_limited (Some class) t = initialise_limited class t

  -- ---- the step

  done_limited : (f : Frame Declared) (below : List (Frame Declared)) (i : Instruction) (a b : Initialised) → InitLimited a b
      → IsLimited limit (done program prefix limited f below i a) (done program prefix free f below i b)
  done_limited f below i a b (inl same) = subst (λ (k : Initialised). IsLimited limit (done program prefix limited f below i a) (done program prefix free f below i k)) same (alone a) where
    alone : (k : Initialised) → IsLimited limit (done program prefix limited f below i k) (done program prefix free f below i k)
    alone (Ready t) = settled_limited t f below _ _ (effect_limited f.method.class i (part_of f t))
    alone (Waits t) = inl refl
    alone (Fails outcome t) = inl refl
  done_limited f below i (Ready t) b (inr k) = absurd k.0
  done_limited f below i (Waits t) b (inr k) = absurd k.0
  done_limited f below i (Fails outcome t) b (inr k) = inr (k.0, above b k.1) where
    above : (j : Initialised) → InitAbove j → AnswerAbove limit (done program prefix free f below i j)
    above (Ready u) l = settled_above u f below i l
    above (Waits u) l = l
    above (Fails other u) l = l

  pub step_limited : (t : State) → IsLimited limit (step program prefix limited t) (step program prefix free t)
  unfolding step
  step_limited t = by t.frames where
    with_instruction : (f : Frame Declared) (below : List (Frame Declared)) (o : Option Instruction) → IsLimited limit (act program prefix limited t f below o) (act program prefix free t f below o)
    with_instruction f below None = inl refl
    with_instruction f below (Some i) = done_limited f below i _ _ (prepared_limited (used_class program prefix i) t)

    by : (frames : List (Frame Declared)) → IsLimited limit (step_of program prefix limited t frames) (step_of program prefix free t frames)
    by [] = inl refl
    by (f ∷ below) = with_instruction f below (instruction_at program f)

  -- ---- the start

  begun_above : (i : Initialised) → InitAbove i → AnswerAbove limit (begun i)
  begun_above (Ready t) l = l
  begun_above (Waits t) l = l
  begun_above (Fails outcome t) l = l

  begun_limited : (a b : Initialised) → InitLimited a b → IsLimited limit (begun a) (begun b)
  begun_limited a b (inl same) = inl (ap begun same)
  begun_limited (Ready t) b (inr k) = absurd k.0
  begun_limited (Waits t) b (inr k) = absurd k.0
  begun_limited (Fails outcome t) b (inr k) = inr (k.0, begun_above b k.1)

  pub begin_limited : (entry : Declared) (input : List ℕ) (answers : List HostAnswer) → IsLimited limit (begin program prefix limited entry input answers) (begin program prefix free entry input answers)
  unfolding begin
  begin_limited entry input answers = go (nat_lt limit (object_size (input_array input))) refl where
    start : State
    start = start_state program entry (input_heap input) answers

    go : (b : Bool) → nat_lt limit (object_size (input_array input)) ≡ b
        → IsLimited limit (if b then Ended (outcomes.HeapFull 0 (object_size (input_array input))) (start_state program entry empty_heap answers) else begun (initialise program prefix limited entry.class start))
        (begun (initialise program prefix free entry.class start))
    go true e = let l = passed limit (object_size (input_array input)) e in
        inr (omega (arith, l), begun_above (initialise program prefix free entry.class start) (initialise_above entry.class start l))
    go false e = begun_limited _ _ (initialise_limited entry.class start)

  -- ---- runs

  grown_above : (heap : Heap Ty) (a : StepAnswer) → AnswerGrows heap a → limit < heap.used → AnswerAbove limit a
  grown_above heap (Went t) g l = above_grown limit heap t.heap g l
  grown_above heap (Ended outcome t) g l = above_grown limit heap t.heap g l
  grown_above heap IllFormed g l = tt

  one_above : (r : Ran) → RanAbove limit r → RanAbove limit (one_more r)
  one_above (Going t) l = l
  one_above (Finished outcome t n) l = l
  one_above NoStep l = tt

  one_full : (r : Ran) → RanFull limit r → RanFull limit (one_more r)
  one_full (Going t) l = l
  one_full (Finished outcome t n) l = l
  one_full NoStep l = l

  one_limited : (a b : Ran) → RanLimited limit a b → RanLimited limit (one_more a) (one_more b)
  one_limited a b (inl same) = inl (ap one_more same)
  one_limited a b (inr k) = inr (one_full a k.0, one_above b k.1)

  steps_above : (n : ℕ) (t : State) → limit < t.heap.used → RanAbove limit (steps program prefix free n t)
  unfolding steps
  steps_above zero t l = l
  steps_above (suc n) t l = go (step program prefix free t) (grown_above t.heap (step program prefix free t) (steps_grow program prefix free t) l) (λ u. steps_above n u) where
    go : (a : StepAnswer) → AnswerAbove limit a → ((u : State) → limit < u.heap.used → RanAbove limit (steps program prefix free n u)) → RanAbove limit (then_steps (steps program prefix free n) a)
    go (Went u) l more = one_above (steps program prefix free n u) (more u l)
    go (Ended outcome u) l more = l
    go IllFormed l more = tt

  then_limits : (n : ℕ) → ((t : State) → RanLimited limit (steps program prefix limited n t) (steps program prefix free n t)) → (a b : StepAnswer) → IsLimited limit a b
      → RanLimited limit (then_steps (steps program prefix limited n) a) (then_steps (steps program prefix free n) b)
  then_limits n each a b (inl same) = subst (λ (c : StepAnswer). RanLimited limit (then_steps (steps program prefix limited n) a) (then_steps (steps program prefix free n) c)) same (alone a) where
    alone : (c : StepAnswer) → RanLimited limit (then_steps (steps program prefix limited n) c) (then_steps (steps program prefix free n) c)
    alone (Went t) = one_limited _ _ (each t)
    alone (Ended outcome t) = inl refl
    alone IllFormed = inl refl
  then_limits n each (Went t) b (inr k) = absurd k.0
  then_limits n each IllFormed b (inr k) = absurd k.0
  then_limits n each (Ended outcome t) b (inr k) = inr (k.0, above b k.1) where
    above : (c : StepAnswer) → AnswerAbove limit c → RanAbove limit (then_steps (steps program prefix free n) c)
    above (Went u) l = one_above (steps program prefix free n u) (steps_above n u l)
    above (Ended other u) l = l
    above IllFormed l = tt

  steps_limited : (n : ℕ) (t : State) → RanLimited limit (steps program prefix limited n t) (steps program prefix free n t)
  unfolding steps
  steps_limited zero t = inl refl
  steps_limited (suc n) t = then_limits n (steps_limited n) _ _ (step_limited t)

  pub run_limited : (n : ℕ) (a b : StepAnswer) → IsLimited limit a b → RanLimited limit (from_start (steps program prefix limited n) a) (from_start (steps program prefix free n) b)
  run_limited n a b (inl same) = subst (λ (c : StepAnswer). RanLimited limit (from_start (steps program prefix limited n) a) (from_start (steps program prefix free n) c)) same (alone a) where
    alone : (c : StepAnswer) → RanLimited limit (from_start (steps program prefix limited n) c) (from_start (steps program prefix free n) c)
    alone (Went t) = steps_limited n t
    alone (Ended outcome t) = inl refl
    alone IllFormed = inl refl
  run_limited n (Went t) b (inr k) = absurd k.0
  run_limited n IllFormed b (inr k) = absurd k.0
  run_limited n (Ended outcome t) b (inr k) = inr (k.0, above b k.1) where
    above : (c : StepAnswer) → AnswerAbove limit c → RanAbove limit (from_start (steps program prefix free n) c)
    above (Went u) l = steps_above n u l
    above (Ended other u) l = l
    above IllFormed l = tt
