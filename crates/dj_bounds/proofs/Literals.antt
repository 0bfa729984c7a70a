-- Literals are of different texts, each one of the program's.
use Rattle.std.proofs.Common.{◌≡◌, ℕ, zero, suc, ◌+◌, ◌≤◌, Bool, true, false, List, [], ◌∷◌, ◌++◌, length, reverse, Option, Some, None, nat_le, nat_lt, refl, sym, ap, subst, ◌∙◌, inl, inr, arith, Contains, if◌then◌else◌}
use Rattle.std.specs.Prelude.{⊤, IfSome}
use Rattle.std.specs.Cmp.Lexicographic.{bytes_decides}
use Rattle.std.proofs.lemmas.Option.{none-some}
use Rattle.dj_names.specs.declared.descriptor.Ty.{Ty}
use Rattle.dj_names.specs.declared.run.Value.{Value}
use Rattle.dj_names.specs.trusted.Heaps.{Object, object_size, with_new, next_number}
use Rattle.dj_names.specs.trusted.Types.{Name, same_name}
use Rattle.dj_edge.specs.declared.host.HostAnswer.{HostAnswer}
use Rattle.dj_model.specs.trusted.Types.{Prefix, Declared}
use Rattle.dj_model.specs.trusted.Instructions.{Instruction, PushText}
use Rattle.dj_model.specs.trusted.Program.{Program, Code, Field, Constant, Int, Long, Text, Unfit, class_at, fields_of, is_static, code_of}
use Rattle.dj_model.specs.trusted.Linking.{chain, static_place}
use Rattle.dj_model.specs.trusted.State.{Terms, Literal, Frame, State, instruction_in, instruction_at, Next, To, Raise, Back, Flow, Goes, Catch, Stop, Call, End, Effect}
use Rattle.dj_model.specs.trusted.Arrays.{passes_limit}
use Rattle.dj_model.specs.trusted.Members.{Kept, literal_in, with_literal}
use Rattle.dj_model.specs.trusted.Effects.{used_class}
use Rattle.dj_model.specs.trusted.Initialisation.{most_frames, Initialised, Ready, Waits, Fails, then_ready, with_text, with_constant, with_constants, constants_of, mark_all, not_initialised, initialiser_frames, with_frames, initialise}
use Rattle.dj_model.specs.trusted.Step.{StepAnswer, Went, Ended, IllFormed, throw_new, new_exception, new_stop, stop_from, throw_stop_or, returned, settle, with_part, frame_with, part_of, settled, prepared, done, act, step_of, step}
use Rattle.dj_model.specs.trusted.Runs.{Ran, Going, Finished, NoStep, one_more, then_steps, from_start, steps, input_array, input_heap, start_state, begun, begin}
use Rattle.dj_model.proofs.Flows.{either_way}
use Rattle.dj_model.proofs.SoundFrames.{contained}
use Rattle.dj_bounds.specs.Bytes.{literal_bytes}
use Rattle.dj_bounds.specs.Laws.{LiteralsAreWithin}
use Rattle.dj_bounds.specs.Texts.{AreTextsOf, text_bytes, AreLiteralsWithin}
use Rattle.dj_bounds.proofs.Levels.{AnswerHas, unwound_has}
use Rattle.dj_bounds.proofs.Taking.{NewText, text_of, Takes, IsKept, literal_taken, effect_takes}

-- ---- literals of different texts

abbrev IsNew : List ℕ → List Literal → Type 0
IsNew units [] = ⊤
IsNew units (l ∷ literals) = (l.units ≡ units → ⊥) × IsNew units literals

-- each is of one of the texts, and no two are of one
abbrev AreOf : List (List ℕ) → List Literal → Type 0
AreOf texts [] = ⊤
AreOf texts (l ∷ literals) = Contains texts l.units × IsNew l.units literals × AreOf texts literals

new_text : (units : List ℕ) (literals : List Literal) → literal_in literals units ≡ None → IsNew units literals
new_text units [] e = tt
new_text units (l ∷ literals) e = go (same_name l.units units) refl e (λ later. new_text units literals later) where
  itself : (b : Bool) → same_name l.units units ≡ b → b ≡ false → l.units ≡ units → ⊥
  itself b is differs same = absurd (let yes : b ≡ true = sym is ∙ (bytes_decides l.units units).1 same in let both : true ≡ false = sym yes ∙ differs in cc)

  go : (b : Bool) → same_name l.units units ≡ b → (if b then Some l.object else literal_in literals units) ≡ None → (literal_in literals units ≡ None → IsNew units literals) → IsNew units (l ∷ literals)
  go true is e more = absurd (none-some l.object (sym e))
  go false is e more = (itself false is refl, more e)

still_new : (units : List ℕ) (literals : List Literal) (l : Literal) → (l.units ≡ units → ⊥) → IsNew units literals → IsNew units (literals ++ l ∷ [])
still_new units [] l other k = (other, tt)
still_new units (m ∷ literals) l other k = (k.0, still_new units literals l other k.1)

one_more_of : (texts : List (List ℕ)) (literals : List Literal) (l : Literal) → AreOf texts literals → Contains texts l.units → IsNew l.units literals → AreOf texts (literals ++ l ∷ [])
one_more_of texts [] l all among new = (among, tt, tt)
one_more_of texts (m ∷ literals) l all among new = (all.0, still_new m.units literals l (λ e. new.0 (sym e)) all.1, one_more_of texts literals l all.2 among new.1)

kept_of : (texts : List (List ℕ)) (units : List ℕ) (before after : List Literal) → Contains texts units → NewText (Some units) before after → AreOf texts before → AreOf texts after
kept_of texts units before after among (inl same) all = subst (AreOf texts) (sym same) all
kept_of texts units before after among (inr (object, fresh, same)) all =
    subst (AreOf texts) (sym same) (one_more_of texts before (record { units = units; object = object }) all among (new_text units before fresh))

-- ---- their bytes

bytes_append : (a b : List (List ℕ)) → text_bytes (a ++ b) ≡ text_bytes a + text_bytes b
bytes_append [] b = omega arith
bytes_append (units ∷ a) b = omega (arith, bytes_append a b)

-- a text among others
record Splits (texts : List (List ℕ)) (units : List ℕ) : Type 0 where
  pub front : List (List ℕ)
  pub back : List (List ℕ)
  pub whole : texts ≡ front ++ units ∷ back

splits : (texts : List (List ℕ)) (units : List ℕ) → Contains texts units → Splits texts units
splits [] units (k, l, e) = absurd (omega (arith, l))
splits (t ∷ texts) units (zero, l, e) = record { front = []; back = texts; whole = ap (λ u. u ∷ texts) e }
splits (t ∷ texts) units (suc k, l, e) =
    let s = splits texts units (k, omega (arith, l), e) in
    record { front = t ∷ s.front; back = s.back; whole = ap (λ us. t ∷ us) s.whole }

-- another text is among the others
without : (front back : List (List ℕ)) (units other : List ℕ) → (other ≡ units → ⊥) → Contains (front ++ units ∷ back) other → Contains (front ++ back) other
without [] back units other differ (zero, l, e) = absurd (differ (sym e))
without [] back units other differ (suc k, l, e) = (k, omega (arith, l), e)
without (t ∷ front) back units other differ (zero, l, e) = (zero, omega arith, e)
without (t ∷ front) back units other differ (suc k, l, e) =
    let rest = without front back units other differ (k, omega (arith, l), e) in
    (suc rest.0, omega (arith, rest.1), rest.2)

of_others : (front back : List (List ℕ)) (units : List ℕ) (literals : List Literal) → IsNew units literals → AreOf (front ++ units ∷ back) literals → AreOf (front ++ back) literals
of_others front back units [] new all = tt
of_others front back units (l ∷ literals) new all = (without front back units l.units new.0 all.0, all.1, of_others front back units literals new.1 all.2)

bytes_within : (literals : List Literal) (texts : List (List ℕ)) → AreOf texts literals → literal_bytes literals ≤ text_bytes texts
bytes_within [] texts all = omega arith
bytes_within (l ∷ literals) texts all =
    let s = splits texts l.units all.0 in
    let rest = bytes_within literals (s.front ++ s.back) (of_others s.front s.back l.units literals all.1 (subst (λ (us : List (List ℕ)). AreOf us literals) s.whole all.2)) in
    omega (arith, rest, ap text_bytes s.whole, bytes_append s.front (l.units ∷ s.back), bytes_append s.front s.back)

-- ---- runs

module _ (program : Program) (prefix : Prefix) (terms : Terms) (texts : List (List ℕ)) (are : AreTextsOf program texts) where
  abbrev Has : State → Type 0
  Has s = AreOf texts s.literals

  abbrev InitHas : Initialised → Type 0
  InitHas (Ready t) = Has t
  InitHas (Waits t) = Has t
  InitHas (Fails outcome t) = Has t

  then_has : (next : State → Initialised) → ((t : State) → Has t → InitHas (next t)) → (i : Initialised) → InitHas i → InitHas (then_ready next i)
  then_has next each (Ready t) k = each t k
  then_has next each (Waits t) k = k
  then_has next each (Fails outcome t) k = k

  constant_has : (t : State) (place : ℕ) (constant : Option Constant) → ((units : List ℕ) → constant ≡ Some (Text units) → Contains texts units) → Has t → InitHas (with_constant prefix terms t place constant)
  constant_has t place None among k = k
  constant_has t place (Some (Int z)) among k = k
  constant_has t place (Some (Long z)) among k = k
  constant_has t place (Some (Text units)) among k = go (with_literal terms.limit prefix t.heap t.literals units) (literal_taken program prefix terms terms.limit t.heap t.literals units) where
    go : (o : Option Kept) → IfSome o (IsKept program prefix terms units t.heap t.literals) → InitHas (with_text t place units o)
    go None e = k
    go (Some kept) e = kept_of texts units t.literals kept.literals (among units refl) e.1 k
  constant_has t place (Some Unfit) among k = k

  constants_have : (class : Name) (fields : List Field) (t : State) → ((f : Field) (units : List ℕ) → Contains fields f → f.constant ≡ Some (Text units) → Contains texts units) → Has t
      → InitHas (with_constants program prefix terms class fields t)
  unfolding with_constants
  constants_have class [] t among k = k
  constants_have class (f ∷ fields) t among k = then_has (with_constants program prefix terms class fields)
      (λ u h. constants_have class fields u (λ g units there e. among g units (suc there.0, omega (arith, there.1), there.2) e) h)
      (if is_static f.flags then with_constant prefix terms t (static_place program class f.name f.desc) f.constant else Ready t)
      (either_way InitHas (is_static f.flags) _ _ (constant_has t (static_place program class f.name f.desc) f.constant (λ units e. among f units (zero, omega arith, refl) e) k) k)

  all_constants_have : (classes : List Name) (t : State) → Has t → InitHas (constants_of program prefix terms classes t)
  unfolding constants_of
  all_constants_have [] t k = k
  all_constants_have (class ∷ classes) t k = then_has (constants_of program prefix terms classes) (all_constants_have classes)
      (with_constants program prefix terms class (fields_of (class_at program class)) t)
      (constants_have class (fields_of (class_at program class)) t (λ f units there e. are.begun class f units there e) k)

  frames_have : (frames : List (Frame Declared)) (t : State) → Has t → InitHas (with_frames t frames)
  frames_have [] t k = k
  frames_have (f ∷ frames) t k = either_way InitHas (nat_lt most_frames (length (f ∷ frames) + length t.frames)) _ _ k k

  initialise_has : (class : Name) (t : State) → Has t → InitHas (initialise program prefix terms class t)
  unfolding initialise
  initialise_has class t k = then_has (λ next. with_frames next (initialiser_frames program classes)) (frames_have (initialiser_frames program classes))
      (constants_of program prefix terms classes (record t { initialised = mark_all program classes t.initialised })) (all_constants_have classes _ k) where
        classes : List Name
        classes = reverse (not_initialised program t.initialised (chain program class))

  prepared_has : (used : Option Name) (t : State) → Has t → InitHas (prepared program prefix terms used t)
  prepared_has None t k = k
  prepared_has (Some class) t k = initialise_has class t k

  -- ---- a step

  abbrev Keeps : StepAnswer → Type 0
  Keeps a = AnswerHas Has a

  thrown_has : (t : State) (object : Object Ty) → Has t → Keeps (throw_new program prefix terms t object)
  thrown_has t object k = either_way Keeps (passes_limit terms.limit (t.heap.used + object_size object)) _ _ k
      (unwound_has program prefix Has (record t { heap = with_new t.heap object }) (λ frames. k) _ (next_number t.heap) t.frames)

  stop_has : (t : State) (r : Option ℕ) → Has t → Keeps (throw_stop_or program prefix terms t r)
  stop_has t None k = thrown_has t new_stop k
  stop_has t (Some r) k = unwound_has program prefix Has t (λ frames. k) _ r t.frames

  returned_has : (t : State) (f : Frame Declared) (result : Option Value) (below : List (Frame Declared)) → Has t → Keeps (returned t f result below)
  returned_has t f result [] k = k
  returned_has t f result (caller ∷ below) k = k

  settle_has : (t : State) (f : Frame Declared) (below : List (Frame Declared)) (flow : Flow) → Has t → Keeps (settle program prefix terms t f below flow)
  unfolding settle
  settle_has t f below (Goes Next) k = k
  settle_has t f below (Goes (To number)) k = k
  settle_has t f below (Goes (Raise raised)) k = thrown_has (record t { frames = f ∷ below }) (new_exception prefix raised) k
  settle_has t f below (Goes (Back result)) k = returned_has t f result below k
  settle_has t f below (Catch exception) k = unwound_has program prefix Has (record t { frames = f ∷ below }) (λ frames. k) _ exception (f ∷ below)
  settle_has t f below Stop k = stop_has (record t { frames = f ∷ below }) (stop_from prefix 1 t.heap.objects) k
  settle_has t f below (Call m arguments) k = either_way Keeps (nat_le most_frames (length (f ∷ below))) _ _ k k
  settle_has t f below (End outcome) k = k

  -- what an instruction of the program keeps
  of_text : (text : Option (List ℕ)) → ((units : List ℕ) → text ≡ Some units → Contains texts units) → (before after : List Literal) → NewText text before after → AreOf texts before → AreOf texts after
  of_text None among before after same all = subst (AreOf texts) (sym same) all
  of_text (Some units) among before after new all = kept_of texts units before after (among units refl) new all

  settled_has : (text : Option (List ℕ)) (paid : ℕ) → ((units : List ℕ) → text ≡ Some units → Contains texts units) → (t : State) (f : Frame Declared) (below : List (Frame Declared)) (o : Option Effect)
      → Has t → IfSome o (Takes terms.counting text paid (part_of f t)) → Keeps (settled program prefix terms t f below o)
  settled_has text paid among t f below None k takes = tt
  settled_has text paid among t f below (Some e) k takes = settle_has (with_part t e.part) (frame_with f e.part) below e.flow (of_text text among t.literals e.part.literals takes.texts k)

  done_has : (f : Frame Declared) (below : List (Frame Declared)) (i : Instruction) → ((units : List ℕ) → text_of i ≡ Some units → Contains texts units) → (r : Initialised) → InitHas r
      → Keeps (done program prefix terms f below i r)
  done_has f below i among (Ready t) k = settled_has (text_of i) _ among t f below _ k (effect_takes program prefix terms f.method.class i (part_of f t))
  done_has f below i among (Waits t) k = k
  done_has f below i among (Fails outcome t) k = k

  pushes : (i : Instruction) (units : List ℕ) → text_of i ≡ Some units → i ≡ PushText units
  pushes (PushText others) units e = let same : others ≡ units = cc in ap PushText same
  pushes i units e = absurd (none-some units e)

  in_code : (c : Option Code) (m : Declared) (number : ℕ) (i : Instruction) → code_of program m ≡ c → instruction_in c number ≡ Some i → (units : List ℕ) → text_of i ≡ Some units → Contains texts units
  in_code None m number i coded at units e = absurd (none-some i at)
  in_code (Some code) m number i coded at units e =
      are.pushed m code units coded (subst (Contains code.instructions) (pushes i units e) (contained code.instructions number i at))

  step_has : (t : State) → Has t → Keeps (step program prefix terms t)
  unfolding step
  step_has t k = by t.frames where
    with_instruction : (f : Frame Declared) (below : List (Frame Declared)) (o : Option Instruction) → instruction_at program f ≡ o → Keeps (act program prefix terms t f below o)
    with_instruction f below None at = tt
    with_instruction f below (Some i) at = done_has f below i (in_code (code_of program f.method) f.method f.number i refl at) (prepared program prefix terms (used_class program prefix i) t) (prepared_has (used_class program prefix i) t k)

    by : (frames : List (Frame Declared)) → Keeps (step_of program prefix terms t frames)
    by [] = tt
    by (f ∷ below) = with_instruction f below (instruction_at program f) refl

  -- ---- whole runs

  within_more : (r : Ran) → AreLiteralsWithin (text_bytes texts) r → AreLiteralsWithin (text_bytes texts) (one_more r)
  within_more (Going s) k = k
  within_more (Finished outcome s n) k = k
  within_more NoStep k = k

  steps_within : (n : ℕ) (s : State) → Has s → AreLiteralsWithin (text_bytes texts) (steps program prefix terms n s)
  unfolding steps
  steps_within zero s k = bytes_within s.literals texts k
  steps_within (suc n) s k = go (step program prefix terms s) (step_has s k) (λ t h. steps_within n t h) where
    go : (a : StepAnswer) → Keeps a → ((t : State) → Has t → AreLiteralsWithin (text_bytes texts) (steps program prefix terms n t)) → AreLiteralsWithin (text_bytes texts) (then_steps (steps program prefix terms n) a)
    go (Went t) h more = within_more (steps program prefix terms n t) (more t h)
    go (Ended outcome t) h more = bytes_within t.literals texts h
    go IllFormed h more = tt

  start_within : (n : ℕ) (a : StepAnswer) → Keeps a → AreLiteralsWithin (text_bytes texts) (from_start (steps program prefix terms n) a)
  start_within n (Went s) k = steps_within n s k
  start_within n (Ended outcome s) k = bytes_within s.literals texts k
  start_within n IllFormed k = tt

  begun_has : (i : Initialised) → InitHas i → Keeps (begun i)
  begun_has (Ready t) k = k
  begun_has (Waits t) k = k
  begun_has (Fails outcome t) k = k

  begin_has : (entry : Declared) (input : List ℕ) (answers : List HostAnswer) → Keeps (begin program prefix terms entry input answers)
  unfolding begin
  begin_has entry input answers = either_way Keeps (passes_limit terms.limit (object_size (input_array input))) _ _ tt
      (begun_has (initialise program prefix terms entry.class (start_state program entry (input_heap input) answers)) (initialise_has entry.class (start_state program entry (input_heap input) answers) tt))

pub literals_within : LiteralsAreWithin
literals_within program prefix terms texts are entry input answers n = start_within program prefix terms texts are n _ (begin_has program prefix terms texts are entry input answers)
