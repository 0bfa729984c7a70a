-- What a call does, from what its operands are and what it takes.
use Rattle.std.proofs.Common.{◌≡◌, ℕ, ◌+◌, Bool, true, false, List, [], ◌∷◌, ◌++◌, map, length, reverse, Option, Some, None, nat_eq, if◌then◌else◌, refl, sym, ap, subst, ◌∙◌, arith}
use Rattle.std.proofs.lemmas.List.{length-reverse}
use Rattle.std.proofs.lemmas.Option.{none-some}
use Rattle.dj_names.specs.declared.descriptor.Kind.{Kind}
use Rattle.dj_names.specs.declared.descriptor.Kind.TheVariants as tags
use Rattle.dj_names.specs.trusted.Values.{value_kind}
use Rattle.dj_names.specs.declared.descriptor.Ty.{Ty}
use Rattle.dj_names.specs.declared.run.Value.{Value}
use Rattle.dj_names.specs.declared.run.Value.TheVariants as values
use Rattle.dj_names.specs.declared.run.Raised.TheVariants as raises
use Rattle.dj_names.specs.declared.run.Outcome.TheVariants as outcomes
use Rattle.dj_names.specs.declared.native.NativeId.{NativeId}
use Rattle.dj_names.specs.trusted.Heaps.{Heap}
use Rattle.dj_names.specs.trusted.Types.{Name, class_type, parameters_of}
use Rattle.dj_model.specs.trusted.Types.{Prefix}
use Rattle.dj_model.specs.trusted.Instructions.{Mode, Virtual, Special, Static, Interface}
use Rattle.dj_model.specs.trusted.Program.{Program, Body, Abstract, Native, Runs, Code, is_static}
use Rattle.dj_model.specs.trusted.Shape.{is_static_mode}
use Rattle.dj_model.specs.trusted.Linking.{FoundMethod, declared_of, resolve_method, select, special_method}
use Rattle.dj_model.specs.trusted.State.{Terms, Part, Raise, Goes, Call, End, Effect, goes}
use Rattle.dj_model.specs.trusted.Performing.{is_instance, class_at_number, native}
use Rattle.dj_model.specs.trusted.Members.{broken, kinds_of, Arguments, taken_from, arguments_of, are_instances, run_body, run_method, received, call, call_with, invoke}
use Rattle.dj_model.proofs.SoundLinks.{IsThere, declared_there}
use Rattle.dj_stack.specs.Frames.{StackFrame, top_operands}
use Rattle.dj_numbering.specs.declared.types.MethodId.{MethodId}
use Rattle.dj_image.specs.Imaged.{program_of}
use Rattle.dj_invocation.specs.declared.choosing.Mode.TheVariants as modes
use Rattle.dj_invocation.specs.declared.choosing.Chosen.TheVariants as chosen
use Rattle.dj_invocation.specs.Operands.{fit, receiver_in}
use Rattle.dj_invocation.specs.Receivers.{typed_heap}
use Rattle.dj_invocation.specs.Choosing.{Choice, Takes, IsNull, IsBroken, IsMethod, IsChosen, reported_mode, taken_method, received_choice, choice_of, effect_of}
use Rattle.dj_invocation.specs.Invoking.{Site, CallIs, taken_values, left_values, left_part, left_frames, GoesOn, Calls, IsNative, RunsBody, taken_kinds}
use Rattle.dj_invocation.proofs.OperandFacts.{fit_within, taken_fit, taken_not, values_taken, with_receiver}
use Rattle.dj_invocation.proofs.Found.{IsOwn, selected_there, special_there, described_there}

-- ---- choices

pub is_null : (program : Program) (choice : Choice) → IsChosen program chosen.Null choice → choice ≡ IsNull
is_null program IsNull reported = refl
is_null program IsBroken reported = absurd reported
is_null program (Takes found) reported = absurd reported

pub is_broken : (program : Program) (choice : Choice) → IsChosen program chosen.Link choice → choice ≡ IsBroken
is_broken program IsBroken reported = refl
is_broken program IsNull reported = absurd reported
is_broken program (Takes found) reported = absurd reported

pub is_method : (program : Program) (id : MethodId) (choice : Choice) → IsChosen program (chosen.Method id) choice → (found : FoundMethod) × (choice ≡ Takes found) × IsMethod program id found
is_method program id (Takes found) reported = (found, refl, reported)
is_method program id IsNull reported = absurd reported
is_method program id IsBroken reported = absurd reported

abbrev taken_by : FoundMethod → Choice → FoundMethod
taken_by other (Takes found) = found
taken_by other choice = other

same_taken : (a b : FoundMethod) → Takes a ≡ Takes b → a ≡ b
same_taken a b e = ap (taken_by a) e

taken_is : (found : Option FoundMethod) (f : FoundMethod) → taken_method found ≡ Takes f → found ≡ Some f
taken_is None f e = absurd cc
taken_is (Some g) f e = ap Some (same_taken g f e)

received_takes : (b c : Bool) (found : Option FoundMethod) (f : FoundMethod) → (if b then IsNull else if c then taken_method found else IsBroken) ≡ Takes f → found ≡ Some f
received_takes true c found f e = absurd cc
received_takes false true found f e = taken_is found f e
received_takes false false found f e = absurd cc

-- what is taken is found by the name and the descriptor of the resolved method
pub choice_there : (program : Program) (prefix : Prefix) (heap : Heap Ty) (own : Name) (mode : Mode) (resolved : FoundMethod) (r : ℕ) (f : FoundMethod)
    → IsOwn program resolved → choice_of program prefix heap own mode resolved r ≡ Takes f → IsThere program resolved.method.name resolved.method.desc f
choice_there program prefix heap own Static resolved r f is e = subst (IsThere program resolved.method.name resolved.method.desc) (same_taken resolved f e) is
choice_there program prefix heap own Special resolved r f is e =
    special_there program own resolved f is (received_takes (nat_eq r 0) _ (special_method program own resolved) f e)
choice_there program prefix heap own Virtual resolved r f is e =
    selected_there program prefix resolved (class_at_number heap r) f is (received_takes (nat_eq r 0) _ (select program prefix resolved (class_at_number heap r)) f e)
choice_there program prefix heap own (Interface count) resolved r f is e =
    selected_there program prefix resolved (class_at_number heap r) f is (received_takes (nat_eq r 0) _ (select program prefix resolved (class_at_number heap r)) f e)

-- ---- calls in the model

run_taken : (program : Program) (prefix : Prefix) (terms : Terms) (p : Part) (receiver args : List Value) (types : List Ty) (found : Option FoundMethod)
    → run_method program prefix terms p receiver args types found ≡ effect_of program prefix terms p receiver args types (taken_method found)
run_taken program prefix terms p receiver args types None = refl
run_taken program prefix terms p receiver args types (Some found) = refl

received_is : (program : Program) (prefix : Prefix) (terms : Terms) (p : Part) (r : ℕ) (class : Name) (receiver args : List Value) (types : List Ty) (found : Option FoundMethod)
    → received program prefix p r class (run_method program prefix terms p receiver args types found)
    ≡ effect_of program prefix terms p receiver args types (received_choice program prefix p.heap r class (taken_method found))
received_is program prefix terms p r class receiver args types found = by (nat_eq r 0) (is_instance program prefix p.heap r (class_type class)) where
  by : (b c : Bool)
      → (if b then Some (goes p (Goes (Raise raises.NullPointer))) else if c then run_method program prefix terms p receiver args types found else Some (broken p))
      ≡ effect_of program prefix terms p receiver args types (if b then IsNull else if c then taken_method found else IsBroken)
  by true c = refl
  by false true = run_taken program prefix terms p receiver args types found
  by false false = refl

with_reference : (program : Program) (prefix : Prefix) (terms : Terms) (own : Name) (mode : Mode) (p : Part) (resolved : FoundMethod) (types : List Ty) (args rest : List Value) (r : ℕ)
    → (reported_mode mode ≡ modes.Static → ⊥)
    → call program prefix terms own mode p resolved types args (values.Ref r ∷ rest)
    ≡ effect_of program prefix terms (record p { operands = rest }) (values.Ref r ∷ []) args types (choice_of program prefix p.heap own mode resolved r)
with_reference program prefix terms own Static p resolved types args rest r other = absurd (other refl)
with_reference program prefix terms own Special p resolved types args rest r other = received_is program prefix terms (record p { operands = rest }) r _ (values.Ref r ∷ []) args types (special_method program own resolved)
with_reference program prefix terms own Virtual p resolved types args rest r other =
    received_is program prefix terms (record p { operands = rest }) r resolved.class (values.Ref r ∷ []) args types (select program prefix resolved (class_at_number p.heap r))
with_reference program prefix terms own (Interface count) p resolved types args rest r other =
    received_is program prefix terms (record p { operands = rest }) r resolved.class (values.Ref r ∷ []) args types (select program prefix resolved (class_at_number p.heap r))

without_reference : (program : Program) (prefix : Prefix) (terms : Terms) (own : Name) (mode : Mode) (p : Part) (resolved : FoundMethod) (types : List Ty) (args rest : List Value)
    → (reported_mode mode ≡ modes.Static → ⊥) → receiver_in rest ≡ None → call program prefix terms own mode p resolved types args rest ≡ None
without_reference program prefix terms own Static p resolved types args rest other e = absurd (other refl)
without_reference program prefix terms own mode p resolved types args (values.Ref r ∷ rest) other e = absurd (none-some r (sym e))
without_reference program prefix terms own Special p resolved types args [] other e = refl
without_reference program prefix terms own Special p resolved types args (values.Int z ∷ rest) other e = refl
without_reference program prefix terms own Special p resolved types args (values.Long z ∷ rest) other e = refl
without_reference program prefix terms own Virtual p resolved types args [] other e = refl
without_reference program prefix terms own Virtual p resolved types args (values.Int z ∷ rest) other e = refl
without_reference program prefix terms own Virtual p resolved types args (values.Long z ∷ rest) other e = refl
without_reference program prefix terms own (Interface count) p resolved types args [] other e = refl
without_reference program prefix terms own (Interface count) p resolved types args (values.Int z ∷ rest) other e = refl
without_reference program prefix terms own (Interface count) p resolved types args (values.Long z ∷ rest) other e = refl

-- a method that isn't static takes a reference first
instance_kinds : (mode : Mode) (asked : List Kind) → (reported_mode mode ≡ modes.Static → ⊥) → tags.Ref ∷ asked ≡ taken_kinds mode asked
instance_kinds Static asked other = absurd (other refl)
instance_kinds Special asked other = refl
instance_kinds Virtual asked other = refl
instance_kinds (Interface count) asked other = refl

-- ---- a site

module _ (s : Site) (resolved : FoundMethod) (kinds : List Kind)
    (found : resolve_method (program_of s.imaged) s.imaged.prefix s.member ≡ Some resolved) (kinds_are : kinds_of (parameters_of s.member.desc) ≡ Some kinds) where
  abbrev with_taken : Terms → Part → Option FoundMethod → Option Arguments → Option Effect
  with_taken terms p method taken = call_with (program_of s.imaged) s.imaged.prefix terms s.own s.mode s.member.desc p method taken

  abbrev call_there : Terms → Part → List Value → List Value → Option Effect
  call_there terms p args rest = call (program_of s.imaged) s.imaged.prefix terms s.own s.mode p resolved (parameters_of s.member.desc) args rest

  abbrev taken_effect : Terms → Part → List Value → List Value → Choice → Option Effect
  taken_effect terms p receiver args choice = effect_of (program_of s.imaged) s.imaged.prefix terms p receiver args (parameters_of s.member.desc) choice

  with_kinds : (terms : Terms) (p : Part) → invoke (program_of s.imaged) s.imaged.prefix terms s.own s.mode s.member p ≡ with_taken terms p (Some resolved) (taken_from (reverse kinds) p.operands)
  unfolding invoke
  with_kinds terms p =
      ap (λ (o : Option FoundMethod). with_taken terms p o (arguments_of (kinds_of (parameters_of s.member.desc)) p.operands)) found
      ∙ ap (λ (ks : Option (List Kind)). with_taken terms p (Some resolved) (arguments_of ks p.operands)) kinds_are

  pub call_not_fit : fit (reverse kinds) (top_operands s.frames) ≡ false → CallIs s (λ terms p. None)
  call_not_fit not terms p operands heap =
      with_kinds terms p ∙ ap (with_taken terms p (Some resolved)) (ap (taken_from (reverse kinds)) operands ∙ taken_not (reverse kinds) (top_operands s.frames) not)

  call_fit : fit (reverse kinds) (top_operands s.frames) ≡ true → CallIs s (λ terms p. call_there terms p (taken_values s (length kinds)) (left_values s (length kinds)))
  call_fit fits terms p operands heap =
      with_kinds terms p
      ∙ ap (with_taken terms p (Some resolved))
      (ap (taken_from (reverse kinds)) operands
      ∙ (taken_fit (reverse kinds) (top_operands s.frames) fits
      ∙ ap (λ (n : ℕ). Some (record { values = taken_values s n; rest = left_values s n })) (length-reverse kinds)))

  pub call_no_receiver : (reported_mode s.mode ≡ modes.Static → ⊥) → fit (reverse kinds) (top_operands s.frames) ≡ true → receiver_in (left_values s (length kinds)) ≡ None
      → CallIs s (λ terms p. None)
  call_no_receiver other fits none terms p operands heap =
      call_fit fits terms p operands heap
      ∙ without_reference (program_of s.imaged) s.imaged.prefix terms s.own s.mode p resolved (parameters_of s.member.desc) (taken_values s (length kinds)) (left_values s (length kinds)) other none

  pub call_received : (r : ℕ) → (reported_mode s.mode ≡ modes.Static → ⊥) → fit (reverse kinds) (top_operands s.frames) ≡ true → receiver_in (left_values s (length kinds)) ≡ Some r
      → CallIs s (λ terms p. taken_effect terms (left_part s (length kinds + 1) p) (values.Ref r ∷ []) (taken_values s (length kinds))
      (choice_of (program_of s.imaged) s.imaged.prefix (typed_heap s.imaged s.heap) s.own s.mode resolved r))
  call_received r other fits some terms p operands heap =
      call_fit fits terms p operands heap
      ∙ (ap (call_there terms p (taken_values s (length kinds))) (with_receiver (top_operands s.frames) (length kinds) r some).0
      ∙ (with_reference (program_of s.imaged) s.imaged.prefix terms s.own s.mode p resolved (parameters_of s.member.desc) (taken_values s (length kinds)) (left_values s (length kinds + 1)) r other
      ∙ ap (λ (h : Heap Ty). taken_effect terms (left_part s (length kinds + 1) p) (values.Ref r ∷ []) (taken_values s (length kinds))
      (choice_of (program_of s.imaged) s.imaged.prefix h s.own s.mode resolved r)) heap))

  pub call_static : s.mode ≡ Static → fit (reverse kinds) (top_operands s.frames) ≡ true
      → CallIs s (λ terms p. taken_effect terms (left_part s (length kinds) p) [] (taken_values s (length kinds)) (Takes resolved))
  call_static static fits terms p operands heap =
      call_fit fits terms p operands heap
      ∙ ap (λ (mode : Mode). call (program_of s.imaged) s.imaged.prefix terms s.own mode p resolved (parameters_of s.member.desc) (taken_values s (length kinds)) (left_values s (length kinds))) static

  -- ---- what runs

  pub runs_received : (r : ℕ) (f : FoundMethod) → (reported_mode s.mode ≡ modes.Static → ⊥) → fit (reverse kinds) (top_operands s.frames) ≡ true
      → receiver_in (left_values s (length kinds)) ≡ Some r → IsOwn (program_of s.imaged) resolved → resolved.method.desc ≡ s.member.desc
      → choice_of (program_of s.imaged) s.imaged.prefix (typed_heap s.imaged s.heap) s.own s.mode resolved r ≡ Takes f → RunsBody s (length kinds + 1) (length kinds) f
  runs_received r f other fits some own described e =
      let split = with_receiver (top_operands s.frames) (length kinds) r some in
      let there = choice_there (program_of s.imaged) s.imaged.prefix (typed_heap s.imaged s.heap) s.own s.mode resolved r f own e in
      record {
        receiver = values.Ref r ∷ [];
        all = split.1;
        within = omega (arith, split.2);
        kinds = kinds;
        kinds_are = kinds_are;
        count_is = refl;
        values = ap (map value_kind) (sym split.1) ∙ (ap (λ (asked : List Kind). tags.Ref ∷ asked) (values_taken kinds (top_operands s.frames) fits) ∙ instance_kinds s.mode kinds other);
        fits = fits;
        described = described_there (program_of s.imaged) resolved f there ∙ described;
        its = declared_there (program_of s.imaged) resolved.method.name resolved.method.desc f there;
        does = λ terms p operands heap. call_received r other fits some terms p operands heap
            ∙ ap (taken_effect terms (left_part s (length kinds + 1) p) (values.Ref r ∷ []) (taken_values s (length kinds))) e;
      }

  pub runs_static : s.mode ≡ Static → fit (reverse kinds) (top_operands s.frames) ≡ true → IsOwn (program_of s.imaged) resolved → resolved.method.desc ≡ s.member.desc → RunsBody s (length kinds) (length kinds) resolved
  runs_static static fits own described = record {
    receiver = [];
    all = refl;
    within = let long = length-reverse kinds in let few = fit_within (reverse kinds) (top_operands s.frames) fits in omega (arith, long, few);
    kinds = kinds;
    kinds_are = kinds_are;
    count_is = refl;
    values = values_taken kinds (top_operands s.frames) fits ∙ ap (λ (mode : Mode). taken_kinds mode kinds) (sym static);
    fits = fits;
    described = described;
    its = declared_there (program_of s.imaged) resolved.method.name resolved.method.desc resolved own;
    does = call_static static fits;
  }

  pub goes_null : (r : ℕ) (new : List StackFrame) → (reported_mode s.mode ≡ modes.Static → ⊥) → fit (reverse kinds) (top_operands s.frames) ≡ true
      → receiver_in (left_values s (length kinds)) ≡ Some r → choice_of (program_of s.imaged) s.imaged.prefix (typed_heap s.imaged s.heap) s.own s.mode resolved r ≡ IsNull
      → new ≡ left_frames s (length kinds + 1) → GoesOn s new (Goes (Raise raises.NullPointer))
  goes_null r new other fits some e left = record {
    taken = length kinds + 1;
    does = λ terms p operands heap. call_received r other fits some terms p operands heap
        ∙ ap (taken_effect terms (left_part s (length kinds + 1) p) (values.Ref r ∷ []) (taken_values s (length kinds))) e;
    frames = left;
  }

  pub goes_broken : (r : ℕ) (new : List StackFrame) → (reported_mode s.mode ≡ modes.Static → ⊥) → fit (reverse kinds) (top_operands s.frames) ≡ true
      → receiver_in (left_values s (length kinds)) ≡ Some r → choice_of (program_of s.imaged) s.imaged.prefix (typed_heap s.imaged s.heap) s.own s.mode resolved r ≡ IsBroken
      → new ≡ left_frames s (length kinds + 1) → GoesOn s new (End outcomes.Link)
  goes_broken r new other fits some e left = record {
    taken = length kinds + 1;
    does = λ terms p operands heap. call_received r other fits some terms p operands heap
        ∙ ap (taken_effect terms (left_part s (length kinds + 1) p) (values.Ref r ∷ []) (taken_values s (length kinds))) e;
    frames = left;
  }

-- ---- bodies

module _ (s : Site) (taken count : ℕ) (found : FoundMethod) (runs : RunsBody s taken count found) where
  abbrev body_effect : Terms → Part → Body → Option Effect
  body_effect terms p body =
      run_body (program_of s.imaged) s.imaged.prefix terms (left_part s taken p) found runs.receiver (taken_values s count) (parameters_of s.member.desc) body

  pub abstract_is : (new : List StackFrame) → found.method.body ≡ Abstract → new ≡ left_frames s taken → GoesOn s new (End outcomes.Link)
  abstract_is new body left = record {
    taken = taken;
    does = λ terms p operands heap. runs.does terms p operands heap ∙ ap (body_effect terms p) body;
    frames = left;
  }

  abbrev pub calls_code : (method : MethodId) (code : Code) → IsMethod (program_of s.imaged) method found → found.method.body ≡ Runs code → Calls s
  calls_code method code there body = record {
    taken = taken;
    method = method;
    found = found;
    there = there;
    its = runs.its;
    code = code;
    runs = body;
    does = λ terms p operands heap. runs.does terms p operands heap ∙ (ap (body_effect terms p) body
        ∙ ap (λ (args : List Value). Some (goes (left_part s taken p) (Call (declared_of found) args))) runs.all);
  }

  native_if : (id : NativeId) (b : Bool) → found.method.body ≡ Native id
      → are_instances (program_of s.imaged) s.imaged.prefix (typed_heap s.imaged s.heap) (parameters_of s.member.desc) (taken_values s count) ≡ b
      → CallIs s (λ terms p. if b then native (program_of s.imaged) s.imaged.prefix terms (left_part s taken p) id (taken_values s taken) else Some (broken (left_part s taken p)))
  native_if id b body is terms p operands heap =
      runs.does terms p operands heap
      ∙ (ap (body_effect terms p) body
      ∙ (ap (λ (h : Heap Ty). if are_instances (program_of s.imaged) s.imaged.prefix h (parameters_of s.member.desc) (taken_values s count)
      then native (program_of s.imaged) s.imaged.prefix terms (left_part s taken p) id (runs.receiver ++ taken_values s count) else Some (broken (left_part s taken p))) heap
      ∙ (ap (λ (b : Bool). if b then native (program_of s.imaged) s.imaged.prefix terms (left_part s taken p) id (runs.receiver ++ taken_values s count) else Some (broken (left_part s taken p))) is
      ∙ ap (λ (args : List Value). if b then native (program_of s.imaged) s.imaged.prefix terms (left_part s taken p) id args else Some (broken (left_part s taken p))) runs.all)))

  pub native_is : (id : NativeId) → found.method.body ≡ Native id → is_static found.method.flags ≡ is_static_mode s.mode
      → true ≡ are_instances (program_of s.imaged) s.imaged.prefix (typed_heap s.imaged s.heap) (parameters_of s.member.desc) (taken_values s count) → IsNative s s.frames id taken
  native_is id body static is = record {
    within = runs.within;
    does = native_if id true body (sym is);
    frames = refl;
    found = found;
    its = runs.its;
    body = body;
    described = runs.described;
    static = static;
    parameters = runs.kinds;
    parameters_are = runs.kinds_are;
    values = runs.values;
    instances = subst (λ (n : ℕ). are_instances (program_of s.imaged) s.imaged.prefix (typed_heap s.imaged s.heap) (parameters_of s.member.desc) (taken_values s n) ≡ true) runs.count_is (sym is);
  }

  pub native_not : (id : NativeId) (new : List StackFrame) → found.method.body ≡ Native id
      → false ≡ are_instances (program_of s.imaged) s.imaged.prefix (typed_heap s.imaged s.heap) (parameters_of s.member.desc) (taken_values s count)
      → new ≡ left_frames s taken → GoesOn s new (End outcomes.Link)
  native_not id new body is left = record { taken = taken; does = native_if id false body (sym is); frames = left }
