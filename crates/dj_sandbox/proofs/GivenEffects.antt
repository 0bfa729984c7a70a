-- Where an instruction has an effect though the host has nothing to give, it has the same effect whatever the host gives, and takes none of it.
use Rattle.std.proofs.Common.{◌≡◌, ℕ, ◌+◌, Bool, true, false, List, [], ◌∷◌, ◌++◌, Option, Some, None, nat_eq, refl, ap, ◌∙◌, if◌then◌else◌}
use Rattle.std.specs.Option.{option_map}
use Rattle.std.specs.Prelude.{⊤}
use Rattle.dj_names.specs.declared.descriptor.Kind.{Kind}
use Rattle.dj_names.specs.declared.descriptor.Ty.{Ty}
use Rattle.dj_names.specs.declared.descriptor.Desc.{Desc}
use Rattle.dj_names.specs.declared.run.Value.{Value}
use Rattle.dj_names.specs.declared.run.Value.TheVariants as values
use Rattle.dj_names.specs.declared.run.Raised.{Raised}
use Rattle.dj_names.specs.declared.run.Charge.{Charge}
use Rattle.dj_names.specs.declared.run.Charge.TheVariants as charges
use Rattle.dj_names.specs.declared.native.NativeId.{NativeId}
use Rattle.dj_names.specs.trusted.Heaps.{Object, object_at, object_size}
use Rattle.dj_names.specs.trusted.Types.{Name, field_kind, parameters_of, class_type}
use Rattle.dj_edge.specs.declared.host.HostAnswer.{HostAnswer}
use Rattle.dj_model.specs.trusted.Types.{Prefix, Member, throwable_name}
use Rattle.dj_model.specs.trusted.Instructions.{Mode, Virtual, Special, Static, Interface, Instruction, Nop, Push, PushText, Load, Store, Increment, LoadElement, StoreElement, Move, Compute, Convert, Branch, Goto, Switch, Return, GetStatic, PutStatic, GetField, PutField, Invoke, New, NewArray, ArrayLength, Throw, CheckCast, InstanceOf, Monitor, Other}
use Rattle.dj_model.specs.trusted.Numbers.{is_of_kind}
use Rattle.dj_model.specs.trusted.Program.{Program, Body, Abstract, Native, Runs}
use Rattle.dj_model.specs.trusted.Linking.{FoundMethod, FoundField, resolve_method, resolve_field, select, special_method, place_of}
use Rattle.dj_model.specs.trusted.State.{Terms, Counting, Uncounted, Metered, Accounted, Part, Next, Goes, Effect, goes}
use Rattle.dj_model.specs.trusted.Values.{Values}
use Rattle.dj_model.specs.trusted.Arrays.{OnHeap, passes_limit}
use Rattle.dj_model.specs.trusted.Charging.{Charged, Fine, Over, charge_one}
use Rattle.dj_model.specs.trusted.Natives.{Answer, Returns, Raises, MakesText, KeepsText, MakesChars, SetsFields, SetsElements, Adds, Rethrows, Question, asks, answer}
use Rattle.dj_model.specs.trusted.Performing.{class_at_number, is_instance, seen, Counted, Within, Halts, ended_by, thrown_by, counted, Making, Made, NotMade, making, making_then, made_charged, text_object, chars_object, with_fields_in, with_elements_in, set_object, set_elements, returns, raises_after, returns_made, keeps_made, goes_on, perform, native_asked, native}
use Rattle.dj_model.specs.trusted.Members.{get_static, put_static, Holder, NullHolder, NoHolder, Holds, holder_at, get_from, put_in, get_field, put_field, Kept, with_literal, push_kept, check_cast, instance_of, throw_top, kinds_of, Arguments, arguments_of, are_instances, run_body, run_method, received, asked_class, call, call_with, invoke}
use Rattle.dj_model.specs.trusted.Effects.{values_effect, heap_effect, effect}

-- ---- other answers

abbrev pub part_given : List HostAnswer → Part → Part
part_given given x = record x { answers = given }

abbrev pub effect_given : List HostAnswer → Effect → Effect
effect_given given e = record { part = part_given given e.part; flow = e.flow }

-- the one effect, where it is there, is also the other one, but for the answers that are left
abbrev pub Follows : List HostAnswer → Option Effect → Option Effect → Type 0
Follows given None other = ⊤
Follows given (Some e) other = other ≡ Some (effect_given given e)

pub both_ways : {A B : Type 0} (P : A → B → Type 0) (b : Bool) (x y : A) (z w : B) → P x z → P y w → P (if b then x else y) (if b then z else w)
both_ways P true x y z w p q = p
both_ways P false x y z w p q = q

module _ (given : List HostAnswer) where
  -- ---- what follows an answer of a native method's own

  abbrev counted_given : Counted → Counted
  counted_given (Within x) = Within (part_given given x)
  counted_given (Halts e) = Halts (effect_given given e)

  abbrev making_given : Making → Making
  making_given (Made x r) = Made (part_given given x) r
  making_given (NotMade e) = NotMade (effect_given given e)

  ended_alike : (x : Part) (c : Charged) → ended_by (part_given given x) c ≡ counted_given (ended_by x c)
  ended_alike x (Fine account) = refl
  ended_alike x (Over charge account) = refl

  thrown_alike : (x : Part) (c : Charged) → thrown_by (part_given given x) c ≡ counted_given (thrown_by x c)
  thrown_alike x (Fine account) = refl
  thrown_alike x (Over charge account) = refl

  counted_alike : (counting : Counting) (x : Part) (charge : Charge) (n : ℕ) → counted counting (part_given given x) charge n ≡ counted_given (counted counting x charge n)
  counted_alike Uncounted x charge n = refl
  counted_alike (Metered most) x charge n = ended_alike x (charge_one most x.account charge n)
  counted_alike (Accounted most) x charge n = thrown_alike x (charge_one most x.account charge n)

  making_alike : (limit : Option ℕ) (x : Part) (o : Object Ty) → making limit (part_given given x) o ≡ making_given (making limit x o)
  making_alike limit x o = both_ways (λ (m n : Making). n ≡ making_given m) (passes_limit limit (x.heap.used + object_size o)) _ _ _ _ refl refl

  making_then_alike : (limit : Option ℕ) (o : Object Ty) (c : Counted) → making_then limit o (counted_given c) ≡ making_given (making_then limit o c)
  making_then_alike limit o (Within x) = making_alike limit x o
  making_then_alike limit o (Halts e) = refl

  made_alike : (terms : Terms) (x : Part) (o : Object Ty) → made_charged terms (part_given given x) o ≡ making_given (made_charged terms x o)
  made_alike terms x o =
      ap (making_then terms.limit o) (counted_alike terms.counting x charges.Alloc (object_size o))
      ∙ making_then_alike terms.limit o (counted terms.counting x charges.Alloc (object_size o))

  set_alike : (x : Part) (r : ℕ) (o : Option (Object Ty)) → set_object (part_given given x) r o ≡ part_given given (set_object x r o)
  set_alike x r None = refl
  set_alike x r (Some o) = refl

  raises_alike : (x : Part) (raised : Option Raised) → raises_after (part_given given x) raised ≡ effect_given given (raises_after x raised)
  raises_alike x None = refl
  raises_alike x (Some raised) = refl

  returns_alike : (m : Making) → returns_made (making_given m) ≡ effect_given given (returns_made m)
  returns_alike (Made x r) = refl
  returns_alike (NotMade e) = refl

  keeps_alike : (object : ℕ) (m : Making) → keeps_made object (making_given m) ≡ effect_given given (keeps_made object m)
  keeps_alike object (Made x r) =
      ap (λ (y : Part). returns y (Some (values.Ref object))) (set_alike x object (with_fields_in (object_at x.heap.objects object) (values.Ref r ∷ [])))
  keeps_alike object (NotMade e) = refl

  goes_alike : (c : Counted) → goes_on (counted_given c) ≡ effect_given given (goes_on c)
  goes_alike (Within x) = refl
  goes_alike (Halts e) = refl

  -- it reads no answers and takes none
  pub perform_alike : (prefix : Prefix) (terms : Terms) (x : Part) (a : Answer) → perform prefix terms (part_given given x) a ≡ effect_given given (perform prefix terms x a)
  unfolding perform
  perform_alike prefix terms x (Returns result) = refl
  perform_alike prefix terms x (Raises raised) = refl
  perform_alike prefix terms x (MakesText units) =
      ap returns_made (made_alike terms x (text_object prefix units)) ∙ returns_alike (made_charged terms x (text_object prefix units))
  perform_alike prefix terms x (KeepsText object units) =
      ap (keeps_made object) (made_alike terms x (text_object prefix units)) ∙ keeps_alike object (made_charged terms x (text_object prefix units))
  perform_alike prefix terms x (MakesChars units) =
      ap returns_made (made_alike terms x (chars_object units)) ∙ returns_alike (made_charged terms x (chars_object units))
  perform_alike prefix terms x (SetsFields object vs) =
      ap (λ (y : Part). goes y (Goes Next)) (set_alike x object (with_fields_in (object_at x.heap.objects object) vs))
  perform_alike prefix terms x (SetsElements array contents raised) =
      ap (λ (y : Part). raises_after y raised) (set_alike x array (with_elements_in (object_at x.heap.objects array) contents))
      ∙ raises_alike (set_elements x array contents) raised
  perform_alike prefix terms x (Adds charge n) = ap goes_on (counted_alike terms.counting x charge n) ∙ goes_alike (counted terms.counting x charge n)
  perform_alike prefix terms x (Rethrows object) = refl

  -- ---- values and arrays

  -- where the host has nothing to give
  abbrev bare : Part → Part
  bare x = part_given [] x

  -- and where it gives these answers
  abbrev more : Part → Part
  more x = part_given given x

  values_follow : (x : Part) (v : Option Values) → Follows given (option_map (values_effect (bare x)) v) (option_map (values_effect (more x)) v)
  values_follow x None = tt
  values_follow x (Some v) = refl

  heap_follows : (x : Part) (e : Option (OnHeap Ty)) → Follows given (option_map (heap_effect (bare x)) e) (option_map (heap_effect (more x)) e)
  heap_follows x None = tt
  heap_follows x (Some e) = refl

  module _ (program : Program) (prefix : Prefix) (terms : Terms) where
    asked_follows : (x : Part) (id : NativeId) (args : List Value) (question : Option Question)
        → Follows given (native_asked program prefix terms (bare x) id args question) (native_asked program prefix terms (more x) id args question)
    asked_follows x id args None = ap Some (perform_alike prefix terms (bare x) (answer id (seen program prefix x.heap) args))
    asked_follows x id args (Some question) = tt

    native_follows : (x : Part) (id : NativeId) (args : List Value) → Follows given (native program prefix terms (bare x) id args) (native program prefix terms (more x) id args)
    unfolding native
    native_follows x id args = asked_follows x id args (asks id args)

    -- ---- members

    get_static_follows : (x : Part) (kind : Option Kind) (found : Option FoundField) → Follows given (get_static program (bare x) kind found) (get_static program (more x) kind found)
    get_static_follows x None found = tt
    get_static_follows x (Some kind) None = tt
    get_static_follows x (Some kind) (Some found) = refl

    put_static_follows : (x : Part) (kind : Option Kind) (found : Option FoundField) (operands : List Value)
        → Follows given (put_static program (bare x) kind found operands) (put_static program (more x) kind found operands)
    put_static_follows x None found operands = tt
    put_static_follows x (Some kind) None operands = tt
    put_static_follows x (Some kind) (Some found) [] = tt
    put_static_follows x (Some kind) (Some found) (v ∷ rest) = both_ways (Follows given) (is_of_kind kind v) _ _ _ _ refl tt

    get_from_alike : (x : Part) (rest : List Value) (kind : Kind) (place : ℕ) (h : Holder) → get_from (more x) rest kind place h ≡ effect_given given (get_from (bare x) rest kind place h)
    get_from_alike x rest kind place NullHolder = refl
    get_from_alike x rest kind place NoHolder = refl
    get_from_alike x rest kind place (Holds class fields) = refl

    put_in_alike : (x : Part) (rest : List Value) (place r : ℕ) (v : Value) (h : Holder) → put_in (more x) rest place r v h ≡ effect_given given (put_in (bare x) rest place r v h)
    put_in_alike x rest place r v NullHolder = refl
    put_in_alike x rest place r v NoHolder = refl
    put_in_alike x rest place r v (Holds class fields) = refl

    get_field_follows : (x : Part) (kind : Option Kind) (found : Option FoundField) (operands : List Value)
        → Follows given (get_field program prefix (bare x) kind found operands) (get_field program prefix (more x) kind found operands)
    get_field_follows x (Some kind) (Some found) (values.Ref r ∷ rest) =
        ap Some (get_from_alike x rest kind (place_of program found) (holder_at program prefix found.class x.heap r))
    get_field_follows x (Some kind) (Some found) _ = tt
    get_field_follows x (Some kind) None operands = tt
    get_field_follows x None found operands = tt

    put_field_follows : (x : Part) (kind : Option Kind) (found : Option FoundField) (operands : List Value)
        → Follows given (put_field program prefix (bare x) kind found operands) (put_field program prefix (more x) kind found operands)
    put_field_follows x (Some kind) (Some found) (v ∷ (values.Ref r ∷ rest)) = both_ways (Follows given) (is_of_kind kind v) _ _ _ _
        (ap Some (put_in_alike x rest (place_of program found) r v (holder_at program prefix found.class x.heap r))) tt
    put_field_follows x (Some kind) (Some found) _ = tt
    put_field_follows x (Some kind) None operands = tt
    put_field_follows x None found operands = tt

    push_follows : (x : Part) (units : List ℕ) (k : Option Kept) → Follows given (Some (push_kept (bare x) units k)) (Some (push_kept (more x) units k))
    push_follows x units None = refl
    push_follows x units (Some k) = refl

    abbrev IsAlike : Effect → Effect → Type 0
    IsAlike e other = Some other ≡ Some (effect_given given e)

    cast_follows : (x : Part) (class : Ty) (operands : List Value) → Follows given (check_cast program prefix (bare x) class operands) (check_cast program prefix (more x) class operands)
    cast_follows x class (values.Ref r ∷ rest) = both_ways IsAlike (is_instance program prefix x.heap r class) _ _ _ _ refl refl
    cast_follows x class _ = tt

    instance_of_follows : (x : Part) (class : Ty) (operands : List Value)
        → Follows given (instance_of program prefix (bare x) class operands) (instance_of program prefix (more x) class operands)
    instance_of_follows x class (values.Ref r ∷ rest) = refl
    instance_of_follows x class _ = tt

    throw_follows : (x : Part) (operands : List Value) → Follows given (throw_top program prefix (bare x) operands) (throw_top program prefix (more x) operands)
    throw_follows x (values.Ref r ∷ rest) =
        both_ways IsAlike (nat_eq r 0) _ _ _ _ refl
        (both_ways IsAlike (is_instance program prefix x.heap r (class_type (throwable_name prefix))) _ _ _ _ refl refl)
    throw_follows x _ = tt

    -- ---- calls

    body_follows : (x : Part) (found : FoundMethod) (receiver args : List Value) (types : List Ty) (body : Body)
        → Follows given (run_body program prefix terms (bare x) found receiver args types body) (run_body program prefix terms (more x) found receiver args types body)
    body_follows x found receiver args types Abstract = refl
    body_follows x found receiver args types (Runs code) = refl
    body_follows x found receiver args types (Native id) =
        both_ways (Follows given) (are_instances program prefix x.heap types args) _ _ _ _ (native_follows x id (receiver ++ args)) refl

    run_follows : (x : Part) (receiver args : List Value) (types : List Ty) (found : Option FoundMethod)
        → Follows given (run_method program prefix terms (bare x) receiver args types found) (run_method program prefix terms (more x) receiver args types found)
    run_follows x receiver args types None = refl
    run_follows x receiver args types (Some found) = body_follows x found receiver args types found.method.body

    received_follows : (x : Part) (r : ℕ) (declaring : Name) (e other : Option Effect) → Follows given e other
        → Follows given (received program prefix (bare x) r declaring e) (received program prefix (more x) r declaring other)
    received_follows x r declaring e other k =
        both_ways (Follows given) (nat_eq r 0) _ _ _ _ refl (both_ways (Follows given) (is_instance program prefix x.heap r (class_type declaring)) _ _ _ _ k refl)

    call_follows : (own : Name) (mode : Mode) (x : Part) (resolved : FoundMethod) (types : List Ty) (args rest : List Value)
        → Follows given (call program prefix terms own mode (bare x) resolved types args rest) (call program prefix terms own mode (more x) resolved types args rest)
    call_follows own Static x resolved types args rest = run_follows (record x { operands = rest }) [] args types (Some resolved)
    call_follows own Special x resolved types args (values.Ref r ∷ rest) =
        received_follows (record x { operands = rest }) r (asked_class resolved (special_method program own resolved)) _ _
        (run_follows (record x { operands = rest }) (values.Ref r ∷ []) args types (special_method program own resolved))
    call_follows own Virtual x resolved types args (values.Ref r ∷ rest) =
        received_follows (record x { operands = rest }) r resolved.class _ _
        (run_follows (record x { operands = rest }) (values.Ref r ∷ []) args types (select program prefix resolved (class_at_number x.heap r)))
    call_follows own (Interface count) x resolved types args (values.Ref r ∷ rest) =
        received_follows (record x { operands = rest }) r resolved.class _ _
        (run_follows (record x { operands = rest }) (values.Ref r ∷ []) args types (select program prefix resolved (class_at_number x.heap r)))
    call_follows own mode x resolved types args _ = tt

    call_with_follows : (own : Name) (mode : Mode) (desc : Desc) (x : Part) (found : Option FoundMethod) (a : Option Arguments)
        → Follows given (call_with program prefix terms own mode desc (bare x) found a) (call_with program prefix terms own mode desc (more x) found a)
    call_with_follows own mode desc x None a = tt
    call_with_follows own mode desc x (Some resolved) None = tt
    call_with_follows own mode desc x (Some resolved) (Some a) = call_follows own mode x resolved (parameters_of desc) a.values a.rest

    invoke_follows : (own : Name) (mode : Mode) (m : Member) (x : Part)
        → Follows given (invoke program prefix terms own mode m (bare x)) (invoke program prefix terms own mode m (more x))
    unfolding invoke
    invoke_follows own mode m x = call_with_follows own mode m.desc x (resolve_method program prefix m) (arguments_of (kinds_of (parameters_of m.desc)) x.operands)

    -- ---- every family

    pub effect_follows : (own : Name) (i : Instruction) (x : Part) → Follows given (effect program prefix terms own i (bare x)) (effect program prefix terms own i (more x))
    unfolding effect
    effect_follows own (PushText units) x = push_follows x units (with_literal terms.limit prefix x.heap x.literals units)
    effect_follows own (LoadElement access) x = heap_follows x _
    effect_follows own (StoreElement access) x = heap_follows x _
    effect_follows own (GetStatic m) x = get_static_follows x (field_kind m.desc) (resolve_field program prefix m)
    effect_follows own (PutStatic m) x = put_static_follows x (field_kind m.desc) (resolve_field program prefix m) x.operands
    effect_follows own (GetField m) x = get_field_follows x (field_kind m.desc) (resolve_field program prefix m) x.operands
    effect_follows own (PutField m) x = put_field_follows x (field_kind m.desc) (resolve_field program prefix m) x.operands
    effect_follows own (Invoke mode m) x = invoke_follows own mode m x
    effect_follows own (New class) x = refl
    effect_follows own (NewArray class element) x = heap_follows x _
    effect_follows own ArrayLength x = heap_follows x _
    effect_follows own Throw x = throw_follows x x.operands
    effect_follows own (CheckCast class) x = cast_follows x class x.operands
    effect_follows own (InstanceOf class) x = instance_of_follows x class x.operands
    effect_follows own Nop x = values_follow x _
    effect_follows own (Push v) x = values_follow x _
    effect_follows own (Load kind slot) x = values_follow x _
    effect_follows own (Store kind slot) x = values_follow x _
    effect_follows own (Increment slot by) x = values_follow x _
    effect_follows own (Move operation) x = values_follow x _
    effect_follows own (Compute operation) x = values_follow x _
    effect_follows own (Convert operation) x = values_follow x _
    effect_follows own (Branch test target) x = values_follow x _
    effect_follows own (Goto target) x = values_follow x _
    effect_follows own (Switch pairs default) x = values_follow x _
    effect_follows own (Return kind) x = values_follow x _
    effect_follows own Monitor x = values_follow x _
    effect_follows own (Other op named) x = values_follow x _
