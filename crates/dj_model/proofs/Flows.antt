-- How the run goes on after an instruction: no end names a class, and only where the accounter counts the object that stops a run is thrown.
use Rattle.std.proofs.Common.{◌≡◌, ℕ, ◌+◌, Bool, true, false, ℤ, pos, negsuc, List, [], ◌∷◌, ◌++◌, Option, Some, None, nat_eq, refl, if◌then◌else◌}
use Rattle.std.specs.Option.{option_map}
use Rattle.std.specs.Prelude.{⊤, IfSome}
use Rattle.dj_names.specs.declared.descriptor.Kind.{Kind}
use Rattle.dj_names.specs.declared.descriptor.Ty.{Ty}
use Rattle.dj_names.specs.declared.descriptor.Desc.{Desc}
use Rattle.dj_names.specs.declared.run.Value.{Value}
use Rattle.dj_names.specs.declared.run.Value.TheVariants as values
use Rattle.dj_names.specs.declared.run.Element.{Element}
use Rattle.dj_names.specs.declared.run.Raised.{Raised}
use Rattle.dj_names.specs.declared.run.Charge.{Charge}
use Rattle.dj_names.specs.declared.run.Charge.TheVariants as charges
use Rattle.dj_names.specs.declared.native.NativeId.{NativeId}
use Rattle.dj_names.specs.trusted.Heaps.{Object, Heap, object_size, array_size, element_at}
use Rattle.dj_names.specs.trusted.Library.{stop_class}
use Rattle.dj_names.specs.trusted.Types.{Name, field_kind, parameters_of, class_type}
use Rattle.dj_edge.specs.declared.host.HostAnswer.{HostAnswer}
use Rattle.dj_model.specs.trusted.Types.{Prefix, Member, is_stop, throwable_name}
use Rattle.dj_model.specs.trusted.Instructions.{Access, Mode, Virtual, Special, Static, Interface, Instruction, Nop, Push, PushText, Load, Store, Increment, LoadElement, StoreElement, Move, Compute, Convert, Branch, Goto, Switch, Return, GetStatic, PutStatic, GetField, PutField, Invoke, New, NewArray, ArrayLength, Throw, CheckCast, InstanceOf, Monitor, Other}
use Rattle.dj_model.specs.trusted.Numbers.{is_of_kind}
use Rattle.dj_model.specs.trusted.Program.{Program, Body, Abstract, Native, Runs}
use Rattle.dj_model.specs.trusted.Linking.{FoundMethod, FoundField, resolve_method, resolve_field, select, special_method, place_of}
use Rattle.dj_model.specs.trusted.State.{Terms, Counting, Uncounted, Metered, Accounted, Part, Flow, Goes, Catch, Stop, Call, End, Effect}
use Rattle.dj_model.specs.trusted.Values.{Values}
use Rattle.dj_model.specs.trusted.Arrays.{OnHeap, Found, Null, NoArray, IsArray, array_at, only, access_kind, load_at, load_from, load_element, store_at, store_in, is_taken, store_element, length_of, array_length, passes_limit, make, make_elements, make_array}
use Rattle.dj_model.specs.trusted.Charging.{Charged, Fine, Over, charge_one}
use Rattle.dj_model.specs.trusted.Natives.{Answer, Returns, Raises, MakesText, KeepsText, MakesChars, SetsFields, SetsElements, Adds, Rethrows, Question, asks, answered, answer, host_answer}
use Rattle.dj_model.specs.trusted.Performing.{class_at_number, is_instance, takes, seen, Counted, Within, Halts, ended_by, thrown_by, counted, Making, Made, NotMade, making, making_then, text_object, chars_object, set_elements, raises_after, returns_made, keeps_made, goes_on, perform, with_answer, host_asked, native_asked, native}
use Rattle.dj_model.specs.trusted.Members.{get_static, put_static, Holder, NullHolder, NoHolder, Holds, holder_at, get_from, put_in, get_field, put_field, Kept, with_literal, push_kept, check_cast, instance_of, throw_top, kinds_of, Arguments, arguments_of, are_instances, run_body, run_method, received, asked_class, call, call_with, invoke}
use Rattle.dj_model.specs.trusted.Effects.{values_effect, flow_of, heap_effect, new_object, effect}
use Rattle.dj_model.specs.Mapping.{outcome_map, KeepsStop}

abbrev pub KeepsFlow : (Name → Name) → Flow → Type 0
KeepsFlow f (Goes way) = ⊤
KeepsFlow f (Catch exception) = ⊤
KeepsFlow f Stop = f stop_class ≡ stop_class
KeepsFlow f (Call m arguments) = ⊤
KeepsFlow f (End outcome) = outcome_map f outcome ≡ outcome

pub either_way : {A : Type 0} (P : A → Type 0) (b : Bool) (x y : A) → P x → P y → P (if b then x else y)
either_way P true x y a b = a
either_way P false x y a b = b

module _ (f : Name → Name) where
  -- ---- values and arrays

  keeps_values : (x : Part) (v : Option Values) → IfSome (option_map (values_effect x) v) (λ e. KeepsFlow f e.flow)
  keeps_values x None = tt
  keeps_values x (Some v) = tt

  abbrev KeepsResult : OnHeap Ty → Type 0
  KeepsResult e = KeepsFlow f (flow_of e.result)

  keeps_heap : (x : Part) (e : Option (OnHeap Ty)) → IfSome e KeepsResult → IfSome (option_map (heap_effect x) e) (λ e. KeepsFlow f e.flow)
  keeps_heap x None k = tt
  keeps_heap x (Some e) k = k

  load_at_keeps : (heap : Heap Ty) (operands rest : List Value) (element : Element) (z : Option ℤ) → KeepsResult (load_at heap operands rest element z)
  load_at_keeps heap operands rest element None = tt
  load_at_keeps heap operands rest element (Some z) = tt

  load_from_keeps : (heap : Heap Ty) (operands rest : List Value) (index : ℤ) (found : Found Ty) → KeepsResult (load_from heap operands rest index found)
  load_from_keeps heap operands rest index Null = tt
  load_from_keeps heap operands rest index NoArray = refl
  load_from_keeps heap operands rest index (IsArray class element contents) = load_at_keeps heap operands rest element (element_at contents index)

  load_keeps : (access : Access) (heap : Heap Ty) (operands : List Value) → IfSome (load_element access heap operands) KeepsResult
  unfolding load_element
  load_keeps access heap (values.Int index ∷ (values.Ref r ∷ rest)) =
      load_from_keeps heap (values.Int index ∷ (values.Ref r ∷ rest)) rest index (only access (array_at heap r))
  load_keeps access heap _ = tt

  store_at_keeps : (heap : Heap Ty) (operands rest : List Value) (r : ℕ) (array : Object Ty) (z : Option ℤ) (takes : Bool)
      → KeepsResult (store_at heap operands rest r array z takes)
  store_at_keeps heap operands rest r array None takes = tt
  store_at_keeps heap operands rest r array (Some z) true = tt
  store_at_keeps heap operands rest r array (Some z) false = tt

  store_in_keeps : (heap : Heap Ty) (operands rest : List Value) (r : ℕ) (index : ℤ) (v : Value) (takes : Bool) (found : Found Ty)
      → KeepsResult (store_in heap operands rest r index v takes found)
  store_in_keeps heap operands rest r index v takes Null = tt
  store_in_keeps heap operands rest r index v takes NoArray = refl
  store_in_keeps heap operands rest r index v takes (IsArray class element contents) =
      store_at_keeps heap operands rest r _ (element_at contents index) takes

  store_keeps : (takes : ℕ → ℕ → Bool) (access : Access) (heap : Heap Ty) (operands : List Value)
      → IfSome (store_element takes access heap operands) KeepsResult
  unfolding store_element
  store_keeps takes access heap (v ∷ (values.Int index ∷ (values.Ref r ∷ rest))) = go (is_of_kind (access_kind access) v) where
    e : OnHeap Ty
    e = store_in heap (v ∷ (values.Int index ∷ (values.Ref r ∷ rest))) rest r index v (is_taken takes r v) (only access (array_at heap r))

    go : (b : Bool) → IfSome (if b then Some e else None) KeepsResult
    go true = store_in_keeps heap (v ∷ (values.Int index ∷ (values.Ref r ∷ rest))) rest r index v (is_taken takes r v) (only access (array_at heap r))
    go false = tt
  store_keeps takes access heap _ = tt

  length_of_keeps : (heap : Heap Ty) (operands rest : List Value) (found : Found Ty) → KeepsResult (length_of heap operands rest found)
  length_of_keeps heap operands rest Null = tt
  length_of_keeps heap operands rest NoArray = refl
  length_of_keeps heap operands rest (IsArray class element contents) = tt

  length_keeps : (heap : Heap Ty) (operands : List Value) → IfSome (array_length heap operands) KeepsResult
  unfolding array_length
  length_keeps heap (values.Ref r ∷ rest) = length_of_keeps heap (values.Ref r ∷ rest) rest (array_at heap r)
  length_keeps heap _ = tt

  make_keeps : (limit : Option ℕ) (heap : Heap Ty) (operands rest : List Value) (o : Object Ty) → KeepsResult (make limit heap operands rest o)
  make_keeps limit heap operands rest o = either_way KeepsResult (passes_limit limit (heap.used + object_size o)) _ _ refl tt

  make_elements_keeps : (full : Bool) (class : Ty) (element : Element) (heap : Heap Ty) (operands rest : List Value) (n : ℕ)
      → KeepsResult (make_elements full class element heap operands rest n)
  make_elements_keeps true class element heap operands rest n = refl
  make_elements_keeps false class element heap operands rest n = tt

  make_array_keeps : (limit : Option ℕ) (class : Ty) (element : Element) (heap : Heap Ty) (operands : List Value)
      → IfSome (make_array limit class element heap operands) KeepsResult
  unfolding make_array
  make_array_keeps limit class element heap (values.Int (pos n) ∷ rest) =
      make_elements_keeps (passes_limit limit (heap.used + array_size element n)) class element heap (values.Int (pos n) ∷ rest) rest n
  make_array_keeps limit class element heap (values.Int (negsuc n) ∷ rest) = tt
  make_array_keeps limit class element heap _ = tt

  -- ---- native methods

  abbrev KeepsSome : Option Effect → Type 0
  KeepsSome e = IfSome e (λ e. KeepsFlow f e.flow)

  abbrev KeepsCounted : Counted → Type 0
  KeepsCounted (Within x) = ⊤
  KeepsCounted (Halts e) = KeepsFlow f e.flow

  abbrev KeepsMaking : Making → Type 0
  KeepsMaking (Made x r) = ⊤
  KeepsMaking (NotMade e) = KeepsFlow f e.flow

  ended_keeps : (x : Part) (c : Charged) → KeepsCounted (ended_by x c)
  ended_keeps x (Fine account) = tt
  ended_keeps x (Over charge account) = refl

  thrown_keeps : f stop_class ≡ stop_class → (x : Part) (c : Charged) → KeepsCounted (thrown_by x c)
  thrown_keeps keeps x (Fine account) = tt
  thrown_keeps keeps x (Over charge account) = keeps

  counted_keeps : (counting : Counting) → KeepsStop f counting → (x : Part) (charge : Charge) (n : ℕ) → KeepsCounted (counted counting x charge n)
  counted_keeps Uncounted keeps x charge n = tt
  counted_keeps (Metered most) keeps x charge n = ended_keeps x (charge_one most x.account charge n)
  counted_keeps (Accounted most) keeps x charge n = thrown_keeps keeps x (charge_one most x.account charge n)

  making_keeps : (limit : Option ℕ) (x : Part) (o : Object Ty) → KeepsMaking (making limit x o)
  making_keeps limit x o = either_way KeepsMaking (passes_limit limit (x.heap.used + object_size o)) _ _ refl tt

  making_then_keeps : (limit : Option ℕ) (o : Object Ty) (c : Counted) → KeepsCounted c → KeepsMaking (making_then limit o c)
  making_then_keeps limit o (Within x) k = making_keeps limit x o
  making_then_keeps limit o (Halts e) k = k

  returns_keeps : (m : Making) → KeepsMaking m → KeepsFlow f (returns_made m).flow
  returns_keeps (Made x r) k = tt
  returns_keeps (NotMade e) k = k

  keeps_keeps : (object : ℕ) (m : Making) → KeepsMaking m → KeepsFlow f (keeps_made object m).flow
  keeps_keeps object (Made x r) k = tt
  keeps_keeps object (NotMade e) k = k

  goes_keeps : (c : Counted) → KeepsCounted c → KeepsFlow f (goes_on c).flow
  goes_keeps (Within x) k = tt
  goes_keeps (Halts e) k = k

  raises_keeps : (x : Part) (raised : Option Raised) → KeepsFlow f (raises_after x raised).flow
  raises_keeps x None = tt
  raises_keeps x (Some raised) = tt

  perform_keeps : (prefix : Prefix) (terms : Terms) → KeepsStop f terms.counting → (x : Part) (a : Answer) → KeepsFlow f (perform prefix terms x a).flow
  unfolding perform
  perform_keeps prefix terms keeps x (Returns result) = tt
  perform_keeps prefix terms keeps x (Raises raised) = tt
  perform_keeps prefix terms keeps x (MakesText units) =
      returns_keeps _ (making_then_keeps terms.limit (text_object prefix units) _ (counted_keeps terms.counting keeps x charges.Alloc _))
  perform_keeps prefix terms keeps x (KeepsText object units) =
      keeps_keeps object _ (making_then_keeps terms.limit (text_object prefix units) _ (counted_keeps terms.counting keeps x charges.Alloc _))
  perform_keeps prefix terms keeps x (MakesChars units) =
      returns_keeps _ (making_then_keeps terms.limit (chars_object units) _ (counted_keeps terms.counting keeps x charges.Alloc _))
  perform_keeps prefix terms keeps x (SetsFields object vs) = tt
  perform_keeps prefix terms keeps x (SetsElements array contents raised) = raises_keeps (set_elements x array contents) raised
  perform_keeps prefix terms keeps x (Adds charge n) = goes_keeps _ (counted_keeps terms.counting keeps x charge n)
  perform_keeps prefix terms keeps x (Rethrows object) = either_way (KeepsFlow f) (is_stop prefix (class_at_number x.heap object)) _ _ tt tt

  module _ (program : Program) (prefix : Prefix) (terms : Terms) (keeps : KeepsStop f terms.counting) where
    answer_keeps : (x : Part) (id : NativeId) (args : List Value) (z : Option ℤ) → KeepsSome (with_answer program prefix terms x id args z)
    answer_keeps x id args None = tt
    answer_keeps x id args (Some z) = perform_keeps prefix terms keeps x (host_answer id (seen program prefix x.heap) z args)

    host_keeps : (x : Part) (id : NativeId) (args : List Value) (question : Question) (answers : List HostAnswer)
        → KeepsSome (host_asked program prefix terms x id args question answers)
    host_keeps x id args question [] = tt
    host_keeps x id args question (first ∷ rest) = answer_keeps (record x { answers = rest }) id args (answered question first)

    asked_keeps : (x : Part) (id : NativeId) (args : List Value) (question : Option Question) → KeepsSome (native_asked program prefix terms x id args question)
    asked_keeps x id args None = perform_keeps prefix terms keeps x (answer id (seen program prefix x.heap) args)
    asked_keeps x id args (Some question) = host_keeps x id args question x.answers

    native_keeps : (x : Part) (id : NativeId) (args : List Value) → KeepsSome (native program prefix terms x id args)
    unfolding native
    native_keeps x id args = asked_keeps x id args (asks id args)

    -- ---- members

    get_static_keeps : (x : Part) (kind : Option Kind) (found : Option FoundField) → KeepsSome (get_static program x kind found)
    get_static_keeps x None found = tt
    get_static_keeps x (Some kind) None = tt
    get_static_keeps x (Some kind) (Some found) = tt

    put_static_keeps : (x : Part) (kind : Option Kind) (found : Option FoundField) (operands : List Value) → KeepsSome (put_static program x kind found operands)
    put_static_keeps x None found operands = tt
    put_static_keeps x (Some kind) None operands = tt
    put_static_keeps x (Some kind) (Some found) [] = tt
    put_static_keeps x (Some kind) (Some found) (v ∷ rest) = either_way KeepsSome (is_of_kind kind v) _ _ tt tt

    get_from_keeps : (x : Part) (rest : List Value) (kind : Kind) (place : ℕ) (h : Holder) → KeepsFlow f (get_from x rest kind place h).flow
    get_from_keeps x rest kind place NullHolder = tt
    get_from_keeps x rest kind place NoHolder = refl
    get_from_keeps x rest kind place (Holds class fields) = tt

    put_in_keeps : (x : Part) (rest : List Value) (place r : ℕ) (v : Value) (h : Holder) → KeepsFlow f (put_in x rest place r v h).flow
    put_in_keeps x rest place r v NullHolder = tt
    put_in_keeps x rest place r v NoHolder = refl
    put_in_keeps x rest place r v (Holds class fields) = tt

    get_field_keeps : (x : Part) (kind : Option Kind) (found : Option FoundField) (operands : List Value) → KeepsSome (get_field program prefix x kind found operands)
    get_field_keeps x (Some kind) (Some found) (values.Ref r ∷ rest) = get_from_keeps x rest kind (place_of program found) (holder_at program prefix found.class x.heap r)
    get_field_keeps x (Some kind) (Some found) _ = tt
    get_field_keeps x (Some kind) None operands = tt
    get_field_keeps x None found operands = tt

    put_field_keeps : (x : Part) (kind : Option Kind) (found : Option FoundField) (operands : List Value) → KeepsSome (put_field program prefix x kind found operands)
    put_field_keeps x (Some kind) (Some found) (v ∷ (values.Ref r ∷ rest)) = go (is_of_kind kind v) where
      go : (b : Bool) → KeepsSome (if b then Some (put_in x rest (place_of program found) r v (holder_at program prefix found.class x.heap r)) else None)
      go true = put_in_keeps x rest (place_of program found) r v (holder_at program prefix found.class x.heap r)
      go false = tt
    put_field_keeps x (Some kind) (Some found) _ = tt
    put_field_keeps x (Some kind) None operands = tt
    put_field_keeps x None found operands = tt

    push_keeps : (x : Part) (units : List ℕ) (k : Option Kept) → KeepsFlow f (push_kept x units k).flow
    push_keeps x units None = refl
    push_keeps x units (Some k) = tt

    cast_keeps : (x : Part) (class : Ty) (operands : List Value) → KeepsSome (check_cast program prefix x class operands)
    cast_keeps x class (values.Ref r ∷ rest) = either_way (λ (e : Effect). KeepsFlow f e.flow) (is_instance program prefix x.heap r class) _ _ tt tt
    cast_keeps x class _ = tt

    instance_of_keeps : (x : Part) (class : Ty) (operands : List Value) → KeepsSome (instance_of program prefix x class operands)
    instance_of_keeps x class (values.Ref r ∷ rest) = tt
    instance_of_keeps x class _ = tt

    throw_keeps : (x : Part) (operands : List Value) → KeepsSome (throw_top program prefix x operands)
    throw_keeps x (values.Ref r ∷ rest) =
        either_way (λ (e : Effect). KeepsFlow f e.flow) (nat_eq r 0) _ _ tt
        (either_way (λ (e : Effect). KeepsFlow f e.flow) (is_instance program prefix x.heap r (class_type (throwable_name prefix))) _ _ tt refl)
    throw_keeps x _ = tt

    body_keeps : (x : Part) (found : FoundMethod) (receiver args : List Value) (types : List Ty) (body : Body)
        → KeepsSome (run_body program prefix terms x found receiver args types body)
    body_keeps x found receiver args types Abstract = refl
    body_keeps x found receiver args types (Runs code) = tt
    body_keeps x found receiver args types (Native id) =
        either_way KeepsSome (are_instances program prefix x.heap types args) _ _ (native_keeps x id (receiver ++ args)) refl

    run_keeps : (x : Part) (receiver args : List Value) (types : List Ty) (found : Option FoundMethod)
        → KeepsSome (run_method program prefix terms x receiver args types found)
    run_keeps x receiver args types None = refl
    run_keeps x receiver args types (Some found) = body_keeps x found receiver args types found.method.body

    received_keeps : (x : Part) (r : ℕ) (declaring : Name) (e : Option Effect) → KeepsSome e → KeepsSome (received program prefix x r declaring e)
    received_keeps x r declaring e k =
        either_way KeepsSome (nat_eq r 0) _ _ tt (either_way KeepsSome (is_instance program prefix x.heap r (class_type declaring)) _ _ k refl)

    call_keeps : (own : Name) (mode : Mode) (x : Part) (resolved : FoundMethod) (types : List Ty) (args rest : List Value)
        → KeepsSome (call program prefix terms own mode x resolved types args rest)
    call_keeps own Static x resolved types args rest = run_keeps (record x { operands = rest }) [] args types (Some resolved)
    call_keeps own Special x resolved types args (values.Ref r ∷ rest) =
        received_keeps (record x { operands = rest }) r (asked_class resolved (special_method program own resolved)) _
        (run_keeps (record x { operands = rest }) (values.Ref r ∷ []) args types (special_method program own resolved))
    call_keeps own Virtual x resolved types args (values.Ref r ∷ rest) =
        received_keeps (record x { operands = rest }) r resolved.class _
        (run_keeps (record x { operands = rest }) (values.Ref r ∷ []) args types (select program prefix resolved (class_at_number x.heap r)))
    call_keeps own (Interface count) x resolved types args (values.Ref r ∷ rest) =
        received_keeps (record x { operands = rest }) r resolved.class _
        (run_keeps (record x { operands = rest }) (values.Ref r ∷ []) args types (select program prefix resolved (class_at_number x.heap r)))
    call_keeps own mode x resolved types args _ = tt

    call_with_keeps : (own : Name) (mode : Mode) (desc : Desc) (x : Part) (found : Option FoundMethod) (a : Option Arguments)
        → KeepsSome (call_with program prefix terms own mode desc x found a)
    call_with_keeps own mode desc x None a = tt
    call_with_keeps own mode desc x (Some resolved) None = tt
    call_with_keeps own mode desc x (Some resolved) (Some a) = call_keeps own mode x resolved (parameters_of desc) a.values a.rest

    invoke_keeps : (own : Name) (mode : Mode) (m : Member) (x : Part) → KeepsSome (invoke program prefix terms own mode m x)
    unfolding invoke
    invoke_keeps own mode m x = call_with_keeps own mode m.desc x (resolve_method program prefix m) (arguments_of (kinds_of (parameters_of m.desc)) x.operands)

    -- ---- every family

    pub flows_kept : (own : Name) (i : Instruction) (x : Part) → KeepsSome (effect program prefix terms own i x)
    unfolding effect
    flows_kept own (PushText units) x = push_keeps x units (with_literal terms.limit prefix x.heap x.literals units)
    flows_kept own (LoadElement access) x = keeps_heap x _ (load_keeps access x.heap x.operands)
    flows_kept own (StoreElement access) x = keeps_heap x _ (store_keeps (takes program prefix x.heap) access x.heap x.operands)
    flows_kept own (GetStatic m) x = get_static_keeps x (field_kind m.desc) (resolve_field program prefix m)
    flows_kept own (PutStatic m) x = put_static_keeps x (field_kind m.desc) (resolve_field program prefix m) x.operands
    flows_kept own (GetField m) x = get_field_keeps x (field_kind m.desc) (resolve_field program prefix m) x.operands
    flows_kept own (PutField m) x = put_field_keeps x (field_kind m.desc) (resolve_field program prefix m) x.operands
    flows_kept own (Invoke mode m) x = invoke_keeps own mode m x
    flows_kept own (New class) x = make_keeps terms.limit x.heap x.operands x.operands (new_object program prefix class)
    flows_kept own (NewArray class element) x = keeps_heap x _ (make_array_keeps terms.limit class element x.heap x.operands)
    flows_kept own ArrayLength x = keeps_heap x _ (length_keeps x.heap x.operands)
    flows_kept own Throw x = throw_keeps x x.operands
    flows_kept own (CheckCast class) x = cast_keeps x class x.operands
    flows_kept own (InstanceOf class) x = instance_of_keeps x class x.operands
    flows_kept own Nop x = keeps_values x _
    flows_kept own (Push v) x = keeps_values x _
    flows_kept own (Load kind slot) x = keeps_values x _
    flows_kept own (Store kind slot) x = keeps_values x _
    flows_kept own (Increment slot by) x = keeps_values x _
    flows_kept own (Move operation) x = keeps_values x _
    flows_kept own (Compute operation) x = keeps_values x _
    flows_kept own (Convert operation) x = keeps_values x _
    flows_kept own (Branch test target) x = keeps_values x _
    flows_kept own (Goto target) x = keeps_values x _
    flows_kept own (Switch pairs default) x = keeps_values x _
    flows_kept own (Return kind) x = keeps_values x _
    flows_kept own Monitor x = keeps_values x _
    flows_kept own (Other op named) x = keeps_values x _
