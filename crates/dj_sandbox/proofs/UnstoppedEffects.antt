-- Where nobody counts charges no instruction ends a run by one, throws the object that stops a run, or changes the account.
use Rattle.std.proofs.Common.{◌≡◌, ℕ, ◌+◌, Bool, true, false, ℤ, pos, negsuc, List, [], ◌∷◌, ◌++◌, Option, Some, None, nat_eq, refl, ◌∙◌, if◌then◌else◌}
use Rattle.std.specs.Option.{option_map}
use Rattle.std.specs.Prelude.{IfSome}
use Rattle.dj_names.specs.declared.descriptor.Kind.{Kind}
use Rattle.dj_names.specs.declared.descriptor.Ty.{Ty}
use Rattle.dj_names.specs.declared.descriptor.Desc.{Desc}
use Rattle.dj_names.specs.declared.run.Value.{Value}
use Rattle.dj_names.specs.declared.run.Value.TheVariants as values
use Rattle.dj_names.specs.declared.run.Element.{Element}
use Rattle.dj_names.specs.declared.run.Raised.{Raised}
use Rattle.dj_names.specs.declared.native.NativeId.{NativeId}
use Rattle.dj_names.specs.trusted.Heaps.{Object, Heap, object_at, object_size, array_size, element_at}
use Rattle.dj_names.specs.trusted.Types.{Name, field_kind, parameters_of, class_type}
use Rattle.dj_edge.specs.declared.host.HostAnswer.{HostAnswer}
use Rattle.dj_model.specs.trusted.Types.{Prefix, Member, is_stop, throwable_name}
use Rattle.dj_model.specs.trusted.Instructions.{Access, Mode, Virtual, Special, Static, Interface, Instruction, Nop, Push, PushText, Load, Store, Increment, LoadElement, StoreElement, Move, Compute, Convert, Branch, Goto, Switch, Return, GetStatic, PutStatic, GetField, PutField, Invoke, New, NewArray, ArrayLength, Throw, CheckCast, InstanceOf, Monitor, Other}
use Rattle.dj_model.specs.trusted.Numbers.{is_of_kind}
use Rattle.dj_model.specs.trusted.Program.{Program, Body, Abstract, Native, Runs}
use Rattle.dj_model.specs.trusted.Linking.{FoundMethod, FoundField, resolve_method, resolve_field, select, special_method, place_of}
use Rattle.dj_model.specs.trusted.State.{Part, Effect}
use Rattle.dj_model.specs.trusted.Values.{Values}
use Rattle.dj_model.specs.trusted.Arrays.{OnHeap, Found, Null, NoArray, IsArray, array_at, only, access_kind, load_at, load_from, load_element, store_at, store_in, is_taken, store_element, length_of, array_length, passes_limit, make, make_elements, make_array}
use Rattle.dj_model.specs.trusted.Natives.{Answer, Returns, Raises, MakesText, KeepsText, MakesChars, SetsFields, SetsElements, Adds, Rethrows, Question, asks, answered, answer, host_answer}
use Rattle.dj_model.specs.trusted.Performing.{class_at_number, is_instance, takes, seen, Making, Made, NotMade, making, text_object, chars_object, with_fields_in, with_elements_in, set_object, set_elements, raises_after, returns_made, keeps_made, perform, with_answer, host_asked, native_asked, native}
use Rattle.dj_model.specs.trusted.Members.{get_static, put_static, Holder, NullHolder, NoHolder, Holds, holder_at, get_from, put_in, get_field, put_field, Kept, with_literal, push_kept, check_cast, instance_of, throw_top, kinds_of, Arguments, arguments_of, are_instances, run_body, run_method, received, asked_class, call, call_with, invoke}
use Rattle.dj_model.specs.trusted.Effects.{values_effect, flow_of, heap_effect, new_object, effect}
use Rattle.dj_model.proofs.Flows.{either_way}
use Rattle.dj_model.proofs.Fits.{PlainFlow}
use Rattle.dj_sandbox.specs.Laws.{uncounted}

-- the run goes on, or ends otherwise than by a charge, and the account is as before
abbrev pub IsUncharged : Part → Effect → Type 0
IsUncharged x e = PlainFlow e.flow × (e.part.account ≡ x.account)

abbrev pub IsUnchargedIfSome : Part → Option Effect → Type 0
IsUnchargedIfSome x e = IfSome e (IsUncharged x)

-- ---- values and arrays

values_plain : (x : Part) (v : Option Values) → IsUnchargedIfSome x (option_map (values_effect x) v)
values_plain x None = tt
values_plain x (Some v) = (tt, refl)

abbrev IsPlainResult : OnHeap Ty → Type 0
IsPlainResult e = PlainFlow (flow_of e.result)

heap_plain : (x : Part) (e : OnHeap Ty) → IsPlainResult e → IsUncharged x (heap_effect x e)
heap_plain x e k = (k, refl)

some_heap_plain : (x : Part) (e : Option (OnHeap Ty)) → IfSome e IsPlainResult → IsUnchargedIfSome x (option_map (heap_effect x) e)
some_heap_plain x None k = tt
some_heap_plain x (Some e) k = heap_plain x e k

load_at_plain : (heap : Heap Ty) (operands rest : List Value) (element : Element) (z : Option ℤ) → IsPlainResult (load_at heap operands rest element z)
load_at_plain heap operands rest element None = tt
load_at_plain heap operands rest element (Some z) = tt

load_from_plain : (heap : Heap Ty) (operands rest : List Value) (index : ℤ) (found : Found Ty) → IsPlainResult (load_from heap operands rest index found)
load_from_plain heap operands rest index Null = tt
load_from_plain heap operands rest index NoArray = tt
load_from_plain heap operands rest index (IsArray class element contents) = load_at_plain heap operands rest element (element_at contents index)

load_plain : (access : Access) (heap : Heap Ty) (operands : List Value) → IfSome (load_element access heap operands) IsPlainResult
unfolding load_element
load_plain access heap (values.Int index ∷ (values.Ref r ∷ rest)) =
    load_from_plain heap (values.Int index ∷ (values.Ref r ∷ rest)) rest index (only access (array_at heap r))
load_plain access heap _ = tt

store_at_plain : (heap : Heap Ty) (operands rest : List Value) (r : ℕ) (array : Object Ty) (z : Option ℤ) (takes : Bool)
    → IsPlainResult (store_at heap operands rest r array z takes)
store_at_plain heap operands rest r array None takes = tt
store_at_plain heap operands rest r array (Some z) true = tt
store_at_plain heap operands rest r array (Some z) false = tt

store_in_plain : (heap : Heap Ty) (operands rest : List Value) (r : ℕ) (index : ℤ) (v : Value) (takes : Bool) (found : Found Ty)
    → IsPlainResult (store_in heap operands rest r index v takes found)
store_in_plain heap operands rest r index v takes Null = tt
store_in_plain heap operands rest r index v takes NoArray = tt
store_in_plain heap operands rest r index v takes (IsArray class element contents) =
    store_at_plain heap operands rest r _ (element_at contents index) takes

store_plain : (takes : ℕ → ℕ → Bool) (access : Access) (heap : Heap Ty) (operands : List Value)
    → IfSome (store_element takes access heap operands) IsPlainResult
unfolding store_element
store_plain takes access heap (v ∷ (values.Int index ∷ (values.Ref r ∷ rest))) = go (is_of_kind (access_kind access) v) where
  e : OnHeap Ty
  e = store_in heap (v ∷ (values.Int index ∷ (values.Ref r ∷ rest))) rest r index v (is_taken takes r v) (only access (array_at heap r))

  go : (b : Bool) → IfSome (if b then Some e else None) IsPlainResult
  go true = store_in_plain heap (v ∷ (values.Int index ∷ (values.Ref r ∷ rest))) rest r index v (is_taken takes r v) (only access (array_at heap r))
  go false = tt
store_plain takes access heap _ = tt

length_of_plain : (heap : Heap Ty) (operands rest : List Value) (found : Found Ty) → IsPlainResult (length_of heap operands rest found)
length_of_plain heap operands rest Null = tt
length_of_plain heap operands rest NoArray = tt
length_of_plain heap operands rest (IsArray class element contents) = tt

length_plain : (heap : Heap Ty) (operands : List Value) → IfSome (array_length heap operands) IsPlainResult
unfolding array_length
length_plain heap (values.Ref r ∷ rest) = length_of_plain heap (values.Ref r ∷ rest) rest (array_at heap r)
length_plain heap _ = tt

make_plain : (limit : Option ℕ) (heap : Heap Ty) (operands rest : List Value) (o : Object Ty) → IsPlainResult (make limit heap operands rest o)
make_plain limit heap operands rest o = either_way IsPlainResult (passes_limit limit (heap.used + object_size o)) _ _ tt tt

make_elements_plain : (full : Bool) (class : Ty) (element : Element) (heap : Heap Ty) (operands rest : List Value) (n : ℕ)
    → IsPlainResult (make_elements full class element heap operands rest n)
make_elements_plain true class element heap operands rest n = tt
make_elements_plain false class element heap operands rest n = tt

make_array_plain : (limit : Option ℕ) (class : Ty) (element : Element) (heap : Heap Ty) (operands : List Value)
    → IfSome (make_array limit class element heap operands) IsPlainResult
unfolding make_array
make_array_plain limit class element heap (values.Int (pos n) ∷ rest) =
    make_elements_plain (passes_limit limit (heap.used + array_size element n)) class element heap (values.Int (pos n) ∷ rest) rest n
make_array_plain limit class element heap (values.Int (negsuc n) ∷ rest) = tt
make_array_plain limit class element heap _ = tt

-- ---- native methods

abbrev IsUnchargedMaking : Part → Making → Type 0
IsUnchargedMaking x (Made y r) = y.account ≡ x.account
IsUnchargedMaking x (NotMade e) = IsUncharged x e

making_plain : (limit : Option ℕ) (x : Part) (o : Object Ty) → IsUnchargedMaking x (making limit x o)
making_plain limit x o = either_way (IsUnchargedMaking x) (passes_limit limit (x.heap.used + object_size o)) _ _ (tt, refl) refl

set_same : (x : Part) (r : ℕ) (o : Option (Object Ty)) → (set_object x r o).account ≡ x.account
set_same x r None = refl
set_same x r (Some o) = refl

returns_plain : (x : Part) (m : Making) → IsUnchargedMaking x m → IsUncharged x (returns_made m)
returns_plain x (Made y r) k = (tt, k)
returns_plain x (NotMade e) k = k

keeps_plain : (x : Part) (object : ℕ) (m : Making) → IsUnchargedMaking x m → IsUncharged x (keeps_made object m)
keeps_plain x object (Made y r) k = (tt, set_same y object (with_fields_in (object_at y.heap.objects object) (values.Ref r ∷ [])) ∙ k)
keeps_plain x object (NotMade e) k = k

raises_plain : (x y : Part) (raised : Option Raised) → y.account ≡ x.account → IsUncharged x (raises_after y raised)
raises_plain x y None k = (tt, k)
raises_plain x y (Some raised) k = (tt, k)

perform_plain : (prefix : Prefix) (limit : Option ℕ) (x : Part) (a : Answer) → IsUncharged x (perform prefix (uncounted limit) x a)
unfolding perform
perform_plain prefix limit x (Returns result) = (tt, refl)
perform_plain prefix limit x (Raises raised) = (tt, refl)
perform_plain prefix limit x (MakesText units) = returns_plain x (making limit x (text_object prefix units)) (making_plain limit x (text_object prefix units))
perform_plain prefix limit x (KeepsText object units) = keeps_plain x object (making limit x (text_object prefix units)) (making_plain limit x (text_object prefix units))
perform_plain prefix limit x (MakesChars units) = returns_plain x (making limit x (chars_object units)) (making_plain limit x (chars_object units))
perform_plain prefix limit x (SetsFields object vs) = (tt, set_same x object (with_fields_in (object_at x.heap.objects object) vs))
perform_plain prefix limit x (SetsElements array contents raised) =
    raises_plain x (set_elements x array contents) raised (set_same x array (with_elements_in (object_at x.heap.objects array) contents))
perform_plain prefix limit x (Adds charge n) = (tt, refl)
perform_plain prefix limit x (Rethrows object) =
    (either_way PlainFlow (is_stop prefix (class_at_number x.heap object)) _ _ tt tt, refl)

module _ (program : Program) (prefix : Prefix) (limit : Option ℕ) where
  -- with these answers left the account is the same
  answer_plain : (x : Part) (left : List HostAnswer) (id : NativeId) (args : List Value) (z : Option ℤ)
      → IsUnchargedIfSome x (with_answer program prefix (uncounted limit) (record x { answers = left }) id args z)
  answer_plain x left id args None = tt
  answer_plain x left id args (Some z) = perform_plain prefix limit (record x { answers = left }) (host_answer id (seen program prefix x.heap) z args)

  host_plain : (x : Part) (id : NativeId) (args : List Value) (question : Question) (answers : List HostAnswer)
      → IsUnchargedIfSome x (host_asked program prefix (uncounted limit) x id args question answers)
  host_plain x id args question [] = tt
  host_plain x id args question (first ∷ rest) = answer_plain x rest id args (answered question first)

  asked_plain : (x : Part) (id : NativeId) (args : List Value) (question : Option Question)
      → IsUnchargedIfSome x (native_asked program prefix (uncounted limit) x id args question)
  asked_plain x id args None = perform_plain prefix limit x (answer id (seen program prefix x.heap) args)
  asked_plain x id args (Some question) = host_plain x id args question x.answers

  native_plain : (x : Part) (id : NativeId) (args : List Value) → IsUnchargedIfSome x (native program prefix (uncounted limit) x id args)
  unfolding native
  native_plain x id args = asked_plain x id args (asks id args)

  -- ---- members

  get_static_plain : (x : Part) (kind : Option Kind) (found : Option FoundField) → IsUnchargedIfSome x (get_static program x kind found)
  get_static_plain x None found = tt
  get_static_plain x (Some kind) None = tt
  get_static_plain x (Some kind) (Some found) = (tt, refl)

  put_static_plain : (x : Part) (kind : Option Kind) (found : Option FoundField) (operands : List Value) → IsUnchargedIfSome x (put_static program x kind found operands)
  put_static_plain x None found operands = tt
  put_static_plain x (Some kind) None operands = tt
  put_static_plain x (Some kind) (Some found) [] = tt
  put_static_plain x (Some kind) (Some found) (v ∷ rest) = either_way (IsUnchargedIfSome x) (is_of_kind kind v) _ _ (tt, refl) tt

  get_from_plain : (x : Part) (rest : List Value) (kind : Kind) (place : ℕ) (h : Holder) → IsUncharged x (get_from x rest kind place h)
  get_from_plain x rest kind place NullHolder = (tt, refl)
  get_from_plain x rest kind place NoHolder = (tt, refl)
  get_from_plain x rest kind place (Holds class fields) = (tt, refl)

  put_in_plain : (x : Part) (rest : List Value) (place r : ℕ) (v : Value) (h : Holder) → IsUncharged x (put_in x rest place r v h)
  put_in_plain x rest place r v NullHolder = (tt, refl)
  put_in_plain x rest place r v NoHolder = (tt, refl)
  put_in_plain x rest place r v (Holds class fields) = (tt, refl)

  get_field_plain : (x : Part) (kind : Option Kind) (found : Option FoundField) (operands : List Value)
      → IsUnchargedIfSome x (get_field program prefix x kind found operands)
  get_field_plain x (Some kind) (Some found) (values.Ref r ∷ rest) = get_from_plain x rest kind (place_of program found) (holder_at program prefix found.class x.heap r)
  get_field_plain x (Some kind) (Some found) _ = tt
  get_field_plain x (Some kind) None operands = tt
  get_field_plain x None found operands = tt

  put_field_plain : (x : Part) (kind : Option Kind) (found : Option FoundField) (operands : List Value)
      → IsUnchargedIfSome x (put_field program prefix x kind found operands)
  put_field_plain x (Some kind) (Some found) (v ∷ (values.Ref r ∷ rest)) = go (is_of_kind kind v) where
    go : (b : Bool) → IsUnchargedIfSome x (if b then Some (put_in x rest (place_of program found) r v (holder_at program prefix found.class x.heap r)) else None)
    go true = put_in_plain x rest (place_of program found) r v (holder_at program prefix found.class x.heap r)
    go false = tt
  put_field_plain x (Some kind) (Some found) _ = tt
  put_field_plain x (Some kind) None operands = tt
  put_field_plain x None found operands = tt

  push_plain : (x : Part) (units : List ℕ) (k : Option Kept) → IsUncharged x (push_kept x units k)
  push_plain x units None = (tt, refl)
  push_plain x units (Some k) = (tt, refl)

  cast_plain : (x : Part) (class : Ty) (operands : List Value) → IsUnchargedIfSome x (check_cast program prefix x class operands)
  cast_plain x class (values.Ref r ∷ rest) = either_way (IsUncharged x) (is_instance program prefix x.heap r class) _ _ (tt, refl) (tt, refl)
  cast_plain x class _ = tt

  instance_of_plain : (x : Part) (class : Ty) (operands : List Value) → IsUnchargedIfSome x (instance_of program prefix x class operands)
  instance_of_plain x class (values.Ref r ∷ rest) = (tt, refl)
  instance_of_plain x class _ = tt

  throw_plain : (x : Part) (operands : List Value) → IsUnchargedIfSome x (throw_top program prefix x operands)
  throw_plain x (values.Ref r ∷ rest) =
      either_way (IsUncharged x) (nat_eq r 0) _ _ (tt, refl)
      (either_way (IsUncharged x) (is_instance program prefix x.heap r (class_type (throwable_name prefix))) _ _ (tt, refl) (tt, refl))
  throw_plain x _ = tt

  -- ---- calls; what is done with these operands is done of the same account

  body_plain : (x : Part) (left : List Value) (found : FoundMethod) (receiver args : List Value) (types : List Ty) (body : Body)
      → IsUnchargedIfSome x (run_body program prefix (uncounted limit) (record x { operands = left }) found receiver args types body)
  body_plain x left found receiver args types Abstract = (tt, refl)
  body_plain x left found receiver args types (Runs code) = (tt, refl)
  body_plain x left found receiver args types (Native id) =
      either_way (IsUnchargedIfSome x) (are_instances program prefix x.heap types args) _ _ (native_plain (record x { operands = left }) id (receiver ++ args)) (tt, refl)

  run_plain : (x : Part) (left : List Value) (receiver args : List Value) (types : List Ty) (found : Option FoundMethod)
      → IsUnchargedIfSome x (run_method program prefix (uncounted limit) (record x { operands = left }) receiver args types found)
  run_plain x left receiver args types None = (tt, refl)
  run_plain x left receiver args types (Some found) = body_plain x left found receiver args types found.method.body

  received_plain : (x : Part) (left : List Value) (r : ℕ) (declaring : Name) (e : Option Effect) → IsUnchargedIfSome x e
      → IsUnchargedIfSome x (received program prefix (record x { operands = left }) r declaring e)
  received_plain x left r declaring e k =
      either_way (IsUnchargedIfSome x) (nat_eq r 0) _ _ (tt, refl)
      (either_way (IsUnchargedIfSome x) (is_instance program prefix x.heap r (class_type declaring)) _ _ k (tt, refl))

  call_plain : (own : Name) (mode : Mode) (x : Part) (resolved : FoundMethod) (types : List Ty) (args rest : List Value)
      → IsUnchargedIfSome x (call program prefix (uncounted limit) own mode x resolved types args rest)
  call_plain own Static x resolved types args rest = run_plain x rest [] args types (Some resolved)
  call_plain own Special x resolved types args (values.Ref r ∷ rest) =
      received_plain x rest r (asked_class resolved (special_method program own resolved)) _
      (run_plain x rest (values.Ref r ∷ []) args types (special_method program own resolved))
  call_plain own Virtual x resolved types args (values.Ref r ∷ rest) =
      received_plain x rest r resolved.class _
      (run_plain x rest (values.Ref r ∷ []) args types (select program prefix resolved (class_at_number x.heap r)))
  call_plain own (Interface count) x resolved types args (values.Ref r ∷ rest) =
      received_plain x rest r resolved.class _
      (run_plain x rest (values.Ref r ∷ []) args types (select program prefix resolved (class_at_number x.heap r)))
  call_plain own mode x resolved types args _ = tt

  call_with_plain : (own : Name) (mode : Mode) (desc : Desc) (x : Part) (found : Option FoundMethod) (a : Option Arguments)
      → IsUnchargedIfSome x (call_with program prefix (uncounted limit) own mode desc x found a)
  call_with_plain own mode desc x None a = tt
  call_with_plain own mode desc x (Some resolved) None = tt
  call_with_plain own mode desc x (Some resolved) (Some a) = call_plain own mode x resolved (parameters_of desc) a.values a.rest

  invoke_plain : (own : Name) (mode : Mode) (m : Member) (x : Part) → IsUnchargedIfSome x (invoke program prefix (uncounted limit) own mode m x)
  unfolding invoke
  invoke_plain own mode m x = call_with_plain own mode m.desc x (resolve_method program prefix m) (arguments_of (kinds_of (parameters_of m.desc)) x.operands)

  -- ---- every family

  pub effect_plain : (own : Name) (i : Instruction) (x : Part) → IsUnchargedIfSome x (effect program prefix (uncounted limit) own i x)
  unfolding effect
  effect_plain own (PushText units) x = push_plain x units (with_literal limit prefix x.heap x.literals units)
  effect_plain own (LoadElement access) x = some_heap_plain x _ (load_plain access x.heap x.operands)
  effect_plain own (StoreElement access) x = some_heap_plain x _ (store_plain (takes program prefix x.heap) access x.heap x.operands)
  effect_plain own (GetStatic m) x = get_static_plain x (field_kind m.desc) (resolve_field program prefix m)
  effect_plain own (PutStatic m) x = put_static_plain x (field_kind m.desc) (resolve_field program prefix m) x.operands
  effect_plain own (GetField m) x = get_field_plain x (field_kind m.desc) (resolve_field program prefix m) x.operands
  effect_plain own (PutField m) x = put_field_plain x (field_kind m.desc) (resolve_field program prefix m) x.operands
  effect_plain own (Invoke mode m) x = invoke_plain own mode m x
  effect_plain own (New class) x = heap_plain x (make limit x.heap x.operands x.operands (new_object program prefix class)) (make_plain limit x.heap x.operands x.operands (new_object program prefix class))
  effect_plain own (NewArray class element) x = some_heap_plain x _ (make_array_plain limit class element x.heap x.operands)
  effect_plain own ArrayLength x = some_heap_plain x _ (length_plain x.heap x.operands)
  effect_plain own Throw x = throw_plain x x.operands
  effect_plain own (CheckCast class) x = cast_plain x class x.operands
  effect_plain own (InstanceOf class) x = instance_of_plain x class x.operands
  effect_plain own Nop x = values_plain x _
  effect_plain own (Push v) x = values_plain x _
  effect_plain own (Load kind slot) x = values_plain x _
  effect_plain own (Store kind slot) x = values_plain x _
  effect_plain own (Increment slot by) x = values_plain x _
  effect_plain own (Move operation) x = values_plain x _
  effect_plain own (Compute operation) x = values_plain x _
  effect_plain own (Convert operation) x = values_plain x _
  effect_plain own (Branch test target) x = values_plain x _
  effect_plain own (Goto target) x = values_plain x _
  effect_plain own (Switch pairs default) x = values_plain x _
  effect_plain own (Return kind) x = values_plain x _
  effect_plain own Monitor x = values_plain x _
  effect_plain own (Other op named) x = values_plain x _
