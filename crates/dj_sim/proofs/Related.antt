-- The same instruction on two terms: where native methods, texts, objects and arrays are alike, each effect is.
use Rattle.std.proofs.Common.{◌≡◌, zero, suc, ◌-◌, ℤ, map, set, refl, sym, ap, ◌∙◌, ℕ, Bool, true, false, List, [], ◌∷◌, ◌++◌, Option, Some, None, nat_eq, if◌then◌else◌}
use Rattle.std.specs.Prelude.{⊤, IfSome, slice_get}
use Rattle.std.specs.Option.{option_map}
use Rattle.dj_names.specs.declared.descriptor.Kind.{Kind}
use Rattle.dj_names.specs.declared.descriptor.Ty.{Ty}
use Rattle.dj_names.specs.declared.run.Element.{Element}
use Rattle.dj_names.specs.declared.run.Value.{Value}
use Rattle.dj_names.specs.declared.run.Value.TheVariants as values
use Rattle.dj_names.specs.declared.native.NativeId.{NativeId}
use Rattle.dj_names.specs.trusted.Heaps.{Object, Instance, Array, Text, Heap, class_of, object_at, with_object, element_at, with_element, kept, value_number, field_bits}
use Rattle.dj_names.specs.trusted.Types.{Name, class_type, parameters_of, field_kind}
use Rattle.dj_edge.specs.declared.host.HostAnswer.{HostAnswer}
use Rattle.dj_model.specs.trusted.Types.{Prefix, Member, throwable_name}
use Rattle.dj_model.specs.trusted.Instructions.{Access, Mode, Virtual, Special, Static, Interface, Instruction, Nop, Push, PushText, Load, Store, Increment, LoadElement, StoreElement, Move, Compute, Convert, Branch, Goto, Switch, Return, GetStatic, PutStatic, GetField, PutField, Invoke, New, NewArray, ArrayLength, Throw, CheckCast, InstanceOf, Monitor, Other}
use Rattle.dj_model.specs.trusted.Numbers.{is_of_kind}
use Rattle.dj_model.specs.trusted.Program.{Program, Body, Abstract, Native, Runs}
use Rattle.dj_model.specs.trusted.Linking.{is_among, chain, member_class, FoundMethod, FoundField, resolve_method, resolve_field, select, special_method, place_of}
use Rattle.dj_model.specs.trusted.State.{Terms, Part, Effect}
use Rattle.dj_model.specs.trusted.Values.{Values}
use Rattle.dj_model.specs.trusted.Arrays.{OnHeap, Found, Null, NoArray, IsArray, array_in, array_at, only, reaches, access_kind, load_at, load_from, store_at, store_in, is_taken, length_of, load_element, store_element, array_length, make, make_array}
use Rattle.dj_model.specs.trusted.Natives.{Answer, Question, asks, answered, answer, host_answer}
use Rattle.dj_model.specs.trusted.Performing.{class_at_number, is_instance, takes, seen, perform, with_answer, host_asked, native_asked, native}
use Rattle.dj_model.specs.trusted.Members.{get_static, put_static, Holder, NullHolder, NoHolder, Holds, holder_in, holder_at, get_from, put_in, get_field, put_field, with_literal, push_kept, check_cast, instance_of, throw_top, kinds_of, Arguments, arguments_of, are_instances, run_body, run_method, received, asked_class, call, call_with, invoke}
use Rattle.dj_model.specs.trusted.Effects.{values_effect, flow_of, heap_effect, new_object, effect}
use Rattle.dj_model.proofs.Flows.{either_way}
use Rattle.dj_model.proofs.Fits.{PlainFlow}

-- ---- instructions that make nothing

-- the same objects, by their classes
abbrev pub SameClasses : Heap Ty → Heap Ty → Type 0
SameClasses a b = map class_of b.objects ≡ map class_of a.objects

-- the run doesn't end by a charge, and the object that stops it isn't thrown; and no object is made
abbrev pub IsMild : Heap Ty → Effect → Type 0
IsMild heap e = PlainFlow e.flow × SameClasses heap e.part.heap

abbrev pub MildSome : Heap Ty → Option Effect → Type 0
MildSome heap o = IfSome o (IsMild heap)

abbrev HeapMild : Heap Ty → OnHeap Ty → Type 0
HeapMild heap e = PlainFlow (flow_of e.result) × SameClasses heap e.heap

values_mild : (x : Part) (v : Option Values) → MildSome x.heap (option_map (values_effect x) v)
values_mild x None = tt
values_mild x (Some v) = (tt, refl)

heap_mild : (x : Part) (o : Option (OnHeap Ty)) → IfSome o (HeapMild x.heap) → MildSome x.heap (option_map (heap_effect x) o)
heap_mild x None k = tt
heap_mild x (Some e) k = k

classes_set : (objects : List (Object Ty)) (n : ℕ) (old now : Object Ty) → slice_get objects n ≡ Some old → class_of now ≡ class_of old → map class_of (set objects n now) ≡ map class_of objects
classes_set [] n old now e same = refl
classes_set (o ∷ objects) zero old now e same = let is : o ≡ old = cc in ap (λ c. c ∷ map class_of objects) (same ∙ ap class_of (sym is))
classes_set (o ∷ objects) (suc n) old now e same = ap (λ cs. class_of o ∷ cs) (classes_set objects n old now e same)

pub same_classes : (heap : Heap Ty) (r : ℕ) (old now : Object Ty) → object_at heap.objects r ≡ Some old → class_of now ≡ class_of old → SameClasses heap (with_object heap r now)
same_classes heap r old now e same = go (nat_eq r 0) refl where
  go : (b : Bool) → nat_eq r 0 ≡ b → SameClasses heap (with_object heap r now)
  go true null = absurd (let none : None ≡ Some old = rw null at e in cc)
  go false some = classes_set heap.objects (r - 1) old now (rw some at e) same

load_at_mild : (heap : Heap Ty) (operands rest : List Value) (element : Element) (z : Option ℤ) → HeapMild heap (load_at heap operands rest element z)
load_at_mild heap operands rest element None = (tt, refl)
load_at_mild heap operands rest element (Some z) = (tt, refl)

load_from_mild : (heap : Heap Ty) (operands rest : List Value) (index : ℤ) (found : Found Ty) → HeapMild heap (load_from heap operands rest index found)
load_from_mild heap operands rest index Null = (tt, refl)
load_from_mild heap operands rest index NoArray = (tt, refl)
load_from_mild heap operands rest index (IsArray class element contents) = load_at_mild heap operands rest element (element_at contents index)

load_mild : (access : Access) (heap : Heap Ty) (operands : List Value) → IfSome (load_element access heap operands) (HeapMild heap)
unfolding load_element
load_mild access heap (values.Int index ∷ (values.Ref r ∷ rest)) = load_from_mild heap (values.Int index ∷ (values.Ref r ∷ rest)) rest index (only access (array_at heap r))
load_mild access heap _ = tt

-- where a reference is an array, the object is there
abbrev IsThere : Heap Ty → ℕ → Found Ty → Type 0
IsThere heap r Null = ⊤
IsThere heap r NoArray = ⊤
IsThere heap r (IsArray class element contents) = object_at heap.objects r ≡ Some (Array class element contents)

array_there : (access : Access) (heap : Heap Ty) (r : ℕ) → IsThere heap r (only access (array_at heap r))
array_there access heap r = reached (array_at heap r) (either_way (IsThere heap r) (nat_eq r 0) _ _ tt (go (object_at heap.objects r) refl)) where
  go : (o : Option (Object Ty)) → object_at heap.objects r ≡ o → IsThere heap r (array_in o)
  go None e = tt
  go (Some (Instance class fields)) e = tt
  go (Some (Array class element contents)) e = e
  go (Some (Text class units)) e = tt

  reached : (found : Found Ty) → IsThere heap r found → IsThere heap r (only access found)
  reached Null k = tt
  reached NoArray k = tt
  reached (IsArray class element contents) k = either_way (IsThere heap r) (reaches access element) _ _ k tt

store_at_mild : (heap : Heap Ty) (operands rest : List Value) (r : ℕ) (now old : Object Ty) (z : Option ℤ) (takes : Bool) → object_at heap.objects r ≡ Some old → class_of now ≡ class_of old
    → HeapMild heap (store_at heap operands rest r now z takes)
store_at_mild heap operands rest r now old None takes e same = (tt, refl)
store_at_mild heap operands rest r now old (Some z) true e same = (tt, same_classes heap r old now e same)
store_at_mild heap operands rest r now old (Some z) false e same = (tt, refl)

store_in_mild : (heap : Heap Ty) (operands rest : List Value) (r : ℕ) (index : ℤ) (v : Value) (takes : Bool) (found : Found Ty) → IsThere heap r found
    → HeapMild heap (store_in heap operands rest r index v takes found)
store_in_mild heap operands rest r index v takes Null k = (tt, refl)
store_in_mild heap operands rest r index v takes NoArray k = (tt, refl)
store_in_mild heap operands rest r index v takes (IsArray class element contents) k =
    store_at_mild heap operands rest r (Array class element (with_element contents index (kept element (value_number v)))) (Array class element contents) (element_at contents index) takes k refl

store_mild : (takes : ℕ → ℕ → Bool) (access : Access) (heap : Heap Ty) (operands : List Value) → IfSome (store_element takes access heap operands) (HeapMild heap)
unfolding store_element
store_mild takes access heap (v ∷ (values.Int index ∷ (values.Ref r ∷ rest))) = either_way (λ (e : Option (OnHeap Ty)). IfSome e (HeapMild heap)) (is_of_kind (access_kind access) v) _ _
    (store_in_mild heap (v ∷ (values.Int index ∷ (values.Ref r ∷ rest))) rest r index v (is_taken takes r v) (only access (array_at heap r)) (array_there access heap r)) tt
store_mild takes access heap _ = tt

length_of_mild : (heap : Heap Ty) (operands rest : List Value) (found : Found Ty) → HeapMild heap (length_of heap operands rest found)
length_of_mild heap operands rest Null = (tt, refl)
length_of_mild heap operands rest NoArray = (tt, refl)
length_of_mild heap operands rest (IsArray class element contents) = (tt, refl)

length_mild : (heap : Heap Ty) (operands : List Value) → IfSome (array_length heap operands) (HeapMild heap)
unfolding array_length
length_mild heap (values.Ref r ∷ rest) = length_of_mild heap (values.Ref r ∷ rest) rest (array_at heap r)
length_mild heap _ = tt

module _ (program : Program) (prefix : Prefix) where
  get_static_mild : (x : Part) (kind : Option Kind) (found : Option FoundField) → MildSome x.heap (get_static program x kind found)
  get_static_mild x None found = tt
  get_static_mild x (Some kind) None = tt
  get_static_mild x (Some kind) (Some found) = (tt, refl)

  put_static_mild : (x : Part) (kind : Option Kind) (found : Option FoundField) (operands : List Value) → MildSome x.heap (put_static program x kind found operands)
  put_static_mild x None found operands = tt
  put_static_mild x (Some kind) None operands = tt
  put_static_mild x (Some kind) (Some found) [] = tt
  put_static_mild x (Some kind) (Some found) (v ∷ rest) = either_way (MildSome x.heap) (is_of_kind kind v) _ _ (tt, refl) tt

  get_from_mild : (x : Part) (rest : List Value) (kind : Kind) (place : ℕ) (h : Holder) → IsMild x.heap (get_from x rest kind place h)
  get_from_mild x rest kind place NullHolder = (tt, refl)
  get_from_mild x rest kind place NoHolder = (tt, refl)
  get_from_mild x rest kind place (Holds class fields) = (tt, refl)

  abbrev HolderThere : Part → ℕ → Holder → Type 0
  HolderThere x r NullHolder = ⊤
  HolderThere x r NoHolder = ⊤
  HolderThere x r (Holds class fields) = object_at x.heap.objects r ≡ Some (Instance class fields)

  holder_there : (x : Part) (declaring : Name) (r : ℕ) → HolderThere x r (holder_at program prefix declaring x.heap r)
  holder_there x declaring r = either_way (HolderThere x r) (nat_eq r 0) _ _ tt (go (object_at x.heap.objects r) refl) where
    go : (o : Option (Object Ty)) → object_at x.heap.objects r ≡ o → HolderThere x r (holder_in program prefix declaring o)
    go None e = tt
    go (Some (Instance class fields)) e = either_way (HolderThere x r) (is_among (chain program (member_class prefix class)) declaring) _ _ e tt
    go (Some (Array class element contents)) e = tt
    go (Some (Text class units)) e = tt

  put_in_mild : (x : Part) (rest : List Value) (place r : ℕ) (v : Value) (h : Holder) → HolderThere x r h → IsMild x.heap (put_in x rest place r v h)
  put_in_mild x rest place r v NullHolder k = (tt, refl)
  put_in_mild x rest place r v NoHolder k = (tt, refl)
  put_in_mild x rest place r v (Holds class fields) k = (tt, same_classes x.heap r (Instance class fields) (Instance class (set fields place (field_bits v))) k refl)

  get_field_mild : (x : Part) (kind : Option Kind) (found : Option FoundField) (operands : List Value) → MildSome x.heap (get_field program prefix x kind found operands)
  get_field_mild x (Some kind) (Some found) (values.Ref r ∷ rest) = get_from_mild x rest kind (place_of program found) (holder_at program prefix found.class x.heap r)
  get_field_mild x (Some kind) (Some found) _ = tt
  get_field_mild x (Some kind) None operands = tt
  get_field_mild x None found operands = tt

  put_field_mild : (x : Part) (kind : Option Kind) (found : Option FoundField) (operands : List Value) → MildSome x.heap (put_field program prefix x kind found operands)
  put_field_mild x (Some kind) (Some found) (v ∷ (values.Ref r ∷ rest)) = either_way (MildSome x.heap) (is_of_kind kind v) _ _
      (put_in_mild x rest (place_of program found) r v (holder_at program prefix found.class x.heap r) (holder_there x found.class r)) tt
  put_field_mild x (Some kind) (Some found) _ = tt
  put_field_mild x (Some kind) None operands = tt
  put_field_mild x None found operands = tt

  cast_mild : (x : Part) (class : Ty) (operands : List Value) → MildSome x.heap (check_cast program prefix x class operands)
  cast_mild x class (values.Ref r ∷ rest) = either_way (IsMild x.heap) (is_instance program prefix x.heap r class) _ _ (tt, refl) (tt, refl)
  cast_mild x class _ = tt

  instance_of_mild : (x : Part) (class : Ty) (operands : List Value) → MildSome x.heap (instance_of program prefix x class operands)
  instance_of_mild x class (values.Ref r ∷ rest) = (tt, refl)
  instance_of_mild x class _ = tt

  throw_mild : (x : Part) (operands : List Value) → MildSome x.heap (throw_top program prefix x operands)
  throw_mild x (values.Ref r ∷ rest) =
      either_way (IsMild x.heap) (nat_eq r 0) _ _ (tt, refl) (either_way (IsMild x.heap) (is_instance program prefix x.heap r (class_type (throwable_name prefix))) _ _ (tt, refl) (tt, refl))
  throw_mild x _ = tt

-- ---- every family

module _ (program : Program) (prefix : Prefix) (one two : Terms) (Related : Heap Ty → Option Effect → Option Effect → Type 0)
    (same : (heap : Heap Ty) (o : Option Effect) → MildSome heap o → Related heap o o)
    (performs : (x : Part) (a : Answer) → Related x.heap (Some (perform prefix one x a)) (Some (perform prefix two x a)))
    (texts : (x : Part) (units : List ℕ) → Related x.heap (Some (push_kept x units (with_literal one.limit prefix x.heap x.literals units))) (Some (push_kept x units (with_literal two.limit prefix x.heap x.literals units)))) where
  -- what is left to show of an instruction
  abbrev pub Makes : Instruction → Part → Type 0
  Makes (New class) x = Related x.heap (Some (heap_effect x (make one.limit x.heap x.operands x.operands (new_object program prefix class)))) (Some (heap_effect x (make two.limit x.heap x.operands x.operands (new_object program prefix class))))
  Makes (NewArray class element) x = Related x.heap (option_map (heap_effect x) (make_array one.limit class element x.heap x.operands)) (option_map (heap_effect x) (make_array two.limit class element x.heap x.operands))
  Makes i x = ⊤

  related_if : (heap : Heap Ty) (b : Bool) (x y u v : Option Effect) → Related heap x u → Related heap y v → Related heap (if b then x else y) (if b then u else v)
  related_if heap true x y u v e f = e
  related_if heap false x y u v e f = f

  native_related : (p : Part) (id : NativeId) (args : List Value) → Related p.heap (native program prefix one p id args) (native program prefix two p id args)
  unfolding native
  native_related p id args = go (asks id args) where
    given : (answers : List HostAnswer) (z : Option _) → Related p.heap (with_answer program prefix one (record p { answers = answers }) id args z) (with_answer program prefix two (record p { answers = answers }) id args z)
    given answers None = same _ _ tt
    given answers (Some z) = performs (record p { answers = answers }) (host_answer id (seen program prefix p.heap) z args)

    asked : (question : Question) (answers : List HostAnswer) → Related p.heap (host_asked program prefix one p id args question answers) (host_asked program prefix two p id args question answers)
    asked question [] = same _ _ tt
    asked question (first ∷ rest) = given rest (answered question first)

    go : (question : Option Question) → Related p.heap (native_asked program prefix one p id args question) (native_asked program prefix two p id args question)
    go None = performs p (answer id (seen program prefix p.heap) args)
    go (Some question) = asked question p.answers

  method_related : (p : Part) (receiver args : List Value) (types : List Ty) (found : Option FoundMethod)
      → Related p.heap (run_method program prefix one p receiver args types found) (run_method program prefix two p receiver args types found)
  method_related p receiver args types None = same _ _ (tt, refl)
  method_related p receiver args types (Some found) = go found.method.body where
    go : (body : Body) → Related p.heap (run_body program prefix one p found receiver args types body) (run_body program prefix two p found receiver args types body)
    go Abstract = same _ _ (tt, refl)
    go (Runs code) = same _ _ (tt, refl)
    go (Native id) = related_if p.heap (are_instances program prefix p.heap types args) _ _ _ _ (native_related p id (receiver ++ args)) (same _ _ (tt, refl))

  received_related : (p : Part) (r : ℕ) (declaring : Name) (a b : Option Effect) → Related p.heap a b → Related p.heap (received program prefix p r declaring a) (received program prefix p r declaring b)
  received_related p r declaring a b k = related_if p.heap (nat_eq r 0) _ _ _ _ (same _ _ (tt, refl)) (related_if p.heap (is_instance program prefix p.heap r (class_type declaring)) _ _ _ _ k (same _ _ (tt, refl)))

  call_related : (own : Name) (mode : Mode) (p : Part) (resolved : FoundMethod) (types : List Ty) (args rest : List Value)
      → Related p.heap (call program prefix one own mode p resolved types args rest) (call program prefix two own mode p resolved types args rest)
  call_related own Static p resolved types args rest = method_related (record p { operands = rest }) [] args types (Some resolved)
  call_related own Special p resolved types args (values.Ref r ∷ rest) =
      received_related (record p { operands = rest }) r (asked_class resolved (special_method program own resolved)) _ _ (method_related (record p { operands = rest }) (values.Ref r ∷ []) args types (special_method program own resolved))
  call_related own Virtual p resolved types args (values.Ref r ∷ rest) =
      received_related (record p { operands = rest }) r resolved.class _ _ (method_related (record p { operands = rest }) (values.Ref r ∷ []) args types (select program prefix resolved (class_at_number p.heap r)))
  call_related own (Interface count) p resolved types args (values.Ref r ∷ rest) =
      received_related (record p { operands = rest }) r resolved.class _ _ (method_related (record p { operands = rest }) (values.Ref r ∷ []) args types (select program prefix resolved (class_at_number p.heap r)))
  call_related own mode p resolved types args rest = same _ _ tt

  invoke_related : (own : Name) (mode : Mode) (m : Member) (p : Part) → Related p.heap (invoke program prefix one own mode m p) (invoke program prefix two own mode m p)
  unfolding invoke
  invoke_related own mode m p = go (resolve_method program prefix m) (arguments_of (kinds_of (parameters_of m.desc)) p.operands) where
    go : (resolved : Option FoundMethod) (a : Option Arguments) → Related p.heap (call_with program prefix one own mode m.desc p resolved a) (call_with program prefix two own mode m.desc p resolved a)
    go (Some resolved) (Some a) = call_related own mode p resolved (parameters_of m.desc) a.values a.rest
    go resolved a = same _ _ tt

  pub effect_related : (own : Name) (i : Instruction) (x : Part) → Makes i x → Related x.heap (effect program prefix one own i x) (effect program prefix two own i x)
  unfolding effect
  effect_related own (PushText units) x makes = texts x units
  effect_related own (LoadElement access) x makes = same _ _ (heap_mild x _ (load_mild access x.heap x.operands))
  effect_related own (StoreElement access) x makes = same _ _ (heap_mild x _ (store_mild (takes program prefix x.heap) access x.heap x.operands))
  effect_related own (GetStatic m) x makes = same _ _ (get_static_mild program prefix x (field_kind m.desc) (resolve_field program prefix m))
  effect_related own (PutStatic m) x makes = same _ _ (put_static_mild program prefix x (field_kind m.desc) (resolve_field program prefix m) x.operands)
  effect_related own (GetField m) x makes = same _ _ (get_field_mild program prefix x (field_kind m.desc) (resolve_field program prefix m) x.operands)
  effect_related own (PutField m) x makes = same _ _ (put_field_mild program prefix x (field_kind m.desc) (resolve_field program prefix m) x.operands)
  effect_related own (Invoke mode m) x makes = invoke_related own mode m x
  effect_related own (New class) x makes = makes
  effect_related own (NewArray class element) x makes = makes
  effect_related own ArrayLength x makes = same _ _ (heap_mild x _ (length_mild x.heap x.operands))
  effect_related own Throw x makes = same _ _ (throw_mild program prefix x x.operands)
  effect_related own (CheckCast class) x makes = same _ _ (cast_mild program prefix x class x.operands)
  effect_related own (InstanceOf class) x makes = same _ _ (instance_of_mild program prefix x class x.operands)
  effect_related own Nop x makes = same _ _ (values_mild x _)
  effect_related own (Push v) x makes = same _ _ (values_mild x _)
  effect_related own (Load kind slot) x makes = same _ _ (values_mild x _)
  effect_related own (Store kind slot) x makes = same _ _ (values_mild x _)
  effect_related own (Increment slot by) x makes = same _ _ (values_mild x _)
  effect_related own (Move operation) x makes = same _ _ (values_mild x _)
  effect_related own (Compute operation) x makes = same _ _ (values_mild x _)
  effect_related own (Convert operation) x makes = same _ _ (values_mild x _)
  effect_related own (Branch test target) x makes = same _ _ (values_mild x _)
  effect_related own (Goto target) x makes = same _ _ (values_mild x _)
  effect_related own (Switch pairs default) x makes = same _ _ (values_mild x _)
  effect_related own (Return kind) x makes = same _ _ (values_mild x _)
  effect_related own Monitor x makes = same _ _ (values_mild x _)
  effect_related own (Other op named) x makes = same _ _ (values_mild x _)
