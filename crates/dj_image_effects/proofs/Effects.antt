-- What each family of instructions does in the model, by numbers.
use Rattle.std.proofs.Common.{◌≡◌, ◌-◌, ◌<◌, ◌≤◌, ℕ, zero, suc, Bool, true, false, List, [], ◌∷◌, length, Option, Some, None, nat_eq, if◌then◌else◌, refl, sym, ap, ◌∙◌, arith}
use Rattle.std.specs.Prelude.{ℤ, slice_get}
use Rattle.std.specs.Option.{option_map}
use Rattle.std.proofs.lemmas.Bool.Decides.{nat_tests}
use Rattle.dj_names.specs.declared.descriptor.Kind.{Kind}
use Rattle.dj_names.specs.declared.descriptor.Ty.{Ty}
use Rattle.dj_names.specs.declared.run.Value.{Value}
use Rattle.dj_names.specs.declared.run.Value.TheVariants as values
use Rattle.dj_names.specs.declared.run.Element.{Element}
use Rattle.dj_names.specs.declared.run.Element.TheVariants as elements
use Rattle.dj_names.specs.trusted.Heaps.{Object, Instance, Heap, object_at}
use Rattle.dj_names.specs.Heaps.{heap_map}
use Rattle.dj_names.specs.trusted.Types.{Name, class_type, field_kind}
use Rattle.dj_edge.specs.declared.host.HostAnswer.{HostAnswer}
use Rattle.dj_model.specs.trusted.Types.{Member, string_name, throwable_name}
use Rattle.dj_model.specs.trusted.Instructions as model
use Rattle.dj_model.specs.trusted.Instructions.{Instruction, Access}
use Rattle.dj_model.specs.trusted.Linking.{FoundField, most_classes, is_among, chain, member_class, resolve_field, field_count, place_of, place_of_static, is_subtype}
use Rattle.dj_model.specs.trusted.State.{Terms, Part, Account}
use Rattle.dj_model.specs.trusted.Values.{on_values}
use Rattle.dj_model.specs.trusted.Arrays.{OnHeap, Found, Null, NoArray, IsArray, array_at, only, store_in, load_element, store_element, array_length, make_array}
use Rattle.dj_model.specs.Arrays.{on_heap_map}
use Rattle.dj_model.specs.trusted.Performing.{takes}
use Rattle.dj_model.specs.trusted.Effects as effects
use Rattle.dj_model.specs.trusted.Effects.{effect, heap_effect}
use Rattle.dj_model.proofs.MappedHeaps.{load_mapped, store_mapped, length_mapped, make_array_mapped}
use Rattle.dj_stack.specs.Frames.{top_operands}
use Rattle.dj_effects.specs.Actions.{action_view, is_other}
use Rattle.dj_effects.specs.declared.actions.PlainAction.{PlainAction}
use Rattle.dj_effects.specs.declared.actions.PlainAction.TheVariants as actions
use Rattle.dj_member_effects.specs.Fields.{get_field_by, put_field_by}
use Rattle.dj_member_effects.specs.Objects.{HasObject, check_cast_by, instance_of_by, new_by, throw_by}
use Rattle.dj_member_effects.specs.Statics.{get_static_by, put_static_by}
use Rattle.dj_member_effects.specs.Literals.{literals_effect, push_text_by, text_at}
use Rattle.dj_member_effects.specs.Numbering.{has_of, among_above, below_of}
use Rattle.dj_member_effects.proofs.FieldLaws.{get_field_is, put_field_is}
use Rattle.dj_member_effects.proofs.ObjectLaws.{new_is, check_cast_is, instance_of_is, throw_top_is, get_static_is, put_static_is}
use Rattle.dj_member_effects.proofs.LiteralLaws.{push_text_is}
use Rattle.dj_numbering.specs.Typed.{types_of}
use Rattle.dj_image.specs.Imaged.{Imaged, program_of, typed_of}
use Rattle.dj_initialisation.specs.Store.{AreTexts, IsStore}
use Rattle.dj_image_effects.specs.Taking.{IsTaken}
use Rattle.dj_image_effects.specs.Acting.{Machine, part_of, IsHeap, IsTopThere}
use Rattle.dj_image_effects.proofs.Reported.{IsOnValues, IsOnHeap, IsOnStatics, IsOnLiterals, IsThrown, types}

-- ---- on values

-- the instruction does something on values alone, where it does anything
abbrev pub is_on_values : PlainAction → Bool
is_on_values (actions.LoadElement access) = false
is_on_values (actions.StoreElement access) = false
is_on_values (actions.NewArray base element) = false
is_on_values actions.ArrayLength = false
is_on_values actions.Throw = false
is_on_values action = true

pub action_on_values : (imaged : Imaged) (action : PlainAction) → is_on_values action ≡ true → IsOnValues imaged (action_view action)
unfolding effect
action_on_values imaged actions.Nop e terms own p = refl
action_on_values imaged (actions.Push v) e terms own p = refl
action_on_values imaged (actions.Load kind slot) e terms own p = refl
action_on_values imaged (actions.Store kind slot) e terms own p = refl
action_on_values imaged (actions.Increment slot by) e terms own p = refl
action_on_values imaged (actions.Move movement) e terms own p = refl
action_on_values imaged (actions.Compute operation) e terms own p = refl
action_on_values imaged (actions.Convert operation) e terms own p = refl
action_on_values imaged (actions.Branch test target) e terms own p = refl
action_on_values imaged (actions.Goto target) e terms own p = refl
action_on_values imaged (actions.Table default low targets) e terms own p = refl
action_on_values imaged (actions.Lookup default pairs) e terms own p = refl
action_on_values imaged (actions.Return kind) e terms own p = refl
action_on_values imaged actions.Monitor e terms own p = refl
action_on_values imaged action e terms own p = absurd cc

pub push_on_values : (imaged : Imaged) (v : Value) → IsOnValues imaged (model.Push v)
unfolding effect
push_on_values imaged v terms own p = refl

pub other_stuck : (imaged : Imaged) (i : Instruction) → is_other i ≡ true → (terms : Terms) (own : Name) (p : Part) → effects.effect (program_of imaged) imaged.prefix terms own i p ≡ None
unfolding effect on_values
other_stuck imaged (model.Other op named) e terms own p = refl
other_stuck imaged i e terms own p = absurd cc

-- ---- on arrays

map_twice : {A B C : Type 0} (f : B → C) (g : A → B) (o : Option A) → option_map f (option_map g o) ≡ option_map (λ (x : A). f (g x)) o
map_twice f g None = refl
map_twice f g (Some x) = refl

abbrev top : Machine → List Value
top m = top_operands m.frames

module _ (imaged : Imaged) (m : Machine) where
  fused : (account : Account) (answers : List HostAnswer) (o : Option (OnHeap ℕ))
      → option_map (heap_effect (part_of imaged m account answers)) (option_map (on_heap_map (types imaged)) o)
      ≡ option_map (λ (e : OnHeap ℕ). heap_effect (part_of imaged m account answers) (on_heap_map (types imaged) e)) o
  fused account answers o = map_twice (heap_effect (part_of imaged m account answers)) (on_heap_map (types imaged)) o

  mapped : (account : Account) (answers : List HostAnswer) (e : Option (OnHeap Ty)) (o : Option (OnHeap ℕ)) → e ≡ option_map (on_heap_map (types imaged)) o
      → option_map (heap_effect (part_of imaged m account answers)) e
      ≡ option_map (λ (e : OnHeap ℕ). heap_effect (part_of imaged m account answers) (on_heap_map (types imaged) e)) o
  mapped account answers e o is = ap (option_map (heap_effect (part_of imaged m account answers))) is ∙ fused account answers o

  pub load_is : (access : Access) → IsOnHeap imaged (model.LoadElement access) m (load_element access)
  unfolding effect
  load_is access terms own account answers limit =
      mapped account answers _ (load_element access m.store.heap.heap (top m)) (load_mapped (types imaged) access m.store.heap.heap (top m))

  pub length_is : IsOnHeap imaged model.ArrayLength m array_length
  unfolding effect
  length_is terms own account answers limit =
      mapped account answers _ (array_length m.store.heap.heap (top m)) (length_mapped (types imaged) m.store.heap.heap (top m))

  pub new_array_is : (class : Ty) (element : Element) (k : ℕ) → types imaged k ≡ class
      → IsOnHeap imaged (model.NewArray class element) m (make_array (Some m.store.heap.limit) k element)
  unfolding effect
  new_array_is class element k is terms own account answers limit =
      mapped account answers _ (make_array (Some m.store.heap.limit) k element m.store.heap.heap (top m))
      (ap (λ (l : Option ℕ). make_array l class element (heap_map (types imaged) m.store.heap.heap) (top m)) limit
      ∙ (ap (λ (c : Ty). make_array (Some m.store.heap.limit) c element (heap_map (types imaged) m.store.heap.heap) (top m)) (sym is)
      ∙ make_array_mapped (types imaged) (Some m.store.heap.limit) k element m.store.heap.heap (top m)))

  pub new_object_is : (class : Ty) (k fields : ℕ) → types imaged k ≡ class → fields ≡ field_count (program_of imaged) (member_class imaged.prefix class)
      → IsOnHeap imaged (model.New class) m (new_by (Some m.store.heap.limit) k fields)
  unfolding effect
  new_object_is class k fields is many terms own account answers limit =
      ap (λ (l : Option ℕ). effects.effect (program_of imaged) imaged.prefix (record terms { limit = l }) own (model.New class) (part_of imaged m account answers)) limit
      ∙ (ap (λ (c : Ty). effects.effect (program_of imaged) imaged.prefix (record terms { limit = Some m.store.heap.limit }) own (model.New c) (part_of imaged m account answers)) (sym is)
      ∙ new_is (program_of imaged) imaged.prefix (types_of (typed_of imaged)) (Some m.store.heap.limit) k fields (part_of imaged m account answers) m.store.heap.heap
      (many ∙ ap (λ (c : Ty). field_count (program_of imaged) (member_class imaged.prefix c)) (sym is)) refl)

  -- ---- stores: whether an array takes a reference is asked of arrays of references alone

  abbrev model_takes : ℕ → ℕ → Bool
  model_takes = takes (program_of imaged) imaged.prefix (heap_map (types imaged) m.store.heap.heap)

  taken_alike : (taken : Bool) (operands rest : List Value) (r v : ℕ) (index : ℤ) (found : Found ℕ)
      → ((class : ℕ) (contents : List ℤ) → found ≡ IsArray class elements.Ref contents → model_takes r v ≡ taken)
      → store_in m.store.heap.heap operands rest r index (values.Ref v) (model_takes r v) (only model.References found)
      ≡ store_in m.store.heap.heap operands rest r index (values.Ref v) taken (only model.References found)
  taken_alike taken operands rest r v index Null is = refl
  taken_alike taken operands rest r v index NoArray is = refl
  taken_alike taken operands rest r v index (IsArray class elements.Ref contents) is =
      ap (λ (b : Bool). store_in m.store.heap.heap operands rest r index (values.Ref v) b (IsArray class elements.Ref contents)) (is class contents refl)
  taken_alike taken operands rest r v index (IsArray class element contents) is = refl

  store_alike : (access : Access) (taken : Bool) (operands : List Value) → IsTaken imaged m.store.heap taken operands
      → store_element model_takes access m.store.heap.heap operands ≡ store_element (λ r v. taken) access m.store.heap.heap operands
  unfolding store_element
  store_alike model.References taken (values.Ref v ∷ (values.Int index ∷ (values.Ref r ∷ rest))) is =
      ap Some (taken_alike taken (values.Ref v ∷ (values.Int index ∷ (values.Ref r ∷ rest))) rest r v index (array_at m.store.heap.heap r) is)
  store_alike access taken (values.Ref v ∷ (values.Int index ∷ (values.Ref r ∷ rest))) is = refl
  store_alike access taken (values.Int v ∷ (values.Int index ∷ (values.Ref r ∷ rest))) is = refl
  store_alike access taken (values.Long v ∷ (values.Int index ∷ (values.Ref r ∷ rest))) is = refl
  store_alike access taken _ is = refl

  pub store_is : (access : Access) (taken : Bool) → IsTaken imaged m.store.heap taken (top m) → IsOnHeap imaged (model.StoreElement access) m (store_element (λ r v. taken) access)
  unfolding effect
  store_is access taken is terms own account answers limit =
      mapped account answers _ (store_element (λ r v. taken) access m.store.heap.heap (top m))
      (store_mapped (types imaged) model_takes model_takes (λ r v. refl) access m.store.heap.heap (top m)
      ∙ ap (option_map (on_heap_map (types imaged))) (store_alike access taken (top m) is))

-- ---- on objects

-- the top reference is null or that of an object
object_there : (heap : Heap ℕ) (operands : List Value) → IsTopThere heap operands → HasObject heap operands
object_there heap [] is = tt
object_there heap (values.Int z ∷ rest) is = tt
object_there heap (values.Long z ∷ rest) is = tt
object_there heap (values.Ref r ∷ rest) is = by (nat_eq r 0) refl is where
  none_past : (objects : List (Object ℕ)) (n : ℕ) → n < length objects → slice_get objects n ≡ None → ⊥
  none_past [] n less e = omega (arith, less)
  none_past (o ∷ objects) zero less e = absurd cc
  none_past (o ∷ objects) (suc n) less e = none_past objects n (omega (arith, less)) e

  by : (b : Bool) → nat_eq r 0 ≡ b → r ≤ length heap.objects → (if b then None else slice_get heap.objects (r - 1)) ≡ None → r ≡ 0
  by true e le none = grind (arith, nat_tests)
  by false e le none =
      let some : 0 < r = grind (arith, nat_tests) in
      absurd (none_past heap.objects (r - 1) (omega (arith, some, le)) none)

module _ (imaged : Imaged) (m : Machine) (there : IsTopThere m.store.heap.heap (top m)) (class : Ty) (k : ℕ) (at : types imaged k ≡ class) where
  abbrev below : ℕ → Bool
  below = below_of (program_of imaged) imaged.prefix (types_of (typed_of imaged)) k

  says : (j : ℕ) → below j ≡ is_subtype (program_of imaged) imaged.prefix (types imaged j) class
  says j = ap (is_subtype (program_of imaged) imaged.prefix (types imaged j)) at

  pub cast_is : IsOnHeap imaged (model.CheckCast class) m (check_cast_by below)
  unfolding effect
  cast_is terms own account answers limit =
      check_cast_is (program_of imaged) imaged.prefix (types_of (typed_of imaged)) class below (part_of imaged m account answers) m.store.heap.heap says refl
      (object_there m.store.heap.heap (top m) there)

  pub instance_is : IsOnHeap imaged (model.InstanceOf class) m (instance_of_by below)
  unfolding effect
  instance_is terms own account answers limit =
      instance_of_is (program_of imaged) imaged.prefix (types_of (typed_of imaged)) class below (part_of imaged m account answers) m.store.heap.heap says refl
      (object_there m.store.heap.heap (top m) there)

pub throw_is : (imaged : Imaged) (m : Machine) → IsTopThere m.store.heap.heap (top m) → (k : ℕ) → types imaged k ≡ class_type (throwable_name imaged.prefix)
    → IsThrown imaged model.Throw m (throw_by (below_of (program_of imaged) imaged.prefix (types_of (typed_of imaged)) k) m.store.heap.heap (top_operands m.frames))
unfolding effect
throw_is imaged m there k at terms own account answers =
    throw_top_is (program_of imaged) imaged.prefix (types_of (typed_of imaged)) (below_of (program_of imaged) imaged.prefix (types_of (typed_of imaged)) k) (part_of imaged m account answers)
    m.store.heap.heap (says imaged m there (class_type (throwable_name imaged.prefix)) k at) refl (object_there m.store.heap.heap (top m) there)

-- ---- on fields

-- the names of instances' classes decide which of them have a field
instances_say : (imaged : Imaged) (m : Machine) → IsHeap imaged m.store.heap → (name : Name) (r class : ℕ) (fields : List ℕ) → object_at m.store.heap.heap.objects r ≡ Some (Instance class fields)
    → has_of (program_of imaged) (types_of (typed_of imaged)) name most_classes class ≡ is_among (chain (program_of imaged) (member_class imaged.prefix (types imaged class))) name
instances_say imaged m is name r class fields there =
    let own = is.instances r class fields there in
    ap (λ (ty : Ty). among_above (program_of imaged) name most_classes ty.dims ty.of) own.1
    ∙ ap (λ (ty : Ty). is_among (chain (program_of imaged) (member_class imaged.prefix ty)) name) (sym own.1)

module _ (imaged : Imaged) (m : Machine) (is : IsHeap imaged m.store.heap) (member : Member) (found : FoundField) (kind : Kind)
    (resolves : resolve_field (program_of imaged) imaged.prefix member ≡ Some found) (kind_is : field_kind member.desc ≡ Some kind) where
  abbrev has : ℕ → Bool
  has = has_of (program_of imaged) (types_of (typed_of imaged)) found.class most_classes

  pub get_is : IsOnHeap imaged (model.GetField member) m (get_field_by has kind (place_of (program_of imaged) found))
  unfolding effect
  get_is terms own account answers limit =
      rw (resolves, kind_is)
      (get_field_is (program_of imaged) imaged.prefix (types_of (typed_of imaged)) has found (part_of imaged m account answers) m.store.heap.heap kind
      (instances_say imaged m is found.class) refl)

  pub put_is : IsOnHeap imaged (model.PutField member) m (put_field_by has kind (place_of (program_of imaged) found))
  unfolding effect
  put_is terms own account answers limit =
      rw (resolves, kind_is)
      (put_field_is (program_of imaged) imaged.prefix (types_of (typed_of imaged)) has found (part_of imaged m account answers) m.store.heap.heap kind
      (instances_say imaged m is found.class) refl)

module _ (imaged : Imaged) (member : Member) (found : FoundField) (kind : Kind)
    (resolves : resolve_field (program_of imaged) imaged.prefix member ≡ Some found) (kind_is : field_kind member.desc ≡ Some kind) where
  pub get_static_reported : IsOnStatics imaged (model.GetStatic member) (get_static_by kind (place_of_static (program_of imaged) found))
  unfolding effect
  get_static_reported terms own p = rw (resolves, kind_is) (get_static_is (program_of imaged) p kind found)

  pub put_static_reported : IsOnStatics imaged (model.PutStatic member) (put_static_by kind (place_of_static (program_of imaged) found))
  unfolding effect
  put_static_reported terms own p = rw (resolves, kind_is) (put_static_is (program_of imaged) p kind found)

-- ---- on texts

pub push_is : (imaged : Imaged) (m : Machine) → IsStore imaged m.store → AreTexts imaged → (string text : ℕ) (units : List ℕ) → types imaged string ≡ class_type (string_name imaged.prefix)
    → text < length imaged.texts → text_at imaged.texts text ≡ units → IsOnLiterals imaged (model.PushText units) m (push_text_by (Some m.store.heap.limit) string text units)
unfolding effect
push_is imaged m are texts string text units at known spells terms own account answers limit =
    ap (λ (us : List ℕ). effects.effect (program_of imaged) imaged.prefix terms own (model.PushText us) (part_of imaged m account answers)) (sym spells)
    ∙ (ap (λ (l : Option ℕ). effects.effect (program_of imaged) imaged.prefix (record terms { limit = l }) own (model.PushText (text_at imaged.texts text)) (part_of imaged m account answers)) limit
    ∙ (ap Some (push_text_is imaged.prefix (types_of (typed_of imaged)) imaged.texts (Some m.store.heap.limit) string text (part_of imaged m account answers) m.store.heap.heap
    m.store.literals.made at texts.differ are.texts known refl refl)
    ∙ ap (λ (us : List ℕ). Some (literals_effect (types_of (typed_of imaged)) imaged.texts (part_of imaged m account answers)
    (push_text_by (Some m.store.heap.limit) string text us m.store.heap.heap m.store.literals.made (top m)))) spells))
