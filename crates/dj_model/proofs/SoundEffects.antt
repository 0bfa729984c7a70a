-- Each instruction but a call has an effect in a sound program, which keeps the kinds that shape says.
use Rattle.std.proofs.Common.{◌≡◌, ℕ, ◌+◌, ◌&&◌, Bool, true, false, not, ℤ, pos, negsuc, List, [], ◌∷◌, length, map, Option, Some, None, Result, Ok, Err, nat_eq, refl, ap, subst, ◌∙◌, if◌then◌else◌, inl, inr, IsTrue, IsFalse}
use Rattle.std.specs.Option.{option_map}
use Rattle.std.specs.Prelude.{⊤, slice_index}
use Rattle.dj_names.specs.declared.descriptor.Kind.{Kind}
use Rattle.dj_names.specs.declared.descriptor.Kind.TheVariants as kinds
use Rattle.dj_names.specs.declared.descriptor.Ty.{Ty}
use Rattle.dj_names.specs.declared.run.Value.{Value}
use Rattle.dj_names.specs.declared.run.Value.TheVariants as values
use Rattle.dj_names.specs.declared.run.Element.{Element}
use Rattle.dj_names.specs.declared.run.Element.TheVariants as elements
use Rattle.dj_names.specs.declared.run.Raised.TheVariants as raises
use Rattle.dj_names.specs.declared.run.Outcome.{Outcome}
use Rattle.dj_names.specs.trusted.Values.{value_kind}
use Rattle.dj_names.specs.trusted.Heaps.{Object, Heap, object_size, array_size, element_at, element_value, field_value}
use Rattle.dj_names.specs.trusted.Types.{same_name, Name, field_kind, class_type}
use Rattle.dj_model.specs.trusted.Types.{initialiser_name, Prefix, Member, throwable_name}
use Rattle.dj_model.specs.trusted.Instructions.{Access, Bytes, Chars, Shorts, Ints, Longs, References, Instruction, Nop, Push, PushText, Load, Store, Increment, LoadElement, StoreElement, Move, Compute, Convert, Branch, Goto, Switch, Return, GetStatic, PutStatic, GetField, PutField, Invoke, New, NewArray, ArrayLength, Throw, CheckCast, InstanceOf, Monitor, Other, ends}
use Rattle.dj_model.specs.Instructions.{calls}
use Rattle.dj_model.specs.trusted.Program.{Program, Code}
use Rattle.dj_model.specs.trusted.Linking.{FoundField, resolve_field, place_of, place_of_static}
use Rattle.dj_model.specs.trusted.State.{Terms, Part, Way, Next, To, Raise, Back, Goes, Catch, Effect, goes, pushes}
use Rattle.dj_model.specs.trusted.Values.{Values, local_at, on_values}
use Rattle.dj_model.specs.trusted.Arrays.{OnHeap, Found, Null, NoArray, IsArray, array_at, only, reaches, access_kind, load_at, load_from, load_element, store_at, store_in, is_taken, store_element, length_of, array_length, passes_limit, make, make_elements, make_array}
use Rattle.dj_model.specs.trusted.Performing.{is_instance, takes}
use Rattle.dj_model.specs.trusted.Members.{broken, get_static, put_static, Holder, NullHolder, NoHolder, Holds, holder_at, get_from, put_in, get_field, put_field, Kept, push_kept, check_cast, instance_of, throw_top}
use Rattle.dj_model.specs.trusted.Effects.{values_effect, flow_of, heap_effect, new_object, effect}
use Rattle.dj_model.specs.trusted.Kinds.{Signature, Kinds}
use Rattle.dj_model.specs.trusted.Shape.{is_kind, gives, get_kind, put_kind, same_result, result_list, after}
use Rattle.dj_model.specs.Sound.{is_class_of, is_field_found, is_field_linked, is_linked}
use Rattle.dj_model.specs.Standing.{LocalsHave, HasKinds, Leaves, Keeps, IsSoundFlow, HasSoundEffect}
use Rattle.dj_model.proofs.MappedNames.{either}
use Rattle.dj_model.proofs.Flows.{either_way}
use Rattle.dj_model.proofs.Standing.{some_if, of_kind, local_has, Gives, gives_parts}
use Rattle.dj_model.proofs.SoundValues as plain
use Rattle.dj_model.proofs.SoundValues.{SoundValues, SoundWay}

field_kind_is : (kind : Kind) (n : ℕ) → value_kind (field_value kind n) ≡ kind
field_kind_is kinds.Int n = refl
field_kind_is kinds.Long n = refl
field_kind_is kinds.Ref n = refl

reached_kind : (access : Access) (element : Element) (z : ℤ) → reaches access element ≡ true → value_kind (element_value element z) ≡ access_kind access
reached_kind Bytes elements.Boolean z e = refl
reached_kind Bytes elements.Byte z e = refl
reached_kind Chars elements.Char z e = refl
reached_kind Shorts elements.Short z e = refl
reached_kind Ints elements.Int z e = refl
reached_kind Longs elements.Long z e = refl
reached_kind References elements.Ref z e = refl
reached_kind _ _ z e = absurd cc

abbrev Reached : Access → Found Ty → Type 0
Reached access Null = ⊤
Reached access NoArray = ⊤
Reached access (IsArray class element contents) = reaches access element ≡ true

only_reached : (access : Access) (found : Found Ty) → Reached access (only access found)
only_reached access Null = tt
only_reached access NoArray = tt
only_reached access (IsArray class element contents) = elim (either (reaches access element)) [ inl e ↦ rw e e | inr e ↦ rw e tt ]

-- ---- instructions on the heap: what they push, or that they raise or end

abbrev HeapWay : List Kind → List Value → Result Way Outcome → Type 0
HeapWay stack operands (Ok Next) = map value_kind operands ≡ stack
HeapWay stack operands (Ok (To number)) = ⊥
HeapWay stack operands (Ok (Raise raised)) = ⊤
HeapWay stack operands (Ok (Back result)) = ⊥
HeapWay stack operands (Err outcome) = ⊤

record SoundHeap (stack : List Kind) (e : Option (OnHeap Ty)) : Type 0 where
  does : OnHeap Ty
  has : e ≡ Some does
  sound : HeapWay stack does.operands does.result

heap_found : (stack : List Kind) (e : OnHeap Ty) → HeapWay stack e.operands e.result → SoundHeap stack (Some e)
heap_found stack e way = record { does = e; has = refl; sound = way }

abbrev EWay : List Kind → OnHeap Ty → Type 0
EWay stack e = HeapWay stack e.operands e.result

load_at_sound : (stack : List Kind) (heap : Heap Ty) (operands rest : List Value) (element : Element) (z : Option ℤ)
    → ((n : ℤ) → value_kind (element_value element n) ∷ map value_kind rest ≡ stack) → EWay stack (load_at heap operands rest element z)
load_at_sound stack heap operands rest element None is = tt
load_at_sound stack heap operands rest element (Some z) is = is z

load_from_sound : (access : Access) (stack : List Kind) (heap : Heap Ty) (operands rest : List Value) (index : ℤ) (found : Found Ty) → Reached access found
    → access_kind access ∷ map value_kind rest ≡ stack → EWay stack (load_from heap operands rest index found)
load_from_sound access stack heap operands rest index Null reached is = tt
load_from_sound access stack heap operands rest index NoArray reached is = tt
load_from_sound access stack heap operands rest index (IsArray class element contents) reached is =
    load_at_sound stack heap operands rest element (element_at contents index) (λ n. ap (λ kind. kind ∷ map value_kind rest) (reached_kind access element n reached) ∙ is)

module _ (k left : Kinds) (heap : Heap Ty) where
  load_sound : (access : Access) (operands : List Value) → Gives k operands (kinds.Int ∷ kinds.Ref ∷ []) (Some (access_kind access)) left
      → SoundHeap left.stack (load_element access heap operands)
  unfolding load_element
  load_sound access (values.Int index ∷ (values.Ref r ∷ rest)) g = heap_found left.stack _
      (load_from_sound access left.stack heap (values.Int index ∷ (values.Ref r ∷ rest)) rest index (only access (array_at heap r)) (only_reached access (array_at heap r))
      (ap (λ l. access_kind access ∷ l) g.takes.1.1 ∙ g.stack))
  load_sound access (values.Int index ∷ (values.Int z ∷ rest)) g = absurd (let e = g.takes.1.0 in cc)
  load_sound access (values.Int index ∷ (values.Long z ∷ rest)) g = absurd (let e = g.takes.1.0 in cc)
  load_sound access (values.Int index ∷ []) g = absurd g.takes.1
  load_sound access (values.Long z ∷ rest) g = absurd (let e = g.takes.0 in cc)
  load_sound access (values.Ref r ∷ rest) g = absurd (let e = g.takes.0 in cc)
  load_sound access [] g = absurd g.takes

  store_at_sound : (operands rest : List Value) (r : ℕ) (array : Object Ty) (z : Option ℤ) (takes : Bool) → map value_kind rest ≡ left.stack
      → EWay left.stack (store_at heap operands rest r array z takes)
  store_at_sound operands rest r array None takes is = tt
  store_at_sound operands rest r array (Some z) true is = is
  store_at_sound operands rest r array (Some z) false is = tt

  store_in_sound : (operands rest : List Value) (r : ℕ) (index : ℤ) (v : Value) (takes : Bool) (found : Found Ty) → map value_kind rest ≡ left.stack
      → EWay left.stack (store_in heap operands rest r index v takes found)
  store_in_sound operands rest r index v takes Null is = tt
  store_in_sound operands rest r index v takes NoArray is = tt
  store_in_sound operands rest r index v takes (IsArray class element contents) is = store_at_sound operands rest r _ (element_at contents index) takes is

  store_sound : (takes : ℕ → ℕ → Bool) (access : Access) (operands : List Value) → Gives k operands (access_kind access ∷ kinds.Int ∷ kinds.Ref ∷ []) None left
      → SoundHeap left.stack (store_element takes access heap operands)
  unfolding store_element
  store_sound takes access (v ∷ (values.Int index ∷ (values.Ref r ∷ rest))) g = rw (of_kind (access_kind access) v g.takes.0)
      (heap_found left.stack _ (store_in_sound (v ∷ (values.Int index ∷ (values.Ref r ∷ rest))) rest r index v (is_taken takes r v) (only access (array_at heap r)) (g.takes.1.1.1 ∙ g.stack)))
  store_sound takes access (v ∷ (values.Int index ∷ (values.Int z ∷ rest))) g = absurd (let e = g.takes.1.1.0 in cc)
  store_sound takes access (v ∷ (values.Int index ∷ (values.Long z ∷ rest))) g = absurd (let e = g.takes.1.1.0 in cc)
  store_sound takes access (v ∷ (values.Int index ∷ [])) g = absurd g.takes.1.1
  store_sound takes access (v ∷ (values.Long z ∷ rest)) g = absurd (let e = g.takes.1.0 in cc)
  store_sound takes access (v ∷ (values.Ref r ∷ rest)) g = absurd (let e = g.takes.1.0 in cc)
  store_sound takes access (v ∷ []) g = absurd g.takes.1
  store_sound takes access [] g = absurd g.takes

  length_of_sound : (operands rest : List Value) (found : Found Ty) → kinds.Int ∷ map value_kind rest ≡ left.stack → EWay left.stack (length_of heap operands rest found)
  length_of_sound operands rest Null is = tt
  length_of_sound operands rest NoArray is = tt
  length_of_sound operands rest (IsArray class element contents) is = is

  length_sound : (operands : List Value) → Gives k operands (kinds.Ref ∷ []) (Some kinds.Int) left → SoundHeap left.stack (array_length heap operands)
  unfolding array_length
  length_sound (values.Ref r ∷ rest) g =
      heap_found left.stack _ (length_of_sound (values.Ref r ∷ rest) rest (array_at heap r) (ap (λ l. kinds.Int ∷ l) g.takes.1 ∙ g.stack))
  length_sound (values.Int z ∷ rest) g = absurd (let e = g.takes.0 in cc)
  length_sound (values.Long z ∷ rest) g = absurd (let e = g.takes.0 in cc)
  length_sound [] g = absurd g.takes

  make_sound : (limit : Option ℕ) (operands rest : List Value) (o : Object Ty) → kinds.Ref ∷ map value_kind rest ≡ left.stack → EWay left.stack (make limit heap operands rest o)
  make_sound limit operands rest o is = either_way (EWay left.stack) (passes_limit limit (heap.used + object_size o)) _ _ tt is

  make_elements_sound : (full : Bool) (class : Ty) (element : Element) (operands rest : List Value) (n : ℕ) → kinds.Ref ∷ map value_kind rest ≡ left.stack
      → EWay left.stack (make_elements full class element heap operands rest n)
  make_elements_sound true class element operands rest n is = tt
  make_elements_sound false class element operands rest n is = is

  make_array_sound : (limit : Option ℕ) (class : Ty) (element : Element) (operands : List Value) → Gives k operands (kinds.Int ∷ []) (Some kinds.Ref) left
      → SoundHeap left.stack (make_array limit class element heap operands)
  unfolding make_array
  make_array_sound limit class element (values.Int (pos n) ∷ rest) g = heap_found left.stack _
      (make_elements_sound (passes_limit limit (heap.used + array_size element n)) class element (values.Int (pos n) ∷ rest) rest n (ap (λ l. kinds.Ref ∷ l) g.takes.1 ∙ g.stack))
  make_array_sound limit class element (values.Int (negsuc n) ∷ rest) g = heap_found left.stack _ tt
  make_array_sound limit class element (values.Ref r ∷ rest) g = absurd (let e = g.takes.0 in cc)
  make_array_sound limit class element (values.Long z ∷ rest) g = absurd (let e = g.takes.0 in cc)
  make_array_sound limit class element [] g = absurd g.takes

-- ---- all of them

module _ (program : Program) (prefix : Prefix) (terms : Terms) (own : Name) (signature : Signature) (code : Code) (k left : Kinds) (x : Part)
    (h : HasKinds x.locals x.operands k) (room : length x.locals ≡ code.max_locals) where
  abbrev Done : Instruction → Option Effect → Type 0
  Done i e = (does : Effect) × (e ≡ Some does) × IsSoundFlow program signature code i k left does.part does.flow

  leave : (operands : List Value) → k.locals ≡ left.locals → map value_kind operands ≡ left.stack → Leaves code left x.locals operands
  leave operands locals stack = record { kinds = record { locals = subst (LocalsHave x.locals) locals h.locals; operands = stack }; room = room }

  keep : Keeps code k x.locals
  keep = record { kinds = h.locals; room = room }

  way_flow : (i : Instruction) (v : Values) → SoundWay signature code i k left v.locals v.operands v.way → IsSoundFlow program signature code i k left (values_effect x v).part (values_effect x v).flow
  way_flow i v s = go v.way s where
    go : (way : Way) → SoundWay signature code i k left v.locals v.operands way → IsSoundFlow program signature code i k left (values_effect x v).part (Goes way)
    go Next s = s
    go (To number) s = s
    go (Raise raised) s = s
    go (Back result) s = s

  from_values : (i : Instruction) (v : Option Values) → SoundValues signature code i k left v → Done i (option_map (values_effect x) v)
  from_values i v s = (values_effect x s.does, ap (option_map (values_effect x)) s.has, way_flow i s.does s.sound)

  from_heap : (i : Instruction) (e : Option (OnHeap Ty)) → IsFalse (ends i) → k.locals ≡ left.locals → SoundHeap left.stack e → Done i (option_map (heap_effect x) e)
  from_heap i e goes_on locals s = (heap_effect x s.does, ap (option_map (heap_effect x)) s.has, go s.does.result s.sound) where
    go : (result : Result Way Outcome) → HeapWay left.stack s.does.operands result → IsSoundFlow program signature code i k left (heap_effect x s.does).part (flow_of result)
    go (Ok Next) way = (leave s.does.operands locals way, goes_on)
    go (Ok (To number)) way = absurd way
    go (Ok (Raise raised)) way = keep
    go (Ok (Back result)) way = absurd way
    go (Err outcome) way = tt

  parts : (wanted : List Kind) (result : Option Kind) → gives code k wanted result ≡ Some left → Gives k x.operands wanted result left
  parts wanted result e = gives_parts code k x.operands wanted result left h.operands e

  -- fields
  field_there : (static : Bool) (m : Member) → IsTrue (is_field_linked program prefix static m) → (found : FoundField) × (resolve_field program prefix m ≡ Some found)
  field_there static m linked = go (resolve_field program prefix m) refl (second (is_class_of program m.class && not (same_name m.name initialiser_name)) (is_field_found static (resolve_field program prefix m)) linked) where
    second : (a b : Bool) → IsTrue (a && b) → IsTrue b
    second true b e = e
    second false b e = absurd cc

    go : (found : Option FoundField) → resolve_field program prefix m ≡ found → IsTrue (is_field_found static (resolve_field program prefix m)) → (found : FoundField) × (resolve_field program prefix m ≡ Some found)
    go None is e = let no : IsTrue (is_field_found static None) = subst (λ f. IsTrue (is_field_found static f)) is e in absurd cc
    go (Some found) is e = (found, is)

  get_static_sound : (i : Instruction) (kind : Option Kind) (found : FoundField) → IsFalse (ends i) → get_kind code k [] kind ≡ Some left → Done i (get_static program x kind (Some found))
  get_static_sound i None found goes_on e = absurd cc
  get_static_sound i (Some kind) found goes_on e = let g = parts [] (Some kind) e in
      (pushes x x.operands _, refl, (leave _ g.locals ((λ j. field_kind_is kind (slice_index x.statics (place_of_static program found)) j ∷ g.takes j) ∙ g.stack), goes_on))

  put_static_sound : (i : Instruction) (kind : Option Kind) (found : FoundField) (operands : List Value) → IsFalse (ends i) → map value_kind operands ≡ k.stack
      → put_kind code k [] kind ≡ Some left → Done i (put_static program x kind (Some found) operands)
  put_static_sound i None found operands goes_on stack e = absurd cc
  put_static_sound i (Some kind) found [] goes_on stack e = absurd (gives_parts code k [] (kind ∷ []) None left stack e).takes
  put_static_sound i (Some kind) found (v ∷ rest) goes_on stack e = let g = gives_parts code k (v ∷ rest) (kind ∷ []) None left stack e in
      rw (of_kind kind v g.takes.0) (_, refl, (leave rest g.locals (g.takes.1 ∙ g.stack), goes_on))

  get_from_sound : (i : Instruction) (rest : List Value) (kind : Kind) (place : ℕ) (holder : Holder) → IsFalse (ends i) → k.locals ≡ left.locals → kind ∷ map value_kind rest ≡ left.stack
      → Done i (Some (get_from x rest kind place holder))
  get_from_sound i rest kind place NullHolder goes_on locals stack = (_, refl, keep)
  get_from_sound i rest kind place NoHolder goes_on locals stack = (_, refl, tt)
  get_from_sound i rest kind place (Holds class fields) goes_on locals stack =
      (_, refl, (leave _ locals (ap (λ n. n ∷ map value_kind rest) (field_kind_is kind (slice_index fields place)) ∙ stack), goes_on))

  get_field_sound : (i : Instruction) (kind : Option Kind) (found : FoundField) (operands : List Value) → IsFalse (ends i) → map value_kind operands ≡ k.stack
      → get_kind code k (kinds.Ref ∷ []) kind ≡ Some left → Done i (get_field program prefix x kind (Some found) operands)
  get_field_sound i None found operands goes_on stack e = absurd cc
  get_field_sound i (Some kind) found operands goes_on stack e = go operands (gives_parts code k operands (kinds.Ref ∷ []) (Some kind) left stack e) where
    go : (operands : List Value) → Gives k operands (kinds.Ref ∷ []) (Some kind) left → Done i (get_field program prefix x (Some kind) (Some found) operands)
    go (values.Ref r ∷ rest) g = get_from_sound i rest kind (place_of program found) (holder_at program prefix found.class x.heap r) goes_on g.locals (ap (λ l. kind ∷ l) g.takes.1 ∙ g.stack)
    go (values.Int z ∷ rest) g = absurd (let e = g.takes.0 in cc)
    go (values.Long z ∷ rest) g = absurd (let e = g.takes.0 in cc)
    go [] g = absurd g.takes

  put_in_sound : (i : Instruction) (rest : List Value) (place r : ℕ) (v : Value) (holder : Holder) → IsFalse (ends i) → k.locals ≡ left.locals → map value_kind rest ≡ left.stack
      → Done i (Some (put_in x rest place r v holder))
  put_in_sound i rest place r v NullHolder goes_on locals stack = (_, refl, keep)
  put_in_sound i rest place r v NoHolder goes_on locals stack = (_, refl, tt)
  put_in_sound i rest place r v (Holds class fields) goes_on locals stack = (_, refl, (leave rest locals stack, goes_on))

  put_field_sound : (i : Instruction) (kind : Option Kind) (found : FoundField) (operands : List Value) → IsFalse (ends i) → map value_kind operands ≡ k.stack
      → put_kind code k (kinds.Ref ∷ []) kind ≡ Some left → Done i (put_field program prefix x kind (Some found) operands)
  put_field_sound i None found operands goes_on stack e = absurd cc
  put_field_sound i (Some kind) found operands goes_on stack e = go operands (gives_parts code k operands (kind ∷ kinds.Ref ∷ []) None left stack e) where
    go : (operands : List Value) → Gives k operands (kind ∷ kinds.Ref ∷ []) None left → Done i (put_field program prefix x (Some kind) (Some found) operands)
    go (v ∷ (values.Ref r ∷ rest)) g = rw (of_kind kind v g.takes.0)
        (put_in_sound i rest (place_of program found) r v (holder_at program prefix found.class x.heap r) goes_on g.locals (g.takes.1.1 ∙ g.stack))
    go (v ∷ (values.Int z ∷ rest)) g = absurd (let e = g.takes.1.0 in cc)
    go (v ∷ (values.Long z ∷ rest)) g = absurd (let e = g.takes.1.0 in cc)
    go (v ∷ []) g = absurd g.takes.1
    go [] g = absurd g.takes

  -- texts, casts and thrown objects
  push_sound : (i : Instruction) (units : List ℕ) (kept : Option Kept) → IsFalse (ends i) → Gives k x.operands [] (Some kinds.Ref) left → Done i (Some (push_kept x units kept))
  push_sound i units None goes_on g = (_, refl, tt)
  push_sound i units (Some kept) goes_on g = (_, refl, (leave _ g.locals (ap (λ l. kinds.Ref ∷ l) g.takes ∙ g.stack), goes_on))

  cast_sound : (class : Ty) (operands : List Value) → x.operands ≡ operands → Gives k operands (kinds.Ref ∷ []) (Some kinds.Ref) left → Done (CheckCast class) (check_cast program prefix x class operands)
  cast_sound class (values.Ref r ∷ rest) is g = elim (either (is_instance program prefix x.heap r class)) [
    | inl e ↦ rw e (goes x (Goes Next), refl, (leave x.operands g.locals (ap (map value_kind) is ∙ (ap (λ l. kinds.Ref ∷ l) g.takes.1 ∙ g.stack)), refl))
    | inr e ↦ rw e (goes x (Goes (Raise raises.ClassCast)), refl, keep)
  ]
  cast_sound class (values.Int z ∷ rest) is g = absurd (let e = g.takes.0 in cc)
  cast_sound class (values.Long z ∷ rest) is g = absurd (let e = g.takes.0 in cc)
  cast_sound class [] is g = absurd g.takes

  instance_sound : (class : Ty) (operands : List Value) → Gives k operands (kinds.Ref ∷ []) (Some kinds.Int) left → Done (InstanceOf class) (instance_of program prefix x class operands)
  instance_sound class (values.Ref r ∷ rest) g = (_, refl, (leave _ g.locals (ap (λ l. kinds.Int ∷ l) g.takes.1 ∙ g.stack), refl))
  instance_sound class (values.Int z ∷ rest) g = absurd (let e = g.takes.0 in cc)
  instance_sound class (values.Long z ∷ rest) g = absurd (let e = g.takes.0 in cc)
  instance_sound class [] g = absurd g.takes

  throw_sound : (operands : List Value) → Gives k operands (kinds.Ref ∷ []) None left → Done Throw (throw_top program prefix x operands)
  throw_sound (values.Ref r ∷ rest) g = elim (either (nat_eq r 0)) [
    | inl null ↦ rw null (goes x (Goes (Raise raises.NullPointer)), refl, keep)
    | inr some ↦ either_way (λ (e : Effect). Done Throw (Some (if nat_eq r 0 then goes x (Goes (Raise raises.NullPointer)) else e)))
        (is_instance program prefix x.heap r (class_type (throwable_name prefix))) _ _
        (rw some (goes x (Catch r), refl, keep)) (rw some (broken x, refl, tt))
  ]
  throw_sound (values.Int z ∷ rest) g = absurd (let e = g.takes.0 in cc)
  throw_sound (values.Long z ∷ rest) g = absurd (let e = g.takes.0 in cc)
  throw_sound [] g = absurd g.takes

  found_done : (i : Instruction) → Done i (effect program prefix terms own i x) → HasSoundEffect program prefix terms own signature code i k left x
  found_done i d = record { does = d.0; has = d.1; sound = d.2 }

  pub sound_effect : (i : Instruction) → IsFalse (calls i) → IsTrue (is_linked program prefix i) → after signature code i k ≡ Some left
      → HasSoundEffect program prefix terms own signature code i k left x
  unfolding after effect on_values is_linked
  sound_effect Nop not_call linked e = found_done Nop (from_values Nop _ (plain.nothing_taken signature code k left x.locals h.locals room Nop x.operands refl (parts [] None e)))
  sound_effect (Push v) not_call linked e = found_done (Push v) (from_values (Push v) _ (plain.push_sound signature code k left x.locals h.locals room (Push v) v x.operands (value_kind v) refl refl (parts [] (Some (value_kind v)) e)))
  sound_effect (PushText units) not_call linked e = found_done (PushText units) (push_sound (PushText units) units _ refl (parts [] (Some kinds.Ref) e))
  sound_effect (Load kind slot) not_call linked e =
      let p = some_if (is_kind kind (local_at k.locals slot)) (gives code k [] (Some kind)) left e in
      found_done (Load kind slot) (from_values (Load kind slot) _ (plain.load_sound signature code k left x.locals h.locals room kind slot x.operands (local_has x.locals k.locals slot kind h.locals p.0) (parts [] (Some kind) p.1)))
  sound_effect (Store kind slot) not_call linked e = found_done (Store kind slot) (from_values (Store kind slot) _ (plain.store_sound signature code k left x.locals h.locals room kind slot x.operands h.operands e))
  sound_effect (Increment slot by) not_call linked e =
      let p = some_if (is_kind kinds.Int (local_at k.locals slot)) (gives code k [] None) left e in
      found_done (Increment slot by) (from_values (Increment slot by) _ (plain.increment_sound signature code k left x.locals h.locals room slot by x.operands p.0 (parts [] None p.1)))
  sound_effect (LoadElement access) not_call linked e = let g = parts (kinds.Int ∷ kinds.Ref ∷ []) (Some (access_kind access)) e in
      found_done (LoadElement access) (from_heap (LoadElement access) _ refl g.locals (load_sound k left x.heap access x.operands g))
  sound_effect (StoreElement access) not_call linked e = let g = parts (access_kind access ∷ kinds.Int ∷ kinds.Ref ∷ []) None e in
      found_done (StoreElement access) (from_heap (StoreElement access) _ refl g.locals (store_sound k left x.heap (takes program prefix x.heap) access x.operands g))
  sound_effect (Move operation) not_call linked e = found_done (Move operation) (from_values (Move operation) _ (plain.move_sound signature code k left x.locals h.locals room operation x.operands h.operands e))
  sound_effect (Compute operation) not_call linked e = found_done (Compute operation) (from_values (Compute operation) _ (plain.compute_sound signature code k left x.locals h.locals room operation x.operands (parts _ _ e)))
  sound_effect (Convert operation) not_call linked e = found_done (Convert operation) (from_values (Convert operation) _ (plain.convert_sound signature code k left x.locals h.locals room operation x.operands (parts _ _ e)))
  sound_effect (Branch test target) not_call linked e = found_done (Branch test target) (from_values (Branch test target) _ (plain.branch_sound signature code k left x.locals h.locals room test target x.operands (parts _ _ e)))
  sound_effect (Goto target) not_call linked e = let g = parts [] None e in
      found_done (Goto target) (_, refl, (leave x.operands g.locals (g.takes ∙ g.stack), inl refl))
  sound_effect (Switch pairs default) not_call linked e = found_done (Switch pairs default) (from_values (Switch pairs default) _ (plain.switch_sound signature code k left x.locals h.locals room pairs default x.operands (parts _ _ e)))
  sound_effect (Return kind) not_call linked e =
      let p = some_if (same_result kind signature.result) (gives code k (result_list kind) None) left e in
      found_done (Return kind) (from_values (Return kind) _ (plain.return_sound signature code k left x.locals h.locals room kind x.operands p.0 (parts _ _ p.1)))
  sound_effect (GetStatic m) not_call linked e = let f = field_there true m linked in
      found_done (GetStatic m) (rw f.1 (get_static_sound (GetStatic m) (field_kind m.desc) f.0 refl e))
  sound_effect (PutStatic m) not_call linked e = let f = field_there true m linked in
      found_done (PutStatic m) (rw f.1 (put_static_sound (PutStatic m) (field_kind m.desc) f.0 x.operands refl h.operands e))
  sound_effect (GetField m) not_call linked e = let f = field_there false m linked in
      found_done (GetField m) (rw f.1 (get_field_sound (GetField m) (field_kind m.desc) f.0 x.operands refl h.operands e))
  sound_effect (PutField m) not_call linked e = let f = field_there false m linked in
      found_done (PutField m) (rw f.1 (put_field_sound (PutField m) (field_kind m.desc) f.0 x.operands refl h.operands e))
  sound_effect (Invoke mode m) not_call linked e = absurd cc
  sound_effect (New class) not_call linked e = let g = parts [] (Some kinds.Ref) e in
      found_done (New class) (from_heap (New class) (Some (make terms.limit x.heap x.operands x.operands (new_object program prefix class))) refl g.locals
      (heap_found left.stack _ (make_sound k left x.heap terms.limit x.operands x.operands (new_object program prefix class) (ap (λ l. kinds.Ref ∷ l) g.takes ∙ g.stack))))
  sound_effect (NewArray class element) not_call linked e = let g = parts (kinds.Int ∷ []) (Some kinds.Ref) e in
      found_done (NewArray class element) (from_heap (NewArray class element) _ refl g.locals (make_array_sound k left x.heap terms.limit class element x.operands g))
  sound_effect ArrayLength not_call linked e = let g = parts (kinds.Ref ∷ []) (Some kinds.Int) e in
      found_done ArrayLength (from_heap ArrayLength _ refl g.locals (length_sound k left x.heap x.operands g))
  sound_effect Throw not_call linked e = found_done Throw (throw_sound x.operands (parts (kinds.Ref ∷ []) None e))
  sound_effect (CheckCast class) not_call linked e = found_done (CheckCast class) (cast_sound class x.operands refl (parts (kinds.Ref ∷ []) (Some kinds.Ref) e))
  sound_effect (InstanceOf class) not_call linked e = found_done (InstanceOf class) (instance_sound class x.operands (parts (kinds.Ref ∷ []) (Some kinds.Int) e))
  sound_effect Monitor not_call linked e = found_done Monitor (from_values Monitor _ (plain.unlock_sound signature code k left x.locals h.locals room x.operands (parts (kinds.Ref ∷ []) None e)))
  sound_effect (Other op named) not_call linked e = absurd cc
