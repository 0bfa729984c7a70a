-- Fields by numbers are those of the model.
use Rattle.std.proofs.Common.{◌≡◌, ℕ, Bool, true, false, List, [], ◌∷◌, set, Option, Some, None, nat_eq, if◌then◌else◌, refl, sym, ap, ◌∙◌}
use Rattle.std.specs.Option.{option_map}
use Rattle.dj_names.specs.declared.descriptor.Kind.{Kind}
use Rattle.dj_names.specs.declared.descriptor.Ty.{Ty}
use Rattle.dj_names.specs.declared.run.Value.{Value}
use Rattle.dj_names.specs.declared.run.Value.TheVariants as values
use Rattle.dj_names.specs.trusted.Heaps.{Object, Instance, Array, Text, Heap, object_at, field_bits}
use Rattle.dj_names.specs.Heaps.{object_map, heap_map}
use Rattle.dj_names.specs.trusted.Types.{Name}
use Rattle.dj_model.specs.trusted.Types.{Prefix}
use Rattle.dj_model.specs.trusted.Numbers.{is_of_kind}
use Rattle.dj_model.specs.trusted.Program.{Program}
use Rattle.dj_model.specs.trusted.Linking.{FoundField, is_among, chain, member_class, place_of}
use Rattle.dj_model.specs.trusted.State.{Part, Effect, Goes, Next}
use Rattle.dj_model.specs.trusted.Arrays.{OnHeap}
use Rattle.dj_model.specs.Arrays.{on_heap_map}
use Rattle.dj_model.specs.trusted.Effects.{heap_effect}
use Rattle.dj_model.specs.trusted.Members as model
use Rattle.dj_model.proofs.MappedHeaps.{object_at_mapped, object_set}
use Rattle.dj_library_types.specs.Numbered.{type_at}
use Rattle.dj_member_effects.specs.Fields.{Holder, Null, NoHolder, Holds, holder_in, holder_by, get_from, get_field_by, put_in, put_field_by}

-- the part with this heap and these operands
abbrev pub part_with : Part → Heap Ty → List Value → Part
part_with p heap operands = record p { heap = heap; operands = operands }

module _ (program : Program) (prefix : Prefix) (types : List Ty) (has : ℕ → Bool) (declaring : Name) (heap : Heap ℕ)
    (says : (r class : ℕ) (fields : List ℕ) → object_at heap.objects r ≡ Some (Instance class fields) → has class ≡ is_among (chain program (member_class prefix (type_at types class))) declaring) where
  abbrev model_holder : Holder → model.Holder
  model_holder Null = model.NullHolder
  model_holder NoHolder = model.NoHolder
  model_holder (Holds class fields) = model.Holds (type_at types class) fields

  if_held : (b : Bool) (class : ℕ) (fields : List ℕ)
      → (if b then model.Holds (type_at types class) fields else model.NoHolder) ≡ model_holder (if b then Holds class fields else NoHolder)
  if_held true class fields = refl
  if_held false class fields = refl

  in_object : (b : Bool) (r : ℕ) (o : Option (Object ℕ)) → object_at heap.objects r ≡ o
      → (if b then model.NullHolder else model.holder_in program prefix declaring (option_map (object_map (type_at types)) o))
      ≡ model_holder (if b then Null else holder_in has o)
  in_object true r o there = refl
  in_object false r None there = refl
  in_object false r (Some (Instance class fields)) there =
      ap (λ (b : Bool). if b then model.Holds (type_at types class) fields else model.NoHolder) (sym (says r class fields there)) ∙ if_held (has class) class fields
  in_object false r (Some (Array class element contents)) there = refl
  in_object false r (Some (Text class units)) there = refl

  holder_mapped : (r : ℕ) → model.holder_at program prefix declaring (heap_map (type_at types) heap) r ≡ model_holder (holder_by has heap r)
  holder_mapped r =
      ap (λ (o : Option (Object Ty)). if nat_eq r 0 then model.NullHolder else model.holder_in program prefix declaring o) (object_at_mapped (type_at types) heap.objects r)
      ∙ in_object (nat_eq r 0) r (object_at heap.objects r) refl

  get_from_mapped : (p : Part) (operands rest : List Value) (kind : Kind) (place : ℕ) (h : Holder)
      → model.get_from (part_with p (heap_map (type_at types) heap) operands) rest kind place (model_holder h)
      ≡ heap_effect (part_with p (heap_map (type_at types) heap) operands) (on_heap_map (type_at types) (get_from heap operands rest kind place h))
  get_from_mapped p operands rest kind place Null = refl
  get_from_mapped p operands rest kind place NoHolder = refl
  get_from_mapped p operands rest kind place (Holds class fields) = refl

  get_mapped : (found : FoundField) → found.class ≡ declaring → (p : Part) (kind : Kind) (operands : List Value)
      → model.get_field program prefix (part_with p (heap_map (type_at types) heap) operands) (Some kind) (Some found) operands
      ≡ option_map (λ (e : OnHeap ℕ). heap_effect (part_with p (heap_map (type_at types) heap) operands) (on_heap_map (type_at types) e)) (get_field_by has kind (place_of program found) heap operands)
  unfolding get_field_by
  get_mapped found is p kind [] = refl
  get_mapped found is p kind (values.Int z ∷ rest) = refl
  get_mapped found is p kind (values.Long z ∷ rest) = refl
  get_mapped found is p kind (values.Ref r ∷ rest) =
      ap (λ (class : Name). Some (model.get_from (part_with p (heap_map (type_at types) heap) (values.Ref r ∷ rest)) rest kind (place_of program found) (model.holder_at program prefix class (heap_map (type_at types) heap) r))) is
      ∙ (ap (λ (h : model.Holder). Some (model.get_from (part_with p (heap_map (type_at types) heap) (values.Ref r ∷ rest)) rest kind (place_of program found) h)) (holder_mapped r)
      ∙ ap Some (get_from_mapped p (values.Ref r ∷ rest) rest kind (place_of program found) (holder_by has heap r)))

  put_in_mapped : (p : Part) (operands rest : List Value) (place r : ℕ) (v : Value) (h : Holder)
      → model.put_in (part_with p (heap_map (type_at types) heap) operands) rest place r v (model_holder h)
      ≡ heap_effect (part_with p (heap_map (type_at types) heap) operands) (on_heap_map (type_at types) (put_in heap operands rest place r v h))
  put_in_mapped p operands rest place r v Null = refl
  put_in_mapped p operands rest place r v NoHolder = refl
  put_in_mapped p operands rest place r v (Holds class fields) =
      ap (λ (now : Heap Ty). record { part = part_with p now rest; flow = Goes Next }) (object_set (type_at types) heap r (Instance class (set fields place (field_bits v))))

  put_if : (b : Bool) (q : Part) (e : Effect) (o : OnHeap ℕ) → e ≡ heap_effect q (on_heap_map (type_at types) o)
      → (if b then Some e else None) ≡ option_map (λ (o : OnHeap ℕ). heap_effect q (on_heap_map (type_at types) o)) (if b then Some o else None)
  put_if true q e o is = ap Some is
  put_if false q e o is = refl

  put_mapped : (found : FoundField) → found.class ≡ declaring → (p : Part) (kind : Kind) (operands : List Value)
      → model.put_field program prefix (part_with p (heap_map (type_at types) heap) operands) (Some kind) (Some found) operands
      ≡ option_map (λ (e : OnHeap ℕ). heap_effect (part_with p (heap_map (type_at types) heap) operands) (on_heap_map (type_at types) e)) (put_field_by has kind (place_of program found) heap operands)
  unfolding put_field_by
  put_mapped found is p kind [] = refl
  put_mapped found is p kind (v ∷ []) = refl
  put_mapped found is p kind (v ∷ (values.Int z ∷ rest)) = refl
  put_mapped found is p kind (v ∷ (values.Long z ∷ rest)) = refl
  put_mapped found is p kind (v ∷ (values.Ref r ∷ rest)) =
      put_if (is_of_kind kind v) (part_with p (heap_map (type_at types) heap) (v ∷ (values.Ref r ∷ rest)))
      (model.put_in (part_with p (heap_map (type_at types) heap) (v ∷ (values.Ref r ∷ rest))) rest (place_of program found) r v (model.holder_at program prefix found.class (heap_map (type_at types) heap) r))
      (put_in heap (v ∷ (values.Ref r ∷ rest)) rest (place_of program found) r v (holder_by has heap r))
      (ap (λ (class : Name). model.put_in (part_with p (heap_map (type_at types) heap) (v ∷ (values.Ref r ∷ rest))) rest (place_of program found) r v (model.holder_at program prefix class (heap_map (type_at types) heap) r)) is
      ∙ (ap (model.put_in (part_with p (heap_map (type_at types) heap) (v ∷ (values.Ref r ∷ rest))) rest (place_of program found) r v) (holder_mapped r)
      ∙ put_in_mapped p (v ∷ (values.Ref r ∷ rest)) rest (place_of program found) r v (holder_by has heap r)))

-- a part whose heap is that by numbers
pub at_heap : (p : Part) (heap : Heap Ty) → p.heap ≡ heap → part_with p heap p.operands ≡ p
at_heap p heap e = ap (λ (heap : Heap Ty). part_with p heap p.operands) (sym e)

-- ---- the laws

pub get_field_is : (program : Program) (prefix : Prefix) (types : List Ty) (has : ℕ → Bool) (found : FoundField) (p : Part) (heap : Heap ℕ) (kind : Kind)
    → ((r class : ℕ) (fields : List ℕ) → object_at heap.objects r ≡ Some (Instance class fields)
    → has class ≡ is_among (chain program (member_class prefix (type_at types class))) found.class)
    → p.heap ≡ heap_map (type_at types) heap
    → model.get_field program prefix p (Some kind) (Some found) p.operands
    ≡ option_map (λ (e : OnHeap ℕ). heap_effect p (on_heap_map (type_at types) e)) (get_field_by has kind (place_of program found) heap p.operands)
get_field_is program prefix types has found p heap kind says e =
    ap (λ (q : Part). model.get_field program prefix q (Some kind) (Some found) p.operands) (sym (at_heap p (heap_map (type_at types) heap) e))
    ∙ (get_mapped program prefix types has found.class heap says found refl p kind p.operands
    ∙ ap (λ (q : Part). option_map (λ (e : OnHeap ℕ). heap_effect q (on_heap_map (type_at types) e)) (get_field_by has kind (place_of program found) heap p.operands))
    (at_heap p (heap_map (type_at types) heap) e))

pub put_field_is : (program : Program) (prefix : Prefix) (types : List Ty) (has : ℕ → Bool) (found : FoundField) (p : Part) (heap : Heap ℕ) (kind : Kind)
    → ((r class : ℕ) (fields : List ℕ) → object_at heap.objects r ≡ Some (Instance class fields)
    → has class ≡ is_among (chain program (member_class prefix (type_at types class))) found.class)
    → p.heap ≡ heap_map (type_at types) heap
    → model.put_field program prefix p (Some kind) (Some found) p.operands
    ≡ option_map (λ (e : OnHeap ℕ). heap_effect p (on_heap_map (type_at types) e)) (put_field_by has kind (place_of program found) heap p.operands)
put_field_is program prefix types has found p heap kind says e =
    ap (λ (q : Part). model.put_field program prefix q (Some kind) (Some found) p.operands) (sym (at_heap p (heap_map (type_at types) heap) e))
    ∙ (put_mapped program prefix types has found.class heap says found refl p kind p.operands
    ∙ ap (λ (q : Part). option_map (λ (e : OnHeap ℕ). heap_effect q (on_heap_map (type_at types) e)) (put_field_by has kind (place_of program found) heap p.operands))
    (at_heap p (heap_map (type_at types) heap) e))
