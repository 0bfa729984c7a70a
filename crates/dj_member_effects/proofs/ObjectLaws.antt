-- New objects, casts and thrown objects by numbers, and static fields, are those of the model.
use Rattle.std.proofs.Common.{◌≡◌, ℕ, ◌||◌, Bool, true, false, pos, List, [], ◌∷◌, set, replicate, Option, Some, None, nat_eq, if◌then◌else◌, refl, sym, ap, subst, ◌∙◌}
use Rattle.std.specs.Option.{option_map}
use Rattle.dj_names.specs.declared.descriptor.Kind.{Kind}
use Rattle.dj_names.specs.declared.descriptor.Ty.{Ty}
use Rattle.dj_names.specs.declared.run.Value.{Value}
use Rattle.dj_names.specs.declared.run.Value.TheVariants as values
use Rattle.dj_names.specs.declared.run.Raised.TheVariants as raises
use Rattle.dj_names.specs.trusted.Heaps.{Object, Instance, Heap, class_of, object_at, field_bits}
use Rattle.dj_names.specs.Heaps.{object_map, heap_map}
use Rattle.dj_names.specs.trusted.Types.{class_type}
use Rattle.dj_model.specs.trusted.Types.{Prefix, throwable_name}
use Rattle.dj_model.specs.trusted.Numbers.{is_of_kind}
use Rattle.dj_model.specs.trusted.Program.{Program}
use Rattle.dj_model.specs.trusted.Linking.{FoundField, is_subtype, field_count, member_class, place_of_static}
use Rattle.dj_model.specs.trusted.State.{Part, Next, Raise, Goes, Catch, pushes, goes}
use Rattle.dj_model.specs.trusted.Arrays.{OnHeap, make}
use Rattle.dj_model.specs.Arrays.{on_heap_map}
use Rattle.dj_model.specs.trusted.Effects.{heap_effect, new_object}
use Rattle.dj_model.specs.trusted.Performing.{class_in, is_instance}
use Rattle.dj_model.specs.trusted.Members as model
use Rattle.dj_model.proofs.MappedHeaps.{object_at_mapped, class_of_mapped, make_mapped}
use Rattle.dj_library_types.specs.Numbered.{type_at}
use Rattle.dj_member_effects.specs.declared.objects.Thrown.{Thrown}
use Rattle.dj_member_effects.specs.declared.objects.Thrown.TheVariants as thrown
use Rattle.dj_member_effects.specs.Objects.{HasObject, below_in, cast_flows, check_cast_by, instance_of_by, is_instance_by, new_by, throw_by, thrown_view}
use Rattle.dj_member_effects.specs.Statics.{get_static_by, put_static_by, statics_effect, leaves}
use Rattle.dj_member_effects.proofs.FieldLaws.{part_with, at_heap}

-- ---- new objects

pub new_is : (program : Program) (prefix : Prefix) (types : List Ty) (limit : Option ℕ) (class fields : ℕ) (p : Part) (heap : Heap ℕ)
    → fields ≡ field_count program (member_class prefix (type_at types class)) → p.heap ≡ heap_map (type_at types) heap
    → Some (heap_effect p (make limit p.heap p.operands p.operands (new_object program prefix (type_at types class))))
    ≡ option_map (λ (e : OnHeap ℕ). heap_effect p (on_heap_map (type_at types) e)) (new_by limit class fields heap p.operands)
new_is program prefix types limit class fields p heap many e =
    ap (λ (n : ℕ). Some (heap_effect p (make limit p.heap p.operands p.operands (Instance (type_at types class) (replicate n 0))))) (sym many)
    ∙ (ap (λ (h : Heap Ty). Some (heap_effect p (make limit h p.operands p.operands (Instance (type_at types class) (replicate fields 0))))) e
    ∙ ap (λ (o : OnHeap Ty). Some (heap_effect p o)) (make_mapped (type_at types) limit heap p.operands p.operands (Instance class (replicate fields 0))))

-- ---- classes of objects

module _ (program : Program) (prefix : Prefix) (types : List Ty) (class : Ty) (is_below : ℕ → Bool)
    (says : (k : ℕ) → is_below k ≡ is_subtype program prefix (type_at types k) class) where
  instance_in : (b : Bool) (r : ℕ) (o : Option (Object ℕ)) → nat_eq r 0 ≡ b → (o ≡ None → r ≡ 0)
      → (b || is_subtype program prefix (class_in (option_map (object_map (type_at types)) o)) class) ≡ (b || below_in is_below o)
  instance_in true r o e there = refl
  instance_in false r None e there =
      let null : nat_eq 0 0 ≡ false = subst (λ (r : ℕ). nat_eq r 0 ≡ false) (there refl) e in
      absurd cc
  instance_in false r (Some object) e there =
      ap (λ (ty : Ty). is_subtype program prefix ty class) (class_of_mapped (type_at types) object) ∙ sym (says (class_of object))

  instance_mapped : (heap : Heap ℕ) (r : ℕ) → (object_at heap.objects r ≡ None → r ≡ 0)
      → is_instance program prefix (heap_map (type_at types) heap) r class ≡ is_instance_by is_below heap r
  instance_mapped heap r there =
      ap (λ (o : Option (Object Ty)). nat_eq r 0 || is_subtype program prefix (class_in o) class) (object_at_mapped (type_at types) heap.objects r)
      ∙ instance_in (nat_eq r 0) r (object_at heap.objects r) refl there

  -- ---- casts

  cast_mapped : (p : Part) (heap : Heap ℕ) (operands : List Value) → HasObject heap operands
      → model.check_cast program prefix (part_with p (heap_map (type_at types) heap) operands) class operands
      ≡ option_map (λ (e : OnHeap ℕ). heap_effect (part_with p (heap_map (type_at types) heap) operands) (on_heap_map (type_at types) e)) (check_cast_by is_below heap operands)
  unfolding check_cast_by
  cast_mapped p heap [] there = refl
  cast_mapped p heap (values.Int z ∷ rest) there = refl
  cast_mapped p heap (values.Long z ∷ rest) there = refl
  cast_mapped p heap (values.Ref r ∷ rest) there =
      ap (λ (b : Bool). Some (if b then goes (part_with p (heap_map (type_at types) heap) (values.Ref r ∷ rest)) (Goes Next) else goes (part_with p (heap_map (type_at types) heap) (values.Ref r ∷ rest)) (Goes (Raise raises.ClassCast)))) (instance_mapped heap r there)
      ∙ by_test (is_instance_by is_below heap r) where
        by_test : (b : Bool)
            → Some (if b then goes (part_with p (heap_map (type_at types) heap) (values.Ref r ∷ rest)) (Goes Next) else goes (part_with p (heap_map (type_at types) heap) (values.Ref r ∷ rest)) (Goes (Raise raises.ClassCast)))
            ≡ Some (heap_effect (part_with p (heap_map (type_at types) heap) (values.Ref r ∷ rest)) (on_heap_map (type_at types) (cast_flows heap (values.Ref r ∷ rest) b)))
        by_test true = refl
        by_test false = refl

  instance_of_mapped : (p : Part) (heap : Heap ℕ) (operands : List Value) → HasObject heap operands
      → model.instance_of program prefix (part_with p (heap_map (type_at types) heap) operands) class operands
      ≡ option_map (λ (e : OnHeap ℕ). heap_effect (part_with p (heap_map (type_at types) heap) operands) (on_heap_map (type_at types) e)) (instance_of_by is_below heap operands)
  unfolding instance_of_by
  instance_of_mapped p heap [] there = refl
  instance_of_mapped p heap (values.Int z ∷ rest) there = refl
  instance_of_mapped p heap (values.Long z ∷ rest) there = refl
  instance_of_mapped p heap (values.Ref r ∷ rest) there =
      ap (λ (b : Bool). Some (pushes (part_with p (heap_map (type_at types) heap) (values.Ref r ∷ rest)) rest (values.Int (if nat_eq r 0 then pos 0 else model.instance_number b)))) (instance_mapped heap r there)

  throw_if : (p : Part) (b a : Bool) (r : ℕ)
      → (if b then goes p (Goes (Raise raises.NullPointer)) else if a then goes p (Catch r) else model.broken p)
      ≡ goes p (thrown_view (if b then thrown.Null else if a then thrown.Catch r else thrown.Link))
  throw_if p true a r = refl
  throw_if p false true r = refl
  throw_if p false false r = refl

-- ---- the laws

pub check_cast_is : (program : Program) (prefix : Prefix) (types : List Ty) (class : Ty) (is_below : ℕ → Bool) (p : Part) (heap : Heap ℕ)
    → ((k : ℕ) → is_below k ≡ is_subtype program prefix (type_at types k) class) → p.heap ≡ heap_map (type_at types) heap → HasObject heap p.operands
    → model.check_cast program prefix p class p.operands
    ≡ option_map (λ (e : OnHeap ℕ). heap_effect p (on_heap_map (type_at types) e)) (check_cast_by is_below heap p.operands)
check_cast_is program prefix types class is_below p heap says e there =
    ap (λ (q : Part). model.check_cast program prefix q class p.operands) (sym (at_heap p (heap_map (type_at types) heap) e))
    ∙ (cast_mapped program prefix types class is_below says p heap p.operands there
    ∙ ap (λ (q : Part). option_map (λ (e : OnHeap ℕ). heap_effect q (on_heap_map (type_at types) e)) (check_cast_by is_below heap p.operands))
    (at_heap p (heap_map (type_at types) heap) e))

pub instance_of_is : (program : Program) (prefix : Prefix) (types : List Ty) (class : Ty) (is_below : ℕ → Bool) (p : Part) (heap : Heap ℕ)
    → ((k : ℕ) → is_below k ≡ is_subtype program prefix (type_at types k) class) → p.heap ≡ heap_map (type_at types) heap → HasObject heap p.operands
    → model.instance_of program prefix p class p.operands
    ≡ option_map (λ (e : OnHeap ℕ). heap_effect p (on_heap_map (type_at types) e)) (instance_of_by is_below heap p.operands)
instance_of_is program prefix types class is_below p heap says e there =
    ap (λ (q : Part). model.instance_of program prefix q class p.operands) (sym (at_heap p (heap_map (type_at types) heap) e))
    ∙ (instance_of_mapped program prefix types class is_below says p heap p.operands there
    ∙ ap (λ (q : Part). option_map (λ (e : OnHeap ℕ). heap_effect q (on_heap_map (type_at types) e)) (instance_of_by is_below heap p.operands))
    (at_heap p (heap_map (type_at types) heap) e))

throw_mapped : (program : Program) (prefix : Prefix) (types : List Ty) (is_below : ℕ → Bool) (p : Part) (heap : Heap ℕ) (operands : List Value)
    → ((k : ℕ) → is_below k ≡ is_subtype program prefix (type_at types k) (class_type (throwable_name prefix))) → p.heap ≡ heap_map (type_at types) heap → HasObject heap operands
    → model.throw_top program prefix p operands ≡ option_map (λ (t : Thrown). goes p (thrown_view t)) (throw_by is_below heap operands)
unfolding throw_by
throw_mapped program prefix types is_below p heap [] says e there = refl
throw_mapped program prefix types is_below p heap (values.Int z ∷ rest) says e there = refl
throw_mapped program prefix types is_below p heap (values.Long z ∷ rest) says e there = refl
throw_mapped program prefix types is_below p heap (values.Ref r ∷ rest) says e there =
    ap (λ (b : Bool). Some (if nat_eq r 0 then goes p (Goes (Raise raises.NullPointer)) else if b then goes p (Catch r) else model.broken p))
    (ap (λ (h : Heap Ty). is_instance program prefix h r (class_type (throwable_name prefix))) e
    ∙ instance_mapped program prefix types (class_type (throwable_name prefix)) is_below says heap r there)
    ∙ ap Some (throw_if program prefix types (class_type (throwable_name prefix)) is_below says p (nat_eq r 0) (is_instance_by is_below heap r) r)

pub throw_top_is : (program : Program) (prefix : Prefix) (types : List Ty) (is_below : ℕ → Bool) (p : Part) (heap : Heap ℕ)
    → ((k : ℕ) → is_below k ≡ is_subtype program prefix (type_at types k) (class_type (throwable_name prefix))) → p.heap ≡ heap_map (type_at types) heap → HasObject heap p.operands
    → model.throw_top program prefix p p.operands ≡ option_map (λ (t : Thrown). goes p (thrown_view t)) (throw_by is_below heap p.operands)
throw_top_is program prefix types is_below p heap says e there = throw_mapped program prefix types is_below p heap p.operands says e there

-- ---- static fields

pub get_static_is : (program : Program) (p : Part) (kind : Kind) (found : FoundField)
    → model.get_static program p (Some kind) (Some found) ≡ option_map (statics_effect p) (get_static_by kind (place_of_static program found) p.statics p.operands)
get_static_is program p kind found = refl

static_if : (p : Part) (b : Bool) (now : List ℕ) (rest : List Value)
    → (if b then Some (statics_effect p (leaves now rest)) else None) ≡ option_map (statics_effect p) (if b then Some (leaves now rest) else None)
static_if p true now rest = refl
static_if p false now rest = refl

put_static_at : (program : Program) (p : Part) (kind : Kind) (found : FoundField) (operands : List Value)
    → model.put_static program p (Some kind) (Some found) operands ≡ option_map (statics_effect p) (put_static_by kind (place_of_static program found) p.statics operands)
unfolding put_static_by
put_static_at program p kind found [] = refl
put_static_at program p kind found (v ∷ rest) = static_if p (is_of_kind kind v) (set p.statics (place_of_static program found) (field_bits v)) rest

pub put_static_is : (program : Program) (p : Part) (kind : Kind) (found : FoundField)
    → model.put_static program p (Some kind) (Some found) p.operands ≡ option_map (statics_effect p) (put_static_by kind (place_of_static program found) p.statics p.operands)
put_static_is program p kind found = put_static_at program p kind found p.operands
