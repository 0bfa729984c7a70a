-- What is done with a reference that is of no object: it counts as an array of booleans.
use Rattle.std.proofs.Common.{◌≡◌, ◌++◌, ◌<◌, ◌||◌, ℕ, pos, Bool, true, false, List, [], ◌∷◌, length, Option, Some, nat_eq, if◌then◌else◌, codes, refl, sym, ap, subst, ◌∙◌, arith}
use Rattle.std.specs.Prelude.{get_or}
use Rattle.std.specs.Option.{option_map}
use Rattle.std.proofs.lemmas.Bool.{false≢true, ne_eqb}
use Rattle.std.proofs.lemmas.List.{append_cancel_left}
use Rattle.dj_names.specs.declared.descriptor.Base.TheVariants as bases
use Rattle.dj_names.specs.declared.descriptor.Ty.{Ty}
use Rattle.dj_names.specs.declared.run.Outcome.TheVariants as outcomes
use Rattle.dj_names.specs.declared.run.Raised.TheVariants as raises
use Rattle.dj_names.specs.declared.run.Value.{Value}
use Rattle.dj_names.specs.declared.run.Value.TheVariants as values
use Rattle.dj_names.specs.trusted.Heaps.{Object, Heap}
use Rattle.dj_names.specs.Heaps.{heap_map, object_map}
use Rattle.dj_names.specs.trusted.Types.{Name, base_array, class_type, same_name}
use Rattle.dj_model.specs.trusted.Types.{Prefix, throwable_name}
use Rattle.dj_model.specs.trusted.Instructions as model
use Rattle.dj_model.specs.trusted.Program.{Program}
use Rattle.dj_model.specs.trusted.Linking.{is_subtype}
use Rattle.dj_model.specs.trusted.State.{Part, Next, Raise, Goes, Catch, End, Effect, goes, pushes}
use Rattle.dj_model.specs.trusted.Members.{check_cast, instance_number, instance_of, throw_top}
use Rattle.dj_model.specs.trusted.Performing.{class_in, class_at_number, is_instance}
use Rattle.dj_model.specs.trusted.Effects.{effect}
use Rattle.dj_model.proofs.MappedHeaps.{object_at_mapped}
use Rattle.dj_declarations.proofs.DescTests.{same_name_is}
use Rattle.dj_heap.specs.Heaps.{LimitedHeap}
use Rattle.dj_stack.specs.Frames.{StackFrame, SameButOperands, top_operands}
use Rattle.dj_effects.specs.declared.way.Way.TheVariants as ways
use Rattle.dj_image.specs.Imaged.{Imaged, program_of}
use Rattle.dj_initialisation.specs.Store.{store}
use Rattle.dj_image_effects.specs.declared.acted.Acted.{Acted}
use Rattle.dj_image_effects.specs.declared.acted.Acted.TheVariants as acts
use Rattle.dj_image_effects.specs.Absent.{ReplacesTop, cast_acted, is_absent_of}
use Rattle.dj_image_effects.specs.Acting.{Acts, ActsOnHeap, IsTopAbsent, machine, part_of}
use Rattle.dj_image_effects.proofs.Reported.{types, with_locals}
use Rattle.dj_image_effects.proofs.Takings.{none_past}

-- ---- in the model

abbrev cast_effect : Part → Bool → Effect
cast_effect p is = if is then goes p (Goes Next) else goes p (Goes (Raise raises.ClassCast))

abbrev throw_effect : Prefix → Part → ℕ → Bool → Effect
throw_effect prefix p r is = if is then goes p (Catch r) else goes p (End outcomes.Link)

module _ (program : Program) (prefix : Prefix) (f : ℕ → Ty) (heap : Heap ℕ) where
  abbrev absent_of : Ty → Bool
  absent_of ty = is_subtype program prefix (base_array bases.Boolean) ty

  some_reference : (r : ℕ) → length heap.objects < r → nat_eq r 0 ≡ false
  some_reference r past = ne_eqb r 0 (λ e. omega (arith, past, e))

  absent_instance : (r : ℕ) (ty : Ty) → length heap.objects < r → is_instance program prefix (heap_map f heap) r ty ≡ absent_of ty
  absent_instance r ty past =
      ap (λ (b : Bool). b || is_subtype program prefix (class_at_number (heap_map f heap) r) ty) (some_reference r past)
      ∙ ap (λ (o : Option (Object Ty)). is_subtype program prefix (class_in o) ty) (object_at_mapped f heap.objects r ∙ ap (option_map (object_map f)) (none_past heap.objects r past))

  module _ (p : Part) (typed : p.heap ≡ heap_map f heap) (ty : Ty) where
    instance_so : (r : ℕ) → length heap.objects < r → is_instance program prefix p.heap r ty ≡ absent_of ty
    instance_so r past = ap (λ (h : Heap Ty). is_instance program prefix h r ty) typed ∙ absent_instance r ty past

    cast_reported : (operands : List Value) → IsTopAbsent heap operands → check_cast program prefix p ty operands ≡ Some (cast_effect p (absent_of ty))
    cast_reported [] past = absurd past
    cast_reported (values.Int z ∷ rest) past = absurd past
    cast_reported (values.Long z ∷ rest) past = absurd past
    cast_reported (values.Ref r ∷ rest) past = ap (λ (b : Bool). Some (cast_effect p b)) (instance_so r past)

    abbrev reported_value : Value
    reported_value = values.Int (instance_number (absent_of ty))

    instance_reported : (operands new : List Value) → IsTopAbsent heap operands → ((w : Value) (rest : List Value) → operands ≡ w ∷ rest → new ≡ reported_value ∷ rest)
        → instance_of program prefix p ty operands ≡ Some (record { part = record p { operands = new }; flow = Goes Next })
    instance_reported [] new past is = absurd past
    instance_reported (values.Int z ∷ rest) new past is = absurd past
    instance_reported (values.Long z ∷ rest) new past is = absurd past
    instance_reported (values.Ref r ∷ rest) new past is =
        ap (λ (b : Bool). Some (pushes p rest (values.Int (if b then pos 0 else instance_number (is_instance program prefix p.heap r ty))))) (some_reference r past)
        ∙ (ap (λ (b : Bool). Some (pushes p rest (values.Int (instance_number b)))) (instance_so r past)
        ∙ ap (λ (operands : List Value). Some (record { part = record p { operands = operands }; flow = Goes Next })) (sym (is (values.Ref r) rest refl)))

-- no exception is a class of arrays
differs : (prefix a b : Name) → (a ≡ b → ⊥) → same_name (prefix ++ a) (prefix ++ b) ≡ false
differs prefix a b apart = by (same_name (prefix ++ a) (prefix ++ b)) refl where
  by : (is : Bool) → same_name (prefix ++ a) (prefix ++ b) ≡ is → same_name (prefix ++ a) (prefix ++ b) ≡ false
  by true e = absurd (apart (append_cancel_left prefix a b (same_name_is (prefix ++ a) (prefix ++ b) e)))
  by false e = e

no_throwable : (program : Program) (prefix : Prefix) → is_subtype program prefix (base_array bases.Boolean) (class_type (throwable_name prefix)) ≡ false
unfolding is_subtype
no_throwable program prefix =
    let a = differs prefix (codes "java/lang/Throwable") (codes "java/lang/Object") (λ e. false≢true (ap (λ (t : Name). nat_eq (get_or t 10 0) 84) (sym e))) in
    let b = differs prefix (codes "java/lang/Throwable") (codes "java/lang/Cloneable") (λ e. false≢true (ap (λ (t : Name). nat_eq (get_or t 10 0) 84) (sym e))) in
    let c = differs prefix (codes "java/lang/Throwable") (codes "java/io/Serializable") (λ e. false≢true (ap (λ (t : Name). nat_eq (get_or t 10 0) 84) (sym e))) in
    rw (a, b, c) refl

module _ (program : Program) (prefix : Prefix) (f : ℕ → Ty) (heap : Heap ℕ) (p : Part) (typed : p.heap ≡ heap_map f heap) where
  throw_reported : (operands : List Value) → IsTopAbsent heap operands → throw_top program prefix p operands ≡ Some (goes p (End outcomes.Link))
  throw_reported [] past = absurd past
  throw_reported (values.Int z ∷ rest) past = absurd past
  throw_reported (values.Long z ∷ rest) past = absurd past
  throw_reported (values.Ref r ∷ rest) past =
      ap (λ (b : Bool). Some (if b then goes p (Goes (Raise raises.NullPointer)) else throw_effect prefix p r (is_instance program prefix p.heap r (class_type (throwable_name prefix))))) (some_reference program prefix f heap r past)
      ∙ (ap (λ (b : Bool). Some (throw_effect prefix p r b)) (instance_so program prefix f heap p typed (class_type (throwable_name prefix)) r past)
      ∙ ap (λ (b : Bool). Some (throw_effect prefix p r b)) (no_throwable program prefix))

-- ---- what the code does

module _ (imaged : Imaged) (ty : Ty) (k : ℕ) (at : types imaged k ≡ ty) where
  same_absent : is_absent_of imaged k ≡ is_subtype (program_of imaged) imaged.prefix (base_array bases.Boolean) ty
  same_absent = ap (is_subtype (program_of imaged) imaged.prefix (base_array bases.Boolean)) at

  pub cast_absent : (frames : List StackFrame) (heap : LimitedHeap) (acted : Acted) → IsTopAbsent heap.heap (top_operands frames) → acted ≡ cast_acted (is_absent_of imaged k)
      → ActsOnHeap imaged (model.CheckCast ty) frames frames heap heap acted
  unfolding effect
  cast_absent frames heap acted past is statics literals are =
      subst (Acts imaged (model.CheckCast ty) (machine frames (store heap statics literals)) (machine frames (store heap statics literals))) (sym is) (by (is_absent_of imaged k) refl) where
        by : (b : Bool) → is_absent_of imaged k ≡ b → Acts imaged (model.CheckCast ty) (machine frames (store heap statics literals)) (machine frames (store heap statics literals)) (cast_acted b)
        by true e = record {
          effect = λ terms own account answers limit.
              cast_reported (program_of imaged) imaged.prefix (types imaged) heap.heap (part_of imaged (machine frames (store heap statics literals)) account answers) refl ty (top_operands frames) past
              ∙ ap (λ (b : Bool). Some (cast_effect (part_of imaged (machine frames (store heap statics literals)) account answers) b)) (sym same_absent ∙ e);
          limit = refl;
          frames = record { count = refl; method = refl; room = refl; below = refl };
          number = refl;
          are = are;
        }
        by false e = record {
          effect = λ terms own account answers limit.
              cast_reported (program_of imaged) imaged.prefix (types imaged) heap.heap (part_of imaged (machine frames (store heap statics literals)) account answers) refl ty (top_operands frames) past
              ∙ ap (λ (b : Bool). Some (cast_effect (part_of imaged (machine frames (store heap statics literals)) account answers) b)) (sym same_absent ∙ e);
          limit = refl;
          frames = record { count = refl; method = refl; room = refl; below = refl };
          number = refl;
          are = are;
        }

  pub instance_absent : (old new : List StackFrame) (heap : LimitedHeap) → IsTopAbsent heap.heap (top_operands old) → ReplacesTop old new (values.Int (instance_number (is_absent_of imaged k)))
      → SameButOperands old new → ActsOnHeap imaged (model.InstanceOf ty) old new heap heap (acts.Goes ways.Next)
  unfolding effect
  instance_absent old new heap past replaces same statics literals are = record {
    effect = λ terms own account answers limit.
        instance_reported (program_of imaged) imaged.prefix (types imaged) heap.heap (part_of imaged (machine old (store heap statics literals)) account answers) refl ty (top_operands old) (top_operands new) past
        (λ w rest e. replaces w rest e ∙ ap (λ (b : Bool). values.Int (instance_number b) ∷ rest) same_absent)
        ∙ with_locals imaged old new (store heap statics literals) (top_operands new) (Goes Next) account answers same.locals;
    limit = refl;
    frames = same.frames;
    number = same.number;
    are = are;
  }

pub throw_absent : (imaged : Imaged) (frames : List StackFrame) (heap : LimitedHeap) → IsTopAbsent heap.heap (top_operands frames) → ActsOnHeap imaged model.Throw frames frames heap heap acts.Link
unfolding effect
throw_absent imaged frames heap past statics literals are = record {
  effect = λ terms own account answers limit.
      throw_reported (program_of imaged) imaged.prefix (types imaged) heap.heap (part_of imaged (machine frames (store heap statics literals)) account answers) refl (top_operands frames) past;
  limit = refl;
  frames = record { count = refl; method = refl; room = refl; below = refl };
  number = refl;
  are = are;
}

-- there is an operand
pub some_operand : (heap : Heap ℕ) (operands : List Value) → IsTopAbsent heap operands → 0 < length operands
some_operand heap [] past = absurd past
some_operand heap (v ∷ rest) past = omega arith
