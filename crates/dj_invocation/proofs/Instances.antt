-- Arguments of native methods, one after the other.
use Rattle.std.proofs.Common.{◌≡◌, ◌<◌, ◌≤◌, ℕ, zero, suc, ◌+◌, ◌-◌, ◌&&◌, ◌||◌, nat_eq, Bool, true, false, List, [], ◌∷◌, length, reverse, take, drop, get_or, Option, Some, None, refl, sym, ap, subst, ◌∙◌, arith}
use Rattle.std.specs.Prelude.{slice_get}
use Rattle.std.proofs.lemmas.List.{length-take-le}
use Rattle.std.proofs.lemmas.Option.{none-some, same_Some, slice_get-get_or, slice_get_past}
use Rattle.dj_names.specs.declared.descriptor.Kind.{Kind}
use Rattle.dj_names.specs.declared.descriptor.Kind.TheVariants as kinds
use Rattle.dj_names.specs.declared.descriptor.Ty.{Ty}
use Rattle.dj_names.specs.declared.run.Value.{Value}
use Rattle.dj_names.specs.declared.run.Value.TheVariants as values
use Rattle.dj_names.specs.trusted.Heaps.{Heap}
use Rattle.dj_names.specs.trusted.Values.{value_kind}
use Rattle.dj_names.specs.trusted.Descriptors.{type_kind}
use Rattle.dj_model.specs.trusted.Types.{Prefix}
use Rattle.dj_model.specs.trusted.Program.{Program}
use Rattle.dj_model.specs.trusted.Numbers.{is_of_kind}
use Rattle.dj_model.specs.trusted.Linking.{is_subtype}
use Rattle.dj_model.specs.trusted.Performing.{is_instance, class_at_number}
use Rattle.dj_model.specs.trusted.Members.{with_kind, kinds_of, are_instances}
use Rattle.dj_numbering.specs.Typed.{Typed, types_of}
use Rattle.dj_image.specs.Imaged.{Imaged, program_of, typed_of}
use Rattle.dj_invocation.specs.Operands.{fit}
use Rattle.dj_invocation.specs.Natives.{IsClassOf, SaysClass, AreClasses, AreTyped}
use Rattle.dj_invocation.specs.Receivers.{HasObject, IsObject, takes_argument, typed_heap}
use Rattle.dj_invocation.proofs.OperandFacts.{from_end, first_left, same_kind_is, within_take}

fit_at : (ks : List Kind) (vs : List Value) (at : ℕ) (k : Kind) (v : Value) → fit ks vs ≡ true → slice_get ks at ≡ Some k → slice_get vs at ≡ Some v → k ≡ value_kind v
fit_at [] vs at k v e there is = absurd (none-some k there)
fit_at (c ∷ ks) [] at k v e there is = absurd (none-some v is)
fit_at (c ∷ ks) (w ∷ vs) at k v e there is = by (is_of_kind c w) refl e (fit_at ks vs) at there is where
  by : (b : Bool) → is_of_kind c w ≡ b → (b && fit ks vs) ≡ true
      → ((at : ℕ) (k : Kind) (v : Value) → fit ks vs ≡ true → slice_get ks at ≡ Some k → slice_get vs at ≡ Some v → k ≡ value_kind v)
      → (at : ℕ) → slice_get (c ∷ ks) at ≡ Some k → slice_get (w ∷ vs) at ≡ Some v → k ≡ value_kind v
  by false one e below at there is = absurd cc
  by true one e below zero there is = sym (same_Some c k there) ∙ (same_kind_is c (value_kind w) one ∙ ap value_kind (same_Some w v is))
  by true one e below (suc at) there is = below at k v e there is

pub kinds_length : (types : List Ty) (kinds : List Kind) → kinds_of types ≡ Some kinds → length types ≡ length kinds
kinds_length [] ks e = ap (length {A = Kind}) (same_Some [] ks e)
kinds_length (ty ∷ types) ks e = by (type_kind ty) (kinds_of types) e (kinds_length types) where
  by : (k : Option Kind) (o : Option (List Kind)) → with_kind k o ≡ Some ks → ((others : List Kind) → o ≡ Some others → length types ≡ length others) → suc (length types) ≡ length ks
  by None o e below = absurd (none-some ks e)
  by (Some k) None e below = absurd (none-some ks e)
  by (Some k) (Some others) e below = ap suc (below others refl) ∙ ap (length {A = Kind}) (same_Some (k ∷ others) ks e)

record HasKind (types : List Ty) (at : ℕ) (k : Kind) : Type 0 where
  pub type : Ty
  pub there : slice_get types at ≡ Some type
  pub kind : type_kind type ≡ Some k

type_of_kind : (types : List Ty) (ks : List Kind) (at : ℕ) (k : Kind) → kinds_of types ≡ Some ks → slice_get ks at ≡ Some k → HasKind types at k
type_of_kind [] ks at k e is = absurd (none-some k (ap (λ (xs : List Kind). slice_get xs at) (same_Some [] ks e) ∙ is))
type_of_kind (ty ∷ types) ks at k e is = by (type_kind ty) (kinds_of types) refl e (λ others. type_of_kind types others) at is where
  by : (c : Option Kind) (o : Option (List Kind)) → type_kind ty ≡ c → with_kind c o ≡ Some ks
      → ((others : List Kind) (at : ℕ) (k : Kind) → o ≡ Some others → slice_get others at ≡ Some k → HasKind types at k)
      → (at : ℕ) → slice_get ks at ≡ Some k → HasKind (ty ∷ types) at k
  by None o own e below at is = absurd (none-some ks e)
  by (Some c) None own e below at is = absurd (none-some ks e)
  by (Some c) (Some others) own e below zero is =
      record { type = ty; there = refl; kind = own ∙ ap (λ (xs : List Kind). slice_get xs 0) (same_Some (c ∷ others) ks e) ∙ is }
  by (Some c) (Some others) own e below (suc at) is =
      let h = below others at k refl (ap (λ (xs : List Kind). slice_get xs (suc at)) (same_Some (c ∷ others) ks e) ∙ is) in
      record { type = h.type; there = h.there; kind = h.kind }

class_reported : (typed : Typed) (types : List Ty) (classes : List (Option ℕ)) (at : ℕ) (ty : Ty) → AreClasses typed types classes → slice_get types at ≡ Some ty
    → SaysClass typed ty (get_or classes at None)
class_reported typed [] classes at ty are there = absurd (none-some ty there)
class_reported typed (t ∷ types) [] at ty are there = absurd are
class_reported typed (t ∷ types) (class ∷ classes) zero ty are there = subst (λ (x : Ty). SaysClass typed x class) (same_Some t ty there) are.0
class_reported typed (t ∷ types) (class ∷ classes) (suc at) ty are there = class_reported typed types classes at ty are.1 there

one_instance : (program : Program) (prefix : Prefix) (heap : Heap Ty) (ty : Ty) (types : List Ty) (v : Value) (args : List Value)
    → are_instances program prefix heap (ty ∷ types) (v ∷ args) ≡ (takes_argument program prefix heap ty v && are_instances program prefix heap types args)
one_instance program prefix heap ty types (values.Int z) args = refl
one_instance program prefix heap ty types (values.Long z) args = refl
one_instance program prefix heap ty types (values.Ref r) args = refl

-- the argument at a place, and those after it
pub record IsNext (imaged : Imaged) (program : Program) (prefix : Prefix) (heap : Heap Ty) (operands : List Value) (count at : ℕ) (v : Value) (class : Option ℕ) (types : List Ty) : Type 0 where
  pub type : Ty
  pub reported : value_kind v ≡ kinds.Ref → IsClassOf (typed_of imaged) type class
  pub is : are_instances program prefix heap (drop at types) (drop at (reverse (take count operands)))
      ≡ (takes_argument program prefix heap type v && are_instances program prefix heap (drop (at + 1) types) (drop (at + 1) (reverse (take count operands))))

pub next_argument : (imaged : Imaged) (program : Program) (prefix : Prefix) (heap : Heap Ty) (operands : List Value) (count at : ℕ) (v : Value) (classes : List (Option ℕ)) (types : List Ty)
    → AreTyped imaged operands count classes types → count ≤ length operands → at < count → slice_get operands (count - 1 - at) ≡ Some v
    → IsNext imaged program prefix heap operands count at v (get_or classes at None) types
next_argument imaged program prefix heap operands count at v classes types are within less is =
    let d : Kind = kinds.Int in
    let k : Kind = get_or are.kinds at d in
    let many = are.count_is in
    let kind_there : slice_get are.kinds at ≡ Some k = slice_get-get_or are.kinds at d (omega (arith, less, many)) in
    let kind_is : k ≡ value_kind v = fit_at (reverse are.kinds) operands (count - 1 - at) k v are.fits (from_end are.kinds (count - 1 - at) at (omega (arith, less, many)) ∙ kind_there) is in
    let typed = type_of_kind types are.kinds at k are.kinds_are kind_there in
    let args : List Value = reverse (take count operands) in
    let long = length-take-le count operands within in
    let here : slice_get args at ≡ Some v = from_end (take count operands) at (count - 1 - at) (omega (arith, less, long)) ∙ (within_take operands count (count - 1 - at) (omega (arith, less)) ∙ is) in
    let next : suc at ≡ at + 1 = omega arith in
    record {
      type = typed.type;
      reported = λ reference. class_reported (typed_of imaged) types classes at typed.type are.classes_are typed.there (typed.kind ∙ ap Some (kind_is ∙ reference));
      is = ap (λ (ts : List Ty). are_instances program prefix heap ts (drop at args)) (first_left types at typed.type typed.there)
          ∙ (ap (are_instances program prefix heap (typed.type ∷ drop (suc at) types)) (first_left args at v here)
          ∙ (one_instance program prefix heap typed.type (drop (suc at) types) v (drop (suc at) args)
          ∙ ap (λ (n : ℕ). takes_argument program prefix heap typed.type v && are_instances program prefix heap (drop n types) (drop n args)) next));
    }

none_left : (program : Program) (prefix : Prefix) (heap : Heap Ty) (types : List Ty) (args : List Value) (at : ℕ) → length types ≤ at → are_instances program prefix heap (drop at types) args ≡ true
none_left program prefix heap [] args zero e = refl
none_left program prefix heap [] args (suc at) e = refl
none_left program prefix heap (ty ∷ types) args zero e = absurd (omega (arith, e))
none_left program prefix heap (ty ∷ types) args (suc at) e = none_left program prefix heap types args at (omega (arith, e))

pub all_arguments : (imaged : Imaged) (program : Program) (prefix : Prefix) (heap : Heap Ty) (operands : List Value) (count at : ℕ) (classes : List (Option ℕ)) (types : List Ty)
    → AreTyped imaged operands count classes types → count ≤ at → are_instances program prefix heap (drop at types) (drop at (reverse (take count operands))) ≡ true
all_arguments imaged program prefix heap operands count at classes types are past =
    let many = are.count_is in let long = kinds_length types are.kinds are.kinds_are in
    none_left program prefix heap types (drop at (reverse (take count operands))) at (omega (arith, past, many, long))

-- a value that is taken as a parameter
pub argument_reported : (imaged : Imaged) (heap : Heap ℕ) (ty : Ty) (r : ℕ) → r ≡ 0 → true ≡ is_instance (program_of imaged) imaged.prefix (typed_heap imaged heap) r ty
argument_reported imaged heap ty r null = sym (ap (λ (b : Bool). b || is_subtype (program_of imaged) imaged.prefix (class_at_number (typed_heap imaged heap) r) ty) (ap (λ (n : ℕ). nat_eq n 0) null))

pub object_of : (heap : Heap ℕ) (v : Value) (r : ℕ) → HasObject heap v → v ≡ values.Ref r → IsObject heap r
object_of heap v r has e = subst (HasObject heap) e has

pub argument_some : (imaged : Imaged) (heap : Heap Ty) (ty : Ty) (v : Value) (class : Option ℕ) (r k : ℕ) (result : Bool) → v ≡ values.Ref r → class ≡ Some k
    → (value_kind v ≡ kinds.Ref → IsClassOf (typed_of imaged) ty class)
    → ((t : Ty) → slice_get (types_of (typed_of imaged)) k ≡ Some t → result ≡ is_instance (program_of imaged) imaged.prefix heap r t)
    → result ≡ takes_argument (program_of imaged) imaged.prefix heap ty v
argument_some imaged heap ty v class r k result e some reported is =
    is ty (subst (IsClassOf (typed_of imaged) ty) some (reported (ap value_kind e))) ∙ sym (ap (takes_argument (program_of imaged) imaged.prefix heap ty) e)

pub argument_none : (imaged : Imaged) (heap : Heap Ty) (ty : Ty) (v : Value) (class : Option ℕ) (r : ℕ) → v ≡ values.Ref r → class ≡ None
    → (value_kind v ≡ kinds.Ref → IsClassOf (typed_of imaged) ty class) → true ≡ takes_argument (program_of imaged) imaged.prefix heap ty v
argument_none imaged heap ty v class r e none reported = absurd (subst (IsClassOf (typed_of imaged) ty) none (reported (ap value_kind e)))

pub argument_other : (program : Program) (prefix : Prefix) (heap : Heap Ty) (ty : Ty) (v : Value) → ((r : ℕ) → v ≡ values.Ref r → ⊥) → true ≡ takes_argument program prefix heap ty v
argument_other program prefix heap ty (values.Int z) not = refl
argument_other program prefix heap ty (values.Long z) not = refl
argument_other program prefix heap ty (values.Ref r) not = absurd (not r refl)

pub past_types : (imaged : Imaged) (k : ℕ) (ty : Ty) → length (types_of (typed_of imaged)) ≤ k → slice_get (types_of (typed_of imaged)) k ≡ Some ty → ⊥
past_types imaged k ty past e = none-some ty (sym (slice_get_past (types_of (typed_of imaged)) k past) ∙ e)
