-- What is chosen by numbers is what the model takes.
use Rattle.std.proofs.Common.{◌≡◌, ◌<◌, ℕ, zero, suc, ◌-◌, ◌||◌, Bool, true, false, List, [], ◌∷◌, ◌++◌, map, length, Option, Some, None, nat_eq, if◌then◌else◌, IsSome, refl, sym, ap, subst, ◌∙◌}
use Rattle.std.specs.Prelude.{slice_get, option_and_then, unwrap_or, IfSome}
use Rattle.std.specs.Option.{option_map}
use Rattle.std.specs.List.{All}
use Rattle.std.proofs.lemmas.List.Elements.{All-get_or}
use Rattle.std.proofs.lemmas.Option.{none-some, same_Some, slice_get_within, get_or_from_slice_get}
use Rattle.dj_names.specs.declared.descriptor.Ty.{Ty}
use Rattle.dj_names.specs.declared.run.Value.{Value}
use Rattle.dj_names.specs.declared.run.Value.TheVariants as values
use Rattle.dj_names.specs.trusted.Heaps.{Object, Heap, class_of, object_at}
use Rattle.dj_names.specs.Heaps.{object_map}
use Rattle.dj_names.specs.trusted.Types.{Name, class_type}
use Rattle.dj_heap.specs.Heaps.{LimitedHeap, object_in}
use Rattle.dj_model.specs.trusted.Types.{Prefix, Member}
use Rattle.dj_model.specs.trusted.Program.{Program}
use Rattle.dj_model.specs.trusted.Linking.{FoundMethod, is_subtype, resolve_method, select, special_method}
use Rattle.dj_model.specs.trusted.Performing.{class_in, class_at_number, is_instance}
use Rattle.dj_model.specs.trusted.Members.{asked_class}
use Rattle.dj_model.proofs.MappedHeaps.{object_at_mapped, class_of_mapped}
use Rattle.dj_effects.proofs.ArrayFacts.{not_null}
use Rattle.dj_class_table.specs.Tables.{name_of, name_at}
use Rattle.dj_resolution.specs.Linked.{class_name}
use Rattle.dj_numbering.specs.Typed.{Typed, types_of, type_at, is_subtype_at}
use Rattle.dj_numbering.specs.Members.{found_method_number, selected, special_of}
use Rattle.dj_numbering.specs.declared.types.MethodId.{MethodId}
use Rattle.dj_image.specs.Imaged.{Imaged, program_of, typed_of}
use Rattle.dj_invocation.specs.declared.choosing.Chosen.{Chosen}
use Rattle.dj_invocation.specs.declared.choosing.Chosen.TheVariants as chosen
use Rattle.dj_invocation.specs.Choosing.{IsNumber, IsThere, special_choice, Choice, IsNull, IsBroken, IsMethod, IsMethodOrNone, IsChosen, RefusesWith, chosen_method, received_choice, taken_method}
use Rattle.dj_invocation.specs.Receivers.{AreNumbered, AreObjects, IsObject, typed_heap}
use Rattle.dj_invocation.proofs.Found.{reported_method, resolved_own, selected_there, special_there, own_there}

-- ---- classes of objects

all_at : {A : Type 0} (P : A → Type 0) (items : List A) (i : ℕ) (x : A) → slice_get items i ≡ Some x → All P items → P x
all_at P items i x e all = subst P (get_or_from_slice_get items i x x e) (All-get_or P items i x (slice_get_within items i x e) all)

class_in_all : (b : Bool) (count : ℕ) (objects : List (Object ℕ)) (i k : ℕ) → All (λ object. class_of object < count) objects
    → option_map class_of (if b then None else slice_get objects i) ≡ Some k → k < count
class_in_all true count objects i k all e = absurd (none-some k e)
class_in_all false count objects i k all e = go (slice_get objects i) refl e where
  go : (o : Option (Object ℕ)) → slice_get objects i ≡ o → option_map class_of o ≡ Some k → k < count
  go None there e = absurd (none-some k e)
  go (Some object) there e = subst (λ (n : ℕ). n < count) (same_Some (class_of object) k e) (all_at (λ (x : Object ℕ). class_of x < count) objects i object there all)

pub class_numbered : (imaged : Imaged) (h : LimitedHeap) (r k : ℕ) → AreNumbered imaged h.heap → option_map class_of (object_in h r) ≡ Some k → k < length (types_of (typed_of imaged))
class_numbered imaged h r k all e = class_in_all (nat_eq r 0) (length (types_of (typed_of imaged))) h.heap.objects (r - 1) k all e

pub object_there : (h : LimitedHeap) (r : ℕ) → IsObject h.heap r → (r ≡ 0 → ⊥) → IsSome (object_in h r)
object_there h r object some = by (object_in h r) object where
  by : (o : Option (Object ℕ)) → (o ≡ None → r ≡ 0) → IsSome o
  by None null = absurd (some (null refl))
  by (Some o) null = refl

pub class_typed : (imaged : Imaged) (heap : Heap ℕ) (r k : ℕ) → option_map class_of (object_at heap.objects r) ≡ Some k
    → class_at_number (typed_heap imaged heap) r ≡ type_at (typed_of imaged) k
class_typed imaged heap r k e = ap class_in (object_at_mapped (type_at (typed_of imaged)) heap.objects r) ∙ by (object_at heap.objects r) e where
  by : (o : Option (Object ℕ)) → option_map class_of o ≡ Some k → class_in (option_map (object_map (type_at (typed_of imaged))) o) ≡ type_at (typed_of imaged) k
  by None e = absurd (none-some k e)
  by (Some o) e = class_of_mapped (type_at (typed_of imaged)) o ∙ ap (type_at (typed_of imaged)) (same_Some (class_of o) k e)

-- ---- classes by their names

named_among : (program : Program) (arrays : List Ty) (k : ℕ) (name : Name) → name_at program k ≡ Some name
    → slice_get (map (λ c. class_type (name_of c)) program ++ arrays) k ≡ Some (class_type name)
named_among [] arrays k name e = absurd (none-some name e)
named_among (c ∷ program) arrays zero name e = ap (λ (n : Name). Some (class_type n)) (same_Some c.name name e)
named_among (c ∷ program) arrays (suc k) name e = named_among program arrays k name e

pub class_type_there : (typed : Typed) (k : ℕ) (name : Name) → name_at typed.program k ≡ Some name → slice_get (types_of typed) k ≡ Some (class_type name)
class_type_there typed k name e = named_among typed.program typed.arrays k name e

pub class_known : (typed : Typed) (k : ℕ) (name : Name) → name_at typed.program k ≡ Some name → k < length (types_of typed)
class_known typed k name e = slice_get_within (types_of typed) k (class_type name) (class_type_there typed k name e)

type_is : (typed : Typed) (k : ℕ) (ty : Ty) → slice_get (types_of typed) k ≡ Some ty → type_at typed k ≡ ty
type_is typed k ty e = ap (λ (o : Option Ty). unwrap_or o (class_type [])) e

-- an object's class below a class of a number
pub instance_typed : (imaged : Imaged) (heap : Heap ℕ) (r k a : ℕ) (ty : Ty) → (r ≡ 0 → ⊥) → option_map class_of (object_at heap.objects r) ≡ Some k
    → slice_get (types_of (typed_of imaged)) a ≡ Some ty
    → is_instance (program_of imaged) imaged.prefix (typed_heap imaged heap) r ty ≡ is_subtype_at (typed_of imaged) k a
instance_typed imaged heap r k a ty some e named =
    ap (λ (b : Bool). b || is_subtype (program_of imaged) imaged.prefix (class_at_number (typed_heap imaged heap) r) ty) (not_null r some)
    ∙ (ap (λ (t : Ty). is_subtype (program_of imaged) imaged.prefix t ty) (class_typed imaged heap r k e)
    ∙ ap (is_subtype (program_of imaged) imaged.prefix (type_at (typed_of imaged) k)) (sym (type_is (typed_of imaged) a ty named)))

-- ---- receivers

pub null_refused : (program : Program) (prefix : Prefix) (heap : Heap Ty) (r : ℕ) (class : Name) → r ≡ 0 → (choice : Choice) → received_choice program prefix heap r class choice ≡ IsNull
null_refused program prefix heap r class null choice = ap (λ (r : ℕ). received_choice program prefix heap r class choice) null

received_by : (program : Program) (prefix : Prefix) (heap : Heap Ty) (r : ℕ) (class : Name) (b : Bool) → (r ≡ 0 → ⊥) → is_instance program prefix heap r (class_type class) ≡ b
    → (choice : Choice) → received_choice program prefix heap r class choice ≡ (if b then choice else IsBroken)
received_by program prefix heap r class b some is choice =
    ap (λ (null : Bool). if null then IsNull else if is_instance program prefix heap r (class_type class) then choice else IsBroken) (not_null r some)
    ∙ ap (λ (b : Bool). if b then choice else IsBroken) is

pub received_if : (imaged : Imaged) (heap : Heap ℕ) (r k a : ℕ) (name : Name) (b : Bool) → (r ≡ 0 → ⊥) → option_map class_of (object_at heap.objects r) ≡ Some k
    → name_at (program_of imaged) a ≡ Some name → b ≡ is_subtype_at (typed_of imaged) k a
    → (choice : Choice) → received_choice (program_of imaged) imaged.prefix (typed_heap imaged heap) r name choice ≡ (if b then choice else IsBroken)
received_if imaged heap r k a name b some e named is choice =
    received_by (program_of imaged) imaged.prefix (typed_heap imaged heap) r name b some
    (instance_typed imaged heap r k a (class_type name) some e (class_type_there (typed_of imaged) a name named) ∙ sym is) choice

pub refused_chosen : (program : Program) (prefix : Prefix) (heap : Heap Ty) (r : ℕ) (class : Name) (x : Chosen) → RefusesWith program prefix heap r class (Some x)
    → (choice : Choice) → IsChosen program x (received_choice program prefix heap r class choice)
refused_chosen program prefix heap r class (chosen.Method id) refuses choice = absurd refuses
refused_chosen program prefix heap r class chosen.Null refuses choice = subst (IsChosen program chosen.Null) (sym (refuses choice)) tt
refused_chosen program prefix heap r class chosen.Link refuses choice = subst (IsChosen program chosen.Link) (sym (refuses choice)) tt

chosen_reported : (program : Program) (id : Option MethodId) (found : Option FoundMethod) → IsMethodOrNone program id found → IsChosen program (chosen_method id) (taken_method found)
chosen_reported program None None reported = tt
chosen_reported program (Some id) None reported = absurd reported
chosen_reported program None (Some found) reported = absurd reported
chosen_reported program (Some id) (Some found) reported = reported

pub fit_chosen : (program : Program) (prefix : Prefix) (heap : Heap Ty) (r : ℕ) (class : Name) (id : Option MethodId) (found : Option FoundMethod)
    → RefusesWith program prefix heap r class None → IsMethodOrNone program id found → IsChosen program (chosen_method id) (received_choice program prefix heap r class (taken_method found))
fit_chosen program prefix heap r class id found fits reported = subst (IsChosen program (chosen_method id)) (sym (fits (taken_method found))) (chosen_reported program id found reported)

-- the method of a number that is selected
pub selected_reported : (imaged : Imaged) (heap : Heap ℕ) (method : MethodId) (m : Member) (resolved : FoundMethod) (r k : ℕ) (id : Option MethodId)
    → resolve_method (program_of imaged) imaged.prefix m ≡ Some resolved → IsMethod (program_of imaged) method resolved
    → option_map class_of (object_at heap.objects r) ≡ Some k
    → option_map (λ (m : MethodId). m.number) id ≡ found_method_number (program_of imaged) (selected (typed_of imaged) method.number k)
    → IsMethodOrNone (program_of imaged) id (select (program_of imaged) imaged.prefix resolved (class_at_number (typed_heap imaged heap) r))
selected_reported imaged heap method m resolved r k id e there class is =
    let program : Program = program_of imaged in
    let taken : selected (typed_of imaged) method.number k ≡ select program imaged.prefix resolved (class_at_number (typed_heap imaged heap) r) =
    ap (option_and_then (λ (found : FoundMethod). select program imaged.prefix found (type_at (typed_of imaged) k))) there
    ∙ ap (select program imaged.prefix resolved) (sym (class_typed imaged heap r k class)) in
    reported_method program id (select program imaged.prefix resolved (class_at_number (typed_heap imaged heap) r))
    (λ f found. own_there program resolved f (selected_there program imaged.prefix resolved (class_at_number (typed_heap imaged heap) r) f (resolved_own program imaged.prefix m resolved e) found))
    (is ∙ ap (found_method_number program) taken)

-- ---- special calls

-- the method of a number that invokespecial takes
pub special_reported : (imaged : Imaged) (own : ℕ) (method : MethodId) (m : Member) (resolved : FoundMethod) (id : Option MethodId)
    → resolve_method (program_of imaged) imaged.prefix m ≡ Some resolved → IsMethod (program_of imaged) method resolved
    → option_map (λ (m : MethodId). m.number) id ≡ found_method_number (program_of imaged) (special_of (typed_of imaged) method.number own)
    → IsMethodOrNone (program_of imaged) id (special_method (program_of imaged) (class_name (program_of imaged) own) resolved)
special_reported imaged own method m resolved id e there is =
    let program : Program = program_of imaged in
    let taken : special_of (typed_of imaged) method.number own ≡ special_method program (class_name program own) resolved = ap (option_and_then (special_method program (class_name program own))) there in
    reported_method program id (special_method program (class_name program own) resolved)
    (λ f found. own_there program resolved f (special_there program (class_name program own) resolved f (resolved_own program imaged.prefix m resolved e) found))
    (is ∙ ap (found_method_number program) taken)

-- the method of whose class the receiver has to be
pub record IsAsked (program : Program) (asked : MethodId) (resolved : FoundMethod) (found : Option FoundMethod) : Type 0 where
  pub method : FoundMethod
  pub there : IsMethod program asked method
  pub class : method.class ≡ asked_class resolved found

asked_there : (program : Program) (method asked : MethodId) (id : Option MethodId) (resolved : FoundMethod) (found : Option FoundMethod)
    → asked ≡ unwrap_or id method → IsMethodOrNone program id found → IsMethod program method resolved → IsAsked program asked resolved found
asked_there program method asked None resolved None e reported there = record { method = resolved; there = subst (λ (x : MethodId). IsMethod program x resolved) (sym e) there; class = refl }
asked_there program method asked (Some id) resolved (Some f) e reported there = record { method = f; there = subst (λ (x : MethodId). IsMethod program x f) (sym e) reported; class = refl }
asked_there program method asked None resolved (Some f) e reported there = absurd reported
asked_there program method asked (Some id) resolved None e reported there = absurd reported

pub asked_within : (program : Program) (method asked : MethodId) (id : Option MethodId) → asked ≡ unwrap_or id method → IfSome id (IsNumber program) → IsNumber program method → IsNumber program asked
asked_within program method asked None e some within = subst (IsNumber program) (sym e) within
asked_within program method asked (Some id) e some within = subst (IsNumber program) (sym e) some

pub special_refused : (program : Program) (prefix : Prefix) (heap : Heap Ty) (r : ℕ) (method asked : MethodId) (id : Option MethodId) (resolved : FoundMethod) (found : Option FoundMethod) (x : Chosen)
    → asked ≡ unwrap_or id method → IsMethodOrNone program id found → IsMethod program method resolved
    → ((f : FoundMethod) → IsMethod program asked f → RefusesWith program prefix heap r f.class (Some x)) → IsChosen program x (special_choice program prefix heap resolved r found)
special_refused program prefix heap r method asked id resolved found x e reported there refuses =
    let a = asked_there program method asked id resolved found e reported there in
    subst (λ (class : Name). IsChosen program x (received_choice program prefix heap r class (taken_method found))) a.class
    (refused_chosen program prefix heap r a.method.class x (refuses a.method a.there) (taken_method found))

pub special_fit : (program : Program) (prefix : Prefix) (heap : Heap Ty) (r : ℕ) (method asked : MethodId) (id : Option MethodId) (resolved : FoundMethod) (found : Option FoundMethod)
    → asked ≡ unwrap_or id method → IsMethodOrNone program id found → IsMethod program method resolved
    → ((f : FoundMethod) → IsMethod program asked f → RefusesWith program prefix heap r f.class None) → IsChosen program (chosen_method id) (special_choice program prefix heap resolved r found)
special_fit program prefix heap r method asked id resolved found e reported there fits =
    let a = asked_there program method asked id resolved found e reported there in
    subst (λ (class : Name). IsChosen program (chosen_method id) (received_choice program prefix heap r class (taken_method found))) a.class
    (fit_chosen program prefix heap r a.method.class id found (fits a.method a.there) reported)

pub chosen_within : (program : Program) (id : Option MethodId) → IfSome id (IsNumber program) → IsThere program (chosen_method id)
chosen_within program None some = tt
chosen_within program (Some id) some = some

-- an operand's object
pub receiver_object : (heap : Heap ℕ) (operands : List Value) (at r : ℕ) → AreObjects heap operands → slice_get operands at ≡ Some (values.Ref r) → IsObject heap r
receiver_object heap operands at r objects there = objects at (values.Ref r) there
