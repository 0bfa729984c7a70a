-- Maps of class names: the one that keeps each name, the one into the sandbox, and programs with more classes before them.
use Rattle.std.proofs.Common.{◌≡◌, ℕ, false, List, [], ◌∷◌, ◌++◌, map, Option, Some, None, nat_eq, refl, ap, inl, inr, drop, arith}
use Rattle.std.specs.Option.{option_map}
use Rattle.dj_names.specs.declared.descriptor.Of.{Of}
use Rattle.dj_names.specs.declared.descriptor.Of.TheVariants as ofs
use Rattle.dj_names.specs.declared.descriptor.Ty.{Ty}
use Rattle.dj_names.specs.declared.descriptor.Desc.{Desc}
use Rattle.dj_names.specs.declared.descriptor.Desc.TheVariants as descs
use Rattle.dj_names.specs.trusted.Heaps.{Object, Instance, Array, Text, Heap}
use Rattle.dj_names.specs.Heaps.{object_map, heap_map}
use Rattle.dj_names.specs.trusted.Library.{stop_class}
use Rattle.dj_names.specs.Library.{below_object, accounter_class, accounter_methods}
use Rattle.dj_names.specs.trusted.Types.{Name, of_map}
use Rattle.dj_names.specs.Types.{type_map, desc_map, sandbox_prefix, in_sandbox}
use Rattle.dj_model.specs.trusted.Types.{Prefix, Member, Declared, is_stop}
use Rattle.dj_model.specs.Types.{member_map, declared_map}
use Rattle.dj_model.specs.trusted.Instructions.{Named, Nothing, AnInt, ALong, AText, AClass, AField, AMethod, AnInterfaceMethod, Another, Instruction, Nop, Push, PushText, Load, Store, Increment, LoadElement, StoreElement, Move, Compute, Convert, Branch, Goto, Switch, Return, GetStatic, PutStatic, GetField, PutField, Invoke, New, NewArray, ArrayLength, Throw, CheckCast, InstanceOf, Monitor, Other}
use Rattle.dj_model.specs.Instructions.{named_map, instruction_map}
use Rattle.dj_model.specs.trusted.Program.{Program, class_at}
use Rattle.dj_model.specs.trusted.Linking.{static_place}
use Rattle.dj_model.specs.trusted.Libraries.{library_class}
use Rattle.dj_model.specs.trusted.State.{Part, Flow, Goes, Catch, Stop, Call, End, Effect}
use Rattle.dj_model.specs.State.{part_map, flow_map, effect_map}
use Rattle.dj_model.specs.Mapping.{IsNameMap, same_names_map, AreApart}
use Rattle.dj_model.proofs.MappedNames.{either}

-- ---- each name is kept

of_same : (of : Of) → of_map same_names_map of ≡ of
of_same (ofs.Base base) = refl
of_same (ofs.Class name) = refl

type_same : (ty : Ty) → type_map same_names_map ty ≡ ty
type_same ty = ap (λ (of : Of). record { dims = ty.dims; of = of }) (of_same ty.of)

map_same : {A : Type 0} (h : A → A) → ((x : A) → h x ≡ x) → (xs : List A) → map h xs ≡ xs
map_same h e [] = refl
map_same h e (x ∷ xs) = λ i. e x i ∷ map_same h e xs i

pub option_same : {A : Type 0} (h : A → A) → ((x : A) → h x ≡ x) → (x : Option A) → option_map h x ≡ x
option_same h e None = refl
option_same h e (Some x) = ap Some (e x)

desc_same : (desc : Desc) → desc_map same_names_map desc ≡ desc
desc_same (descs.Field ty) = ap descs.Field (type_same ty)
desc_same (descs.Method params ret) =
    λ i. descs.Method (map_same (type_map same_names_map) type_same params i) (option_same (type_map same_names_map) type_same ret i)

member_same : (m : Member) → member_map same_names_map m ≡ m
member_same m = λ i. record { class = type_same m.class i; name = m.name; desc = desc_same m.desc i }

declared_same : (m : Declared) → declared_map same_names_map m ≡ m
declared_same m = λ i. record { class = m.class; name = m.name; desc = desc_same m.desc i }

named_same : (named : Named) → named_map same_names_map named ≡ named
named_same (AClass class) = ap AClass (type_same class)
named_same (AField m) = ap AField (member_same m)
named_same (AMethod m) = ap AMethod (member_same m)
named_same (AnInterfaceMethod m) = ap AnInterfaceMethod (member_same m)
named_same Nothing = refl
named_same (AnInt z) = refl
named_same (ALong z) = refl
named_same (AText units) = refl
named_same Another = refl

pub instruction_same : (i : Instruction) → instruction_map same_names_map i ≡ i
instruction_same (GetStatic m) = ap GetStatic (member_same m)
instruction_same (PutStatic m) = ap PutStatic (member_same m)
instruction_same (GetField m) = ap GetField (member_same m)
instruction_same (PutField m) = ap PutField (member_same m)
instruction_same (Invoke mode m) = ap (Invoke mode) (member_same m)
instruction_same (New class) = ap New (type_same class)
instruction_same (NewArray class element) = ap (λ c. NewArray c element) (type_same class)
instruction_same (CheckCast class) = ap CheckCast (type_same class)
instruction_same (InstanceOf class) = ap InstanceOf (type_same class)
instruction_same (Other op named) = ap (Other op) (named_same named)
instruction_same Nop = refl
instruction_same (Push v) = refl
instruction_same (PushText units) = refl
instruction_same (Load kind slot) = refl
instruction_same (Store kind slot) = refl
instruction_same (Increment slot by) = refl
instruction_same (LoadElement access) = refl
instruction_same (StoreElement access) = refl
instruction_same (Move operation) = refl
instruction_same (Compute operation) = refl
instruction_same (Convert operation) = refl
instruction_same (Branch test target) = refl
instruction_same (Goto target) = refl
instruction_same (Switch pairs default) = refl
instruction_same (Return kind) = refl
instruction_same ArrayLength = refl
instruction_same Throw = refl
instruction_same Monitor = refl

object_same : (o : Object Ty) → object_map (type_map same_names_map) o ≡ o
object_same (Instance class fields) = ap (λ c. Instance c fields) (type_same class)
object_same (Array class element contents) = ap (λ c. Array c element contents) (type_same class)
object_same (Text class units) = ap (λ c. Text c units) (type_same class)

heap_same : (heap : Heap Ty) → heap_map (type_map same_names_map) heap ≡ heap
heap_same heap = λ i. record { objects = map_same (object_map (type_map same_names_map)) object_same heap.objects i; used = heap.used }

pub part_same : (x : Part) → part_map same_names_map x ≡ x
part_same x = λ i. record x { heap = heap_same x.heap i }

flow_same : (flow : Flow) → flow_map same_names_map flow ≡ flow
flow_same (Goes way) = refl
flow_same (Catch exception) = refl
flow_same Stop = refl
flow_same (Call m arguments) = ap (λ n. Call n arguments) (declared_same m)
flow_same (End outcome) = refl

pub effect_same : (e : Option Effect) → option_map (effect_map same_names_map) e ≡ e
effect_same e = option_same (effect_map same_names_map) (λ x i. record { part = part_same x.part i; flow = flow_same x.flow i }) e

pub same_map : (p : Prefix) → IsNameMap same_names_map p p
same_map p = record {
  differ = λ a b e. e;
  library = λ name. refl;
  stop = λ class. ap (is_stop p) (type_same class);
  shown = λ name. refl;
}

-- ---- into the sandbox

no_stop : (dims : ℕ) (of : Of) → is_stop sandbox_prefix (record { dims = dims; of = of_map in_sandbox of }) ≡ false
no_stop dims (ofs.Base base) = elim (either (nat_eq dims 0)) [ inl e ↦ rw e refl | inr e ↦ rw e refl ]
no_stop dims (ofs.Class name) = elim (either (nat_eq dims 0)) [ inl e ↦ rw e refl | inr e ↦ rw e refl ]

pub sandbox_map : IsNameMap in_sandbox [] sandbox_prefix
sandbox_map = record {
  differ = λ a b e. ap (drop 8) e;
  library = λ name. refl;
  stop = λ class. no_stop class.dims class.of;
  shown = λ name. refl;
}

-- ---- more classes before those of a program

pub prefix_at : (f : Name → Name) (prefix program : Program) → AreApart f prefix → (name : Name) → class_at (prefix ++ program) (f name) ≡ class_at program (f name)
prefix_at f [] program apart name = refl
prefix_at f (c ∷ prefix) program apart name = rw (apart.0 name) (prefix_at f prefix program apart.2 name)

pub prefix_statics : (f : Name → Name) (prefix program : Program) → AreApart f prefix → (class name : Name) (desc : Desc)
    → static_place (prefix ++ program) (f class) name desc ≡ static_place program (f class) name desc
unfolding static_place
prefix_statics f [] program apart class name desc = refl
prefix_statics f (c ∷ prefix) program apart class name desc = rw (apart.0 class, apart.1, prefix_statics f prefix program apart.2 class name desc) omega arith

pub accounter_apart : AreApart in_sandbox (library_class (below_object accounter_class accounter_methods) ∷ library_class (below_object stop_class []) ∷ [])
accounter_apart = (λ name. refl, refl, (λ name. refl, refl, tt))
