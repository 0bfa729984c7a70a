-- Resolution, selection and subtypes (JVMS 5.4.3, 5.4.6 and 4.10.1.2), by names.
use Rattle.std.specs.Prelude.{ℕ, zero, suc, ◌+◌, ◌^◌, ◌&&◌, Bool, true, false, not, List, [], ◌∷◌, ◌++◌, map, Option, Some, None, codes, nat_eq, nat_lt, if◌then◌else◌}
use Rattle.std.specs.List.{list_any, flat_map}
use Rattle.dj_names.specs.declared.descriptor.Of.{Of}
use Rattle.dj_names.specs.declared.descriptor.Of.TheVariants as ofs
use Rattle.dj_names.specs.declared.descriptor.Ty.{Ty}
use Rattle.dj_names.specs.declared.descriptor.Desc.{Desc}
use Rattle.dj_names.specs.trusted.Types.{Name, same_name, same_base}
use Rattle.dj_model.specs.trusted.Types.{Member, Declared, Prefix, object_name, constructor_name}
use Rattle.dj_model.specs.trusted.Program.{Program, Class, Field, Method, Body, Abstract, class_at, method_of, field_of, superclass_of, interfaces_of, flags_of, is_named, is_private, is_static, is_interface}

-- more classes than any program has, so that this many levels are always enough for a walk upward
unfoldable pub most_classes : ℕ
most_classes = 2 ^ 32

abbrev pub option_list : {A : Type 0} → Option A → List A
option_list None = []
option_list (Some x) = x ∷ []

-- ---- classes above a class

-- a class and its superclasses upward, at most this many
unfoldable pub chain_of : ℕ → Program → Option Name → List Name
chain_of zero program class = []
chain_of (suc n) program None = []
chain_of (suc n) program (Some class) = class ∷ chain_of n program (superclass_of (class_at program class))

abbrev pub chain : Program → Name → List Name
chain program class = chain_of most_classes program (Some class)

abbrev pub superclasses : List Name → List Name
superclasses [] = []
superclasses (class ∷ classes) = classes

-- interfaces, each followed by those that it extends, in the order of their lists, down to at most this many levels
unfoldable pub interfaces_from : ℕ → Program → List Name → List Name
interfaces_from zero program names = []
interfaces_from (suc n) program names = flat_map (λ name. name ∷ interfaces_from n program (interfaces_of (class_at program name))) names

-- all interfaces of a class: its own, and then those of its superclasses
unfoldable pub interfaces_above : Program → Name → List Name
interfaces_above program class = flat_map (λ c. interfaces_from most_classes program (interfaces_of (class_at program c))) (chain program class)

abbrev pub is_among : List Name → Name → Bool
is_among names name = list_any (same_name name) names

-- JVMS 4.10.1.2, for classes and interfaces
unfoldable pub is_subclass : Program → Name → Name → Bool
is_subclass program class ancestor = is_among (chain program class ++ interfaces_above program class) ancestor

-- ---- subtypes

-- the classes and interfaces that are above every array
abbrev pub array_supertypes : Prefix → List Name
array_supertypes prefix = map (λ name. prefix ++ name) (codes "java/lang/Object" ∷ codes "java/lang/Cloneable" ∷ codes "java/io/Serializable" ∷ [])

abbrev pub takes_arrays : Prefix → Of → Bool
takes_arrays prefix (ofs.Base base) = false
takes_arrays prefix (ofs.Class name) = is_among (array_supertypes prefix) name

abbrev pub is_below : Program → Of → Of → Bool
is_below program (ofs.Base a) (ofs.Base b) = same_base a b
is_below program (ofs.Class a) (ofs.Class b) = is_subclass program a b
is_below program _ _ = false

-- a type of more dimensions is a subtype where the other takes arrays; where the dimensions are as many, the elements decide
unfoldable pub is_subtype : Program → Prefix → Ty → Ty → Bool
is_subtype program prefix a b =
    if nat_lt b.dims a.dims then takes_arrays prefix b.of else nat_eq a.dims b.dims && is_below program a.of b.of

-- ---- resolution

-- a method that was found, with the class that declares it
pub record FoundMethod : Type 0 where
  pub class : Name
  pub method : Method

pub record FoundField : Type 0 where
  pub class : Name
  pub field : Field

abbrev pub method_or : Name → (Method → Bool) → Option Method → Option FoundMethod → Option FoundMethod
method_or class test None other = other
method_or class test (Some m) other = if test m then Some (record { class = class; method = m }) else other

-- the first of these classes that declares such a method of this name and descriptor, with the method
abbrev pub first_method : Program → (Method → Bool) → Name → Desc → List Name → Option FoundMethod
first_method program test name desc [] = None
first_method program test name desc (class ∷ classes) =
    method_or class test (method_of (class_at program class) name desc) (first_method program test name desc classes)

abbrev pub field_or : Name → Option Field → Option FoundField → Option FoundField
field_or class None other = other
field_or class (Some f) other = Some (record { class = class; field = f })

abbrev pub first_field : Program → Name → Desc → List Name → Option FoundField
first_field program name desc [] = None
first_field program name desc (class ∷ classes) = field_or class (field_of (class_at program class) name desc) (first_field program name desc classes)

-- JVMS 5.4.3.2: the order in which a field is looked up: the class, then its interfaces with theirs, then its superclass in the same way
unfoldable pub field_order : ℕ → Program → Name → List Name
field_order zero program class = []
field_order (suc n) program class =
    class ∷ interfaces_from most_classes program (interfaces_of (class_at program class))
    ++ flat_map (field_order n program) (option_list (superclass_of (class_at program class)))

abbrev pub any_method : Method → Bool
any_method m = true

-- neither private nor static
abbrev pub is_plain : Method → Bool
is_plain m = not (is_private m.flags) && not (is_static m.flags)

abbrev pub is_not_static : Method → Bool
is_not_static m = not (is_static m.flags)

-- the class itself; an array's members are those of Object
abbrev pub class_or_object : Prefix → Of → Name
class_or_object prefix (ofs.Base base) = object_name prefix
class_or_object prefix (ofs.Class name) = name

abbrev pub member_class : Prefix → Ty → Name
member_class prefix ty = if nat_eq ty.dims 0 then class_or_object prefix ty.of else object_name prefix

-- the classes in which a method is looked up first: an interface and then Object, or a class and its superclasses
abbrev pub method_chain : Program → Prefix → Name → List Name
method_chain program prefix class =
    if is_interface (flags_of (class_at program class)) then class ∷ object_name prefix ∷ [] else chain program class

abbrev pub or_else : {A : Type 0} → Option A → Option A → Option A
or_else (Some x) other = Some x
or_else None other = other

-- JVMS 5.4.3.3 and 5.4.3.4: a method that is found in an interface above is neither private nor static
unfoldable pub resolve_method : Program → Prefix → Member → Option FoundMethod
resolve_method program prefix m = in_class (member_class prefix m.class) where
  in_class : Name → Option FoundMethod
  in_class class = or_else (first_method program any_method m.name m.desc (method_chain program prefix class))
      (first_method program is_plain m.name m.desc (interfaces_above program class))

unfoldable pub resolve_field : Program → Prefix → Member → Option FoundField
resolve_field program prefix m = first_field program m.name m.desc (field_order most_classes program (member_class prefix m.class))

-- ---- selection

abbrev pub has_body : Body → Bool
has_body Abstract = false
has_body _ = true

abbrev pub with_body : Option FoundMethod → Option FoundMethod
with_body None = None
with_body (Some found) = if has_body found.method.body then Some found else None

-- JVMS 6.5, invokevirtual and invokeinterface: the method that is called on a receiver of this class; a private method selects itself
unfoldable pub select : Program → Prefix → FoundMethod → Ty → Option FoundMethod
select program prefix resolved class =
    with_body (if is_private resolved.method.flags then Some resolved
    else first_method program is_plain resolved.method.name resolved.method.desc (chain program (member_class prefix class)))

-- JVMS 6.5, invokespecial: the method that is called, in a method of the class `own`
unfoldable pub special_method : Program → Name → FoundMethod → Option FoundMethod
special_method program own resolved =
    if not (same_name resolved.method.name constructor_name) && is_among (superclasses (chain program own)) resolved.class
    then first_method program is_not_static resolved.method.name resolved.method.desc (superclasses (chain program own))
    else Some resolved

abbrev pub declared_of : FoundMethod → Declared
declared_of found = record { class = found.class; name = found.method.name; desc = found.method.desc }

-- ---- places of fields

-- how many of these fields are static, or how many aren't
abbrev pub count_fields : Bool → List Field → ℕ
count_fields static [] = 0
count_fields static (f ∷ fields) = if is_wanted static (is_static f.flags) then 1 + count_fields static fields else count_fields static fields where
  is_wanted : Bool → Bool → Bool
  is_wanted true b = b
  is_wanted false b = not b

-- how many static fields, or others, are before this one
abbrev pub fields_before : Bool → Name → Desc → List Field → ℕ
fields_before static name desc [] = 0
fields_before static name desc (f ∷ fields) =
    if is_named name desc f.name f.desc then 0
    else count_fields static (f ∷ []) + fields_before static name desc fields

abbrev pub own_field_count : Option Class → ℕ
own_field_count None = 0
own_field_count (Some c) = c.unnamed_fields + count_fields false c.fields

abbrev pub fields_in : Program → List Name → ℕ
fields_in program [] = 0
fields_in program (c ∷ classes) = own_field_count (class_at program c) + fields_in program classes

-- how many instance fields an object of the class has, inherited ones included
unfoldable pub field_count : Program → Name → ℕ
field_count program class = fields_in program (chain program class)

abbrev pub own_place : Option Class → Name → Desc → ℕ
own_place None name desc = 0
own_place (Some c) name desc = c.unnamed_fields + fields_before false name desc c.fields

-- the place of an instance field in an object, where the superclasses' fields come first
unfoldable pub place_of : Program → FoundField → ℕ
place_of program found =
    fields_in program (superclasses (chain program found.class)) + own_place (class_at program found.class) found.field.name found.field.desc

-- the place of a static field among those of the program
unfoldable pub static_place : Program → Name → Name → Desc → ℕ
static_place [] class name desc = 0
static_place (c ∷ classes) class name desc =
    if same_name c.name class then fields_before true name desc c.fields else count_fields true c.fields + static_place classes class name desc

abbrev pub place_of_static : Program → FoundField → ℕ
place_of_static program found = static_place program found.class found.field.name found.field.desc

abbrev pub static_count : Program → ℕ
static_count [] = 0
static_count (c ∷ classes) = count_fields true c.fields + static_count classes
