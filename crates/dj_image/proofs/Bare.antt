-- Look-ups read neither the code of methods nor the constants of fields: those in a program without them answer the same.
use Rattle.std.proofs.Common.{◌≡◌, ℕ, zero, suc, ◌&&◌, Bool, true, false, not, List, [], ◌∷◌, map, Option, Some, None, refl, ap, ◌∙◌, ◌⊎◌, inl, inr}
use Rattle.std.specs.Option.{option_map}
use Rattle.std.specs.List.{flat_map}
use Rattle.dj_names.specs.declared.descriptor.Of.{Of}
use Rattle.dj_names.specs.declared.descriptor.Of.TheVariants as ofs
use Rattle.dj_names.specs.declared.descriptor.Ty.{Ty}
use Rattle.dj_names.specs.declared.descriptor.Desc.{Desc}
use Rattle.dj_names.specs.trusted.Types.{Name, same_name}
use Rattle.dj_model.specs.trusted.Types.{Prefix, Member, constructor_name}
use Rattle.dj_model.specs.trusted.Program.{Program, Class, Method, Field, Body, Abstract, Native, Runs, class_at, method_in, field_in, is_named, superclass_of, interfaces_of, flags_of, method_of, field_of, is_private}
use Rattle.dj_model.specs.trusted.Linking.{most_classes, option_list, chain_of, chain, superclasses, interfaces_from, interfaces_above, is_subclass, is_below, is_subtype, FoundMethod, FoundField, method_or, first_method, field_or, first_field, field_order, any_method, is_plain, is_not_static, is_among, member_class, method_chain, or_else, resolve_method, resolve_field, with_body, select, special_method, count_fields, fields_before, own_field_count, fields_in, field_count, own_place, place_of}
use Rattle.dj_declarations.specs.Files.{bare_method, bare_field, bare_class}

pub either : (b : Bool) → (b ≡ true) ⊎ (b ≡ false)
either true = inl refl
either false = inr refl

abbrev pub bare_program : Program → Program
bare_program program = map bare_class program

abbrev pub bare_found : FoundMethod → FoundMethod
bare_found found = record { class = found.class; method = bare_method found.method }

abbrev pub bare_found_field : FoundField → FoundField
bare_found_field found = record { class = found.class; field = bare_field found.field }

-- ---- classes and members

pub class_bare : (program : Program) (name : Name) → class_at (bare_program program) name ≡ option_map bare_class (class_at program name)
class_bare [] name = refl
class_bare (c ∷ classes) name = elim (either (same_name c.name name)) [
  | inl e ↦ rw e refl
  | inr e ↦ rw e (class_bare classes name)
]

method_in_bare : (methods : List Method) (name : Name) (desc : Desc)
    → method_in (map bare_method methods) name desc ≡ option_map bare_method (method_in methods name desc)
method_in_bare [] name desc = refl
method_in_bare (m ∷ methods) name desc = elim (either (is_named name desc m.name m.desc)) [
  | inl e ↦ rw e refl
  | inr e ↦ rw e (method_in_bare methods name desc)
]

method_of_bare : (c : Option Class) (name : Name) (desc : Desc) → method_of (option_map bare_class c) name desc ≡ option_map bare_method (method_of c name desc)
method_of_bare None name desc = refl
method_of_bare (Some c) name desc = method_in_bare c.methods name desc

field_in_bare : (fields : List Field) (name : Name) (desc : Desc)
    → field_in (map bare_field fields) name desc ≡ option_map bare_field (field_in fields name desc)
field_in_bare [] name desc = refl
field_in_bare (x ∷ fields) name desc = elim (either (is_named name desc x.name x.desc)) [
  | inl e ↦ rw e refl
  | inr e ↦ rw e (field_in_bare fields name desc)
]

field_of_bare : (c : Option Class) (name : Name) (desc : Desc) → field_of (option_map bare_class c) name desc ≡ option_map bare_field (field_of c name desc)
field_of_bare None name desc = refl
field_of_bare (Some c) name desc = field_in_bare c.fields name desc

pub superclass_bare : (c : Option Class) → superclass_of (option_map bare_class c) ≡ superclass_of c
superclass_bare None = refl
superclass_bare (Some c) = refl

pub interfaces_bare : (c : Option Class) → interfaces_of (option_map bare_class c) ≡ interfaces_of c
interfaces_bare None = refl
interfaces_bare (Some c) = refl

pub flags_bare : (c : Option Class) → flags_of (option_map bare_class c) ≡ flags_of c
flags_bare None = refl
flags_bare (Some c) = refl

flat_same : {A : Type 0} (h k : A → List Name) → ((x : A) → k x ≡ h x) → (xs : List A) → flat_map k xs ≡ flat_map h xs
flat_same h k e [] = refl
flat_same h k e (x ∷ xs) = rw (e x, flat_same h k e xs) refl

method_or_bare : (class : Name) (test : Method → Bool) → ((m : Method) → test (bare_method m) ≡ test m) → (m : Option Method) (other : Option FoundMethod)
    → method_or class test (option_map bare_method m) (option_map bare_found other) ≡ option_map bare_found (method_or class test m other)
method_or_bare class test e None other = refl
method_or_bare class test e (Some m) other = rw (e m) (elim (either (test m)) [ inl t ↦ rw t refl | inr t ↦ rw t refl ])

or_else_bare : (a b : Option FoundMethod) → or_else (option_map bare_found a) (option_map bare_found b) ≡ option_map bare_found (or_else a b)
or_else_bare None b = refl
or_else_bare (Some a) b = refl

with_body_bare : (found : Option FoundMethod) → with_body (option_map bare_found found) ≡ option_map bare_found (with_body found)
with_body_bare None = refl
with_body_bare (Some found) = go found.method.body refl where
  go : (body : Body) → found.method.body ≡ body → with_body (Some (bare_found found)) ≡ option_map bare_found (with_body (Some found))
  go Abstract e = rw e refl
  go (Native id) e = rw e refl
  go (Runs code) e = rw e refl

field_or_bare : (class : Name) (x : Option Field) (other : Option FoundField)
    → field_or class (option_map bare_field x) (option_map bare_found_field other) ≡ option_map bare_found_field (field_or class x other)
field_or_bare class None other = refl
field_or_bare class (Some x) other = refl

count_bare : (static : Bool) (fields : List Field) → count_fields static (map bare_field fields) ≡ count_fields static fields
count_bare static [] = refl
count_bare static (x ∷ fields) = rw (count_bare static fields) refl

before_bare : (static : Bool) (name : Name) (desc : Desc) (fields : List Field)
    → fields_before static name desc (map bare_field fields) ≡ fields_before static name desc fields
before_bare static name desc [] = refl
before_bare static name desc (x ∷ fields) = rw (before_bare static name desc fields) refl

own_field_count_bare : (c : Option Class) → own_field_count (option_map bare_class c) ≡ own_field_count c
own_field_count_bare None = refl
own_field_count_bare (Some c) = rw (count_bare false c.fields) refl

own_place_bare : (c : Option Class) (name : Name) (desc : Desc) → own_place (option_map bare_class c) name desc ≡ own_place c name desc
own_place_bare None name desc = refl
own_place_bare (Some c) name desc = rw (before_bare false name desc c.fields) refl

-- ---- classes above a class

module _ (program : Program) where
  super_same : (name : Name) → superclass_of (class_at (bare_program program) name) ≡ superclass_of (class_at program name)
  super_same name = ap superclass_of (class_bare program name) ∙ superclass_bare (class_at program name)

  interfaces_same : (name : Name) → interfaces_of (class_at (bare_program program) name) ≡ interfaces_of (class_at program name)
  interfaces_same name = ap interfaces_of (class_bare program name) ∙ interfaces_bare (class_at program name)

  flags_same : (name : Name) → flags_of (class_at (bare_program program) name) ≡ flags_of (class_at program name)
  flags_same name = ap flags_of (class_bare program name) ∙ flags_bare (class_at program name)

  chain_of_bare : (n : ℕ) (class : Option Name) → chain_of n (bare_program program) class ≡ chain_of n program class
  unfolding chain_of
  chain_of_bare zero class = refl
  chain_of_bare (suc n) None = refl
  chain_of_bare (suc n) (Some class) =
      ap (λ (rest : List Name). class ∷ rest)
      (ap (chain_of n (bare_program program)) (super_same class) ∙ chain_of_bare n (superclass_of (class_at program class)))

  chain_bare : (class : Name) → chain (bare_program program) class ≡ chain program class
  chain_bare class = chain_of_bare most_classes (Some class)

  interfaces_from_bare : (n : ℕ) (names : List Name) → interfaces_from n (bare_program program) names ≡ interfaces_from n program names
  unfolding interfaces_from
  interfaces_from_bare zero names = refl
  interfaces_from_bare (suc n) names = flat_same
      (λ x. x ∷ interfaces_from n program (interfaces_of (class_at program x)))
      (λ x. x ∷ interfaces_from n (bare_program program) (interfaces_of (class_at (bare_program program) x)))
      (λ x. ap (λ (rest : List Name). x ∷ rest)
      (ap (interfaces_from n (bare_program program)) (interfaces_same x) ∙ interfaces_from_bare n (interfaces_of (class_at program x)))) names

  above_class_bare : (name : Name)
      → interfaces_from most_classes (bare_program program) (interfaces_of (class_at (bare_program program) name))
      ≡ interfaces_from most_classes program (interfaces_of (class_at program name))
  above_class_bare name =
      ap (interfaces_from most_classes (bare_program program)) (interfaces_same name) ∙ interfaces_from_bare most_classes (interfaces_of (class_at program name))

  interfaces_above_bare : (class : Name) → interfaces_above (bare_program program) class ≡ interfaces_above program class
  unfolding interfaces_above
  interfaces_above_bare class =
      ap (flat_map (λ c. interfaces_from most_classes (bare_program program) (interfaces_of (class_at (bare_program program) c)))) (chain_bare class)
      ∙ flat_same (λ c. interfaces_from most_classes program (interfaces_of (class_at program c)))
      (λ c. interfaces_from most_classes (bare_program program) (interfaces_of (class_at (bare_program program) c)))
      above_class_bare (chain program class)

  subclass_bare : (a b : Name) → is_subclass (bare_program program) a b ≡ is_subclass program a b
  unfolding is_subclass
  subclass_bare a b = rw (chain_bare a, interfaces_above_bare a) refl

  -- ---- subtypes

  below_bare : (a b : Of) → is_below (bare_program program) a b ≡ is_below program a b
  below_bare (ofs.Base a) (ofs.Base b) = refl
  below_bare (ofs.Base a) (ofs.Class b) = refl
  below_bare (ofs.Class a) (ofs.Base b) = refl
  below_bare (ofs.Class a) (ofs.Class b) = subclass_bare a b

  pub subtype_bare : (prefix : Prefix) (a b : Ty) → is_subtype (bare_program program) prefix a b ≡ is_subtype program prefix a b
  unfolding is_subtype
  subtype_bare prefix a b = rw (below_bare a.of b.of) refl

  -- ---- resolution and selection

  first_method_bare : (test : Method → Bool) → ((m : Method) → test (bare_method m) ≡ test m) → (name : Name) (desc : Desc) (classes : List Name)
      → first_method (bare_program program) test name desc classes ≡ option_map bare_found (first_method program test name desc classes)
  first_method_bare test e name desc [] = refl
  first_method_bare test e name desc (class ∷ classes) =
      rw (class_bare program class, method_of_bare (class_at program class) name desc, first_method_bare test e name desc classes)
      (method_or_bare class test e (method_of (class_at program class) name desc) (first_method program test name desc classes))

  method_chain_bare : (prefix : Prefix) (class : Name) → method_chain (bare_program program) prefix class ≡ method_chain program prefix class
  method_chain_bare prefix class = rw (flags_same class, chain_bare class) refl

  pub resolve_method_bare : (prefix : Prefix) (m : Member)
      → resolve_method (bare_program program) prefix m ≡ option_map bare_found (resolve_method program prefix m)
  unfolding resolve_method
  resolve_method_bare prefix m = let class = member_class prefix m.class in
      rw (
        method_chain_bare prefix class,
        interfaces_above_bare class,
        first_method_bare any_method (λ m. refl) m.name m.desc (method_chain program prefix class),
        first_method_bare is_plain (λ m. refl) m.name m.desc (interfaces_above program class),
      )
      (or_else_bare _ _)

  pub select_bare : (prefix : Prefix) (resolved : FoundMethod) (class : Ty)
      → select (bare_program program) prefix (bare_found resolved) class ≡ option_map bare_found (select program prefix resolved class)
  unfolding select
  select_bare prefix resolved class =
      rw (
        chain_bare (member_class prefix class),
        first_method_bare is_plain (λ m. refl) resolved.method.name resolved.method.desc (chain program (member_class prefix class)),
      )
      (elim (either (is_private resolved.method.flags)) [
        | inl e ↦ rw e (with_body_bare (Some resolved))
        | inr e ↦ rw e (with_body_bare _)
      ])

  pub special_bare : (own : Name) (resolved : FoundMethod) → special_method (bare_program program) own (bare_found resolved) ≡ option_map bare_found (special_method program own resolved)
  unfolding special_method
  special_bare own resolved =
      rw (chain_bare own, first_method_bare is_not_static (λ m. refl) resolved.method.name resolved.method.desc (superclasses (chain program own)))
      (elim (either (not (same_name resolved.method.name constructor_name) && is_among (superclasses (chain program own)) resolved.class)) [
        | inl e ↦ rw e refl
        | inr e ↦ rw e refl
      ])

  -- ---- fields

  first_field_bare : (name : Name) (desc : Desc) (classes : List Name)
      → first_field (bare_program program) name desc classes ≡ option_map bare_found_field (first_field program name desc classes)
  first_field_bare name desc [] = refl
  first_field_bare name desc (class ∷ classes) =
      rw (class_bare program class, field_of_bare (class_at program class) name desc, first_field_bare name desc classes)
      (field_or_bare class (field_of (class_at program class) name desc) (first_field program name desc classes))

  field_order_bare : (n : ℕ) (class : Name) → field_order n (bare_program program) class ≡ field_order n program class
  unfolding field_order
  field_order_bare zero class = refl
  field_order_bare (suc n) class =
      rw (
        above_class_bare class,
        super_same class,
        flat_same (field_order n program) (field_order n (bare_program program)) (field_order_bare n) (option_list (superclass_of (class_at program class))),
      ) refl

  pub resolve_field_bare : (prefix : Prefix) (m : Member)
      → resolve_field (bare_program program) prefix m ≡ option_map bare_found_field (resolve_field program prefix m)
  unfolding resolve_field
  resolve_field_bare prefix m =
      rw (field_order_bare most_classes (member_class prefix m.class))
      (first_field_bare m.name m.desc (field_order most_classes program (member_class prefix m.class)))

  fields_in_bare : (classes : List Name) → fields_in (bare_program program) classes ≡ fields_in program classes
  fields_in_bare [] = refl
  fields_in_bare (c ∷ classes) = rw (class_bare program c, own_field_count_bare (class_at program c), fields_in_bare classes) refl

  pub field_count_bare : (class : Name) → field_count (bare_program program) class ≡ field_count program class
  unfolding field_count
  field_count_bare class = rw (chain_bare class) (fields_in_bare (chain program class))

  pub place_of_bare : (found : FoundField) → place_of (bare_program program) (bare_found_field found) ≡ place_of program found
  unfolding place_of
  place_of_bare found =
      rw (
        chain_bare found.class,
        fields_in_bare (superclasses (chain program found.class)),
        class_bare program found.class,
        own_place_bare (class_at program found.class) found.field.name found.field.desc,
      ) refl
