-- Look-ups in a program with other names of classes and other code are those in the program, with other names.
use Rattle.std.proofs.Common.{◌≡◌, ℕ, zero, suc, ◌&&◌, Bool, true, false, not, List, [], ◌∷◌, ◌++◌, map, Option, Some, None, nat_eq, refl, sym, ap, ◌∙◌, ◌⊎◌, inl, inr, codes, arith}
use Rattle.std.proofs.lemmas.List.{map-append}
use Rattle.std.proofs.lemmas.Nat.Bits.{bit_at_and}
use Rattle.std.specs.Prelude.{bit_and}
use Rattle.std.specs.Int.{bit_at}
use Rattle.std.specs.Option.{option_map}
use Rattle.std.specs.List.{flat_map}
use Rattle.std.specs.Cmp.Lexicographic.{pointwise, bytes_decides}
use Rattle.dj_names.specs.declared.descriptor.Of.{Of}
use Rattle.dj_names.specs.declared.descriptor.Of.TheVariants as ofs
use Rattle.dj_names.specs.declared.descriptor.Ty.{Ty}
use Rattle.dj_names.specs.declared.descriptor.Desc.{Desc}
use Rattle.dj_names.specs.declared.descriptor.Desc.TheVariants as descs
use Rattle.dj_names.specs.trusted.Descriptors.{type_kind}
use Rattle.dj_names.specs.trusted.Types.{Name, same_name, same_of, same_type, same_result, same_desc, parameters_of, field_kind, of_map}
use Rattle.dj_names.specs.Types.{type_map, desc_map}
use Rattle.dj_model.specs.trusted.Types.{Prefix, Member, Declared, constructor_name, initialiser_name, no_parameters}
use Rattle.dj_model.specs.Types.{member_map, declared_map}
use Rattle.dj_model.specs.trusted.Program.{Program, Class, Method, Field, Code, Body, Abstract, Native, Runs, class_at, method_in, field_in, is_named, superclass_of, interfaces_of, fields_of, flags_of, method_of, field_of, method_at, code_in, code_of, has_flag, is_private, is_static, is_interface, is_initialiser, initialiser_of, runs_static, has_initialiser}
use Rattle.dj_model.specs.Program.{method_map, field_map, class_map, program_map}
use Rattle.dj_model.specs.trusted.Linking.{most_classes, option_list, chain_of, chain, superclasses, interfaces_from, interfaces_above, is_among, is_subclass, array_supertypes, takes_arrays, is_below, is_subtype, FoundMethod, FoundField, method_or, first_method, field_or, first_field, field_order, any_method, is_plain, is_not_static, class_or_object, member_class, method_chain, or_else, resolve_method, resolve_field, with_body, select, special_method, count_fields, fields_before, own_field_count, fields_in, field_count, own_place, place_of, static_place, static_count}
use Rattle.dj_model.specs.trusted.Members.{kinds_of}
use Rattle.dj_model.specs.Mapping.{IsNameMap}

pub either : (b : Bool) → (b ≡ true) ⊎ (b ≡ false)
either true = inl refl
either false = inr refl

-- two tests that answer true alike
pub alike : (a b : Bool) → (a ≡ true → b ≡ true) → (b ≡ true → a ≡ true) → a ≡ b
alike true b there back = sym (there refl)
alike false true there back = back refl
alike false false there back = refl

-- a flag other than ACC_SYNCHRONIZED is the same in a rewritten method
flag_kept : (flags bit : ℕ) → bit_at 65503 bit ≡ 1 → has_flag bit (bit_and flags 65503) ≡ has_flag bit flags
flag_kept flags bit on = ap (λ b. nat_eq b 1) (let e = bit_at_and flags 65503 bit in omega (arith, e, on))

private_kept : (flags : ℕ) → is_private (bit_and flags 65503) ≡ is_private flags
private_kept flags = flag_kept flags 1 refl

static_kept : (flags : ℕ) → is_static (bit_and flags 65503) ≡ is_static flags
static_kept flags = flag_kept flags 3 refl

module _ (f : Name → Name) (g : Code → Code) (p q : Prefix) (is : IsNameMap f p q) where
  -- ---- names, types and descriptors

  pub same_names : (a b : Name) → same_name (f a) (f b) ≡ same_name a b
  same_names a b = alike (same_name (f a) (f b)) (same_name a b)
      (λ e. (bytes_decides a b).1 (is.differ a b ((bytes_decides (f a) (f b)).0 e)))
      (λ e. (bytes_decides (f a) (f b)).1 (ap f ((bytes_decides a b).0 e)))

  pub same_ofs : (a b : Of) → same_of (of_map f a) (of_map f b) ≡ same_of a b
  same_ofs (ofs.Base a) (ofs.Base b) = refl
  same_ofs (ofs.Base a) (ofs.Class b) = refl
  same_ofs (ofs.Class a) (ofs.Base b) = refl
  same_ofs (ofs.Class a) (ofs.Class b) = same_names a b

  pub same_types : (a b : Ty) → same_type (type_map f a) (type_map f b) ≡ same_type a b
  same_types a b = rw (same_ofs a.of b.of) refl

  same_parameters : (a b : List Ty) → pointwise same_type (map (type_map f) a) (map (type_map f) b) ≡ pointwise same_type a b
  same_parameters [] [] = refl
  same_parameters [] (b ∷ bs) = refl
  same_parameters (a ∷ types) [] = refl
  same_parameters (a ∷ types) (b ∷ others) = rw (same_ofs a.of b.of, same_parameters types others) refl

  same_results : (a b : Option Ty) → same_result (option_map (type_map f) a) (option_map (type_map f) b) ≡ same_result a b
  same_results None None = refl
  same_results None (Some b) = refl
  same_results (Some a) None = refl
  same_results (Some a) (Some b) = same_types a b

  pub same_descs : (a b : Desc) → same_desc (desc_map f a) (desc_map f b) ≡ same_desc a b
  same_descs (descs.Field a) (descs.Field b) = same_types a b
  same_descs (descs.Field a) (descs.Method qs s) = refl
  same_descs (descs.Method ps r) (descs.Field b) = refl
  same_descs (descs.Method ps r) (descs.Method qs s) = rw (same_parameters ps qs, same_results r s) refl

  pub named_alike : (name : Name) (desc : Desc) (n : Name) (d : Desc) → is_named name (desc_map f desc) n (desc_map f d) ≡ is_named name desc n d
  named_alike name desc n d = rw (same_descs d desc) refl

  pub kind_alike : (ty : Ty) → type_kind (type_map f ty) ≡ type_kind ty
  kind_alike ty = go ty.dims ty.of where
    go : (dims : ℕ) (of : Of) → type_kind (type_map f (record { dims = dims; of = of })) ≡ type_kind (record { dims = dims; of = of })
    go zero (ofs.Base base) = refl
    go zero (ofs.Class name) = refl
    go (suc n) of = refl

  pub field_kind_alike : (desc : Desc) → field_kind (desc_map f desc) ≡ field_kind desc
  field_kind_alike (descs.Field ty) = kind_alike ty
  field_kind_alike (descs.Method params ret) = refl

  pub parameters_mapped : (desc : Desc) → parameters_of (desc_map f desc) ≡ map (type_map f) (parameters_of desc)
  parameters_mapped (descs.Field ty) = refl
  parameters_mapped (descs.Method params ret) = refl

  pub kinds_alike : (types : List Ty) → kinds_of (map (type_map f) types) ≡ kinds_of types
  kinds_alike [] = refl
  kinds_alike (type ∷ types) = rw (kind_alike type, kinds_alike types) refl

  -- ---- classes and members

  pub class_mapped : (program : Program) (name : Name) → class_at (program_map f g program) (f name) ≡ option_map (class_map f g) (class_at program name)
  class_mapped [] name = refl
  class_mapped (c ∷ classes) name = elim (either (same_name c.name name)) [
    | inl e ↦ rw (same_names c.name name, e) refl
    | inr e ↦ rw (same_names c.name name, e) (class_mapped classes name)
  ]

  pub method_mapped : (methods : List Method) (name : Name) (desc : Desc)
      → method_in (map (method_map f g) methods) name (desc_map f desc) ≡ option_map (method_map f g) (method_in methods name desc)
  method_mapped [] name desc = refl
  method_mapped (m ∷ methods) name desc = rw (same_descs m.desc desc) (elim (either (is_named name desc m.name m.desc)) [
    | inl e ↦ rw e refl
    | inr e ↦ rw e (method_mapped methods name desc)
  ])

  pub method_of_mapped : (c : Option Class) (name : Name) (desc : Desc)
      → method_of (option_map (class_map f g) c) name (desc_map f desc) ≡ option_map (method_map f g) (method_of c name desc)
  method_of_mapped None name desc = refl
  method_of_mapped (Some c) name desc = method_mapped c.methods name desc

  field_in_mapped : (fields : List Field) (name : Name) (desc : Desc)
      → field_in (map (field_map f) fields) name (desc_map f desc) ≡ option_map (field_map f) (field_in fields name desc)
  field_in_mapped [] name desc = refl
  field_in_mapped (x ∷ fields) name desc = rw (same_descs x.desc desc) (elim (either (is_named name desc x.name x.desc)) [
    | inl e ↦ rw e refl
    | inr e ↦ rw e (field_in_mapped fields name desc)
  ])

  field_of_mapped : (c : Option Class) (name : Name) (desc : Desc)
      → field_of (option_map (class_map f g) c) name (desc_map f desc) ≡ option_map (field_map f) (field_of c name desc)
  field_of_mapped None name desc = refl
  field_of_mapped (Some c) name desc = field_in_mapped c.fields name desc

  pub superclass_mapped : (c : Option Class) → superclass_of (option_map (class_map f g) c) ≡ option_map f (superclass_of c)
  superclass_mapped None = refl
  superclass_mapped (Some c) = refl

  interfaces_mapped : (c : Option Class) → interfaces_of (option_map (class_map f g) c) ≡ map f (interfaces_of c)
  interfaces_mapped None = refl
  interfaces_mapped (Some c) = refl

  pub fields_mapped : (c : Option Class) → fields_of (option_map (class_map f g) c) ≡ map (field_map f) (fields_of c)
  fields_mapped None = refl
  fields_mapped (Some c) = refl

  flags_alike : (c : Option Class) → flags_of (option_map (class_map f g) c) ≡ flags_of c
  flags_alike None = refl
  flags_alike (Some c) = refl

  code_in_mapped : (m : Option Method) → code_in (option_map (method_map f g) m) ≡ option_map g (code_in m)
  code_in_mapped None = refl
  code_in_mapped (Some m) = go m.body refl where
    go : (body : Body) → m.body ≡ body → code_in (option_map (method_map f g) (Some m)) ≡ option_map g (code_in (Some m))
    go Abstract e = rw e refl
    go (Native id) e = rw e refl
    go (Runs code) e = rw e refl

  runs_static_alike : (m : Option Method) → runs_static (option_map (method_map f g) m) ≡ runs_static m
  runs_static_alike None = refl
  runs_static_alike (Some m) = go m.body refl where
    go : (body : Body) → m.body ≡ body → runs_static (option_map (method_map f g) (Some m)) ≡ runs_static (Some m)
    go Abstract e = rw (static_kept m.flags, e) refl
    go (Native id) e = rw (static_kept m.flags, e) refl
    go (Runs code) e = rw (static_kept m.flags, e) refl

  plain_kept : (m : Method) → is_plain (method_map f g m) ≡ is_plain m
  plain_kept m = rw (private_kept m.flags, static_kept m.flags) refl

  pub initialiser_alike : (m : Declared) → is_initialiser (declared_map f m) ≡ is_initialiser m
  initialiser_alike m = named_alike initialiser_name no_parameters m.name m.desc

  flat_mapped : (h k : Name → List Name) → ((x : Name) → k (f x) ≡ map f (h x)) → (xs : List Name)
      → flat_map k (map f xs) ≡ map f (flat_map h xs)
  flat_mapped h k e [] = refl
  flat_mapped h k e (x ∷ xs) = rw (map-append f (h x) (flat_map h xs), e x, flat_mapped h k e xs) refl

  pub among_alike : (names : List Name) (name : Name) → is_among (map f names) (f name) ≡ is_among names name
  among_alike [] name = refl
  among_alike (x ∷ xs) name = rw (same_names name x, among_alike xs name) refl

  pub superclasses_mapped : (classes : List Name) → superclasses (map f classes) ≡ map f (superclasses classes)
  superclasses_mapped [] = refl
  superclasses_mapped (c ∷ classes) = refl

  takes_arrays_alike : (of : Of) → takes_arrays q (of_map f of) ≡ takes_arrays p of
  takes_arrays_alike (ofs.Base base) = refl
  takes_arrays_alike (ofs.Class name) =
      rw (← is.library (codes "java/lang/Object"), ← is.library (codes "java/lang/Cloneable"), ← is.library (codes "java/io/Serializable"))
      (among_alike (array_supertypes p) name)

  abbrev pub found_map : FoundMethod → FoundMethod
  found_map found = record { class = f found.class; method = method_map f g found.method }

  abbrev pub found_field_map : FoundField → FoundField
  found_field_map found = record { class = f found.class; field = field_map f found.field }

  method_or_mapped : (class : Name) (test : Method → Bool) → ((m : Method) → test (method_map f g m) ≡ test m) → (m : Option Method) (other : Option FoundMethod)
      → method_or (f class) test (option_map (method_map f g) m) (option_map found_map other) ≡ option_map found_map (method_or class test m other)
  method_or_mapped class test e None other = refl
  method_or_mapped class test e (Some m) other = rw (e m) (elim (either (test m)) [ inl t ↦ rw t refl | inr t ↦ rw t refl ])

  or_else_mapped : (a b : Option FoundMethod) → or_else (option_map found_map a) (option_map found_map b) ≡ option_map found_map (or_else a b)
  or_else_mapped None b = refl
  or_else_mapped (Some a) b = refl

  class_or_object_mapped : (of : Of) → class_or_object q (of_map f of) ≡ f (class_or_object p of)
  class_or_object_mapped (ofs.Base base) = sym (is.library (codes "java/lang/Object"))
  class_or_object_mapped (ofs.Class name) = refl

  pub member_class_mapped : (ty : Ty) → member_class q (type_map f ty) ≡ f (member_class p ty)
  member_class_mapped ty = elim (either (nat_eq ty.dims 0)) [
    | inl e ↦ rw e (class_or_object_mapped ty.of)
    | inr e ↦ rw e (sym (is.library (codes "java/lang/Object")))
  ]

  with_body_mapped : (found : Option FoundMethod) → with_body (option_map found_map found) ≡ option_map found_map (with_body found)
  with_body_mapped None = refl
  with_body_mapped (Some found) = go found.method.body refl where
    go : (body : Body) → found.method.body ≡ body → with_body (Some (found_map found)) ≡ option_map found_map (with_body (Some found))
    go Abstract e = rw e refl
    go (Native id) e = rw e refl
    go (Runs code) e = rw e refl

  field_or_mapped : (class : Name) (x : Option Field) (other : Option FoundField)
      → field_or (f class) (option_map (field_map f) x) (option_map found_field_map other) ≡ option_map found_field_map (field_or class x other)
  field_or_mapped class None other = refl
  field_or_mapped class (Some x) other = refl

  option_list_mapped : (c : Option Name) → option_list (option_map f c) ≡ map f (option_list c)
  option_list_mapped None = refl
  option_list_mapped (Some c) = refl

  count_alike : (static : Bool) (fields : List Field) → count_fields static (map (field_map f) fields) ≡ count_fields static fields
  count_alike static [] = refl
  count_alike static (x ∷ fields) = rw (count_alike static fields) refl

  before_alike : (static : Bool) (name : Name) (desc : Desc) (fields : List Field)
      → fields_before static name (desc_map f desc) (map (field_map f) fields) ≡ fields_before static name desc fields
  before_alike static name desc [] = refl
  before_alike static name desc (x ∷ fields) = rw (same_descs x.desc desc, before_alike static name desc fields) refl

  own_field_count_alike : (c : Option Class) → own_field_count (option_map (class_map f g) c) ≡ own_field_count c
  own_field_count_alike None = refl
  own_field_count_alike (Some c) = rw (count_alike false c.fields) refl

  own_place_alike : (c : Option Class) (name : Name) (desc : Desc) → own_place (option_map (class_map f g) c) name (desc_map f desc) ≡ own_place c name desc
  own_place_alike None name desc = refl
  own_place_alike (Some c) name desc = rw (before_alike false name desc c.fields) refl

  pub static_place_alike : (program : Program) (class name : Name) (desc : Desc)
      → static_place (program_map f g program) (f class) name (desc_map f desc) ≡ static_place program class name desc
  unfolding static_place
  static_place_alike [] class name desc = refl
  static_place_alike (c ∷ classes) class name desc =
      rw (same_names c.name class, before_alike true name desc c.fields, count_alike true c.fields, static_place_alike classes class name desc) refl

  pub static_count_alike : (program : Program) → static_count (program_map f g program) ≡ static_count program
  static_count_alike [] = refl
  static_count_alike (c ∷ classes) = rw (count_alike true c.fields, static_count_alike classes) refl

  module _ (program other : Program) (at : (name : Name) → class_at other (f name) ≡ option_map (class_map f g) (class_at program name)) where
    pub method_at_mapped : (m : Declared)
        → method_at other (declared_map f m) ≡ option_map (method_map f g) (method_at program m)
    method_at_mapped m = rw (at m.class) (method_of_mapped (class_at program m.class) m.name m.desc)

    pub code_of_mapped : (m : Declared) → code_of other (declared_map f m) ≡ option_map g (code_of program m)
    unfolding code_of
    code_of_mapped m = ap code_in (method_at_mapped m) ∙ code_in_mapped (method_at program m)

    pub has_initialiser_alike : (class : Name) → has_initialiser other (f class) ≡ has_initialiser program class
    unfolding has_initialiser
    has_initialiser_alike class =
        ap runs_static (method_at_mapped (initialiser_of class)) ∙ runs_static_alike (method_at program (initialiser_of class))

    -- ---- classes above a class

    pub chain_of_mapped : (n : ℕ) (class : Option Name)
        → chain_of n other (option_map f class) ≡ map f (chain_of n program class)
    unfolding chain_of
    chain_of_mapped zero class = refl
    chain_of_mapped (suc n) None = refl
    chain_of_mapped (suc n) (Some class) =
        ap (λ rest. f class ∷ rest)
        (ap (chain_of n other) (ap superclass_of (at class) ∙ superclass_mapped (class_at program class))
        ∙ chain_of_mapped n (superclass_of (class_at program class)))

    pub chain_mapped : (class : Name) → chain other (f class) ≡ map f (chain program class)
    chain_mapped class = chain_of_mapped most_classes (Some class)

    interfaces_from_mapped : (n : ℕ) (names : List Name)
        → interfaces_from n other (map f names) ≡ map f (interfaces_from n program names)
    unfolding interfaces_from
    interfaces_from_mapped zero names = refl
    interfaces_from_mapped (suc n) names = flat_mapped
        (λ x. x ∷ interfaces_from n program (interfaces_of (class_at program x)))
        (λ x. x ∷ interfaces_from n other (interfaces_of (class_at other x))) (λ x. ap (λ rest. f x ∷ rest)
        (ap (interfaces_from n other) (ap interfaces_of (at x) ∙ interfaces_mapped (class_at program x))
        ∙ interfaces_from_mapped n (interfaces_of (class_at program x)))) names

    pub interfaces_above_mapped : (class : Name)
        → interfaces_above other (f class) ≡ map f (interfaces_above program class)
    unfolding interfaces_above
    interfaces_above_mapped class =
        ap (flat_map (λ c. interfaces_from most_classes other (interfaces_of (class_at other c)))) (chain_mapped class)
        ∙ flat_mapped (λ c. interfaces_from most_classes program (interfaces_of (class_at program c)))
        (λ c. interfaces_from most_classes other (interfaces_of (class_at other c)))
        (λ x. ap (interfaces_from most_classes other) (ap interfaces_of (at x) ∙ interfaces_mapped (class_at program x))
        ∙ interfaces_from_mapped most_classes (interfaces_of (class_at program x))) (chain program class)

    subclass_alike : (a b : Name) → is_subclass other (f a) (f b) ≡ is_subclass program a b
    unfolding is_subclass
    subclass_alike a b =
        rw (chain_mapped a, interfaces_above_mapped a, ← map-append f (chain program a) (interfaces_above program a))
        (among_alike (chain program a ++ interfaces_above program a) b)

    -- ---- subtypes

    below_alike : (a b : Of) → is_below other (of_map f a) (of_map f b) ≡ is_below program a b
    below_alike (ofs.Base a) (ofs.Base b) = refl
    below_alike (ofs.Base a) (ofs.Class b) = refl
    below_alike (ofs.Class a) (ofs.Base b) = refl
    below_alike (ofs.Class a) (ofs.Class b) = subclass_alike a b

    pub subtype_alike : (a b : Ty) → is_subtype other q (type_map f a) (type_map f b) ≡ is_subtype program p a b
    unfolding is_subtype
    subtype_alike a b = rw (takes_arrays_alike b.of, below_alike a.of b.of) refl

    -- ---- resolution and selection

    pub first_method_mapped : (test : Method → Bool) → ((m : Method) → test (method_map f g m) ≡ test m) → (name : Name) (desc : Desc) (classes : List Name)
        → first_method other test name (desc_map f desc) (map f classes) ≡ option_map found_map (first_method program test name desc classes)
    first_method_mapped test e name desc [] = refl
    first_method_mapped test e name desc (class ∷ classes) =
        rw (at class, method_of_mapped (class_at program class) name desc, first_method_mapped test e name desc classes)
        (method_or_mapped class test e (method_of (class_at program class) name desc) (first_method program test name desc classes))

    method_chain_mapped : (class : Name) → method_chain other q (f class) ≡ map f (method_chain program p class)
    method_chain_mapped class =
        rw (at class, flags_alike (class_at program class), chain_mapped class)
        (elim (either (is_interface (flags_of (class_at program class)))) [
          | inl e ↦ rw (e, is.library (codes "java/lang/Object")) refl
          | inr e ↦ rw e refl
        ])

    pub resolve_method_mapped : (m : Member)
        → resolve_method other q (member_map f m) ≡ option_map found_map (resolve_method program p m)
    unfolding resolve_method
    resolve_method_mapped m = let class = member_class p m.class in
        rw (
          member_class_mapped m.class,
          method_chain_mapped class,
          interfaces_above_mapped class,
          first_method_mapped any_method (λ m. refl) m.name m.desc (method_chain program p class),
          first_method_mapped is_plain plain_kept m.name m.desc (interfaces_above program class),
        )
        (or_else_mapped _ _)

    pub select_mapped : (resolved : FoundMethod) (class : Ty)
        → select other q (found_map resolved) (type_map f class) ≡ option_map found_map (select program p resolved class)
    unfolding select
    select_mapped resolved class =
        rw (
          member_class_mapped class,
          chain_mapped (member_class p class),
          private_kept resolved.method.flags,
          first_method_mapped is_plain plain_kept resolved.method.name resolved.method.desc (chain program (member_class p class)),
        )
        (elim (either (is_private resolved.method.flags)) [
          | inl e ↦ rw e (with_body_mapped (Some resolved))
          | inr e ↦ rw e (with_body_mapped _)
        ])

    pub special_mapped : (own : Name) (resolved : FoundMethod)
        → special_method other (f own) (found_map resolved) ≡ option_map found_map (special_method program own resolved)
    unfolding special_method
    special_mapped own resolved =
        rw (
          chain_mapped own,
          superclasses_mapped (chain program own),
          among_alike (superclasses (chain program own)) resolved.class,
          first_method_mapped is_not_static (λ m. ap not (static_kept m.flags)) resolved.method.name resolved.method.desc (superclasses (chain program own)),
        )
        (elim (either (not (same_name resolved.method.name constructor_name) && is_among (superclasses (chain program own)) resolved.class)) [
          | inl e ↦ rw e refl
          | inr e ↦ rw e refl
        ])

    -- ---- fields

    first_field_mapped : (name : Name) (desc : Desc) (classes : List Name)
        → first_field other name (desc_map f desc) (map f classes) ≡ option_map found_field_map (first_field program name desc classes)
    first_field_mapped name desc [] = refl
    first_field_mapped name desc (class ∷ classes) =
        rw (at class, field_of_mapped (class_at program class) name desc, first_field_mapped name desc classes)
        (field_or_mapped class (field_of (class_at program class) name desc) (first_field program name desc classes))

    field_order_mapped : (n : ℕ) (class : Name) → field_order n other (f class) ≡ map f (field_order n program class)
    unfolding field_order
    field_order_mapped zero class = refl
    field_order_mapped (suc n) class =
        let c = class_at program class in
        rw (
          at class,
          interfaces_mapped c,
          interfaces_from_mapped most_classes (interfaces_of c),
          superclass_mapped c,
          option_list_mapped (superclass_of c),
          flat_mapped (field_order n program) (field_order n other) (field_order_mapped n) (option_list (superclass_of c)),
        )
        (ap (λ rest. f class ∷ rest) (sym (map-append f (interfaces_from most_classes program (interfaces_of c)) _)))

    pub resolve_field_mapped : (m : Member)
        → resolve_field other q (member_map f m) ≡ option_map found_field_map (resolve_field program p m)
    unfolding resolve_field
    resolve_field_mapped m =
        rw (member_class_mapped m.class, field_order_mapped most_classes (member_class p m.class))
        (first_field_mapped m.name m.desc (field_order most_classes program (member_class p m.class)))

    fields_in_alike : (classes : List Name) → fields_in other (map f classes) ≡ fields_in program classes
    fields_in_alike [] = refl
    fields_in_alike (c ∷ classes) = rw (at c, own_field_count_alike (class_at program c), fields_in_alike classes) refl

    pub field_count_alike : (class : Name) → field_count other (f class) ≡ field_count program class
    unfolding field_count
    field_count_alike class = rw (chain_mapped class) (fields_in_alike (chain program class))

    pub place_alike : (found : FoundField) → place_of other (found_field_map found) ≡ place_of program found
    unfolding place_of
    place_alike found =
        rw (
          chain_mapped found.class,
          superclasses_mapped (chain program found.class),
          fields_in_alike (superclasses (chain program found.class)),
          at found.class,
          own_place_alike (class_at program found.class) found.field.name found.field.desc,
        ) refl
