-- Tables of classes in the order of their names, and the parts of their classes, by plain values.
use Rattle.std.proofs.Common.{◌≡◌, ℕ, zero, suc, ◌<◌, ◌≤◌, ◌^◌, false, List, [], ◌∷◌, map, length, get_or, replicate, codes, pos, arith, lit<, append-nil, Contains, Option, Some, None, refl, sym, ap, ◌∙◌, subst, inl, inr}
use Rattle.std.specs.Prelude.{slice_get}
use Rattle.std.specs.List.{flat_map}
use Rattle.std.proofs.lemmas.Bool.{false≢true}
use Rattle.std.proofs.lemmas.Option.{none-some, same_Some}
use Rattle.std.proofs.lemmas.List.{length-map, length-replicate}
use Rattle.dj_names.specs.declared.descriptor.Base.TheVariants as bases
use Rattle.dj_names.specs.declared.descriptor.Desc.TheVariants as described_as
use Rattle.dj_names.specs.trusted.DescReading.{dims_read, name_read, class_read, of_read, type_read, params_read, field_read, return_read, method_read, desc_read}
use Rattle.dj_names.specs.trusted.Descriptors.{desc_text}
use Rattle.dj_names.specs.trusted.NameReading.{reads_class_name}
use Rattle.dj_names.specs.trusted.Types.{Name, same_name, base_type}
use Rattle.dj_names.specs.trusted.Library.{Library, LibraryClass, LibraryMethod}
use Rattle.dj_pool.specs.trusted.Pool.{Integer}
use Rattle.dj_class.specs.trusted.ClassFile.{MemberInfo, ClassFile}
use Rattle.dj_model.specs.trusted.Program.{Program, Class, Field}
use Rattle.dj_model.specs.trusted.Kinds.{call_signature}
use Rattle.dj_model.specs.trusted.Libraries.{library_class, library_method}
use Rattle.dj_declarations.specs.trusted.Files.{desc_in, name_in}
use Rattle.dj_declarations.specs.Members.{IsDescriptor}
use Rattle.dj_class_table.specs.Tables.{name_at, IsShared}
use Rattle.dj_class_table.proofs.Orders.{same_from_names, not_both}
use Rattle.dj_program.specs.trusted.Naming.{named_at, named_by}
use Rattle.dj_program.specs.trusted.Programs.{AreSideBySide}
use Rattle.dj_program.specs.declared.code.MethodCode.{MethodCode}
use Rattle.dj_shape_rule.specs.declared.pool.ConstantKind.TheVariants as constants
use Rattle.dj_shape_rule.specs.Kept.{KeptKinds}
use Rattle.dj_shape_rule.specs.Pools.{call_at, SaysKind, ArePoolKinds}
use Rattle.dj_image.specs.declared.parts.ClassParts.{ClassParts}
use Rattle.dj_loader.specs.Filed.{IsCodeFor, reported_value, AreFileParts, AreBareParts, ArePartsFor, AreFirstParts}
use Rattle.dj_loader.specs.Loads.{methods_of, fields_of, AreFewMembers, above_names, StandsUnder, IsOwnAncestor, Never}
use Rattle.dj_loader.specs.Parting.{IsTableOf, ArePartsOf}
use Rattle.dj_loader.proofs.Lists.{member_first, member_none, member_cases}

pub other_name : (x y : Name) → same_name x y ≡ false → x ≡ y → ⊥
other_name x y differ e = not_both (same_name x y) (same_from_names x y e) differ

-- ---- tables of a library's classes, which stand under nothing

abbrev row : Name → LibraryClass
row name = record {
  name = name;
  superclass = None;
  flags = 33;
  interfaces = [];
  fields = 0;
  methods = [];
}

abbrev class : Name → Class
class name = library_class (row name)

abbrev a : Name
a = codes "a"

abbrev b : Name
b = codes "b"

abbrev two : List Class
two = class b ∷ class a ∷ []

differ : Never (IsShared two)
differ name shared = by shared.first shared.other shared.apart shared.one shared.two where
  by : (first other : ℕ) → first < other → name_at two first ≡ Some name → name_at two other ≡ Some name → ⊥
  by zero zero apart one other = omega (arith, apart)
  by zero (suc zero) apart one other = other_name b a refl (same_Some b name one ∙ sym (same_Some a name other))
  by zero (suc (suc k)) apart one other = none-some name other
  by (suc zero) zero apart one other = omega (arith, apart)
  by (suc zero) (suc zero) apart one other = omega (arith, apart)
  by (suc zero) (suc (suc k)) apart one other = none-some name other
  by (suc (suc j)) other apart one next = none-some name one

nothing_above : (name above : Name) → StandsUnder two name above → ⊥
nothing_above name above under = elim (member_cases (class b) (class a ∷ []) under.class under.there) [
  | inl e ↦ member_none above (subst (λ (c : Class). Contains (above_names c) above) (sym e) under.listed)
  | inr more ↦ elim (member_cases (class a) [] under.class more) [
    | inl e ↦ member_none above (subst (λ (c : Class). Contains (above_names c) above) (sym e) under.listed)
    | inr none ↦ member_none under.class none
  ]
]

acyclic : Never (IsOwnAncestor two)
acyclic name (zero, under) = nothing_above name name under
acyclic name (suc n, (between, under, below)) = nothing_above name between under

in_order : IsTableOf (row b ∷ row a ∷ []) [] (class a ∷ class b ∷ [])
in_order = record {
  is = refl;
  loadable = record { differ = differ; whole = λ name lacks. nothing_above name lacks.0 lacks.1; acyclic = acyclic };
  few = record { methods = lit< tt; fields = lit< tt };
}

abbrev first_name : Program → Name
first_name [] = []
first_name (c ∷ classes) = c.name

-- not in another order, nor with fewer or more classes
out_of_order : IsTableOf (row b ∷ row a ∷ []) [] (class b ∷ class a ∷ []) → ⊥
out_of_order table = other_name b a refl (ap first_name table.is)

left_out : IsTableOf (row b ∷ row a ∷ []) [] (class a ∷ []) → ⊥
left_out table = let e : 1 ≡ 2 = ap length table.is in omega (arith, e)

one_too_many : IsTableOf (row a ∷ []) [] (class a ∷ class b ∷ []) → ⊥
one_too_many table = let e : 2 ≡ 1 = ap length table.is in omega (arith, e)

-- none of classes that can't be loaded, nor of too many methods
twice : (table : Program) → IsTableOf (row a ∷ row a ∷ []) [] table → ⊥
twice table reported = reported.loadable.differ a (record { first = 0; other = 1; apart = omega arith; one = refl; two = refl })

abbrev under_b : LibraryClass
under_b = record (row a) { superclass = Some b }

lacking : (table : Program) → IsTableOf (under_b ∷ []) [] table → ⊥
lacking table reported = reported.loadable.whole a (b, record { class = library_class under_b; there = member_first (library_class under_b) []; named = refl; listed = member_first b [] }, refl)

abbrev under_itself : LibraryClass
under_itself = record (row a) { interfaces = a ∷ [] }

cycle : (table : Program) → IsTableOf (under_itself ∷ []) [] table → ⊥
cycle table reported = reported.loadable.acyclic a (0, record { class = library_class under_itself; there = member_first (library_class under_itself) []; named = refl; listed = member_first a [] })

abbrev many : LibraryMethod → ℕ → LibraryClass
many m n = record (row a) { methods = replicate n m }

too_many_methods : (m : LibraryMethod) (n : ℕ) (table : Program) → 2 ^ 32 ≤ n → IsTableOf (many m n ∷ []) [] table → ⊥
too_many_methods m n table le reported =
    let all : length (flat_map methods_of (library_class (many m n) ∷ [])) ≡ n =
    ap length (append-nil (map library_method (replicate n m))) ∙ length-map (replicate n m) library_method ∙ length-replicate n m in
    omega (arith, le, reported.few.methods, all)

abbrev field : Field
field = record { flags = 1; name = codes "x"; desc = described_as.Field (base_type bases.Int); constant = None }

too_many_fields : (n : ℕ) → 2 ^ 32 ≤ n → AreFewMembers (record (class a) { fields = replicate n field } ∷ []) → ⊥
too_many_fields n le few =
    let all : length (flat_map fields_of (record (class a) { fields = replicate n field } ∷ [])) ≡ n =
    ap length (append-nil (replicate n field)) ∙ length-replicate n field in
    omega (arith, le, few.fields, all)

all_few_fields : (n : ℕ) → n < 2 ^ 32 → AreFewMembers (record (class a) { fields = replicate n field } ∷ [])
all_few_fields n lt =
    let all : length (flat_map fields_of (record (class a) { fields = replicate n field } ∷ [])) ≡ n =
    ap length (append-nil (replicate n field)) ∙ length-replicate n field in
    record { methods = lit< tt; fields = omega (arith, lt, all) }

-- ---- the parts of a class that a file defines

abbrev method : ℕ → ℕ → MemberInfo
method flags desc = record { flags = flags; name = 1; desc = desc; attributes = [] }

abbrev nothing_kept : KeptKinds
nothing_kept = record { constants = []; calls = [] }

no_descriptor : IsDescriptor [] → ⊥
unfolding desc_in dims_read name_read class_read of_read type_read params_read field_read return_read method_read desc_read reads_class_name
no_descriptor reported = other_name [] (desc_text (desc_in [])) refl reported.text_is

none_each : (index : ℕ) → SaysKind [] (named_at [] index) (get_or [] index constants.Other)
none_each zero = tt
none_each (suc k) = tt

none_called : (index : ℕ) → IsDescriptor (name_in [] index) → call_signature (desc_in (name_in [] index)) ≡ call_at [] index
none_called zero reported = absurd (no_descriptor reported)
none_called (suc k) reported = absurd (no_descriptor reported)

none_kept : ArePoolKinds [] nothing_kept
none_kept = record { each = none_each; calls = none_called }

-- a file with an abstract and a native method, of the descriptors 5 and 6
abbrev file_of : ClassFile → ClassFile
file_of c = record c { pool = []; fields = []; methods = method 1025 5 ∷ method 256 6 ∷ [] }

abbrev parts_of : ClassParts → ClassParts
parts_of p = record p { pool = []; kinds = nothing_kept }

module _ (c : ClassFile) (p : ClassParts) where
  file_parts : p.codes.items ≡ None ∷ None ∷ [] → p.descs.items ≡ 5 ∷ 6 ∷ [] → p.values.items ≡ [] → AreFileParts (file_of c) (parts_of p)
  file_parts codes_are descs_are values_are = record {
    pool = refl;
    kinds = none_kept;
    codes = subst (λ (cs : List (Option MethodCode)). AreSideBySide (IsCodeFor []) (method 1025 5 ∷ method 256 6 ∷ []) cs) (sym codes_are) (refl, (refl, tt));
    descs = descs_are;
    values = ap (map (reported_value [])) values_are;
  }

  -- not with the descriptors of others, with fewer codes, or with a value of no field
  descs_of_others : p.descs.items ≡ 6 ∷ 5 ∷ [] → AreFileParts (file_of c) (parts_of p) → ⊥
  descs_of_others is are =
      let e : 6 ≡ 5 = ap (λ (xs : List ℕ). get_or xs 0 0) (sym is ∙ are.descs) in
      omega (arith, e)

  code_left_out : p.codes.items ≡ None ∷ [] → AreFileParts (file_of c) (parts_of p) → ⊥
  code_left_out is are =
      let reported : AreSideBySide (IsCodeFor []) (method 1025 5 ∷ method 256 6 ∷ []) (None ∷ []) =
      subst (λ (cs : List (Option MethodCode)). AreSideBySide (IsCodeFor []) (method 1025 5 ∷ method 256 6 ∷ []) cs) is are.codes in
      reported.1

  value_of_none : p.values.items ≡ None ∷ [] → AreFileParts (file_of c) (parts_of p) → ⊥
  value_of_none is are =
      let e : 1 ≡ 0 = ap length (sym (ap (map (reported_value [])) is) ∙ are.values) in
      omega (arith, e)

  -- nor without the code of a method that has some
  no_code : p.codes.items ≡ None ∷ [] → AreFileParts (record (file_of c) { methods = method 9 5 ∷ [] }) (parts_of p) → ⊥
  no_code is are =
      let reported : AreSideBySide (IsCodeFor []) (method 9 5 ∷ []) (None ∷ []) = subst (λ (cs : List (Option MethodCode)). AreSideBySide (IsCodeFor []) (method 9 5 ∷ []) cs) is are.codes in
      false≢true reported.0

  -- nor with other constants, or with what is kept of others
  pool_left_out : AreFileParts (record (file_of c) { pool = Integer (pos 7) ∷ [] }) (parts_of p) → ⊥
  pool_left_out are = let e : 0 ≡ 1 = ap length are.pool in omega (arith, e)

  kinds_of_none : AreFileParts (record (file_of c) { pool = Integer (pos 7) ∷ [] }) (record (parts_of p) { pool = Integer (pos 7) ∷ [] }) → ⊥
  unfolding named_by
  kinds_of_none are = are.kinds.each 1

-- ---- the parts of the classes of a table

no_parts : (table : Program) (files : List ClassFile) (owners : List (Option ℕ)) → AreFirstParts table files owners 0 []
no_parts table files owners = record { many = refl; each = λ k p at. absurd (none-some p at) }

one_left_out : (table : Program) (files : List ClassFile) (owners : List (Option ℕ)) → AreFirstParts table files owners 1 [] → ⊥
one_left_out table files owners are = let e : 0 ≡ 1 = are.many in omega (arith, e)

-- the parts of a class that no file defines are bare
first_bare : (p : ClassParts) → AreBareParts 0 0 p → AreFirstParts (class a ∷ []) [] (None ∷ []) 1 (p ∷ [])
first_bare p bare = record { many = refl; each = each } where
  each : (k : ℕ) (q : ClassParts) → slice_get (p ∷ []) k ≡ Some q → ArePartsFor (class a ∷ []) [] k (get_or (None ∷ []) k None) q
  each zero q at = subst (λ (r : ClassParts). AreBareParts 0 0 r) (same_Some p q at) bare
  each (suc k) q at = absurd (none-some q at)

value_of_bare : (p : ClassParts) → p.values.items ≡ None ∷ [] → AreFirstParts (class a ∷ []) [] (None ∷ []) 1 (p ∷ []) → ⊥
value_of_bare p is are =
    let e : 1 ≡ 0 = ap length (sym is ∙ (are.each 0 p refl).values) in
    omega (arith, e)

-- and as many as the members of its own class, which are more than those of the first one
second_of_first : (m : LibraryMethod) (p q : ClassParts) → q.codes.items ≡ [] → AreFirstParts (class a ∷ library_class (record (row b) { methods = m ∷ [] }) ∷ []) [] (None ∷ None ∷ []) 2 (p ∷ q ∷ []) → ⊥
second_of_first m p q is are =
    let e : 0 ≡ 1 = ap length (sym is ∙ (are.each 1 q refl).codes) in
    omega (arith, e)

parts_of_none : (library : Library) (files : List ClassFile) → ArePartsOf library files [] []
parts_of_none library files = record { fit = tt; filled = λ k c p there at own. absurd (none-some p own); bare = λ k c p there at own. absurd (none-some p own) }

parts_left_out : (library : Library) (files : List ClassFile) → ArePartsOf library files (class a ∷ []) [] → ⊥
parts_left_out library files are = are.fit

part_of_no_class : (library : Library) (files : List ClassFile) (p : ClassParts) → ArePartsOf library files [] (p ∷ []) → ⊥
part_of_no_class library files p are = are.fit

value_of_no_field : (library : Library) (files : List ClassFile) (p : ClassParts) → p.values.items ≡ None ∷ [] → ArePartsOf library files (class a ∷ []) (p ∷ []) → ⊥
value_of_no_field library files p is are = let e : 1 ≡ 0 = sym (ap length is) ∙ are.fit.0.fields in omega (arith, e)
