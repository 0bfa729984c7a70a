-- The parts of the classes of a table, by plain values: of a library's class A with an abstract method, and of the class B of a file, which has a
-- field that begins with 7.
use Rattle.std.proofs.Common.{◌≡◌, ℕ, zero, suc, Bool, false, List, [], ◌∷◌, map, codes, pos, Contains, Option, Some, None, ℤ, refl, sym, ap, ◌∙◌, subst, inl, inr}
use Rattle.std.specs.Prelude.{slice_get}
use Rattle.std.specs.Option.{option_map}
use Rattle.std.proofs.lemmas.Bool.{false≢true, true≢false}
use Rattle.std.proofs.lemmas.Option.{none-some, same_Some}
use Rattle.dj_names.specs.trusted.Library.{LibraryClass, abstract}
use Rattle.dj_pool.specs.trusted.Pool.{Constant, Utf8, Class, Integer}
use Rattle.dj_class.specs.trusted.ClassFile.{MemberInfo, ClassFile}
use Rattle.dj_model.specs.trusted.Program as programs
use Rattle.dj_model.specs.trusted.Program.{Program, Method, Field, has_code}
use Rattle.dj_model.specs.trusted.Libraries.{library_class}
use Rattle.dj_declarations.specs.trusted.Files.{declared_class}
use Rattle.dj_program.specs.declared.code.MethodCode.{MethodCode}
use Rattle.dj_program.specs.trusted.Naming.{constant_in}
use Rattle.dj_program.specs.trusted.Programs.{AreSideBySide, IsMethodIn, IsClassIn}
use Rattle.dj_program.specs.Views.{parts_of}
use Rattle.dj_image.specs.declared.parts.ClassParts.{ClassParts}
use Rattle.dj_image.specs.declared.parts.FieldValue.{FieldValue}
use Rattle.dj_image.specs.declared.parts.FieldValue.TheVariants as values
use Rattle.dj_image.specs.Sources.{with_codes, with_values, class_of_source}
use Rattle.dj_image.specs.Parts.{constant_of_value, source_of, FitClasses}
use Rattle.dj_loader.specs.Parting.{ArePartsOf}
use Rattle.dj_loader.proofs.Lists.{member_first, member_none, member_cases}
use Rattle.dj_loader.proofs.PartingFacts.{other_name}

-- ---- a table

abbrev row : LibraryClass
row = record {
  name = codes "A";
  superclass = None;
  flags = 33;
  interfaces = [];
  fields = 0;
  methods = abstract (codes "m") [] None ∷ [];
}

-- 2 the class B, 3 the field, 4 its descriptor, 5 the name of its attribute, 6 what it begins with
abbrev pool : List Constant
pool = Utf8 (codes "B") ∷ Class 1 ∷ Utf8 (codes "x") ∷ Utf8 (codes "I") ∷ Utf8 (codes "ConstantValue") ∷ Integer (pos 7) ∷ []

abbrev begun : MemberInfo
begun = record { flags = 25; name = 3; desc = 4; attributes = record { name = 5; body = 0 ∷ 6 ∷ [] } ∷ [] }

abbrev file_with : List MemberInfo → ClassFile
file_with methods = record {
  minor = 0;
  major = 52;
  pool = pool;
  flags = 33;
  this_class = 2;
  super_class = 0;
  interfaces = [];
  fields = begun ∷ [];
  methods = methods;
  attributes = [];
}

abbrev file : ClassFile
file = file_with []

abbrev table_of : ClassFile → Program
table_of c = library_class row ∷ declared_class c ∷ []

file_is_no_row : (c : ClassFile) → (declared_class c).name ≡ codes "B" → library_class row ≡ declared_class c → ⊥
file_is_no_row c named e = other_name (codes "A") (codes "B") refl (ap (λ (x : programs.Class). x.name) e ∙ named)

named_b : (methods : List MemberInfo) → (declared_class (file_with methods)).name ≡ codes "B"
unfolding declared_class
named_b methods = refl

-- ---- the parts of both: no more is asked than that each class has its own

module _ (p q : ClassParts) (f : ClassFile) (named : (declared_class f).name ≡ codes "B") where
  parts_of_both : FitClasses (table_of f) (p ∷ q ∷ []) → class_of_source (source_of (library_class row) p) ≡ library_class row → IsClassIn f (class_of_source (source_of (declared_class f) q))
      → ArePartsOf (row ∷ []) (f ∷ []) (table_of f) (p ∷ q ∷ [])
  parts_of_both fit kept_bare is_in = record { fit = fit; filled = filled; bare = bare } where
    filled : (k : ℕ) (c : ClassFile) (r : ClassParts) → Contains (f ∷ []) c → slice_get (table_of f) k ≡ Some (declared_class c) → slice_get (p ∷ q ∷ []) k ≡ Some r
        → IsClassIn c (class_of_source (source_of (declared_class c) r))
    filled k c r there at kept = elim (member_cases f [] c there) [
      | inl is ↦ subst (λ (x : ClassFile). IsClassIn x (class_of_source (source_of (declared_class x) r))) is (by k (at ∙ ap (λ (x : ClassFile). Some (declared_class x)) (sym is)) kept)
      | inr none ↦ absurd (member_none c none)
    ] where
      by : (k : ℕ) → slice_get (table_of f) k ≡ Some (declared_class f) → slice_get (p ∷ q ∷ []) k ≡ Some r → IsClassIn f (class_of_source (source_of (declared_class f) r))
      by zero at kept = absurd (file_is_no_row f named (same_Some (library_class row) (declared_class f) at))
      by (suc zero) at kept = subst (λ (x : ClassParts). IsClassIn f (class_of_source (source_of (declared_class f) x))) (same_Some q r kept) is_in
      by (suc (suc k)) at kept = absurd (none-some r kept)

    bare : (k : ℕ) (c : LibraryClass) (r : ClassParts) → Contains (row ∷ []) c → slice_get (table_of f) k ≡ Some (library_class c) → slice_get (p ∷ q ∷ []) k ≡ Some r
        → class_of_source (source_of (library_class c) r) ≡ library_class c
    bare k c r there at kept = elim (member_cases row [] c there) [
      | inl is ↦ subst (λ (x : LibraryClass). class_of_source (source_of (library_class x) r) ≡ library_class x) is (by k (at ∙ ap (λ (x : LibraryClass). Some (library_class x)) (sym is)) kept)
      | inr none ↦ absurd (member_none c none)
    ] where
      by : (k : ℕ) → slice_get (table_of f) k ≡ Some (library_class row) → slice_get (p ∷ q ∷ []) k ≡ Some r → class_of_source (source_of (library_class row) r) ≡ library_class row
      by zero at kept = subst (λ (x : ClassParts). class_of_source (source_of (library_class row) x) ≡ library_class row) (same_Some p r kept) kept_bare
      by (suc zero) at kept = absurd (file_is_no_row f named (sym (same_Some (declared_class f) (library_class row) at)))
      by (suc (suc k)) at kept = absurd (none-some r kept)

-- ---- those of a file with one field

module _ (p q : ClassParts) where
  abbrev own : ClassParts
  own = record q { pool = pool }

  bare_kept : p.codes.items ≡ None ∷ [] → class_of_source (source_of (library_class row) p) ≡ library_class row
  unfolding class_of_source
  bare_kept is = ap (λ (cs : List (Option MethodCode)). record (library_class row) { methods = with_codes p.pool (library_class row).methods (map (option_map parts_of) cs) }) is

  is_filled : q.values.items ≡ Some (values.Int (pos 7)) ∷ [] → IsClassIn file (class_of_source (source_of (declared_class file) own))
  unfolding declared_class class_of_source constant_in
  is_filled is = record {
    methods = [];
    each = tt;
    is = ap (λ (vs : List (Option FieldValue)). record (declared_class file) { fields = with_values (declared_class file).fields (map (option_map (constant_of_value pool)) vs) }) is;
  }

  parts : FitClasses (table_of file) (p ∷ own ∷ []) → p.codes.items ≡ None ∷ [] → q.values.items ≡ Some (values.Int (pos 7)) ∷ []
      → ArePartsOf (row ∷ []) (file ∷ []) (table_of file) (p ∷ own ∷ [])
  parts fit codes_are values_are = parts_of_both p own file (named_b []) fit (bare_kept codes_are) (is_filled values_are)

  -- ---- the class of a file has what the file says

  -- what a class begins with in its first field
  abbrev first_of : List Field → Option programs.Constant
  first_of [] = None
  first_of (f ∷ fields) = f.constant

  begins : ArePartsOf (row ∷ []) (file ∷ []) (table_of file) (p ∷ own ∷ []) → first_of (with_values (declared_class file).fields (map (option_map (constant_of_value pool)) q.values.items)) ≡ Some (programs.Int (pos 7))
  unfolding declared_class class_of_source constant_in
  begins are = ap (λ (c : programs.Class). first_of c.fields) (are.filled 1 file own (member_first file []) refl refl).is

  value_left_out : q.values.items ≡ None ∷ [] → ArePartsOf (row ∷ []) (file ∷ []) (table_of file) (p ∷ own ∷ []) → ⊥
  unfolding declared_class
  value_left_out is are =
      none-some (programs.Int (pos 7)) (sym (ap (λ (vs : List (Option FieldValue)). first_of (with_values (declared_class file).fields (map (option_map (constant_of_value pool)) vs))) is) ∙ begins are)

  abbrev int_of : Option programs.Constant → ℤ
  int_of (Some (programs.Int z)) = z
  int_of other = pos 0

  other_value : q.values.items ≡ Some (values.Int (pos 8)) ∷ [] → ArePartsOf (row ∷ []) (file ∷ []) (table_of file) (p ∷ own ∷ []) → ⊥
  unfolding declared_class
  other_value is are =
      let e : pos 8 ≡ pos 7 = ap int_of (sym (ap (λ (vs : List (Option FieldValue)). first_of (with_values (declared_class file).fields (map (option_map (constant_of_value pool)) vs))) is) ∙ begins are) in
      absurd cc

  -- a method without a Code attribute has none
  abbrev runs : MemberInfo
  runs = record { flags = 9; name = 3; desc = 4; attributes = [] }

  code_of_none : ArePartsOf (row ∷ []) (file_with (runs ∷ []) ∷ []) (table_of (file_with (runs ∷ []))) (p ∷ own ∷ []) → ⊥
  code_of_none are =
      let reported = are.filled 1 (file_with (runs ∷ [])) own (member_first (file_with (runs ∷ [])) []) refl refl in
      by reported.methods reported.each where
        lacks : (method : Method) → IsMethodIn pool runs method → ⊥
        lacks method is = elim is.is_body [
          | inl bodiless ↦ false≢true bodiless.0
          | inr (whole, code, of, body) ↦ member_none of.own.body of.own.own
        ]

        by : (methods : List Method) → AreSideBySide (IsMethodIn pool) (runs ∷ []) methods → ⊥
        by [] each = each
        by (m ∷ methods) each = lacks m each.0

  -- ---- that of a library has nothing more

  abbrev first_runs : List Method → Bool
  first_runs [] = false
  first_runs (m ∷ methods) = has_code m.body

  code_of_library : (code : MethodCode) → p.codes.items ≡ Some code ∷ [] → ArePartsOf (row ∷ []) (file ∷ []) (table_of file) (p ∷ own ∷ []) → ⊥
  unfolding class_of_source
  code_of_library code is are =
      let reported : first_runs (with_codes p.pool (library_class row).methods (map (option_map parts_of) p.codes.items)) ≡ false =
      ap (λ (c : programs.Class). first_runs c.methods) (are.bare 0 row p (member_first row []) refl refl) in
      let here = ap (λ (cs : List (Option MethodCode)). first_runs (with_codes p.pool (library_class row).methods (map (option_map parts_of) cs))) (sym is) in
      true≢false (here ∙ reported)
