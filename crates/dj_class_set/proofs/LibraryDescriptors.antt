-- Each descriptor of the libraries is one, by computing.
use Rattle.std.proofs.Common.{◌≡◌, ℕ, ◌≤◌, Bool, true, false, ◌&&◌, nat_le, List, [], ◌∷◌, map, Option, Some, None, All, IfSome, refl, ap, ◌∙◌, inl, inr, arith}
use Rattle.std.specs.Prelude.{sum_by}
use Rattle.std.specs.List.{list_all, AllByRecursion}
use Rattle.std.proofs.lemmas.Bool.Decides.{nat_tests}
use Rattle.std.proofs.lemmas.List.Elements.{All-nil, All-cons}
use Rattle.dj_names.specs.declared.descriptor.Of.{Of}
use Rattle.dj_names.specs.declared.descriptor.Of.TheVariants as ofs
use Rattle.dj_names.specs.declared.descriptor.Ty.{Ty}
use Rattle.dj_names.specs.declared.descriptor.Desc.{Desc}
use Rattle.dj_names.specs.declared.descriptor.Desc.TheVariants as descs
use Rattle.dj_names.specs.trusted.Descriptors.{type_slots, NamesClass, IsType, IsDesc}
use Rattle.dj_names.specs.trusted.Library.{LibraryMethod, LibraryClass, Library, deterministic_library, raw_library}
use Rattle.dj_names.specs.trusted.NameReading.{reads_class_name}
use Rattle.dj_names.proofs.NameLaws.{class_name_read}
use Rattle.dj_library_types.specs.declared.library.LibMethod.{LibMethod}
use Rattle.dj_library_types.specs.declared.library.LibClass.{LibClass}
use Rattle.dj_library_types.specs.Views.{library_method_view, library_class_view, library_view}
use Rattle.dj_class_set.specs.Late.{IsJudging}

pub both : (a b : Bool) → (a && b) ≡ true → (a ≡ true) × (b ≡ true)
both true b e = (refl, e)
both false b e = absurd cc

-- ---- tests

abbrev of_test : Of → Bool
of_test (ofs.Base base) = true
of_test (ofs.Class name) = reads_class_name true name

abbrev type_test : Ty → Bool
type_test ty = nat_le ty.dims 255 && of_test ty.of

abbrev return_test : Option Ty → Bool
return_test None = true
return_test (Some ty) = type_test ty

abbrev desc_test : Desc → Bool
desc_test (descs.Field ty) = type_test ty
desc_test (descs.Method params ret) = list_all type_test params && (return_test ret && nat_le (sum_by type_slots params) 255)

abbrev method_test : LibraryMethod → Bool
method_test m = desc_test m.desc

abbrev class_test : LibraryClass → Bool
class_test c = list_all method_test c.methods

-- ---- what they say

within : (n : ℕ) → nat_le n 255 ≡ true → n ≤ 255
within n e = grind (arith, nat_tests)

of_named : (of : Of) → of_test of ≡ true → NamesClass of
of_named (ofs.Base base) e = tt
of_named (ofs.Class name) e = class_name_read name e

type_is : (ty : Ty) → type_test ty ≡ true → IsType ty
type_is ty e = let p = both (nat_le ty.dims 255) (of_test ty.of) e in record { few = within ty.dims p.0; named = of_named ty.of p.1 }

types_are : (tys : List Ty) → list_all type_test tys ≡ true → AllByRecursion IsType tys
types_are [] e = tt
types_are (ty ∷ tys) e = let p = both (type_test ty) (list_all type_test tys) e in (type_is ty p.0, types_are tys p.1)

return_is : (ret : Option Ty) → return_test ret ≡ true → IfSome ret IsType
return_is None e = tt
return_is (Some ty) e = type_is ty e

desc_is : (desc : Desc) → desc_test desc ≡ true → IsDesc desc
desc_is (descs.Field ty) e = type_is ty e
desc_is (descs.Method params ret) e =
    let p = both (list_all type_test params) (return_test ret && nat_le (sum_by type_slots params) 255) e in
    let q = both (return_test ret) (nat_le (sum_by type_slots params) 255) p.1 in
    (types_are params p.0, return_is ret q.0, within (sum_by type_slots params) q.1)

methods_are : (methods : List LibMethod) → list_all method_test (map library_method_view methods) ≡ true → All (λ m. IsDesc m.desc) methods
methods_are [] e = All-nil (λ (m : LibMethod). IsDesc m.desc)
methods_are (m ∷ methods) e =
    let p = both (desc_test m.desc) (list_all method_test (map library_method_view methods)) e in
    All-cons (λ (k : LibMethod). IsDesc k.desc) m methods (desc_is m.desc p.0) (methods_are methods p.1)

abbrev pub HasDescriptors : LibClass → Type 0
HasDescriptors row = All (λ m. IsDesc m.desc) row.methods

classes_are : (rows : List LibClass) → list_all class_test (map library_class_view rows) ≡ true → All HasDescriptors rows
classes_are [] e = All-nil HasDescriptors
classes_are (row ∷ rows) e =
    let p = both (list_all method_test (map library_method_view row.methods)) (list_all class_test (map library_class_view rows)) e in
    All-cons HasDescriptors row rows (methods_are row.methods p.0) (classes_are rows p.1)

deterministic_tested : list_all class_test deterministic_library ≡ true
unfolding reads_class_name
deterministic_tested = refl

raw_tested : list_all class_test raw_library ≡ true
unfolding reads_class_name
raw_tested = refl

tested : (library : Library) → IsJudging library → list_all class_test library ≡ true
tested library (inl is) = ap (list_all class_test) is ∙ deterministic_tested
tested library (inr is) = ap (list_all class_test) is ∙ raw_tested

pub described : (rows : List LibClass) → IsJudging (library_view rows) → All HasDescriptors rows
described rows judging = classes_are rows (tested (library_view rows) judging)
