-- Few class files and a small library have few members.
use Rattle.std.proofs.Common.{◌≡◌, ℕ, ◌+◌, ◌*◌, ◌^◌, ◌<◌, ◌≤◌, List, [], ◌∷◌, ◌++◌, map, length, All, refl, ap, ◌∙◌, arith}
use Rattle.std.specs.List.{flat_map, AllByRecursion}
use Rattle.std.proofs.lemmas.List.{length-map, length-append}
use Rattle.std.proofs.lemmas.Grind.{flat_map-append}
use Rattle.dj_names.specs.trusted.Library.{Library}
use Rattle.dj_library_types.specs.declared.library.LibClass.{LibClass}
use Rattle.dj_library_types.specs.Views.{library_view}
use Rattle.dj_class.specs.trusted.ClassFile.{ClassFile, IsValid}
use Rattle.dj_class.specs.declared.class.ClassView.{ClassView}
use Rattle.dj_class.specs.Views.{class_of}
use Rattle.dj_model.specs.trusted.Program.{Class}
use Rattle.dj_model.specs.trusted.Libraries.{library_class}
use Rattle.dj_declarations.specs.trusted.Files.{declared_class, declared_method, declared_field}
use Rattle.dj_loader.specs.Loads.{all_classes, methods_of, fields_of, AreFewMembers}
use Rattle.dj_loader_tests.specs.Sets.{IsSmallLibrary}

-- at most this many items each
few_items : {A : Type 0} (f : Class → List A) (own : (c : ClassFile) → IsValid c → length (f (declared_class c)) < 65536) (files : List ClassFile) → AllByRecursion IsValid files
    → length (flat_map f (map declared_class files)) ≤ 65536 * length files
few_items f own [] valid = omega arith
few_items f own (c ∷ files) valid =
    let here = own c valid.0 in
    let later = few_items f own files valid.1 in
    let cut : length (flat_map f (declared_class c ∷ map declared_class files)) ≡ length (f (declared_class c)) + length (flat_map f (map declared_class files)) =
    length-append (f (declared_class c)) (flat_map f (map declared_class files)) in
    omega (arith, here, later, cut)

few_methods : (c : ClassFile) → IsValid c → length (methods_of (declared_class c)) < 65536
unfolding declared_class
few_methods c valid = let many = length-map c.methods (declared_method c.pool) in let few = valid.method_count in omega (arith, many, few)

few_fields : (c : ClassFile) → IsValid c → length (fields_of (declared_class c)) < 65536
unfolding declared_class
few_fields c valid = let many = length-map c.fields (declared_field c.pool) in let few = valid.field_count in omega (arith, many, few)

all_items : {A : Type 0} (f : Class → List A) (library : Library) (files : List ClassFile) → length (flat_map f (all_classes library files))
    ≡ length (flat_map f (map declared_class files)) + length (flat_map f (map library_class library))
all_items f library files =
    ap length (flat_map-append f (map declared_class files) (map library_class library)) ∙ length-append (flat_map f (map declared_class files)) (flat_map f (map library_class library))

pub few_members : (rows : List LibClass) (files : List ClassFile) → IsSmallLibrary rows → AllByRecursion IsValid files → length files < 100 → AreFewMembers (all_classes (library_view rows) files)
few_members rows files small valid few =
    let methods = all_items methods_of (library_view rows) files in
    let fields = all_items fields_of (library_view rows) files in
    let own_methods = few_items methods_of few_methods files valid in
    let own_fields = few_items fields_of few_fields files valid in
    let more_methods = small.methods in
    let more_fields = small.fields in
    record { methods = omega (arith, methods, own_methods, more_methods, few); fields = omega (arith, fields, own_fields, more_fields, few) }
