-- What is said of each of sound class files.
use Rattle.std.proofs.Common.{◌≡◌, ◌<◌, List, [], ◌∷◌, ◌++◌, map, length, All, arith}
use Rattle.std.specs.List.{AllByRecursion}
use Rattle.std.proofs.lemmas.List.{length-map}
use Rattle.std.proofs.lemmas.List.Elements.{All-push, All-from_recursion, recursion_from_All}
use Rattle.dj_library_types.specs.declared.library.LibClass.{LibClass}
use Rattle.dj_library_types.specs.Views.{library_view}
use Rattle.dj_class.specs.declared.class.ClassView.{ClassView}
use Rattle.dj_class.specs.trusted.ClassFile.{IsValid}
use Rattle.dj_class.specs.Views.{class_of}
use Rattle.dj_early_rules.specs.trusted.Malformed.{HasFaultyMethod}
use Rattle.dj_loader.specs.Loads.{all_classes, AreFewMembers}
use Rattle.dj_loader_tests.specs.Sets.{IsSmallLibrary, IsSound}
use Rattle.dj_loader_tests.proofs.Few.{few_members}

each : {X : Type 0} (P Q : X → Type 0) → ((x : X) → P x → Q x) → (xs : List X) → AllByRecursion P xs → AllByRecursion Q xs
each P Q does [] all = tt
each P Q does (x ∷ xs) all = (does x all.0, each P Q does xs all.1)

pub one_more : (views : List ClassView) (view : ClassView) → All IsSound views → IsSound view → All IsSound (views ++ view ∷ [])
one_more views view all one = All-push IsSound views view all one

pub all_valid : (views : List ClassView) → All IsSound views → All (λ view. IsValid (class_of view)) views
all_valid views all =
    All-from_recursion (λ (view : ClassView). IsValid (class_of view)) views
    (each IsSound (λ (view : ClassView). IsValid (class_of view)) (λ view sound. sound.valid) views (recursion_from_All IsSound views all))

pub all_coded : (views : List ClassView) → All IsSound views → All (λ view. HasFaultyMethod (class_of view) → ⊥) views
all_coded views all =
    All-from_recursion (λ (view : ClassView). HasFaultyMethod (class_of view) → ⊥) views
    (each IsSound (λ (view : ClassView). HasFaultyMethod (class_of view) → ⊥) (λ view sound. sound.coded) views (recursion_from_All IsSound views all))

files_valid : (views : List ClassView) → AllByRecursion IsSound views → AllByRecursion IsValid (map class_of views)
files_valid [] all = tt
files_valid (view ∷ views) all = (all.0.valid, files_valid views all.1)

pub few_in_all : (rows : List LibClass) (views : List ClassView) → IsSmallLibrary rows → All IsSound views → length views < 100 → AreFewMembers (all_classes (library_view rows) (map class_of views))
few_in_all rows views small all few =
    let many = length-map views class_of in
    few_members rows (map class_of views) small (files_valid views (recursion_from_All IsSound views all)) (omega (arith, many, few))
