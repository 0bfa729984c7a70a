-- What the views say, by plain values.
use Rattle.std.specs.Prelude.{◌≡◌, ℕ, List, [], ◌∷◌, map, Some, None, codes}
use Rattle.std.proofs.Common.{refl}
use Rattle.dj_names.specs.declared.descriptor.Desc.TheVariants as descs
use Rattle.dj_names.specs.declared.native.NativeId.TheVariants as natives
use Rattle.dj_names.specs.trusted.Library as named
use Rattle.dj_library_types.specs.declared.library.LibMethod.{LibMethod}
use Rattle.dj_library_types.specs.declared.library.LibClass.{LibClass}
use Rattle.dj_library_types.specs.Views.{library_method_view, library_class_view, library_view}

abbrev run : LibMethod
run = record {
  flags = 1025;
  name = codes "run";
  desc = descs.Method [] None;
  native = None;
}

abbrev abs : LibMethod
abs = record {
  flags = 265;
  name = codes "abs";
  desc = descs.Method (named.int ∷ []) (Some named.int);
  native = Some natives.AbsInt;
}

abbrev math : LibClass
math = record {
  name = codes "java/lang/Math";
  super_name = Some (codes "java/lang/Object");
  flags = 49;
  interfaces = [];
  fields = 0;
  methods = abs ∷ [];
}

abbrev throwable : LibClass
throwable = record {
  name = codes "java/lang/Throwable";
  super_name = None;
  flags = 33;
  interfaces = codes "java/io/Serializable" ∷ [];
  fields = 2;
  methods = [];
}

abstract_method : library_method_view run ≡ named.abstract (codes "run") [] None
abstract_method = refl

native_method : library_method_view abs ≡ named.static (codes "abs") (named.int ∷ []) named.int natives.AbsInt
native_method = refl

other_native : (library_method_view abs).native ≡ Some natives.AbsLong → ⊥
other_native e = let native : Some natives.AbsInt ≡ Some natives.AbsLong = e in absurd cc

final_class : library_class_view math ≡ named.final_class (codes "Math") [] 0 (named.static (codes "abs") (named.int ∷ []) named.int natives.AbsInt ∷ [])
final_class = refl

-- with its superclass, its interface and its fields
whole_class : library_class_view throwable ≡ record (named.library_class (codes "java/lang/Throwable") 33 (codes "java/io/Serializable" ∷ []) 2 []) { superclass = None }
whole_class = refl

in_order : library_view (math ∷ throwable ∷ []) ≡ library_class_view math ∷ library_class_view throwable ∷ []
in_order = refl

abbrev flags_in_order : List ℕ
flags_in_order = 49 ∷ 33 ∷ []

other_order : map (λ (c : named.LibraryClass). c.flags) (library_view (math ∷ throwable ∷ [])) ≡ 33 ∷ 49 ∷ [] → ⊥
other_order e = let flags : flags_in_order ≡ 33 ∷ 49 ∷ [] = e in absurd cc
