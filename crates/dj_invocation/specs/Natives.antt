-- The classes of the references that native methods take.
use Rattle.std.specs.Prelude.{◌≡◌, ℕ, ⊤, true, List, [], ◌∷◌, length, reverse, Option, Some, None, slice_get, get_or}
use Rattle.dj_names.specs.declared.descriptor.Kind.{Kind}
use Rattle.dj_names.specs.declared.descriptor.Kind.TheVariants as kinds
use Rattle.dj_names.specs.declared.run.Value.{Value}
use Rattle.dj_names.specs.declared.descriptor.Ty.{Ty}
use Rattle.dj_names.specs.declared.native.NativeId.{NativeId}
use Rattle.dj_names.specs.trusted.Descriptors.{type_kind}
use Rattle.dj_names.specs.trusted.Types.{parameters_of}
use Rattle.dj_model.specs.trusted.Program.{Native}
use Rattle.dj_model.specs.trusted.Linking.{FoundMethod}
use Rattle.dj_model.specs.trusted.Members.{kinds_of}
use Rattle.dj_numbering.specs.Typed.{Typed, types_of}
use Rattle.dj_numbering.specs.Members.{all_methods}
use Rattle.dj_image.specs.Imaged.{Imaged, program_of, typed_of}
use Rattle.dj_invocation.specs.Operands.{fit}

abbrev pub IsClassOf : Typed → Ty → Option ℕ → Type 0
IsClassOf typed ty None = ⊥
IsClassOf typed ty (Some class) = slice_get (types_of typed) class ≡ Some ty

-- the class of a type of references; none for other types
abbrev pub SaysClass : Typed → Ty → Option ℕ → Type 0
SaysClass typed ty class = type_kind ty ≡ Some kinds.Ref → IsClassOf typed ty class

abbrev pub AreClasses : Typed → List Ty → List (Option ℕ) → Type 0
AreClasses typed [] [] = ⊤
AreClasses typed (ty ∷ types) (class ∷ classes) = SaysClass typed ty class × AreClasses typed types classes
AreClasses typed types classes = ⊥

abbrev pub row_at : List (List (Option ℕ)) → ℕ → List (Option ℕ)
row_at rows number = get_or rows number []

-- for each native method, by its number, the classes of its parameters
abbrev pub AreNatives : Imaged → List (List (Option ℕ)) → Type 0
AreNatives imaged rows = (number : ℕ) (found : FoundMethod) (id : NativeId) → slice_get (all_methods (program_of imaged)) number ≡ Some found → found.method.body ≡ Native id
    → AreClasses (typed_of imaged) (parameters_of found.method.desc) (row_at rows number)

-- the kinds of the types are those of the upper operands, and the classes are these
pub record AreTyped (imaged : Imaged) (operands : List Value) (count : ℕ) (classes : List (Option ℕ)) (types : List Ty) : Type 0 where
  pub kinds : List Kind
  pub kinds_are : kinds_of types ≡ Some kinds
  pub count_is : count ≡ length kinds
  pub fits : fit (reverse kinds) operands ≡ true
  pub classes_are : AreClasses (typed_of imaged) types classes
