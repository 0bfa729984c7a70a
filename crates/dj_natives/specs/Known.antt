-- Heaps whose classes have numbers, and arguments of native methods.
use Rattle.std.specs.Prelude.{◌≡◌, ℕ, ◌<◌, ⊤, true, List, map, Option, Some, None, length, IsTrue}
use Rattle.std.specs.List.{All}
use Rattle.dj_names.specs.declared.descriptor.Ty.{Ty}
use Rattle.dj_names.specs.declared.run.Element.TheVariants as elements
use Rattle.dj_names.specs.declared.run.Value.{Value}
use Rattle.dj_names.specs.declared.native.NativeId.{NativeId}
use Rattle.dj_names.specs.declared.native.NativeId.TheVariants as natives
use Rattle.dj_names.specs.trusted.Heaps.{Object, Instance, Array, Text, class_of}
use Rattle.dj_names.specs.trusted.Types.{Name, class_type}
use Rattle.dj_names.specs.trusted.Values.{value_kind}
use Rattle.dj_heap.specs.Heaps.{LimitedHeap, object_in}
use Rattle.dj_model.specs.trusted.Natives.{is_reference, reference, asks}
use Rattle.dj_model.specs.NativeKinds.{native_signature}
use Rattle.dj_library_types.specs.Numbered.{type_at, holds_references}

-- the type is that of a class
abbrev pub IsClassType : Ty → Type 0
IsClassType ty = (name : Name) × (ty ≡ class_type name)

-- an instance's class is no array, and the class of an array of references is one of such arrays
abbrev pub HoldsKnown : List Ty → Object ℕ → Type 0
HoldsKnown types (Instance class fields) = IsClassType (type_at types class)
HoldsKnown types (Array class element contents) = IsTrue (is_reference element) → holds_references (type_at types class) ≡ true
HoldsKnown types (Text class units) = ⊤

pub record IsKnown (types : List Ty) (object : Object ℕ) : Type 0 where
  pub class : class_of object < length types
  pub holds : HoldsKnown types object

abbrev pub AreKnown : List Ty → LimitedHeap → Type 0
AreKnown types h = All (IsKnown types) h.heap.objects

-- ---- arguments

abbrev pub IsOfChars : Option (Object ℕ) → Type 0
IsOfChars (Some (Array class elements.Char contents)) = ⊤
IsOfChars (Some (Array class element contents)) = ⊥
IsOfChars _ = ⊤

-- an array of chars
abbrev pub HoldsChars : Option (Object ℕ) → Type 0
HoldsChars (Some (Array class elements.Char contents)) = ⊤
HoldsChars _ = ⊥

abbrev pub IsFitting : NativeId → LimitedHeap → List Value → Type 0
IsFitting natives.StringValueOfChars h args = IsOfChars (object_in h (reference 0 args))
IsFitting id h args = ⊤

-- the arguments are of the kinds that the method takes, the host isn't asked, and an array whose elements are read as units is one of chars
pub record AreArguments (id : NativeId) (h : LimitedHeap) (args : List Value) : Type 0 where
  pub kinds : map value_kind args ≡ (native_signature id).parameters
  pub asks : asks id args ≡ None
  pub fits : IsFitting id h args
