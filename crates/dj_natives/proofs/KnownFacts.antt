-- Which objects are known, and which aren't, by plain values.
use Rattle.std.specs.Prelude.{◌≡◌, ℕ, List, [], ◌∷◌, codes, pos}
use Rattle.std.proofs.Common.{refl, ap, arith}
use Rattle.std.proofs.lemmas.Bool.{true≢false}
use Rattle.dj_names.specs.declared.descriptor.Base.TheVariants as bases
use Rattle.dj_names.specs.declared.descriptor.Ty.{Ty}
use Rattle.dj_names.specs.declared.run.Element.TheVariants as elements
use Rattle.dj_names.specs.trusted.Heaps.{Instance, Array, Text}
use Rattle.dj_names.specs.trusted.Types.{class_type, array_type, base_array}
use Rattle.dj_natives.specs.Known.{IsClassType, HoldsKnown, IsKnown}

-- a class, arrays of its objects, and arrays of ints
abbrev listed : List Ty
listed = class_type (codes "A") ∷ array_type (class_type (codes "A")) ∷ base_array bases.Int ∷ []

class_is : IsClassType (class_type (codes "A"))
class_is = (codes "A", refl)

-- neither an array of objects nor one of ints is a class
not_array : IsClassType (array_type (class_type (codes "A"))) → ⊥
not_array is = let dims : 1 ≡ 0 = ap (λ (ty : Ty). ty.dims) is.1 in omega (arith, dims)

not_base_array : IsClassType (base_array bases.Int) → ⊥
not_base_array is = let dims : 1 ≡ 0 = ap (λ (ty : Ty). ty.dims) is.1 in omega (arith, dims)

-- ---- objects

instance_known : IsKnown listed (Instance 0 (7 ∷ []))
instance_known = record { class = omega arith; holds = class_is }

-- an instance of an array's class isn't
not_instance_of_array : IsKnown listed (Instance 1 []) → ⊥
not_instance_of_array known = not_array known.holds

ints_known : IsKnown listed (Array 2 elements.Int (pos 9 ∷ []))
ints_known = record { class = omega arith; holds = λ e. absurd cc }

-- nor is an array of references of a class that is none of such arrays
not_references_of_class : HoldsKnown listed (Array 0 elements.Ref []) → ⊥
not_references_of_class holds = let class = holds refl in absurd cc

-- nor what is of no number
not_numbered : IsKnown listed (Text 3 []) → ⊥
not_numbered known = let few = known.class in omega (arith, few)
