-- An image of two classes, one above the other, and of an array, at plain values.
use Rattle.std.proofs.Common.{◌≡◌, true, false, [], ◌∷◌, Option, Some, None, map, codes, refl}
use Rattle.dj_names.specs.declared.descriptor.Base.TheVariants as bases
use Rattle.dj_names.specs.trusted.Types.{Name, base_array}
use Rattle.dj_model.specs.trusted.Linking.{chain_of, most_classes}
use Rattle.dj_image.specs.Sources.{Source, class_of_source}
use Rattle.dj_image.specs.Imaged.{Imaged}
use Rattle.dj_field_holders.specs.Holders.{holds}

abbrev source : Name → Option Name → Source
source name above = record {
  class = record { name = name; flags = 33; superclass = above; interfaces = []; unnamed_fields = 0; fields = []; methods = [] };
  pool = [];
  codes = [];
  values = [];
}

abbrev small : Imaged
small = record {
  sources = source (codes "A") None ∷ source (codes "B") (Some (codes "A")) ∷ [];
  prefix = [];
  arrays = base_array bases.Byte ∷ [];
  texts = [];
}

-- of A, of B and of the array, whether they have the fields of A
below_first : map (holds small 0) (0 ∷ 1 ∷ 2 ∷ []) ≡ true ∷ true ∷ false ∷ []
unfolding chain_of class_of_source most_classes
below_first = refl

-- of B, which A hasn't
below_second : map (holds small 1) (0 ∷ 1 ∷ 2 ∷ []) ≡ false ∷ true ∷ false ∷ []
unfolding chain_of class_of_source most_classes
below_second = refl

-- an array declares none, and neither does what has no number
below_none : holds small 2 0 ∷ holds small 2 2 ∷ holds small 3 1 ∷ [] ≡ false ∷ false ∷ false ∷ []
below_none = refl
