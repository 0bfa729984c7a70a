-- The signature that rule 19 judges code by: that of the descriptor at an index, with a receiver where the method isn't static.
use Rattle.std.proofs.Common.{◌≡◌, true, false, List, [], ◌∷◌, map, Some, None, codes, refl}
use Rattle.dj_names.specs.declared.descriptor.Kind.TheVariants.{Int, Long, Ref}
use Rattle.dj_names.specs.trusted.NameReading.{reads_class_name}
use Rattle.dj_names.specs.trusted.DescReading.{dims_read, name_read, class_read, of_read, type_read, params_read, field_read, return_read, method_read, desc_read}
use Rattle.dj_pool.specs.trusted.Pool.{Constant, Utf8}
use Rattle.dj_declarations.specs.trusted.Files.{desc_in}
use Rattle.dj_shape_rule.specs.trusted.Rule.{signature_at}

abbrev pool : List Constant
pool = Utf8 (codes "(IJ)V") ∷ Utf8 (codes "()[B") ∷ Utf8 (codes "(Z[F)La;") ∷ Utf8 (codes "(F)V") ∷ Utf8 (codes "()D") ∷ Utf8 (codes "J") ∷ []

static_ones : map (signature_at pool true) (1 ∷ 2 ∷ 3 ∷ [])
    ≡ Some (record { parameters = Int ∷ Long ∷ []; result = None }) ∷ Some (record { parameters = []; result = Some Ref }) ∷ Some (record { parameters = Int ∷ Ref ∷ []; result = Some Ref }) ∷ []
unfolding dims_read name_read class_read of_read type_read params_read field_read return_read method_read desc_read reads_class_name desc_in
static_ones = refl

-- the receiver comes first
others : map (signature_at pool false) (1 ∷ 2 ∷ 3 ∷ [])
    ≡ Some (record { parameters = Ref ∷ Int ∷ Long ∷ []; result = None }) ∷ Some (record { parameters = Ref ∷ []; result = Some Ref }) ∷ Some (record { parameters = Ref ∷ Int ∷ Ref ∷ []; result = Some Ref }) ∷ []
unfolding dims_read name_read class_read of_read type_read params_read field_read return_read method_read desc_read reads_class_name desc_in
others = refl

-- a float as a parameter, a double as the result, and a field's descriptor
none : map (signature_at pool true) (4 ∷ 5 ∷ 6 ∷ []) ≡ None ∷ None ∷ None ∷ []
unfolding dims_read name_read class_read of_read type_read params_read field_read return_read method_read desc_read reads_class_name desc_in
none = refl
