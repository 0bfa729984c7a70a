-- Beside trusted/Types.antt: what no clause of the call `djvm` reaches.
use Rattle.std.specs.Prelude.{◌++◌, map, Option, None, codes}
use Rattle.std.specs.Option.{option_map}
use Rattle.dj_names.specs.declared.descriptor.Ty.{Ty}
use Rattle.dj_names.specs.declared.descriptor.Desc.{Desc}
use Rattle.dj_names.specs.declared.descriptor.Desc.TheVariants as descs
use Rattle.dj_names.specs.trusted.Types.{Name, of_map}

-- ---- parameters and results

abbrev pub result_of : Desc → Option Ty
result_of (descs.Field ty) = None
result_of (descs.Method params ret) = ret

-- ---- other names of classes

abbrev pub type_map : (Name → Name) → Ty → Ty
type_map f ty = record { dims = ty.dims; of = of_map f ty.of }

abbrev pub desc_map : (Name → Name) → Desc → Desc
desc_map f (descs.Field ty) = descs.Field (type_map f ty)
desc_map f (descs.Method params ret) = descs.Method (map (type_map f) params) (option_map (type_map f) ret)

-- the package of rewritten classes
abbrev pub sandbox_prefix : Name
sandbox_prefix = codes "sandbox/"

abbrev pub in_sandbox : Name → Name
in_sandbox name = sandbox_prefix ++ name
