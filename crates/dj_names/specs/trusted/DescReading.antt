-- How one type is spelled in a descriptor: the type that bytes begin with, and the bytes after it.
use Rattle.std.specs.Prelude.{ℕ, zero, suc, ◌+◌, ◌++◌, Bool, true, false, nat_eq, nat_lt, nat_le, if◌then◌else◌, List, [], ◌∷◌, length, Option, Some, None}
use Rattle.dj_cursor.specs.trusted.Options.{◌>>=◌}
use Rattle.dj_names.specs.declared.descriptor.Base.{Base}
use Rattle.dj_names.specs.declared.descriptor.Base.TheVariants as bases
use Rattle.dj_names.specs.declared.descriptor.Of.{Of}
use Rattle.dj_names.specs.declared.descriptor.Of.TheVariants as ofs
use Rattle.dj_names.specs.declared.descriptor.Ty.{Ty}
use Rattle.dj_names.specs.declared.descriptor.Desc.{Desc}
use Rattle.dj_names.specs.declared.descriptor.Desc.TheVariants as descs
use Rattle.dj_names.specs.trusted.NameReading.{reads_class_name}
use Rattle.dj_names.specs.trusted.Descriptors.{type_slots}

abbrev pub base_at : ℕ → Option Base
base_at c =
    if nat_eq c 90 then Some bases.Boolean
    else (if nat_eq c 66 then Some bases.Byte
    else (if nat_eq c 67 then Some bases.Char
    else (if nat_eq c 83 then Some bases.Short
    else (if nat_eq c 73 then Some bases.Int
    else (if nat_eq c 74 then Some bases.Long
    else (if nat_eq c 70 then Some bases.Float
    else (if nat_eq c 68 then Some bases.Double
    else None)))))))

-- the brackets that the bytes begin with, with n more before them
unfoldable pub dims_read : ℕ → List ℕ → Option (ℕ × List ℕ)
dims_read n [] = Some (n, [])
dims_read n (b ∷ more) = if nat_eq b 91 then (if nat_lt n 255 then dims_read (n + 1) more else None) else Some (n, b ∷ more)

-- the bytes up to the first semicolon, with `prefix` before them, and those after it
unfoldable pub name_read : List ℕ → List ℕ → Option (List ℕ × List ℕ)
name_read prefix [] = None
name_read prefix (b ∷ more) = if nat_eq b 59 then Some (prefix, more) else name_read (prefix ++ b ∷ []) more

unfoldable pub class_read : List ℕ → Option (Of × List ℕ)
class_read bytes = name_read [] bytes >>= λ x. if reads_class_name true x.0 then Some (ofs.Class x.0, x.1) else None

unfoldable pub of_read : List ℕ → Option (Of × List ℕ)
of_read [] = None
of_read (b ∷ more) = if nat_eq b 76 then class_read more else (base_at b >>= λ base. Some (ofs.Base base, more))

unfoldable pub type_read : List ℕ → Option (Ty × List ℕ)
type_read bytes = dims_read 0 bytes >>= λ d. of_read d.1 >>= λ o. Some (record { dims = d.0; of = o.0 }, o.1)

-- the parameters up to the closing parenthesis, at most n, after parameters of s slots
unfoldable pub params_read : ℕ → ℕ → List ℕ → Option (List Ty × List ℕ)
params_read zero s bytes = None
params_read (suc n) s [] = None
params_read (suc n) s (b ∷ more) =
    if nat_eq b 41 then Some ([], more)
    else (type_read (b ∷ more) >>= λ x.
    if nat_le (s + type_slots x.0) 255 then (params_read n (s + type_slots x.0) x.1 >>= λ y. Some (x.0 ∷ y.0, y.1)) else None)

abbrev pub ended : {A : Type 0} → A → List ℕ → Option A
ended x [] = Some x
ended x (b ∷ more) = None

unfoldable pub field_read : List ℕ → Option Ty
field_read bytes = type_read bytes >>= λ x. ended x.0 x.1

abbrev no_type : Option Ty
no_type = None

unfoldable pub return_read : List ℕ → Option (Option Ty)
return_read [] = None
return_read (b ∷ more) = if nat_eq b 86 then ended no_type more else (field_read (b ∷ more) >>= λ ty. Some (Some ty))

unfoldable pub method_read : List ℕ → Option (List Ty × Option Ty)
method_read [] = None
method_read (b ∷ more) =
    if nat_eq b 40 then (params_read (length more) 0 more >>= λ x. return_read x.1 >>= λ ret. Some (x.0, ret)) else None

abbrev pub opens : List ℕ → Bool
opens [] = false
opens (b ∷ more) = nat_eq b 40

unfoldable pub desc_read : List ℕ → Option Desc
desc_read text =
    if opens text then (method_read text >>= λ m. Some (descs.Method m.0 m.1)) else (field_read text >>= λ ty. Some (descs.Field ty))
