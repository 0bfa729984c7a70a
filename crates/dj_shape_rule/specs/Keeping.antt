-- Used by the code alone: what is kept of each constant.
use Rattle.std.specs.Prelude.{ℕ, List, [], ◌∷◌, map, Option, Some, None, nat_eq, option_and_then, if◌then◌else◌}
use Rattle.std.specs.Option.{option_map}
use Rattle.dj_names.specs.declared.descriptor.Kind.{Kind}
use Rattle.dj_names.specs.declared.descriptor.Kind.TheVariants as kinds
use Rattle.dj_names.specs.trusted.DescReading.{desc_read}
use Rattle.dj_pool.specs.trusted.Pool.{Constant, Utf8, Integer, Long, Class, Text, Field, Method, InterfaceMethod, constant_at, names_of, desc_at}
use Rattle.dj_model.specs.trusted.Kinds.{Signature, call_signature}
use Rattle.dj_shape_rule.specs.declared.pool.ConstantKind.{ConstantKind}
use Rattle.dj_shape_rule.specs.declared.pool.ConstantKind.TheVariants as constants

-- the kind of a field with this descriptor, by the descriptor's first byte
abbrev pub text_kind : List ℕ → Option Kind
text_kind [] = Some kinds.Int
text_kind (b ∷ more) =
    if nat_eq b 74 then Some kinds.Long
    else if nat_eq b 70 then None
    else if nat_eq b 68 then None
    else if nat_eq b 76 then Some kinds.Ref
    else if nat_eq b 91 then Some kinds.Ref
    else Some kinds.Int

-- the kinds of a call of the method whose descriptor is this
abbrev pub text_call : List ℕ → Option Signature
text_call text = option_and_then call_signature (desc_read text)

-- the index of the descriptor at an index of a name and descriptor
abbrev pub desc_index_at : List Constant → ℕ → Option ℕ
desc_index_at pool names = option_map (λ (n : ℕ × ℕ). n.1) (option_and_then names_of (constant_at pool names))

abbrev pub field_kept : Option (List ℕ) → ConstantKind
field_kept None = constants.Other
field_kept (Some text) = constants.Field (text_kind text)

abbrev pub method_kept : Option ℕ → ConstantKind
method_kept None = constants.Other
method_kept (Some desc) = constants.Method desc

abbrev pub interface_method_kept : Option ℕ → ConstantKind
interface_method_kept None = constants.Other
interface_method_kept (Some desc) = constants.InterfaceMethod desc

abbrev pub kind_by : List Constant → Constant → ConstantKind
kind_by pool (Integer n) = constants.Int
kind_by pool (Long n) = constants.Long
kind_by pool (Text index) = constants.Text
kind_by pool (Class index) = constants.Class
kind_by pool (Field class names) = field_kept (desc_at pool names)
kind_by pool (Method class names) = method_kept (desc_index_at pool names)
kind_by pool (InterfaceMethod class names) = interface_method_kept (desc_index_at pool names)
kind_by pool k = constants.Other

abbrev pub call_by : Constant → Option Signature
call_by (Utf8 text) = text_call text
call_by k = None

-- that of index 0, and then that of each index
abbrev pub all_kinds : List Constant → List Constant → List ConstantKind
all_kinds pool ks = constants.Other ∷ map (kind_by pool) ks

abbrev pub all_calls : List Constant → List (Option Signature)
all_calls ks = None ∷ map call_by ks
