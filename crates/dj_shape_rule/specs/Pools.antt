-- What is kept of the constants of a pool says what shape needs to know of what they name.
use Rattle.std.specs.Prelude.{◌≡◌, ℕ, ⊤, List, Option, None, get_or}
use Rattle.dj_names.specs.trusted.Types.{field_kind}
use Rattle.dj_pool.specs.trusted.Pool.{Constant}
use Rattle.dj_model.specs.trusted.Instructions.{Named, AnInt, ALong, AText, AClass, AField, AMethod, AnInterfaceMethod, Another}
use Rattle.dj_model.specs.trusted.Kinds.{Signature, call_signature}
use Rattle.dj_declarations.specs.trusted.Files.{desc_in, name_in}
use Rattle.dj_declarations.specs.Members.{IsDescriptor}
use Rattle.dj_program.specs.trusted.Naming.{named_at}
use Rattle.dj_shape_rule.specs.Kept.{KeptKinds}
use Rattle.dj_shape_rule.specs.declared.pool.ConstantKind.{ConstantKind}
use Rattle.dj_shape_rule.specs.declared.pool.ConstantKind.TheVariants as constants

-- the kinds of a call of the method whose descriptor is kept at this index
abbrev pub call_at : List (Option Signature) → ℕ → Option Signature
call_at calls index = get_or calls index None

-- it says what shape needs to know of this
abbrev pub SaysKind : List (Option Signature) → Named → ConstantKind → Type 0
SaysKind calls (AnInt z) constants.Int = ⊤
SaysKind calls (ALong z) constants.Long = ⊤
SaysKind calls (AText units) constants.Text = ⊤
SaysKind calls (AClass class) constants.Class = ⊤
SaysKind calls (AField m) (constants.Field kind) = field_kind m.desc ≡ kind
SaysKind calls (AMethod m) (constants.Method index) = call_signature m.desc ≡ call_at calls index
SaysKind calls (AnInterfaceMethod m) (constants.InterfaceMethod index) = call_signature m.desc ≡ call_at calls index
SaysKind calls Another constants.Other = ⊤
SaysKind calls named kind = ⊥

-- it does so for each index, and for each text that is a descriptor
pub record ArePoolKinds (pool : List Constant) (kinds : KeptKinds) : Type 0 where
  pub each : (index : ℕ) → SaysKind kinds.calls (named_at pool index) (get_or kinds.constants index constants.Other)
  pub calls : (index : ℕ) → IsDescriptor (name_in pool index) → call_signature (desc_in (name_in pool index)) ≡ call_at kinds.calls index
