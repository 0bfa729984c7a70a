-- What the call instructions of an image name.
use Rattle.std.specs.Prelude.{◌≡◌, ℕ, List, Option, Some, None, nat_eq, if◌then◌else◌, get_or, slice_get, option_and_then}
use Rattle.dj_names.specs.declared.descriptor.Kind.{Kind}
use Rattle.dj_names.specs.trusted.Types.{parameters_of}
use Rattle.dj_ops.specs.declared.instruction.Instr.{Instr}
use Rattle.dj_ops.specs.declared.instruction.Instr.TheVariants as instrs
use Rattle.dj_model.specs.trusted.Types.{Member}
use Rattle.dj_model.specs.trusted.Instructions as model
use Rattle.dj_model.specs.trusted.Members.{kinds_of}
use Rattle.dj_model.specs.trusted.Kinds.{Signature}
use Rattle.dj_model.specs.trusted.Linking.{FoundMethod, resolve_method}
use Rattle.dj_program.specs.declared.code.MethodCode.{MethodCode}
use Rattle.dj_shape_rule.specs.Kept.{KeptKinds}
use Rattle.dj_shape_rule.specs.Pools.{call_at}
use Rattle.dj_shape_rule.specs.declared.pool.ConstantKind.{ConstantKind}
use Rattle.dj_shape_rule.specs.declared.pool.ConstantKind.TheVariants as constants
use Rattle.dj_image.specs.Imaged.{Imaged, program_of}
use Rattle.dj_current_method.specs.Instructions.{instruction_of_number}
use Rattle.dj_invocation.specs.declared.choosing.Mode.{Mode}
use Rattle.dj_invocation.specs.declared.choosing.Mode.TheVariants as modes
use Rattle.dj_invocation.specs.declared.site.CallSite.{CallSite}
use Rattle.dj_invocation.specs.Choosing.{IsMethod, reported_mode}
use Rattle.dj_invocation.specs.Operands.{parameters_in}

-- the instruction of the number in the method of the number calls this, by this mode, on arguments of these kinds
pub record IsCallAt (imaged : Imaged) (caller number : ℕ) (site : CallSite) : Type 0 where
  pub called : model.Mode
  pub member : Member
  pub resolved : FoundMethod
  pub is : instruction_of_number imaged caller number ≡ Some (model.Invoke called member)
  pub mode : reported_mode called ≡ site.mode
  pub resolves : resolve_method (program_of imaged) imaged.prefix member ≡ Some resolved
  pub method : IsMethod (program_of imaged) site.method resolved
  pub kinds : kinds_of (parameters_of member.desc) ≡ Some site.kinds.now

-- ---- used by the code alone: by opcodes and indexes

abbrev pub opcode_mode : ℕ → Option Mode
opcode_mode op = if nat_eq op 182 then Some modes.Virtual else if nat_eq op 183 then Some modes.Special else if nat_eq op 184 then Some modes.Static else None

-- none for an instruction that is no call
abbrev pub call_mode : Instr → Option Mode
call_mode (instrs.Member op index) = opcode_mode op
call_mode (instrs.Interface index count) = Some modes.Interface
call_mode instr = None

-- the index of what a call names; for another instruction it may be any
abbrev pub call_index : Instr → Option ℕ
call_index (instrs.Member op index) = Some index
call_index (instrs.Interface index count) = Some index
call_index instr = None

abbrev pub desc_index : ConstantKind → Option ℕ
desc_index (constants.Method index) = Some index
desc_index (constants.InterfaceMethod index) = Some index
desc_index kind = None

-- the kinds of a call of the method that the constant at an index names
abbrev pub call_named : KeptKinds → ℕ → Option Signature
call_named kinds index = option_and_then (call_at kinds.calls) (desc_index (get_or kinds.constants index constants.Other))

-- the kinds of the parameters of the call of the instruction of a number in code
pub record AreParametersAt (code : MethodCode) (kinds : KeptKinds) (number : ℕ) (reported : List Kind) : Type 0 where
  pub instr : Instr
  pub stands : slice_get code.code.code number ≡ Some instr
  pub index : ℕ
  pub index_is : call_index instr ≡ Some index
  pub reported_is : parameters_in (call_named kinds index) ≡ Some reported
