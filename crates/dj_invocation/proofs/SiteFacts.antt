-- What calls name, by plain values.
use Rattle.std.proofs.Common.{◌≡◌, ℕ, List, [], ◌∷◌, map, Option, Some, None, refl, sym, ap, ◌∙◌}
use Rattle.std.proofs.lemmas.Option.{same_Some}
use Rattle.dj_names.specs.declared.descriptor.Kind.{Kind}
use Rattle.dj_names.specs.declared.descriptor.Kind.TheVariants as kinds
use Rattle.dj_names.specs.declared.descriptor.Desc.{Desc}
use Rattle.dj_names.specs.trusted.Types.{parameters_of}
use Rattle.dj_ops.specs.declared.instruction.Instr.TheVariants as instrs
use Rattle.dj_ops.specs.Mnemonics.{getstatic, putfield, invokevirtual, invokespecial, invokestatic, invokeinterface, new}
use Rattle.dj_model.specs.trusted.Types.{Member, no_parameters}
use Rattle.dj_model.specs.trusted.Instructions.{Instruction, Nop, Invoke, Static}
use Rattle.dj_model.specs.trusted.Members.{kinds_of}
use Rattle.dj_shape_rule.specs.Kept.{KeptKinds}
use Rattle.dj_shape_rule.specs.declared.pool.ConstantKind.TheVariants as constants
use Rattle.dj_image.specs.Imaged.{Imaged}
use Rattle.dj_current_method.specs.Instructions.{instruction_of_number}
use Rattle.dj_invocation.specs.declared.choosing.Mode.{Mode}
use Rattle.dj_invocation.specs.declared.choosing.Mode.TheVariants as modes
use Rattle.dj_invocation.specs.declared.site.CallSite.{CallSite}
use Rattle.dj_invocation.specs.Choosing.{reported_mode}
use Rattle.dj_invocation.specs.Operands.{parameters_in}
use Rattle.dj_invocation.specs.Sites.{IsCallAt, call_index, call_mode, call_named, opcode_mode}

-- ---- forms

modes_reported : map opcode_mode (putfield ∷ invokevirtual ∷ invokespecial ∷ invokestatic ∷ invokeinterface ∷ []) ≡ None ∷ Some modes.Virtual ∷ Some modes.Special ∷ Some modes.Static ∷ None ∷ []
modes_reported = refl

calls_reported : map call_mode (instrs.Interface 7 2 ∷ instrs.Member invokestatic 7 ∷ instrs.Member getstatic 7 ∷ instrs.Class invokestatic 7 ∷ []) ≡ Some modes.Interface ∷ Some modes.Static ∷ None ∷ None ∷ []
calls_reported = refl

indexes_reported : map call_index (instrs.Interface 7 2 ∷ instrs.Member invokestatic 8 ∷ instrs.Class new 9 ∷ []) ≡ Some 7 ∷ Some 8 ∷ None ∷ []
indexes_reported = refl

-- ---- kinds

abbrev kept : KeptKinds
kept = record {
  constants = constants.Other ∷ constants.Method 2 ∷ constants.InterfaceMethod 1 ∷ constants.Class ∷ [];
  calls = None ∷ None ∷ Some (record { parameters = kinds.Long ∷ kinds.Ref ∷ []; result = None }) ∷ [];
}

-- of a method, of one with a float, of a class, and past the last constant
parameters_reported : map (λ n. parameters_in (call_named kept n)) (1 ∷ 2 ∷ 3 ∷ 9 ∷ []) ≡ Some (kinds.Long ∷ kinds.Ref ∷ []) ∷ None ∷ None ∷ None ∷ []
parameters_reported = refl

-- ---- sites

abbrev mode_in : Instruction → Option Mode
mode_in (Invoke called m) = Some (reported_mode called)
mode_in i = None

abbrev kinds_in : Instruction → Option (List Kind)
kinds_in (Invoke called m) = kinds_of (parameters_of m.desc)
kinds_in i = None

module _ (imaged : Imaged) (caller number : ℕ) (site : CallSite) (is : IsCallAt imaged caller number site) where
  instruction_is : (i : Instruction) → instruction_of_number imaged caller number ≡ Some i → i ≡ Invoke is.called is.member
  instruction_is i e = same_Some i (Invoke is.called is.member) (sym e ∙ is.is)

  not_nop : instruction_of_number imaged caller number ≡ Some Nop → ⊥
  not_nop e = let same : Nop ≡ Invoke is.called is.member = instruction_is Nop e in absurd cc

  static_is : (m : Member) → instruction_of_number imaged caller number ≡ Some (Invoke Static m) → site.mode ≡ modes.Static
  static_is m e = sym is.mode ∙ same_Some (reported_mode is.called) modes.Static (sym (ap mode_in (instruction_is (Invoke Static m) e)))

  static_not_special : (m : Member) → instruction_of_number imaged caller number ≡ Some (Invoke Static m) → site.mode ≡ modes.Special → ⊥
  static_not_special m e special = let same : modes.Special ≡ modes.Static = sym special ∙ static_is m e in absurd cc

  kinds_are : (m : Member) → m.desc ≡ no_parameters → instruction_of_number imaged caller number ≡ Some (Invoke Static m) → site.kinds.now ≡ []
  kinds_are m desc e =
      same_Some site.kinds.now [] (sym is.kinds ∙ (sym (ap kinds_in (instruction_is (Invoke Static m) e)) ∙ ap (λ (d : Desc). kinds_of (parameters_of d)) desc))

  not_one_kind : (m : Member) → m.desc ≡ no_parameters → instruction_of_number imaged caller number ≡ Some (Invoke Static m) → site.kinds.now ≡ kinds.Int ∷ [] → ⊥
  not_one_kind m desc e one = let same : kinds.Int ∷ [] ≡ [] = sym one ∙ kinds_are m desc e in absurd cc
