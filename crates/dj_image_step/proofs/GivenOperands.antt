-- The operand of an instruction of a sound program that makes nothing is given, and is that of no method.
use Rattle.std.proofs.Common.{◌≡◌, ℕ, Bool, true, false, List, [], ◌∷◌, Option, Some, None, nat_eq, refl, sym, ap, subst, ◌∙◌, if◌then◌else◌, IsFalse}
use Rattle.std.proofs.lemmas.Bool.{false≢true}
use Rattle.std.proofs.lemmas.Option.{same_Some}
use Rattle.dj_ops.specs.declared.instruction.Instr.{Instr}
use Rattle.dj_ops.specs.declared.instruction.Instr.TheVariants as instrs
use Rattle.dj_pool.specs.trusted.Pool.{Constant}
use Rattle.dj_early_rules.specs.trusted.Instructions.{index_of}
use Rattle.dj_program.specs.trusted.Naming.{named_if}
use Rattle.dj_model.specs.trusted.Types.{Prefix}
use Rattle.dj_model.specs.trusted.Program.{Program}
use Rattle.dj_model.specs.trusted.Instructions as model
use Rattle.dj_model.specs.trusted.Instructions.{Instruction, Named, Nothing, AnInt, ALong, AText, AClass, AField, AMethod, AnInterfaceMethod, Another}
use Rattle.dj_model.specs.trusted.Opcodes.{class_use, instruction_of, interface_call, literal, member}
use Rattle.dj_model.specs.Sound.{IsSound, is_linked}
use Rattle.dj_image.specs.Codes.{IsOperandAt}
use Rattle.dj_image.specs.Imaged.{Imaged, IsNumbered, program_of}
use Rattle.dj_image.specs.Operands.{class_operand, field_operand, made_operand, named_operand, operand_by, operand_of, takes_named, text_operand}
use Rattle.dj_image.specs.declared.operand.Operand.{Operand}
use Rattle.dj_image.specs.declared.operand.Operand.TheVariants as operands
use Rattle.dj_current_method.specs.Instructions.{IsInstrAt, instruction_of_number}
use Rattle.dj_current_method.proofs.InstructionFacts.{operand_is}
use Rattle.dj_image_effects.specs.Frugal.{LoadsByKnown, makes}
use Rattle.dj_image_effects.specs.Operands as acting
use Rattle.dj_image_effects.specs.Used.{IsOperandUsed}
use Rattle.dj_image_effects.proofs.Resolved.{resolved}
use Rattle.dj_image_effects.proofs.Standing.{linked_at}
use Rattle.dj_image_effects.proofs.Using.{no_index}
use Rattle.dj_image_step.specs.Uses.{is_given}

-- ---- operands of methods

abbrev is_method : Operand → Bool
is_method (operands.Method m) = true
is_method operand = false

abbrev names_method : Named → Bool
names_method (AMethod m) = true
names_method (AnInterfaceMethod m) = true
names_method named = false

by_class : (o : Option ℕ) → is_method (class_operand o) ≡ false
by_class None = refl
by_class (Some n) = refl

by_text : (o : Option ℕ) → is_method (text_operand o) ≡ false
by_text None = refl
by_text (Some n) = refl

by_field : (o : Option ℕ) → is_method (field_operand o) ≡ false
by_field None = refl
by_field (Some n) = refl

-- only what names a method is one of a method
named_so : (imaged : Imaged) (named : Named) → names_method named ≡ false → is_method (named_operand imaged named) ≡ false
named_so imaged Nothing e = refl
named_so imaged (AnInt z) e = refl
named_so imaged (ALong z) e = refl
named_so imaged (AText units) e = by_text _
named_so imaged (AClass ty) e = by_class _
named_so imaged (AField m) e = by_field _
named_so imaged (AMethod m) e = absurd (false≢true (sym e))
named_so imaged (AnInterfaceMethod m) e = absurd (false≢true (sym e))
named_so imaged Another e = refl

-- and an instruction that names one is a call, or isn't run
abbrev is_call_or_other : Instruction → Bool
is_call_or_other (model.Invoke mode m) = true
is_call_or_other (model.Other op named) = true
is_call_or_other i = false

either_so : (b : Bool) (i j : Instruction) → is_call_or_other i ≡ true → is_call_or_other j ≡ true → is_call_or_other (if b then i else j) ≡ true
either_so true i j first second = first
either_so false i j first second = second

by_member : (op : ℕ) (named : Named) → names_method named ≡ true → is_call_or_other (member op named) ≡ true
by_member op (AMethod m) e =
    either_so (nat_eq op 182) (model.Invoke model.Virtual m) _ refl (either_so (nat_eq op 183) (model.Invoke model.Special m) _ refl (either_so (nat_eq op 184) (model.Invoke model.Static m) _ refl refl))
by_member op (AnInterfaceMethod m) e = either_so (nat_eq op 183) (model.Invoke model.Special m) _ refl (either_so (nat_eq op 184) (model.Invoke model.Static m) _ refl refl)
by_member op _ e = absurd (false≢true e)

by_interface : (count : ℕ) (named : Named) → names_method named ≡ true → is_call_or_other (interface_call count named) ≡ true
by_interface count (AMethod m) e = refl
by_interface count (AnInterfaceMethod m) e = refl
by_interface count _ e = absurd (false≢true e)

by_literal : (op : ℕ) (named : Named) → names_method named ≡ true → is_call_or_other (literal op named) ≡ true
by_literal op (AMethod m) e = refl
by_literal op (AnInterfaceMethod m) e = refl
by_literal op _ e = absurd (false≢true e)

by_use : (op : ℕ) (named : Named) → names_method named ≡ true → is_call_or_other (class_use op named) ≡ true
by_use op (AMethod m) e = refl
by_use op (AnInterfaceMethod m) e = refl
by_use op _ e = absurd (false≢true e)

calls_so : (pool : List Constant) (instr : Instr) (named : Named) → named ≡ named_if pool (index_of instr) → names_method named ≡ true → is_call_or_other (instruction_of instr named) ≡ true
unfolding instruction_of
calls_so pool (instrs.Literal op index) named names e = by_literal op named e
calls_so pool (instrs.Member op index) named names e = by_member op named e
calls_so pool (instrs.Interface index count) named names e = by_interface count named e
calls_so pool (instrs.Dynamic index) named names e = refl
calls_so pool (instrs.Class op index) named names e = by_use op named e
calls_so pool (instrs.Multi index dims) named names e = refl
calls_so pool instr named names e = absurd (false≢true (sym (ap names_method names) ∙ e))

-- ---- the whole

nothing_named : (pool : List Constant) (o : Option ℕ) (named : Named) → named ≡ named_if pool o → o ≡ None → named ≡ Nothing
nothing_named pool o named is none = is ∙ ap (named_if pool) none

no_call : (program : Program) (prefix : Prefix) (i : Instruction) → is_linked program prefix i ≡ true → IsFalse (makes i) → is_call_or_other i ≡ true → ⊥
unfolding is_linked
no_call program prefix (model.Invoke mode m) linked none e = false≢true (sym none)
no_call program prefix (model.Other op named) linked none e = false≢true linked
no_call program prefix i linked none e = false≢true e

-- an operand of a method is that of what its index names
made_so : (imaged : Imaged) (i : Instruction) (other : Operand) → is_method (made_operand imaged i other) ≡ true → is_method other ≡ true
made_so imaged (model.NewArray class element) other e = absurd (false≢true (sym (by_class _) ∙ e))
made_so imaged i other e = e

chosen : (imaged : Imaged) (b : Bool) (named : Named) → is_method (if b then named_operand imaged named else operands.Unresolved) ≡ true → names_method named ≡ true
chosen imaged true named e = by (names_method named) refl where
  by : (n : Bool) → names_method named ≡ n → names_method named ≡ true
  by true is = is
  by false is = absurd (false≢true (sym (named_so imaged named is) ∙ e))
chosen imaged false named e = absurd (false≢true e)

taken_so : (imaged : Imaged) (instr : Instr) (named : Named) → is_method (operand_by imaged instr named) ≡ true → names_method named ≡ true
taken_so imaged instr Nothing e = absurd (false≢true e)
taken_so imaged instr named e = chosen imaged (takes_named instr named) named e

method_named : (imaged : Imaged) (instr : Instr) (named : Named) → is_method (operand_of imaged instr named) ≡ true → names_method named ≡ true
unfolding operand_of
method_named imaged instr named e = taken_so imaged instr named (made_so imaged (instruction_of instr named) (operand_by imaged instr named) e)

pub given_operand : (imaged : Imaged) → IsNumbered imaged → (method number : ℕ) (instr : Instr) (named : Named) (operand : Operand) (i : Instruction) → IsSound (program_of imaged) imaged.prefix
    → IsInstrAt imaged method number instr named → IsOperandAt imaged method number operand → instruction_of_number imaged method number ≡ Some i → IsFalse (makes i)
    → LoadsByKnown imaged method number → is_given operand ≡ true
given_operand imaged numbered method number instr named operand i sound at reported is none known = by operand used where
  same : instruction_of instr named ≡ i
  same = same_Some (instruction_of instr named) i (sym at.is ∙ is)

  none_made : IsFalse (makes (instruction_of instr named))
  none_made = ap makes same ∙ none

  there : acting.IsInstrAt imaged method number instr named
  there = record { stands = record { code = at.stands.code; own = at.stands.own; stands = at.stands.stands; names = at.stands.names }; is = at.is }

  used : IsOperandUsed imaged instr operand named
  used = record {
    plainly = λ e. nothing_named at.stands.code.pool (index_of instr) named at.stands.names (no_index instr e);
    is = operand_is imaged method number instr named operand at.stands reported;
    linked = linked_at imaged sound method number (instruction_of instr named) at.is;
  }

  by : (o : Operand) → IsOperandUsed imaged instr o named → is_given o ≡ true
  by (operands.Method m) used =
      absurd (no_call (program_of imaged) imaged.prefix (instruction_of instr named) used.linked none_made
      (calls_so at.stands.code.pool instr named at.stands.names (method_named imaged instr named (sym (ap is_method used.is)))))
  by operands.Unresolved used = absurd (resolved imaged numbered method number instr named there known operands.Unresolved used none_made refl)
  by operands.Nothing used = refl
  by (operands.Int z) used = refl
  by (operands.Long z) used = refl
  by (operands.Text n) used = refl
  by (operands.Class n) used = refl
  by (operands.Field f) used = refl
