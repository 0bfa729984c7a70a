-- The instruction of a number in a method of a number, as it is reported, and its operand.
use Rattle.std.proofs.Common.{◌≡◌, ℕ, Option, Some, None, refl, sym, ap, subst, ◌∙◌}
use Rattle.std.specs.Prelude.{map, slice_get}
use Rattle.std.specs.Option.{option_map}
use Rattle.std.proofs.lemmas.Option.{none-some, same_Some, slice_get-map, slice_get_within}
use Rattle.dj_ops.specs.declared.instruction.Instr.{Instr}
use Rattle.dj_model.specs.trusted.Instructions.{Named}
use Rattle.dj_model.specs.trusted.Opcodes.{instruction_of}
use Rattle.dj_model.specs.trusted.Program.{Code}
use Rattle.dj_model.specs.trusted.State.{instruction_in}
use Rattle.dj_early_rules.specs.trusted.Instructions.{index_of}
use Rattle.dj_program.specs.trusted.Codes.{code_in}
use Rattle.dj_program.specs.trusted.Naming.{named_if}
use Rattle.dj_program.specs.trusted.Naming as naming
use Rattle.dj_program.specs.Views.{parts_of}
use Rattle.dj_program.specs.declared.code.MethodCode.{MethodCode}
use Rattle.dj_image.specs.Imaged.{Imaged}
use Rattle.dj_image.specs.Codes.{PooledCode, HasInstr, IsOperandAt}
use Rattle.dj_image.specs.Operands.{operand_of}
use Rattle.dj_image.specs.declared.operand.Operand.{Operand}
use Rattle.dj_current_method.specs.Reported.{IsCodeOf, SaysCode}
use Rattle.dj_current_method.specs.Instructions.{HasInstruction, IsInstrAt, StandsAt, instruction_of_number}

-- what stands at the number in the method's code
pub stands_at : (imaged : Imaged) (method number : ℕ) (code : MethodCode) (is : IsCodeOf imaged method code) (instr : Instr) → slice_get code.code.code number ≡ Some instr
    → StandsAt imaged method number instr (named_if is.pool (index_of instr))
stands_at imaged method number code is instr at =
    record { code = record { pool = is.pool; parts = parts_of code }; own = is.own; stands = at; names = refl }

-- it is that of the model
pub instruction_there : (imaged : Imaged) (method number : ℕ) (code : MethodCode) (is : IsCodeOf imaged method code) (instr : Instr) → slice_get code.code.code number ≡ Some instr
    → instruction_of_number imaged method number ≡ Some (instruction_of instr (named_if is.pool (index_of instr)))
unfolding code_in
instruction_there imaged method number code is instr at =
    ap (λ (o : Option Code). instruction_in o number) is.is
    ∙ (slice_get-map (naming.instruction_in is.pool) code.code.code number ∙ ap (option_map (naming.instruction_in is.pool)) at)

pub no_code : (imaged : Imaged) (method number : ℕ) → SaysCode imaged method None → HasInstruction imaged method number → ⊥
no_code imaged method number none has =
    none-some has.instruction (sym (ap (λ (o : Option Code). instruction_in o number) none) ∙ has.at)

pub no_instr : (imaged : Imaged) (method number : ℕ) (code : MethodCode) → IsCodeOf imaged method code → HasInstruction imaged method number → None ≡ slice_get code.code.code number → ⊥
unfolding code_in
no_instr imaged method number code is has none =
    let at : slice_get (map (naming.instruction_in is.pool) code.code.code) number ≡ Some has.instruction =
    sym (ap (λ (o : Option Code). instruction_in o number) is.is) ∙ has.at in
    none-some has.instruction (ap (option_map (naming.instruction_in is.pool)) none ∙ (sym (slice_get-map (naming.instruction_in is.pool) code.code.code number) ∙ at))

pub instr_reported : (imaged : Imaged) (method number : ℕ) (code : MethodCode) → IsCodeOf imaged method code → (instr : Instr) → slice_get code.code.code number ≡ Some instr
    → (named : Named) × IsInstrAt imaged method number instr named
instr_reported imaged method number code is instr at = (
  named_if is.pool (index_of instr),
  record { stands = stands_at imaged method number code is instr at; is = instruction_there imaged method number code is instr at },
)

-- the operand reported for it is its own
pub operand_is : (imaged : Imaged) (method number : ℕ) (instr : Instr) (named : Named) (operand : Operand) → StandsAt imaged method number instr named → IsOperandAt imaged method number operand
    → operand ≡ operand_of imaged instr named
operand_is imaged method number instr named operand s o =
    let code : o.code ≡ s.code = same_Some o.code s.code (sym o.own ∙ s.own) in
    let at : slice_get s.code.parts.labelled.code number ≡ Some o.instr = subst (λ (c : PooledCode). slice_get c.parts.labelled.code number ≡ Some o.instr) code o.stands in
    let same : o.instr ≡ instr = same_Some o.instr instr (sym at ∙ s.stands) in
    o.is ∙ (ap (λ (c : PooledCode). operand_of imaged o.instr (named_if c.pool (index_of o.instr))) code
    ∙ (ap (λ (x : Instr). operand_of imaged x (named_if s.code.pool (index_of x))) same
    ∙ ap (operand_of imaged instr) (sym s.names)))

pub has_instr : (imaged : Imaged) (method number : ℕ) (instr : Instr) (named : Named) → StandsAt imaged method number instr named → HasInstr imaged method number
has_instr imaged method number instr named s =
    record { code = s.code; own = s.own; within = slice_get_within s.code.parts.labelled.code number instr s.stands }
