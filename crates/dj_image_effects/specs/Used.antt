-- Used by the code alone: the field or the class that an instruction uses, with what is asked of it before.
use Rattle.std.specs.Prelude.{◌≡◌, ℕ, ⊤, true, List}
use Rattle.dj_names.specs.trusted.Types.{class_type}
use Rattle.dj_library_types.specs.Numbered.{ArePlain}
use Rattle.dj_ops.specs.declared.instruction.Instr.{Instr}
use Rattle.dj_model.specs.trusted.Types.{Member, throwable_name}
use Rattle.dj_model.specs.trusted.Instructions.{Instruction, Named, Nothing, AField, NewArray}
use Rattle.dj_model.specs.trusted.Opcodes.{instruction_of}
use Rattle.dj_model.specs.trusted.Linking.{FoundField}
use Rattle.dj_model.specs.Sound.{is_linked}
use Rattle.dj_heap.specs.Heaps.{LimitedHeap}
use Rattle.dj_stack.specs.Frames.{StackFrame}
use Rattle.dj_member_effects.specs.Literals.{LiteralTable}
use Rattle.dj_numbering.specs.Typed.{types_of}
use Rattle.dj_image.specs.Imaged.{Imaged, program_of, typed_of}
use Rattle.dj_image.specs.Numbering.{AreSettled}
use Rattle.dj_image.specs.declared.operand.Operand.{Operand}
use Rattle.dj_image.specs.Operands.{operand_of, takes_named}
use Rattle.dj_initialisation.specs.Places.{Places, ArePlaces}
use Rattle.dj_initialisation.specs.Store.{AreTexts, IsStore, store}
use Rattle.dj_image_effects.specs.declared.acted.Acted.{Acted}
use Rattle.dj_image_effects.specs.declared.uses.ClassUse.TheVariants as classes
use Rattle.dj_image_effects.specs.Acting.{Acts, IsClassAt, IsMember, machine}
use Rattle.dj_image_effects.specs.Operands.{UsesClass}
use Rattle.dj_image_effects.specs.Uses.{class_use}

-- the array that an instruction makes has this class
abbrev pub IsMade : Imaged → Instruction → ℕ → Type 0
IsMade imaged (NewArray class element) k = IsClassAt imaged class k
IsMade imaged i k = ⊤

-- an instruction that uses the class of this number
pub record IsClassUsed (imaged : Imaged) (instr : Instr) (k : ℕ) (named : Named) : Type 0 where
  pub plainly : class_use instr ≡ classes.Plain → named ≡ Nothing
  pub uses : UsesClass imaged instr named k
  pub linked : is_linked (program_of imaged) imaged.prefix (instruction_of instr named) ≡ true

-- an instruction that uses the field of this number
pub record IsFieldUsed (imaged : Imaged) (instr : Instr) (n : ℕ) (named : Named) : Type 0 where
  pub member : Member
  pub names : named ≡ AField member
  pub takes : takes_named instr (AField member) ≡ true
  pub found : FoundField
  pub is : IsMember imaged member found n
  pub linked : is_linked (program_of imaged) imaged.prefix (instruction_of instr named) ≡ true

abbrev pub ActsOnFields : Imaged → Instruction → List StackFrame → List StackFrame → LimitedHeap → LimitedHeap → List ℕ → List ℕ → Acted → Type 0
ActsOnFields imaged i old new before after statics now acted =
    (literals : LiteralTable) → IsStore imaged (store before statics literals)
    → Acts imaged i (machine old (store before statics literals)) (machine new (store after now literals)) acted

-- an instruction with this operand
pub record IsOperandUsed (imaged : Imaged) (instr : Instr) (operand : Operand) (named : Named) : Type 0 where
  pub plainly : class_use instr ≡ classes.Plain → named ≡ Nothing
  pub is : operand ≡ operand_of imaged instr named
  pub linked : is_linked (program_of imaged) imaged.prefix (instruction_of instr named) ≡ true

-- what is kept of the image beside a machine
pub record IsBeside (imaged : Imaged) (table : Places) (thrown : ℕ) : Type 0 where
  pub settled : AreSettled (typed_of imaged)
  pub plain : ArePlain (types_of (typed_of imaged))
  pub texts : AreTexts imaged
  pub places : ArePlaces (program_of imaged) table
  pub throwable : IsClassAt imaged (class_type (throwable_name imaged.prefix)) thrown
