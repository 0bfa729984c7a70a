-- What a text means, or else its first fault: one of its words, else one of its labels, else one of what doesn't fit.
use Rattle.std.specs.Prelude.{◌≡◌, ℕ, ◌<◌, ◌⊎◌, List, Some, slice_get}
use Rattle.dj_asm_source.specs.declared.error.AsmError.{AsmError}
use Rattle.dj_asm_source.specs.declared.error.AsmError.TheVariants as asm_errors
use Rattle.dj_asm_source.specs.trusted.Sources.{Source, IsTextOf}
use Rattle.dj_asm_source.specs.trusted.Faults.{WordFault}
use Rattle.dj_asm_source.specs.trusted.Labels.{IsMislabelled, LabelFault, line_numbers}
use Rattle.dj_class.specs.trusted.ClassFile.{ClassFile, class_bytes}
use Rattle.dj_asm_pool.specs.trusted.Room.{NoLine}
use Rattle.dj_asm.specs.trusted.Files.{IsFileOf}
use Rattle.dj_asm.specs.trusted.Large.{IsTooLarge}

-- the text means a source whose labels are right and in which everything fits, and the bytes are the source's class file
pub record IsTextOfBytes (text bytes : List ℕ) : Type 0 where
  pub source : Source
  pub is_text : IsTextOf text source
  pub labelled : NoLine (IsMislabelled source)
  pub fits : NoLine (IsTooLarge source)
  pub file : ClassFile
  pub is_file : IsFileOf source file
  pub spelled : bytes ≡ class_bytes file

-- the text means a source whose labels are right, and this is its first line that is too large
pub record LargeFault (text : List ℕ) (e : AsmError) : Type 0 where
  pub source : Source
  pub is_text : IsTextOf text source
  pub labelled : NoLine (IsMislabelled source)
  pub place : ℕ
  pub large : IsTooLarge source place
  pub first : (earlier : ℕ) → earlier < place → IsTooLarge source earlier → ⊥
  pub line : ℕ
  pub number : slice_get (line_numbers text) place ≡ Some line
  pub reported : e ≡ asm_errors.Large line

abbrev pub TextFault : List ℕ → AsmError → Type 0
TextFault text e = WordFault text e ⊎ (LabelFault text e ⊎ LargeFault text e)
