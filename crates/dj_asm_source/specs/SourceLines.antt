-- What reading a text answers: its lines with their numbers, or its first fault of words or of labels.
use Rattle.std.specs.Prelude.{◌≡◌, ℕ, ◌⊎◌, ⊤, List}
use Rattle.dj_asm_source.specs.declared.error.AsmError.{AsmError}
use Rattle.dj_asm_source.specs.declared.error.AsmError.TheVariants as asm_errors
use Rattle.dj_asm_source.specs.trusted.Lines.{Line}
use Rattle.dj_asm_source.specs.trusted.Sources.{Source, lines_of, IsTextOf}
use Rattle.dj_asm_source.specs.trusted.Faults.{WordFault}
use Rattle.dj_asm_source.specs.trusted.Labels.{IsMislabelled, LabelFault, line_numbers}

-- the lines of a text that have words, and their numbers in it
pub record TextLines : Type 0 where
  pub lines : List Line
  pub numbers : List ℕ

-- they are those of the source that the text means, none of which uses a label wrongly
pub record AreLinesOf (text : List ℕ) (read : TextLines) : Type 0 where
  pub source : Source
  pub is_text : IsTextOf text source
  pub labelled : (place : ℕ) → IsMislabelled source place → ⊥
  pub lines_are : read.lines ≡ lines_of source
  pub numbers_are : read.numbers ≡ line_numbers text

-- the first fault of the text's words, or else of its labels; want of memory has no cause in the text
abbrev pub IsFirstFault : List ℕ → AsmError → Type 0
IsFirstFault text asm_errors.Memory = ⊤
IsFirstFault text e = WordFault text e ⊎ LabelFault text e
