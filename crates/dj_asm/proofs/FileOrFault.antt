-- Each text means a file or has a fault.
use Rattle.std.proofs.Common.{ℕ, ◌⊎◌, inl, inr, List, length, get_or, refl, arith}
use Rattle.std.proofs.lemmas.Option.{slice_get-get_or}
use Rattle.dj_class.specs.trusted.ClassFile.{class_bytes}
use Rattle.dj_asm_source.specs.declared.error.AsmError.{AsmError}
use Rattle.dj_asm_source.specs.declared.error.AsmError.TheVariants as asm_errors
use Rattle.dj_asm_source.specs.trusted.Sources.{Source, lines_of, IsTextOf}
use Rattle.dj_asm_source.specs.trusted.Faults.{WordFault}
use Rattle.dj_asm_source.specs.trusted.Labels.{IsMislabelled, LabelFault, line_numbers}
use Rattle.dj_asm_source.proofs.TextLaws.{word_fault_or_text}
use Rattle.dj_asm_source.proofs.NumberLaws.{as_many_lines}
use Rattle.dj_asm.specs.trusted.Large.{IsTooLarge}
use Rattle.dj_asm_pool.specs.trusted.Room.{NoLine}
use Rattle.dj_asm.specs.trusted.Texts.{IsTextOfBytes, TextFault}
use Rattle.dj_asm.proofs.SourceFile.{all_fit_of, has_file}
use Rattle.dj_asm.proofs.Search.{HasLeast, least_or_none}
use Rattle.dj_asm.proofs.LargeDecided.{large_or_not, large_within}

-- a source's text has a fault in its labels, or none of its lines is mislabelled
abbrev pub AreLabelsDecided : List ℕ → Type 0
AreLabelsDecided text = (s : Source) → IsTextOf text s → ((e : AsmError) × LabelFault text e) ⊎ NoLine (IsMislabelled s)

abbrev pub HasBytesOrFault : List ℕ → Type 0
HasBytesOrFault text = ((bytes : List ℕ) × IsTextOfBytes text bytes) ⊎ ((e : AsmError) × TextFault text e)

module _ (text : List ℕ) (s : Source) (is : IsTextOf text s) (labels : NoLine (IsMislabelled s)) where
  bytes_of : NoLine (IsTooLarge s) → (bytes : List ℕ) × IsTextOfBytes text bytes
  bytes_of fits =
      let file = has_file s is.allowed.0 labels (all_fit_of s fits) in
      (class_bytes file.file, record { source = s; is_text = is; labelled = labels; fits = fits; file = file.file; is_file = file.is; spelled = refl })

  fault_of : HasLeast (IsTooLarge s) → (e : AsmError) × TextFault text e
  fault_of found =
      let within = large_within s found.place found.least.such in
      let many = as_many_lines text s is in
      let line = get_or (line_numbers text) found.place 0 in (
        asm_errors.Large line,
        inr (inr (record {
          source = s;
          is_text = is;
          labelled = labels;
          place = found.place;
          large = found.least.such;
          first = found.least.first;
          line = line;
          number = slice_get-get_or (line_numbers text) found.place 0 (omega (arith, within, many));
          reported = refl;
        })),
      )

  sized : HasBytesOrFault text
  sized = elim (least_or_none (IsTooLarge s) (large_or_not s is.allowed.0) (length (lines_of s)) (large_within s)) [
    | inl found ↦ inr (fault_of found)
    | inr fits ↦ inl (bytes_of fits)
  ]

-- each text has a file's bytes or a fault, where labels are decided
pub file_or_fault : (text : List ℕ) → AreLabelsDecided text → HasBytesOrFault text
file_or_fault text decided = from (word_fault_or_text text) where
  labelled : (s : Source) → IsTextOf text s → ((e : AsmError) × LabelFault text e) ⊎ NoLine (IsMislabelled s) → HasBytesOrFault text
  labelled s is (inl (e, fault)) = inr (e, inr (inl fault))
  labelled s is (inr none) = sized text s is none

  from : ((s : Source) × IsTextOf text s) ⊎ ((e : AsmError) × WordFault text e) → HasBytesOrFault text
  from (inl (s, is)) = labelled s is (decided s is)
  from (inr (e, fault)) = inr (e, inl fault)
