-- What is read of a few texts, at plain values.
use Rattle.std.proofs.Common.{◌≡◌, ℕ, List, [], ◌∷◌, ◌++◌, Ok, Err, codes, refl}
use Rattle.dj_asm_source.specs.declared.error.AsmError.TheVariants as asm_errors
use Rattle.dj_asm_tokens.specs.trusted.Words.{tokens_after, word_units}
use Rattle.dj_asm_source.specs.trusted.Lines.{Class, Super}
use Rattle.dj_asm_source.specs.LineReading.{text_read, lines_read}
use Rattle.dj_names.specs.Tests.{class_name_test, unqualified_name_test, field_descriptor_test}
use Rattle.dj_names.specs.trusted.NameReading.{reads_class_name}
use Rattle.dj_names.specs.trusted.DescReading.{field_read, type_read, dims_read, of_read}

abbrev head : List ℕ
head = codes ".class 21 A" ++ 10 ∷ codes ".super B" ++ 10 ∷ []

two_lines : text_read head ≡ Ok (Class 33 (codes "A") ∷ Super (codes "B") ∷ [])
unfolding lines_read tokens_after word_units class_name_test reads_class_name unqualified_name_test field_descriptor_test field_read type_read dims_read of_read
two_lines = refl

no_superclass : text_read (codes ".class 21 A") ≡ Err (asm_errors.Syntax 2 1)
unfolding lines_read tokens_after word_units class_name_test reads_class_name unqualified_name_test field_descriptor_test field_read type_read dims_read of_read
no_superclass = refl

wrong_word : text_read (head ++ codes ".field 0 x int") ≡ Err (asm_errors.Syntax 3 12)
unfolding lines_read tokens_after word_units class_name_test reads_class_name unqualified_name_test field_descriptor_test field_read type_read dims_read of_read
wrong_word = refl

large_word : text_read (head ++ codes ".field 0 x I int 2147483648 x") ≡ Err (asm_errors.Large 3)
unfolding lines_read tokens_after word_units class_name_test reads_class_name unqualified_name_test field_descriptor_test field_read type_read dims_read of_read
large_word = refl
