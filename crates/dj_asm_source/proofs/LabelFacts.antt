-- Texts whose words say sources, and the first line of each that is wrongly labelled, or that there is none.
use Rattle.std.proofs.Common.{◌≡◌, ℕ, pos, List, [], ◌∷◌, ◌++◌, map, Option, Some, None, codes, refl, ap, arith}
use Rattle.std.specs.Prelude.{◌==◌, if◌then◌else◌}
use Rattle.dj_names.specs.trusted.DescReading.{field_read, type_read, dims_read, of_read, method_read, params_read, return_read, class_read, name_read}
use Rattle.dj_names.specs.trusted.NameReading.{reads_class_name}
use Rattle.dj_names.specs.Tests.{class_name_test, unqualified_name_test, method_name_test, field_descriptor_test, method_descriptor_test, array_descriptor_test}
use Rattle.dj_ops.specs.trusted.Forms.{form_of}
use Rattle.dj_asm_source.specs.declared.error.AsmError.{AsmError}
use Rattle.dj_asm_source.specs.declared.error.AsmError.TheVariants as asm_errors
use Rattle.dj_asm_tokens.specs.trusted.Words.{tokens_after, word_units, string_units}
use Rattle.dj_asm_source.specs.trusted.Lines.{Line, Class, Super, Abstract, Method, Stack, Locals, Beside, Does, End, Plain, Jump, Labelled}
use Rattle.dj_asm_tokens.specs.trusted.Mnemonics.{mnemonics}
use Rattle.dj_asm_tokens.specs.WordReading.{row_of}
use Rattle.dj_asm_source.specs.trusted.Labels.{LabelFault}
use Rattle.dj_asm_source.specs.LineReading.{lines_read, targets, pairs_after, types_until, types_up_to}
use Rattle.dj_asm_source.specs.LabelReading.{LabelMark, marks_from, marks_of, mislabelled_from, mislabelled_in, sections_of, mislabelled_after, first_mislabelled, text_fault}
use Rattle.dj_asm_source.proofs.LabelTextLaws.{label_fault_is, one_label_fault}

-- ---- tables of labels

-- a label is marked by the lines and the instructions before it; the first of two counts
abbrev lines : List Line
lines = Method 9 (codes "m") (codes "()V") ∷ Beside (Labelled (codes "a")) ∷ Does (Plain 0) ∷ Does (Plain 0) ∷ Beside (Labelled (codes "b")) ∷ Does (Plain 0) ∷ Beside (Labelled (codes "a")) ∷ Beside (Labelled (codes "c")) ∷ End ∷ []

abbrev mark : ℕ → ℕ → Option LabelMark
mark place number = Some (record { place = place; number = number })

rows : map (row_of (marks_of lines)) (codes "a" ∷ codes "b" ∷ codes "c" ∷ codes "d" ∷ codes "A" ∷ codes "aa" ∷ [] ∷ [])
    ≡ mark 1 0 ∷ mark 4 2 ∷ mark 7 3 ∷ None ∷ None ∷ None ∷ None ∷ []
unfolding marks_from
rows = refl

again : mislabelled_in lines ≡ Some 6
unfolding marks_from mislabelled_from
again = refl

-- ---- sections

abbrev methods : List Line
methods = Stack (pos 1) ∷ Abstract 1 (codes "a") (codes "()V") ∷ Method 9 (codes "m") (codes "()V") ∷ Beside (Labelled (codes "a")) ∷ Does (Jump 167 (codes "a")) ∷ End
    ∷ Abstract 1 (codes "b") (codes "()V") ∷ Method 9 (codes "n") (codes "()V") ∷ Does (Jump 167 (codes "a")) ∷ End ∷ []

cut : sections_of methods
    ≡ (Stack (pos 1) ∷ [])
    ∷ (Abstract 1 (codes "a") (codes "()V") ∷ [])
    ∷ (Method 9 (codes "m") (codes "()V") ∷ Beside (Labelled (codes "a")) ∷ Does (Jump 167 (codes "a")) ∷ End ∷ [])
    ∷ (Abstract 1 (codes "b") (codes "()V") ∷ [])
    ∷ (Method 9 (codes "n") (codes "()V") ∷ Does (Jump 167 (codes "a")) ∷ End ∷ [])
    ∷ []
unfolding sections_of
cut = refl

-- a label of another method is unknown
other_method : first_mislabelled methods ≡ Some 8
unfolding sections_of marks_from mislabelled_from mislabelled_after
other_method = refl

-- ---- whole texts

-- | is a line feed and ` a backslash
abbrev byte_of : ℕ → ℕ
byte_of b = if b == 124 then 10 else (if b == 96 then 92 else b)

abbrev Row : Type 0
Row = List ℕ × Option AsmError

abbrev whole : Option AsmError
whole = None

abbrev label : ℕ → Option AsmError
label line = Some (asm_errors.Label line)

abbrev large : ℕ → Option AsmError
large line = Some (asm_errors.Large line)

abbrev wrong : ℕ → ℕ → Option AsmError
wrong line column = Some (asm_errors.Syntax line column)

-- in the body of a method
abbrev in_body : Row → Option AsmError
in_body row = text_fault (codes ".class 21 A" ++ 10 ∷ codes ".super java/lang/Object" ++ 10 ∷ codes ".method 9 m ()V" ++ 10 ∷ codes ".stack 9" ++ 10 ∷ codes ".locals 9" ++ 10 ∷ map byte_of row.0)

-- a fault is one of the definition
abbrev unknown_label : List ℕ
unknown_label = codes ".class 21 A" ++ 10 ∷ codes ".super A" ++ 10 ∷ codes ".method 9 m ()V" ++ 10 ∷ codes ".stack 9" ++ 10 ∷ codes ".locals 9" ++ 10 ∷ codes "goto L" ++ 10 ∷ codes ".end"

abbrev unknown_lines : List Line
unknown_lines = Class 33 (codes "A") ∷ Super (codes "A") ∷ Method 9 (codes "m") (codes "()V") ∷ Stack (pos 9) ∷ Locals (pos 9) ∷ Does (Jump 167 (codes "L")) ∷ End ∷ []

unknown_fault : LabelFault unknown_label (asm_errors.Label 6)
unfolding lines_read tokens_after word_units mnemonics form_of class_name_test reads_class_name method_name_test unqualified_name_test method_descriptor_test field_read type_read dims_read of_read method_read params_read return_read class_read name_read marks_from mislabelled_from sections_of mislabelled_after
unknown_fault = label_fault_is unknown_label unknown_lines (asm_errors.Label 6) refl refl

-- and no other line is reported
not_the_next : LabelFault unknown_label (asm_errors.Label 7) → ⊥
not_the_next fault = six_or_seven (ap line_of (one_label_fault unknown_label (asm_errors.Label 6) (asm_errors.Label 7) unknown_fault fault)) where
  line_of : AsmError → ℕ
  line_of (asm_errors.Label line) = line
  line_of e = 0

  six_or_seven : ◌≡◌ {A = ℕ} 6 7 → ⊥
  six_or_seven e = omega (arith, e)

abbrev wrong_labels : List Row
wrong_labels =
    (codes "goto L|.end|", label 6)
    ∷ (codes "nop|jsr_w L|.end|", label 7)
    ∷ (codes "l:|goto L|.end|", label 7)
    ∷ (codes "L:|nop|L:|goto L|.end|", label 8)
    ∷ (codes "L:|L:|return|.end|", label 7)
    ∷ (codes "goto E|E:|.end|", label 6)
    ∷ (codes "L:|tableswitch 0 E default L|E:|.end|", label 7)
    ∷ (codes "L:|lookupswitch 1 L default E|E:|.end|", label 7)
    ∷ (codes "L:|tableswitch 0 L M default L|.end|", label 7)
    ∷ (codes "L:|lookupswitch 0 L 1 M default L|.end|", label 7)
    ∷ (codes "L:|nop|E:|.catch any L E H|.end|", label 9)
    ∷ (codes "L:|nop|E:|.catch any H E L|.end|", label 9)
    ∷ (codes "L:|nop|E:|.catch any L H L|.end|", label 9)
    ∷ (codes "L:|nop|E:|.catch any L E E|.end|", label 9)
    ∷ (codes "L:|nop|E:|F:|.catch any E F L|.end|", label 10)
    ∷ (codes "L:|M:|nop|.catch any L M L|.end|", label 9)
    ∷ (codes "L:|nop|M:|nop|.catch any M L L|.end|", label 10)
    ∷ (codes ".frame stack1 new:N|nop|.end|", label 6)
    ∷ (codes ".frame append int new:N|nop|N:|.end|", label 6)
    ∷ (codes "N:|.frame full new:N / new:M|nop|.end|", label 7)
    ∷ (codes "N:|.frame full new:M / new:N|nop|.end|", label 7)
    ∷ (codes "goto B|A:|A:|.catch any X Y Z|nop|.end|", label 6)
    ∷ (codes "A:|A:|goto B|.end|", label 7)
    ∷ (codes "multianewarray [I 0|goto L|.end|", label 7)
    ∷ (codes "L:|return|.end|.method 9 n ()V|.stack 9|.locals 9|goto L|.end|", label 12)
    ∷ (codes "`u004c:|L:|goto L|.end|", label 7)
    ∷ (codes "||# c| # d|goto L # e||.end|", label 10)
    ∷ (codes "L:|.frame same|L:|nop|.end|", label 8)
    ∷ []

wrong_labels_reported : map in_body wrong_labels ≡ map (λ row. row.1) wrong_labels
unfolding lines_read tokens_after word_units string_units mnemonics targets pairs_after types_until types_up_to form_of class_name_test reads_class_name unqualified_name_test method_name_test field_descriptor_test method_descriptor_test array_descriptor_test field_read type_read dims_read of_read method_read params_read return_read class_read name_read marks_from mislabelled_from sections_of mislabelled_after
wrong_labels_reported = refl

abbrev right_labels : List Row
right_labels =
    (codes "S:|ifeq E|ifne S|iflt E|goto E|jsr S|goto_w E|jsr_w S|E:|goto E|return|.end|", whole)
    ∷ (codes "a:b:|1:|.end:|.catch:|return:|goto return|goto a:b|default:|tableswitch 0 1 default default|goto .end|goto .catch|goto 1|last:|.catch any 1 last 1||.end|", whole)
    ∷ (codes ".frame same|L:|.catch any L E L|M:|nop|E:|return|.end|", whole)
    ∷ (codes "A:|nop|B:|nop|C:|athrow|.catch any A B C|.catch java/lang/Exception A E C|.catch [I B E A|E:|.catch A/B A C A|.end|", whole)
    ∷ (codes "L:|nop|E:|return|.catch `u0061ny L E L|.end|", whole)
    ∷ (codes "L`u0031:|goto L1|goto `u004c1|.end|", whole)
    ∷ (codes "N:|.frame full new:N int / new:`u004e|nop|.frame append new:N|nop|.frame stack1 new:N|nop|.end|", whole)
    ∷ (codes "L:|goto L|.end|.abstract 401 a ()V|.method 9 n ()V|.stack 9|.locals 9|L:|goto L|.end|", whole)
    ∷ (codes "goto L|goto L|L:|nop|E:|.catch any L E L|.end|.abstract 401 a ()V|", whole)
    ∷ (codes "L:|tableswitch 0 default L|.end|", whole)
    ∷ (codes "L:|lookupswitch -1 L 0 L 5 L 4 L default L|.end|", whole)
    ∷ (codes ".end|", whole)
    ∷ (codes "E:|.end|", whole)
    ∷ (codes "goto nowhere|bipush 128|.end|", large 7)
    ∷ (codes "goto nowhere|foo|.end|", wrong 7 1)
    ∷ (codes "goto nowhere|", wrong 7 1)
    ∷ []

right_labels_reported : map in_body right_labels ≡ map (λ row. row.1) right_labels
unfolding lines_read tokens_after word_units string_units mnemonics targets pairs_after types_until types_up_to form_of class_name_test reads_class_name unqualified_name_test method_name_test field_descriptor_test method_descriptor_test array_descriptor_test field_read type_read dims_read of_read method_read params_read return_read class_read name_read marks_from mislabelled_from sections_of mislabelled_after
right_labels_reported = refl
