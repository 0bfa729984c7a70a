-- Whole texts, and the first fault of the words of each, or that there is none.
use Rattle.std.proofs.Common.{◌≡◌, ℕ, List, [], ◌∷◌, ◌++◌, map, Option, Some, None, Ok, Err, codes, refl}
use Rattle.std.specs.Prelude.{◌==◌, if◌then◌else◌}
use Rattle.dj_names.specs.trusted.DescReading.{field_read, type_read, dims_read, of_read, method_read, params_read, return_read, class_read, name_read}
use Rattle.dj_names.specs.trusted.NameReading.{reads_class_name}
use Rattle.dj_names.specs.Tests.{class_name_test, unqualified_name_test, method_name_test, field_descriptor_test, method_descriptor_test, array_descriptor_test}
use Rattle.dj_ops.specs.trusted.Forms.{form_of}
use Rattle.dj_asm_source.specs.declared.error.AsmError.{AsmError}
use Rattle.dj_asm_source.specs.declared.error.AsmError.TheVariants as asm_errors
use Rattle.dj_asm_tokens.specs.trusted.Words.{tokens_after, word_units, string_units}
use Rattle.dj_asm_tokens.specs.trusted.Mnemonics.{mnemonics}
use Rattle.dj_asm_source.specs.LineReading.{AreRead, text_read, lines_read, targets, pairs_after, types_until, types_up_to}

-- | is a line feed, ' a quote and ` a backslash
abbrev byte_of : ℕ → ℕ
byte_of b = if b == 124 then 10 else (if b == 39 then 34 else (if b == 96 then 92 else b))

abbrev Row : Type 0
Row = List ℕ × Option AsmError

abbrev whole : Option AsmError
whole = None

abbrev wrong : ℕ → ℕ → Option AsmError
wrong line column = Some (asm_errors.Syntax line column)

abbrev large : ℕ → Option AsmError
large line = Some (asm_errors.Large line)

abbrev fault_of : AreRead → Option AsmError
fault_of (Ok lines) = None
fault_of (Err e) = Some e

abbrev in_text : Row → Option AsmError
in_text row = fault_of (text_read (map byte_of row.0))

-- after the lines of a class and its superclass
abbrev in_class : Row → Option AsmError
in_class row = fault_of (text_read (codes ".class 21 A" ++ 10 ∷ codes ".super java/lang/Object" ++ 10 ∷ map byte_of row.0))

abbrev members : List Row
members =
    (codes ".method 9 verify ([B)[B|.stack 1|.locals 1|aload_0|areturn|.end|", whole)
    ∷ (codes ".class 21 A|", wrong 3 1)
    ∷ (codes ".version 52 0|", wrong 3 1)
    ∷ (codes ".super A|", wrong 3 1)
    ∷ (codes ".field 1 x I|.implements I|", wrong 4 1)
    ∷ (codes ".abstract 401 m ()V|.field 1 x I|", wrong 4 1)
    ∷ (codes ".implements [LI;|", wrong 3 13)
    ∷ (codes ".foo|", wrong 3 1)
    ∷ (codes "nop|", wrong 3 1)
    ∷ (codes ".end|", wrong 3 1)
    ∷ (codes ".field 1 a/b I|", wrong 3 10)
    ∷ (codes ".field 1 a; I|", wrong 3 10)
    ∷ (codes ".field 1 a V|", wrong 3 12)
    ∷ (codes ".field 1 a ()V|", wrong 3 12)
    ∷ (codes ".field 1 a LA|", wrong 3 12)
    ∷ (codes ".field 1 a II|", wrong 3 12)
    ∷ (codes ".field 1 a I float 1|", wrong 3 14)
    ∷ (codes ".field 1 a I int x|", wrong 3 18)
    ∷ (codes ".field 1 a I int -|", wrong 3 18)
    ∷ (codes ".field 1 a I int|", wrong 3 17)
    ∷ (codes ".field 1 a I string x|", wrong 3 21)
    ∷ (codes ".field 1 a I int 1 2|", wrong 3 20)
    ∷ (codes ".field 1 a I int '1'|", wrong 3 18)
    ∷ (codes ".abstract 401 <x> ()V|", wrong 3 15)
    ∷ (codes ".abstract 401 a> ()V|", wrong 3 15)
    ∷ (codes ".abstract 401 a/b ()V|", wrong 3 15)
    ∷ (codes ".abstract 401 m I|", wrong 3 17)
    ∷ (codes ".abstract 401 m (I|", wrong 3 17)
    ∷ (codes ".abstract 401 m (V)V|", wrong 3 17)
    ∷ (codes ".abstract 401 m ()[V|", wrong 3 17)
    ∷ (codes ".abstract 401 m ()V|.stack 1|", wrong 4 1)
    ∷ (codes ".method 9 m ()V|.locals 1|", wrong 4 1)
    ∷ (codes ".method 9 m ()V|.stack 1|nop|", wrong 5 1)
    ∷ (codes ".method 9 m ()V|.stack 1|.locals 1|return|", wrong 7 1)
    ∷ (codes ".method 9 m ()V|.stack x|", wrong 4 8)
    ∷ (codes ".method 9 m ()V|.stack -|", wrong 4 8)
    ∷ (codes ".method 9 m ()V|.stack 65536|.locals 9|nop|.end|", large 4)
    ∷ (codes ".method 9 m ()V|.stack 9|.locals 65536|nop|.end|", large 5)
    ∷ (codes ".field 1 x I int 2147483648|", large 3)
    ∷ (codes ".field 1 x I long -9223372036854775809|", large 3)
    ∷ []

members_read : map in_class members ≡ map (λ row. row.1) members
unfolding lines_read tokens_after word_units string_units mnemonics targets pairs_after types_until types_up_to form_of class_name_test reads_class_name unqualified_name_test method_name_test field_descriptor_test method_descriptor_test array_descriptor_test field_read type_read dims_read of_read method_read params_read return_read class_read name_read
members_read = refl

abbrev texts : List Row
texts =
    (codes ".class 0 A|.super B", whole)
    ∷ (codes ".class 1 S|.super S|.implements S|.field 1 S LS;|.field 9 t LS; string 'S'|.method 9 S ()LS;|.stack 2|.locals 2|C:|ldc string 'Code'|ldc string 'S'|ldc class S|pop|putstatic S S LS;|getstatic S S LS;|new S|anewarray [LS;|.frame full ref:S ref:T / ref:[LS; new:C|areturn|.catch T C D C|.catch U C D C|.catch any C D C|D:|.end|.method 9 S ()V|.stack 0|.locals 0|return|.end|", whole)
    ∷ (codes "| " ++ (9 ∷ []) ++ codes "|# a comment " ++ (9 ∷ []) ++ codes " with tab|" ++ (9 ∷ []) ++ codes ".class   21" ++ (9 ∷ []) ++ codes "A  # c||.super" ++ (9 ∷ []) ++ codes "java/lang/Object" ++ (9 ∷ []) ++ codes "|#.version 1 1|.field 1 a#b I|.field 1 a'b I|.field 1 x``y I|.field 1 `u I|.field 1 `u12 I|.field 1 `U0041 I|.field 1 ~! I|#|", whole)
    ∷ (codes ".class 21 A" ++ (13 ∷ []) ++ codes "|" ++ (13 ∷ []) ++ codes "|.super B # c" ++ (13 ∷ []) ++ codes "|.field 1 x I" ++ (13 ∷ []) ++ codes "|", whole)
    ∷ (codes ".cl`u0061ss 2`u0031 `u0041|.super `u20ac/`ud83d`ude00/`u0000`u007f`u0080`u07ff`u0800`uFFFF|.field 1 `u0020`u0023`u0022 `u0049 int `u002d1|.method 9 m ()V|.stack 1|.locals 0|L`u003a|L`u0031:|goto L1|goto L|ldc string '`u0000`u007f`u0080`u07ff`u0800`ud800`uffff`'`` `u0022'|.end|", whole)
    ∷ (codes ".class aBcD A|.super B|.field 0000 x I|.field F y I|.field 00f z I|", whole)
    ∷ ([], wrong 1 1)
    ∷ (codes "||# c|", wrong 4 1)
    ∷ (codes ".class 1 A", wrong 2 1)
    ∷ (codes ".class", wrong 1 7)
    ∷ (codes ".class 21|", wrong 1 10)
    ∷ (codes ".class 21 " ++ (9 ∷ []) ++ codes " |", wrong 1 13)
    ∷ (codes ".class 21 # x|", wrong 1 14)
    ∷ (codes ".class 21" ++ (13 ∷ []) ++ codes "|", wrong 1 10)
    ∷ (codes ".class 21 A B|", wrong 1 13)
    ∷ (codes ".super A|.class 1 A|", wrong 1 1)
    ∷ (codes "L:|", wrong 1 1)
    ∷ (codes "'x'|", wrong 1 1)
    ∷ (codes ".class 1 A|.version 1 1|.version 1 1|.super A|", wrong 3 1)
    ∷ (codes ".class 1 A|.version 1|.super A|", wrong 2 11)
    ∷ (codes ".class 1 A|.field 1 x I|", wrong 2 1)
    ∷ (codes ".class 1 A|.super [I|", wrong 2 8)
    ∷ (codes ".CLASS 21 A|", wrong 1 1)
    ∷ (codes ".class 12345 A|", wrong 1 8)
    ∷ (codes ".class 00021 A|", wrong 1 8)
    ∷ (codes ".class 2g A|", wrong 1 8)
    ∷ (codes ".class -1 A|", wrong 1 8)
    ∷ (codes ".class 0x21 A|", wrong 1 8)
    ∷ (codes ".class +1 A|", wrong 1 8)
    ∷ (codes ".class 1 a//b|", wrong 1 10)
    ∷ (codes ".class 1 /|", wrong 1 10)
    ∷ (codes ".class 1 a/|", wrong 1 10)
    ∷ (codes ".class 1 a.b|", wrong 1 10)
    ∷ (codes ".class 1 LA;|", wrong 1 10)
    ∷ (codes ".class 1 [I|", wrong 1 10)
    ∷ (codes ".class 1 a[|", wrong 1 10)
    ∷ (codes ".class 1 a`u002eb|", wrong 1 10)
    ∷ (codes ".class 21 A" ++ (127 ∷ []) ++ codes "|", wrong 1 11)
    ∷ (codes ".class 21 A|.super " ++ (195 ∷ []) ++ (169 ∷ []) ++ codes "|", wrong 2 8)
    ∷ (codes ".class 21 A|" ++ (0 ∷ []) ++ codes ".super A|", wrong 2 1)
    ∷ (codes ".class 21" ++ (13 ∷ []) ++ codes "A|", wrong 1 8)
    ∷ (codes ".class 21 A" ++ (13 ∷ []) ++ (13 ∷ []) ++ codes "|", wrong 1 11)
    ∷ (codes ".class 21 A|.super B" ++ (13 ∷ []), wrong 2 8)
    ∷ (codes ".class 21 A|.super B|" ++ (13 ∷ []), wrong 3 1)
    ∷ (codes ".class 21 A|.super B|" ++ (12 ∷ []) ++ codes "|", wrong 3 1)
    ∷ ((239 ∷ []) ++ (187 ∷ []) ++ (191 ∷ []) ++ codes ".class 21 A|", wrong 1 1)
    ∷ (codes ".class 21 A # " ++ (233 ∷ []) ++ codes "|.super B|", wrong 1 13)
    ∷ (codes ".class 21 A|.super B|# ok|  # " ++ (127 ∷ []) ++ codes "|", wrong 4 3)
    ∷ (codes ".class 21 # " ++ (233 ∷ []) ++ codes "|", wrong 1 11)
    ∷ (codes ".class zz # " ++ (233 ∷ []) ++ codes "|", wrong 1 8)
    ∷ (codes ".class zz " ++ (233 ∷ []) ++ codes "|", wrong 1 8)
    ∷ (codes ".class 21|" ++ (233 ∷ []) ++ codes "|", wrong 1 10)
    ∷ (codes ".class '21' A|", wrong 1 8)
    ∷ (codes ".class 1 A|.version 65536 0|.super A|", large 2)
    ∷ (codes ".class 1 A|.version 1 65536|.super A|", large 2)
    ∷ (codes ".class 1 A|.version -1 0|.super A|", large 2)
    ∷ []

texts_read : map in_text texts ≡ map (λ row. row.1) texts
unfolding lines_read tokens_after word_units string_units mnemonics targets pairs_after types_until types_up_to form_of class_name_test reads_class_name unqualified_name_test method_name_test field_descriptor_test method_descriptor_test array_descriptor_test field_read type_read dims_read of_read method_read params_read return_read class_read name_read
texts_read = refl
