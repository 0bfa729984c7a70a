-- Lines of a body, and the first fault of the words of each text, or that it is whole.
use Rattle.std.proofs.Common.{◌≡◌, ℕ, List, [], ◌∷◌, ◌++◌, map, Option, Some, None, Ok, Err, codes, refl}
use Rattle.std.specs.Prelude.{◌==◌, if◌then◌else◌}
use Rattle.dj_names.specs.trusted.DescReading.{field_read, type_read, dims_read, of_read, method_read, params_read, return_read, class_read, name_read}
use Rattle.dj_names.specs.trusted.NameReading.{reads_class_name}
use Rattle.dj_names.specs.Tests.{class_name_test, unqualified_name_test, method_name_test, field_descriptor_test, method_descriptor_test, array_descriptor_test}
use Rattle.dj_ops.specs.trusted.Forms.{form_of}
use Rattle.dj_asm_source.specs.declared.error.AsmError.{AsmError}
use Rattle.dj_asm_source.specs.declared.error.AsmError.TheVariants as asm_errors
use Rattle.dj_asm_tokens.specs.trusted.Words.{tokens_after, word_units, string_units}
use Rattle.dj_asm_tokens.specs.trusted.Mnemonics.{mnemonics}
use Rattle.dj_asm_source.specs.LineReading.{AreRead, text_read, lines_read, targets, pairs_after, types_until, types_up_to}

-- | is a line feed, ' a quote and ` a backslash
abbrev byte_of : ℕ → ℕ
byte_of b = if b == 124 then 10 else (if b == 39 then 34 else (if b == 96 then 92 else b))

abbrev Row : Type 0
Row = List ℕ × Option AsmError

abbrev whole : Option AsmError
whole = None

abbrev wrong : ℕ → ℕ → Option AsmError
wrong line column = Some (asm_errors.Syntax line column)

abbrev large : ℕ → Option AsmError
large line = Some (asm_errors.Large line)

abbrev fault_of : AreRead → Option AsmError
fault_of (Ok lines) = None
fault_of (Err e) = Some e

-- in the body of a method
abbrev in_body : Row → Option AsmError
in_body row = fault_of (text_read (codes ".class 21 A" ++ 10 ∷ codes ".super java/lang/Object" ++ 10 ∷ codes ".method 9 m ()V" ++ 10 ∷ codes ".stack 9" ++ 10 ∷ codes ".locals 9" ++ 10 ∷ map byte_of row.0))

abbrev whole_bodies : List Row
whole_bodies =
    (codes "S:|ifeq E|ifne S|iflt E|ifge S|ifgt E|ifle S|if_icmpeq E|if_icmpne S|if_icmplt E|if_icmpge S|if_icmpgt E|if_icmple S|if_acmpeq E|if_acmpne S|goto E|jsr S|ifnull E|ifnonnull S|goto_w E|jsr_w S|E:|goto E|return|.end|", whole)
    ∷ (codes "a:b:|1:|.end:|.catch:|return:|goto return|goto a:b|default:|tableswitch 0 1 default default|goto .end|goto .catch|goto 1|last:|.catch any 1 last 1||.end|", whole)
    ∷ (codes ".frame same|L:|.catch any L E L|M:|nop|E:|return|.end|", whole)
    ∷ (codes "A:|nop|B:|nop|C:|athrow|.catch any A B C|.catch java/lang/Exception A E C|.catch [I B E A|E:|.catch A/B A C A|.end|", whole)
    ∷ (codes "|.end|", whole)
    ∷ (codes "L:|nop|E:|return|.catch `u0061ny L E L|.end|", whole)
    ∷ (codes "ldc string '' # c|ldc string 'a`u0062c'" ++ (9 ∷ []) ++ codes "|ldc string '# `' `` ~'|ldc string 'abc'|pop|.end|", whole)
    ∷ (codes ".frame append int|nop|.frame chop 001|return|.end|", whole)
    ∷ (codes "goto L|.end|", whole)
    ∷ (codes "nop|jsr_w L|.end|", whole)
    ∷ (codes "l:|goto L|.end|", whole)
    ∷ (codes "L:|nop|L:|goto L|.end|", whole)
    ∷ (codes "L:|L:|return|.end|", whole)
    ∷ (codes "goto E|E:|.end|", whole)
    ∷ (codes "L:|tableswitch 0 E default L|E:|.end|", whole)
    ∷ (codes "L:|lookupswitch 1 L default E|E:|.end|", whole)
    ∷ (codes "L:|tableswitch 0 L M default L|.end|", whole)
    ∷ (codes "L:|lookupswitch 0 L 1 M default L|.end|", whole)
    ∷ (codes "L:|nop|E:|.catch any L E H|.end|", whole)
    ∷ (codes "L:|nop|E:|.catch any H E L|.end|", whole)
    ∷ (codes "L:|nop|E:|.catch any L E E|.end|", whole)
    ∷ (codes "L:|nop|E:|F:|.catch any E F L|.end|", whole)
    ∷ (codes "L:|M:|nop|.catch any L M L|.end|", whole)
    ∷ (codes "L:|nop|M:|nop|.catch any M L L|.end|", whole)
    ∷ (codes ".frame stack1 new:N|nop|.end|", whole)
    ∷ (codes ".frame append int new:N|nop|N:|.end|", whole)
    ∷ (codes "N:|.frame full new:N / new:M|nop|.end|", whole)
    ∷ (codes "goto B|A:|A:|.catch any X Y Z|nop|.end|", whole)
    ∷ (codes "A:|A:|goto B|.end|", whole)
    ∷ (codes "multianewarray [I 0|goto L|.end|", whole)
    ∷ (codes "nop|multianewarray [I 0|.end|", whole)
    ∷ (codes "L:|tableswitch 0 default L|.end|", whole)
    ∷ (codes "L:|tableswitch 2147483647 L L default L|.end|", whole)
    ∷ (codes "L:|tableswitch 2147483646 L L default L|.end|", whole)
    ∷ (codes "L:|lookupswitch 1 L 1 L default L|.end|", whole)
    ∷ (codes "L:|lookupswitch 2 L 1 L default L|.end|", whole)
    ∷ (codes "L:|lookupswitch -1 L 0 L 5 L 4 L default L|.end|", whole)
    ∷ []

whole_bodies_read : map in_body whole_bodies ≡ map (λ row. row.1) whole_bodies
unfolding lines_read tokens_after word_units string_units mnemonics targets pairs_after types_until types_up_to form_of class_name_test reads_class_name unqualified_name_test method_name_test field_descriptor_test method_descriptor_test array_descriptor_test field_read type_read dims_read of_read method_read params_read return_read class_read name_read
whole_bodies_read = refl

abbrev wrong_words : List Row
wrong_words =
    (codes ".stack 1||.end|", wrong 6 1)
    ∷ (codes ".method 9 n ()V||.end|", wrong 6 1)
    ∷ (codes ".end x|.end|", wrong 6 6)
    ∷ (codes "L: nop|.end|", wrong 6 4)
    ∷ (codes ":|.end|", wrong 6 1)
    ∷ (codes "L :|.end|", wrong 6 1)
    ∷ (codes "'L:'|.end|", wrong 6 1)
    ∷ (codes "idiot|.end|", wrong 6 1)
    ∷ (codes "NOP|.end|", wrong 6 1)
    ∷ (codes "0|.end|", wrong 6 1)
    ∷ (codes "nop 1|.end|", wrong 6 5)
    ∷ (codes "iinc 1 1 # 2|iinc 1 1 1|.end|", wrong 7 10)
    ∷ (codes "bipush|.end|", wrong 6 7)
    ∷ (codes "bipush L|.end|", wrong 6 8)
    ∷ (codes "bipush 0x1|.end|", wrong 6 8)
    ∷ (codes "bipush +1|.end|", wrong 6 8)
    ∷ (codes "iload|.end|", wrong 6 6)
    ∷ (codes "iinc 1|.end|", wrong 6 7)
    ∷ (codes "wide|.end|", wrong 6 5)
    ∷ (codes "wide nop|.end|", wrong 6 6)
    ∷ (codes "wide wide iload 1|.end|", wrong 6 6)
    ∷ (codes "wide iload_0|.end|", wrong 6 6)
    ∷ (codes "wide goto L|.end|", wrong 6 6)
    ∷ (codes "ldc|.end|", wrong 6 4)
    ∷ (codes "ldc 5|.end|", wrong 6 5)
    ∷ (codes "ldc long 5|.end|", wrong 6 5)
    ∷ (codes "ldc float 1|.end|", wrong 6 5)
    ∷ (codes "ldc string x|.end|", wrong 6 12)
    ∷ (codes "ldc class a//b|.end|", wrong 6 11)
    ∷ (codes "ldc class 'A'|.end|", wrong 6 11)
    ∷ (codes "ldc2_w int 5|.end|", wrong 6 8)
    ∷ (codes "ldc2_w long|.end|", wrong 6 12)
    ∷ (codes "goto|.end|", wrong 6 5)
    ∷ (codes "goto L M|.end|", wrong 6 8)
    ∷ (codes "goto 'L'|.end|", wrong 6 6)
    ∷ (codes "tableswitch|.end|", wrong 6 12)
    ∷ (codes "tableswitch L|.end|", wrong 6 13)
    ∷ (codes "tableswitch 0 L M|.end|", wrong 6 18)
    ∷ (codes "tableswitch 0 L default|.end|", wrong 6 24)
    ∷ (codes "tableswitch 0 L default L L|.end|", wrong 6 27)
    ∷ (codes "tableswitch 0 'L' default L|.end|", wrong 6 15)
    ∷ (codes "lookupswitch|.end|", wrong 6 13)
    ∷ (codes "lookupswitch L default L|.end|", wrong 6 14)
    ∷ (codes "lookupswitch 1 L 2|.end|", wrong 6 19)
    ∷ (codes "lookupswitch 1 L|.end|", wrong 6 17)
    ∷ (codes "lookupswitch 1 L M 2 default L|.end|", wrong 6 18)
    ∷ (codes "lookupswitch default L L|.end|", wrong 6 24)
    ∷ (codes "getstatic a//b f I|.end|", wrong 6 11)
    ∷ (codes "getstatic A a.b I|.end|", wrong 6 13)
    ∷ (codes "getstatic A f ()V|.end|", wrong 6 15)
    ∷ (codes "getstatic A f|.end|", wrong 6 14)
    ∷ (codes "invokestatic A <x> ()V|.end|", wrong 6 16)
    ∷ (codes "invokestatic A m I|.end|", wrong 6 18)
    ∷ (codes "invokevirtual A m ()V interface|.end|", wrong 6 23)
    ∷ (codes "getstatic A f I interface|.end|", wrong 6 17)
    ∷ (codes "invokestatic A m ()V interface interface|.end|", wrong 6 32)
    ∷ (codes "invokestatic A m ()V Interface|.end|", wrong 6 22)
    ∷ []

wrong_words_read : map in_body wrong_words ≡ map (λ row. row.1) wrong_words
unfolding lines_read tokens_after word_units string_units mnemonics targets pairs_after types_until types_up_to form_of class_name_test reads_class_name unqualified_name_test method_name_test field_descriptor_test method_descriptor_test array_descriptor_test field_read type_read dims_read of_read method_read params_read return_read class_read name_read
wrong_words_read = refl

abbrev more_wrong_words : List Row
more_wrong_words =
    (codes "invokeinterface A m ()V interface|.end|", wrong 6 25)
    ∷ (codes "invokedynamic m ()V|.end|", wrong 6 15)
    ∷ (codes "invokedynamic 0 A m ()V|.end|", wrong 6 19)
    ∷ (codes "invokedynamic 0 <m> ()V|.end|", wrong 6 17)
    ∷ (codes "invokedynamic 0 m I|.end|", wrong 6 19)
    ∷ (codes "new a.b|.end|", wrong 6 5)
    ∷ (codes "new [V|.end|", wrong 6 5)
    ∷ (codes "new|.end|", wrong 6 4)
    ∷ (codes "newarray Byte|.end|", wrong 6 10)
    ∷ (codes "newarray A|.end|", wrong 6 10)
    ∷ (codes "newarray 8|.end|", wrong 6 10)
    ∷ (codes "multianewarray A 1|.end|", wrong 6 16)
    ∷ (codes "multianewarray I 1|.end|", wrong 6 16)
    ∷ (codes "multianewarray [I|.end|", wrong 6 18)
    ∷ (codes ".catch|.end|", wrong 6 7)
    ∷ (codes ".catch a//b L L L|.end|", wrong 6 8)
    ∷ (codes ".catch Any. L L L|.end|", wrong 6 8)
    ∷ (codes ".catch any L M|.end|", wrong 6 15)
    ∷ (codes ".catch any L M N O|.end|", wrong 6 18)
    ∷ (codes ".frame|.end|", wrong 6 7)
    ∷ (codes ".frame Same|.end|", wrong 6 8)
    ∷ (codes ".frame same int|.end|", wrong 6 13)
    ∷ (codes ".frame stack1|.end|", wrong 6 14)
    ∷ (codes ".frame stack1 int int|.end|", wrong 6 19)
    ∷ (codes ".frame chop|.end|", wrong 6 12)
    ∷ (codes ".frame chop x|.end|", wrong 6 13)
    ∷ (codes ".frame append|.end|", wrong 6 14)
    ∷ (codes ".frame append int int int int|.end|", wrong 6 27)
    ∷ (codes ".frame full|.end|", wrong 6 12)
    ∷ (codes ".frame full int|.end|", wrong 6 16)
    ∷ (codes ".frame full int / int / int|.end|", wrong 6 23)
    ∷ (codes ".frame stack1 Int|.end|", wrong 6 15)
    ∷ (codes ".frame stack1 ref:|.end|", wrong 6 15)
    ∷ (codes ".frame stack1 ref:a//b|.end|", wrong 6 15)
    ∷ (codes ".frame stack1 ref:[V|.end|", wrong 6 15)
    ∷ (codes ".frame stack1 new:|.end|", wrong 6 15)
    ∷ (codes ".frame stack1 ref: A|.end|", wrong 6 15)
    ∷ (codes ".frame stack1 'int'|.end|", wrong 6 15)
    ∷ (codes ".frame same|.frame same|nop|.end|", wrong 7 1)
    ∷ (codes "nop|.frame same|.end|", wrong 8 1)
    ∷ (codes "nop|.frame same|L:|.end|", wrong 9 1)
    ∷ (codes "ldc string 'abc|.end|", wrong 6 12)
    ∷ (codes "ldc string '|.end|", wrong 6 12)
    ∷ (codes "ldc string 'abc`|.end|", wrong 6 12)
    ∷ (codes "ldc string 'a`nb'|.end|", wrong 6 12)
    ∷ (codes "ldc string '`u12'|.end|", wrong 6 12)
    ∷ (codes "ldc string '`u00g0'|.end|", wrong 6 12)
    ∷ (codes "ldc string 'a" ++ (9 ∷ []) ++ codes "b'|.end|", wrong 6 12)
    ∷ (codes "ldc string 'a" ++ (233 ∷ []) ++ codes "b'|.end|", wrong 6 12)
    ∷ (codes "ldc string 'a'b|.end|", wrong 6 12)
    ∷ (codes "ldc string 'a'#c|.end|", wrong 6 12)
    ∷ (codes "ldc string 'a''b'|.end|", wrong 6 12)
    ∷ (codes "ldc string 'a' 'b'|.end|", wrong 6 16)
    ∷ (codes "ldc string '" ++ (127 ∷ []) ++ codes "'|.end|", wrong 6 12)
    ∷ (codes "ldc string 'a'" ++ (13 ∷ []) ++ codes "b|.end|", wrong 6 12)
    ∷ (codes "'ldc' int 1|.end|", wrong 6 1)
    ∷ (codes "foo|bipush 128|.end|", wrong 6 1)
    ∷ (codes "ldc long 99999999999999999999|.end|", wrong 6 5)
    ∷ []

more_wrong_words_read : map in_body more_wrong_words ≡ map (λ row. row.1) more_wrong_words
unfolding lines_read tokens_after word_units string_units mnemonics targets pairs_after types_until types_up_to form_of class_name_test reads_class_name unqualified_name_test method_name_test field_descriptor_test method_descriptor_test array_descriptor_test field_read type_read dims_read of_read method_read params_read return_read class_read name_read
more_wrong_words_read = refl

abbrev large_numbers : List Row
large_numbers =
    (codes "bipush 128|.end|", large 6)
    ∷ (codes "bipush -129|.end|", large 6)
    ∷ (codes "sipush 32768|.end|", large 6)
    ∷ (codes "sipush -32769|.end|", large 6)
    ∷ (codes "iload 256|.end|", large 6)
    ∷ (codes "iload -1|.end|", large 6)
    ∷ (codes "wide iload 65536|.end|", large 6)
    ∷ (codes "iinc 256 1|.end|", large 6)
    ∷ (codes "iinc 1 128|.end|", large 6)
    ∷ (codes "wide iinc 1 32768|.end|", large 6)
    ∷ (codes "ldc int 2147483648|.end|", large 6)
    ∷ (codes "ldc int -2147483649|.end|", large 6)
    ∷ (codes "ldc2_w long 9223372036854775808|.end|", large 6)
    ∷ (codes "tableswitch 2147483648 L default L|.end|", large 6)
    ∷ (codes "lookupswitch -2147483649 L default L|.end|", large 6)
    ∷ (codes "invokedynamic 65536 m ()V|.end|", large 6)
    ∷ (codes "multianewarray [I 256|.end|", large 6)
    ∷ (codes ".frame chop 4|.end|", large 6)
    ∷ (codes ".frame chop 0|.end|", large 6)
    ∷ (codes ".frame chop -1|.end|", large 6)
    ∷ (codes "bipush 128 x|foo|.end|", large 6)
    ∷ (codes "goto nowhere|bipush 128|.end|", large 7)
    ∷ []

large_numbers_read : map in_body large_numbers ≡ map (λ row. row.1) large_numbers
unfolding lines_read tokens_after word_units string_units mnemonics targets pairs_after types_until types_up_to form_of class_name_test reads_class_name unqualified_name_test method_name_test field_descriptor_test method_descriptor_test array_descriptor_test field_read type_read dims_read of_read method_read params_read return_read class_read name_read
large_numbers_read = refl
