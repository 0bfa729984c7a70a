-- Each kind of line at plain words, and words that do not say it.
use Rattle.std.proofs.Common.{◌≡◌, ℕ, ℤ, pos, negsuc, true, false, List, [], ◌∷◌, ◌++◌, map, Some, None, codes, refl, sym, ap, subst, length, ◌≤◌, inl, inr, arith}
use Rattle.std.specs.List.{AllZip}
use Rattle.dj_names.specs.trusted.ModifiedUtf8.{units_text}
use Rattle.dj_asm_tokens.specs.trusted.Words.{Token, Word, Quoted, word_units, string_units, tokens_after, line_tokens}
use Rattle.dj_asm_source.specs.trusted.Items.{Exactly, Number, Text, Ended, Says, SaysFlags, SaysCalled}
use Rattle.dj_asm_tokens.specs.trusted.Mnemonics.{mnemonics, mnemonic, base_word}
use Rattle.dj_asm_source.specs.trusted.Lines.{Line, Class, Version, Super, Implements, Field, Abstract, Method, Stack, Locals, Beside, Framed, Does, End, IntValue, LongValue, StringValue, IntLiteral, StringLiteral, ClassLiteral, Simple, Object, New, Same, Stack1, Chop, Append, Full, Plain, Push, Local, Increment, Load, LoadLong, Jump, Table, Lookup, Member, Dynamic, ClassOf, Array, Multi, Labelled, Catch, items_of}
use Rattle.dj_asm_source.specs.trusted.Sources.{token_of}
use Rattle.dj_ops.specs.Mnemonics.{nop, aconst_null, iconst_m1, iconst_0, iconst_1, iconst_2, iconst_3, iconst_4, iconst_5, lconst_0, lconst_1, fconst_0, fconst_1, fconst_2, dconst_0, dconst_1, bipush, sipush, ldc, ldc_w, ldc2_w, iload, lload, fload, dload, aload, iload_0, iload_1, iload_2, iload_3, lload_0, lload_1, lload_2, lload_3, fload_0, fload_1, fload_2, fload_3, dload_0, dload_1, dload_2, dload_3, aload_0, aload_1, aload_2, aload_3, iaload, laload, faload, daload, aaload, baload, caload, saload, istore, lstore, fstore, dstore, astore, istore_0, istore_1, istore_2, istore_3, lstore_0, lstore_1, lstore_2, lstore_3, fstore_0, fstore_1, fstore_2, fstore_3, dstore_0, dstore_1, dstore_2, dstore_3, astore_0, astore_1, astore_2, astore_3, iastore, lastore, fastore, dastore, aastore, bastore, castore, sastore, pop, pop2, dup, dup_x1, dup_x2, dup2, dup2_x1, dup2_x2, swap, iadd, ladd, fadd, dadd, isub, lsub, fsub, dsub, imul, lmul, fmul, dmul, idiv, ldiv, fdiv, ddiv, irem, lrem, frem, drem, ineg, lneg, fneg, dneg, ishl, lshl, ishr, lshr, iushr, lushr, iand, land, ior, lor, ixor, lxor, iinc, i2l, i2f, i2d, l2i, l2f, l2d, f2i, f2l, f2d, d2i, d2l, d2f, i2b, i2c, i2s, lcmp, fcmpl, fcmpg, dcmpl, dcmpg, ifeq, ifne, iflt, ifge, ifgt, ifle, if_icmpeq, if_icmpne, if_icmplt, if_icmpge, if_icmpgt, if_icmple, if_acmpeq, if_acmpne, goto, jsr, ret, tableswitch, lookupswitch, ireturn, lreturn, freturn, dreturn, areturn, return, getstatic, putstatic, getfield, putfield, invokevirtual, invokespecial, invokestatic, invokeinterface, invokedynamic, new, newarray, anewarray, arraylength, athrow, checkcast, instanceof, monitorenter, monitorexit, wide, multianewarray, ifnull, ifnonnull, goto_w, jsr_w, breakpoint}

-- ---- the line that the bytes are

abbrev words_of : List ℕ → List Token
words_of bytes = map token_of (line_tokens (1, bytes))

-- the bytes say the line
abbrev IsSaid : Line → List ℕ → Type 0
IsSaid line bytes = AllZip Says (items_of line ++ Ended ∷ []) (words_of bytes)

-- ---- items

flags : SaysFlags 33 (Word (codes "21"))
flags = record { digits = codes "21"; word = refl; numeral = (omega arith, (omega arith, (omega arith, tt))); few = omega arith; value = refl }

-- upper and lower case, and leading zeros
more_flags : SaysFlags 190 (Word (codes "00bE"))
more_flags = record { digits = codes "00bE"; word = refl; numeral = (omega arith, (omega arith, (omega arith, (omega arith, (omega arith, tt))))); few = omega arith; value = refl }

five_digits : (n : ℕ) → SaysFlags n (Word (codes "00021")) → ⊥
five_digits n says = let few = says.few in let word = says.word in let e = ap word_of word in let few5 = subst (λ ds. length ds ≤ 4) (sym e) few in omega (arith, few5) where
  word_of : Token → List ℕ
  word_of (Word units) = units
  word_of _ = []

number : Says (Number (pos 7)) (Word (codes "07"))
number = inl (record { digits = codes "07"; word = refl; numeral = (omega arith, (omega arith, (omega arith, tt))); value = refl })

minus : Says (Number (negsuc 0)) (Word (codes "-1"))
minus = inr (record { digits = codes "1"; word = refl; numeral = (omega arith, (omega arith, tt)); value = refl })

name : (units : List ℕ) → units ≡ units_text units → SaysCalled [] units (Word units)
name units e = record { units = units; word = refl; value = e }

-- a name in modified UTF-8
escaped_name : SaysCalled (codes "ref:") (192 ∷ 128 ∷ []) (Word (codes "ref:" ++ 0 ∷ []))
escaped_name = record { units = 0 ∷ []; word = refl; value = refl }

-- a string is no word, and a word no string
quoted_keyword : Says (Exactly (codes "nop")) (Quoted (codes "nop")) → ⊥
quoted_keyword e = absurd cc

bare_string : Says (Text (codes "s")) (Word (codes "s")) → ⊥
bare_string e = absurd cc

quoted_number : (n : ℤ) → Says (Number n) (Quoted (codes "7")) → ⊥
quoted_number n (inl says) = let word = says.word in absurd cc
quoted_number n (inr says) = let word = says.word in absurd cc

-- ---- lines

class_line : IsSaid (Class 33 (codes "A")) (codes ".class 21 A # c")
unfolding tokens_after word_units
class_line = (refl, (flags, (name (codes "A") refl, (refl, tt))))

version_line : IsSaid (Version (pos 7) (negsuc 0)) (codes ".version 07 -1")
unfolding tokens_after word_units
version_line = (refl, (number, (minus, (refl, tt))))

super_line : IsSaid (Super (codes "a/B")) (codes ".super a/B")
unfolding tokens_after word_units
super_line = (refl, (name (codes "a/B") refl, (refl, tt)))

implements_line : IsSaid (Implements (codes "I")) (codes ".implements I")
unfolding tokens_after word_units
implements_line = (refl, (name (codes "I") refl, (refl, tt)))

field_line : IsSaid (Field 33 (codes "f") (codes "I") None) (codes ".field 21 f I")
unfolding tokens_after word_units
field_line = (refl, (flags, (name (codes "f") refl, (name (codes "I") refl, (refl, tt)))))

int_field : IsSaid (Field 33 (codes "f") (codes "I") (Some (IntValue (pos 7)))) (codes ".field 21 f I int 07")
unfolding tokens_after word_units
int_field = (refl, (flags, (name (codes "f") refl, (name (codes "I") refl, (refl, (number, (refl, tt)))))))

long_field : IsSaid (Field 33 (codes "f") (codes "J") (Some (LongValue (negsuc 0)))) (codes ".field 21 f J long -1")
unfolding tokens_after word_units
long_field = (refl, (flags, (name (codes "f") refl, (name (codes "J") refl, (refl, (minus, (refl, tt)))))))

string_field : IsSaid (Field 33 (codes "f") (codes "I") (Some (StringValue (codes "s t")))) (codes ".field 21 f I string \"s t\"")
unfolding tokens_after word_units string_units
string_field = (refl, (flags, (name (codes "f") refl, (name (codes "I") refl, (refl, (refl, (refl, tt)))))))

abstract_line : IsSaid (Abstract 33 (codes "m") (codes "()V")) (codes ".abstract 21 m ()V")
unfolding tokens_after word_units
abstract_line = (refl, (flags, (name (codes "m") refl, (name (codes "()V") refl, (refl, tt)))))

method_line : IsSaid (Method 33 (codes "m") (codes "()V")) (codes ".method 21 m ()V")
unfolding tokens_after word_units
method_line = (refl, (flags, (name (codes "m") refl, (name (codes "()V") refl, (refl, tt)))))

stack_line : IsSaid (Stack (pos 7)) (codes ".stack 07")
unfolding tokens_after word_units
stack_line = (refl, (number, (refl, tt)))

locals_line : IsSaid (Locals (pos 7)) (codes ".locals 07")
unfolding tokens_after word_units
locals_line = (refl, (number, (refl, tt)))

label_line : IsSaid (Beside (Labelled (codes "a:b"))) (codes "a:b:")
unfolding tokens_after word_units
label_line = (refl, (refl, tt))

catch_line : IsSaid (Beside (Catch (Some (codes "X")) (codes "A") (codes "B") (codes "C"))) (codes ".catch X A B C")
unfolding tokens_after word_units
catch_line = (refl, (name (codes "X") refl, (refl, (refl, (refl, (refl, tt))))))

catch_any : IsSaid (Beside (Catch None (codes "A") (codes "B") (codes "C"))) (codes ".catch any A B C")
unfolding tokens_after word_units
catch_any = (refl, (refl, (refl, (refl, (refl, (refl, tt))))))

same_line : IsSaid (Framed Same) (codes ".frame same")
unfolding tokens_after word_units
same_line = (refl, (refl, (refl, tt)))

stack1_line : IsSaid (Framed (Stack1 (New (codes "L")))) (codes ".frame stack1 new:L")
unfolding tokens_after word_units
stack1_line = (refl, (refl, (refl, (refl, tt))))

chop_line : IsSaid (Framed (Chop (pos 7))) (codes ".frame chop 07")
unfolding tokens_after word_units
chop_line = (refl, (refl, (number, (refl, tt))))

append_line : IsSaid (Framed (Append (Simple (codes "int") ∷ Simple (codes "top") ∷ []))) (codes ".frame append int top")
unfolding tokens_after word_units
append_line = (refl, (refl, (refl, (refl, (refl, tt)))))

full_line : IsSaid (Framed (Full (Simple (codes "this") ∷ []) (Object (codes "A") ∷ []))) (codes ".frame full this / ref:A")
unfolding tokens_after word_units
full_line = (refl, (refl, (refl, (refl, (record { units = codes "A"; word = refl; value = refl }, (refl, tt))))))

empty_full_line : IsSaid (Framed (Full [] [])) (codes ".frame full /")
unfolding tokens_after word_units
empty_full_line = (refl, (refl, (refl, (refl, tt))))

plain_line : IsSaid (Does (Plain 177)) (codes "return")
unfolding tokens_after word_units mnemonics
plain_line = (refl, (refl, tt))

push_line : IsSaid (Does (Push 16 (negsuc 0))) (codes "bipush -1")
unfolding tokens_after word_units mnemonics
push_line = (refl, (minus, (refl, tt)))

local_line : IsSaid (Does (Local false 21 (pos 7))) (codes "iload 07")
unfolding tokens_after word_units mnemonics
local_line = (refl, (number, (refl, tt)))

wide_line : IsSaid (Does (Local true 169 (pos 7))) (codes "wide ret 07")
unfolding tokens_after word_units mnemonics
wide_line = (refl, (refl, (number, (refl, tt))))

increment_line : IsSaid (Does (Increment false (pos 7) (negsuc 0))) (codes "iinc 07 -1")
unfolding tokens_after word_units mnemonics
increment_line = (refl, (number, (minus, (refl, tt))))

wide_increment_line : IsSaid (Does (Increment true (pos 7) (negsuc 0))) (codes "wide iinc 07 -1")
unfolding tokens_after word_units mnemonics
wide_increment_line = (refl, (refl, (number, (minus, (refl, tt)))))

int_line : IsSaid (Does (Load 18 (IntLiteral (pos 7)))) (codes "ldc int 07")
unfolding tokens_after word_units mnemonics
int_line = (refl, (refl, (number, (refl, tt))))

string_line : IsSaid (Does (Load 19 (StringLiteral (codes "s")))) (codes "ldc_w string \"s\"")
unfolding tokens_after word_units string_units mnemonics
string_line = (refl, (refl, (refl, (refl, tt))))

class_literal_line : IsSaid (Does (Load 18 (ClassLiteral (codes "[I")))) (codes "ldc class [I")
unfolding tokens_after word_units mnemonics
class_literal_line = (refl, (refl, (name (codes "[I") refl, (refl, tt))))

long_line : IsSaid (Does (LoadLong (negsuc 0))) (codes "ldc2_w long -1")
unfolding tokens_after word_units mnemonics
long_line = (refl, (refl, (minus, (refl, tt))))

jump_line : IsSaid (Does (Jump 200 (codes "L"))) (codes "goto_w L")
unfolding tokens_after word_units mnemonics
jump_line = (refl, (refl, (refl, tt)))

table_line : IsSaid (Does (Table (pos 7) (codes "L" ∷ codes "M" ∷ []) (codes "default"))) (codes "tableswitch 07 L M default default")
unfolding tokens_after word_units mnemonics
table_line = (refl, (number, (refl, (refl, (refl, (refl, (refl, tt)))))))

lookup_line : IsSaid (Does (Lookup ((negsuc 0, codes "L") ∷ (pos 7, codes "default") ∷ []) (codes "D"))) (codes "lookupswitch -1 L 07 default default D")
unfolding tokens_after word_units mnemonics
lookup_line = (refl, (minus, (refl, (number, (refl, (refl, (refl, (refl, tt))))))))

field_use_line : IsSaid (Does (Member 178 (codes "A") (codes "f") (codes "I") false)) (codes "getstatic A f I")
unfolding tokens_after word_units mnemonics
field_use_line = (refl, (name (codes "A") refl, (name (codes "f") refl, (name (codes "I") refl, (refl, tt)))))

method_use_line : IsSaid (Does (Member 185 (codes "A") (codes "m") (codes "()V") false)) (codes "invokeinterface A m ()V")
unfolding tokens_after word_units mnemonics
method_use_line = (refl, (name (codes "A") refl, (name (codes "m") refl, (name (codes "()V") refl, (refl, tt)))))

interface_line : IsSaid (Does (Member 184 (codes "A") (codes "m") (codes "()V") true)) (codes "invokestatic A m ()V interface")
unfolding tokens_after word_units mnemonics
interface_line = (refl, (name (codes "A") refl, (name (codes "m") refl, (name (codes "()V") refl, (refl, (refl, tt))))))

dynamic_line : IsSaid (Does (Dynamic (pos 7) (codes "m") (codes "()V"))) (codes "invokedynamic 07 m ()V")
unfolding tokens_after word_units mnemonics
dynamic_line = (refl, (number, (name (codes "m") refl, (name (codes "()V") refl, (refl, tt)))))

new_line : IsSaid (Does (ClassOf 187 (codes "A"))) (codes "new A")
unfolding tokens_after word_units mnemonics
new_line = (refl, (name (codes "A") refl, (refl, tt)))

array_line : IsSaid (Does (Array 11)) (codes "newarray long")
unfolding tokens_after word_units mnemonics
array_line = (refl, (refl, (refl, tt)))

multi_line : IsSaid (Does (Multi (codes "[[I") (pos 7))) (codes "multianewarray [[I 07")
unfolding tokens_after word_units mnemonics
multi_line = (refl, (name (codes "[[I") refl, (number, (refl, tt))))

end_line : IsSaid (End) (codes ".end")
unfolding tokens_after word_units
end_line = (refl, (refl, tt))

-- ---- words that don't say the line

-- a word is missing, one is too many, another case
no_name : IsSaid (Class 33 (codes "A")) (codes ".class 21") → ⊥
unfolding tokens_after word_units
no_name said = let word = said.1.1.0.word in absurd cc

extra_word : IsSaid End (codes ".end x") → ⊥
unfolding tokens_after word_units
extra_word said = let e = said.1.0 in absurd cc

other_case : IsSaid (Does (Plain 0)) (codes "NOP") → ⊥
unfolding tokens_after word_units mnemonics
other_case said = capital (ap first_unit said.0) where
  first_unit : Token → ℕ
  first_unit (Word (u ∷ us)) = u
  first_unit _ = 0

  capital : ◌≡◌ {A = ℕ} 78 110 → ⊥
  capital e = omega (arith, e)

-- ---- the words of instructions

few_mnemonics : map mnemonic (0 ∷ 5 ∷ 16 ∷ 45 ∷ 132 ∷ 171 ∷ 196 ∷ 202 ∷ 203 ∷ [])
    ≡ codes "nop" ∷ codes "iconst_2" ∷ codes "bipush" ∷ codes "aload_3" ∷ codes "iinc" ∷ codes "lookupswitch" ∷ codes "wide" ∷ codes "breakpoint" ∷ [] ∷ []
unfolding mnemonics
few_mnemonics = refl

-- the word of each opcode, by families
mnemonics_by_family :
    map mnemonic (
    aconst_null ∷ iconst_m1 ∷ iconst_0 ∷ iconst_1 ∷ iconst_2 ∷ iconst_3 ∷ iconst_4 ∷ iconst_5 ∷ lconst_0 ∷ lconst_1 ∷ fconst_0 ∷ fconst_1 ∷ fconst_2 ∷ dconst_0 ∷ dconst_1 ∷ bipush ∷ sipush ∷ ldc ∷ ldc_w ∷ ldc2_w ∷
    aload ∷ aload_0 ∷ aload_1 ∷ aload_2 ∷ aload_3 ∷ dload ∷ dload_0 ∷ dload_1 ∷ dload_2 ∷ dload_3 ∷ fload ∷ fload_0 ∷ fload_1 ∷ fload_2 ∷ fload_3 ∷ iload ∷ iload_0 ∷ iload_1 ∷ iload_2 ∷ iload_3 ∷ lload ∷ lload_0 ∷ lload_1 ∷ lload_2 ∷ lload_3 ∷
    astore ∷ astore_0 ∷ astore_1 ∷ astore_2 ∷ astore_3 ∷ dstore ∷ dstore_0 ∷ dstore_1 ∷ dstore_2 ∷ dstore_3 ∷ fstore ∷ fstore_0 ∷ fstore_1 ∷ fstore_2 ∷ fstore_3 ∷ istore ∷ istore_0 ∷ istore_1 ∷ istore_2 ∷ istore_3 ∷ lstore ∷ lstore_0 ∷ lstore_1 ∷ lstore_2 ∷ lstore_3 ∷
    aaload ∷ aastore ∷ arraylength ∷ baload ∷ bastore ∷ caload ∷ castore ∷ daload ∷ dastore ∷ faload ∷ fastore ∷ iaload ∷ iastore ∷ laload ∷ lastore ∷ saload ∷ sastore ∷
    pop ∷ pop2 ∷ dup ∷ dup_x1 ∷ dup_x2 ∷ dup2 ∷ dup2_x1 ∷ dup2_x2 ∷ swap ∷
    iadd ∷ isub ∷ imul ∷ idiv ∷ irem ∷ ineg ∷ ishl ∷ ishr ∷ iushr ∷ iand ∷ ior ∷ ixor ∷ iinc ∷
    ladd ∷ lsub ∷ lmul ∷ ldiv ∷ lrem ∷ lneg ∷ lshl ∷ lshr ∷ lushr ∷ land ∷ lor ∷ lxor ∷ lcmp ∷
    dadd ∷ dsub ∷ dmul ∷ ddiv ∷ drem ∷ dneg ∷ dcmpl ∷ dcmpg ∷ fadd ∷ fsub ∷ fmul ∷ fdiv ∷ frem ∷ fneg ∷ fcmpl ∷ fcmpg ∷
    d2i ∷ d2l ∷ d2f ∷ f2i ∷ f2l ∷ f2d ∷ i2l ∷ i2f ∷ i2d ∷ i2b ∷ i2c ∷ i2s ∷ l2i ∷ l2f ∷ l2d ∷
    ifeq ∷ ifne ∷ iflt ∷ ifge ∷ ifgt ∷ ifle ∷ if_icmpeq ∷ if_icmpne ∷ if_icmplt ∷ if_icmpge ∷ if_icmpgt ∷ if_icmple ∷ if_acmpeq ∷ if_acmpne ∷ goto ∷ jsr ∷ ret ∷ tableswitch ∷ lookupswitch ∷ ifnull ∷ ifnonnull ∷ goto_w ∷ jsr_w ∷
    areturn ∷ dreturn ∷ freturn ∷ ireturn ∷ lreturn ∷ return ∷
    getstatic ∷ putstatic ∷ getfield ∷ putfield ∷ invokevirtual ∷ invokespecial ∷ invokestatic ∷ invokeinterface ∷ invokedynamic ∷
    new ∷ newarray ∷ anewarray ∷ athrow ∷ checkcast ∷ instanceof ∷ monitorenter ∷ monitorexit ∷ multianewarray ∷
    nop ∷ wide ∷ breakpoint ∷
    [])
    ≡
    codes "aconst_null" ∷ codes "iconst_m1" ∷ codes "iconst_0" ∷ codes "iconst_1" ∷ codes "iconst_2" ∷ codes "iconst_3" ∷ codes "iconst_4" ∷ codes "iconst_5" ∷ codes "lconst_0" ∷ codes "lconst_1" ∷ codes "fconst_0" ∷ codes "fconst_1" ∷ codes "fconst_2" ∷ codes "dconst_0" ∷ codes "dconst_1" ∷ codes "bipush" ∷ codes "sipush" ∷ codes "ldc" ∷ codes "ldc_w" ∷ codes "ldc2_w" ∷
    codes "aload" ∷ codes "aload_0" ∷ codes "aload_1" ∷ codes "aload_2" ∷ codes "aload_3" ∷ codes "dload" ∷ codes "dload_0" ∷ codes "dload_1" ∷ codes "dload_2" ∷ codes "dload_3" ∷ codes "fload" ∷ codes "fload_0" ∷ codes "fload_1" ∷ codes "fload_2" ∷ codes "fload_3" ∷ codes "iload" ∷ codes "iload_0" ∷ codes "iload_1" ∷ codes "iload_2" ∷ codes "iload_3" ∷ codes "lload" ∷ codes "lload_0" ∷ codes "lload_1" ∷ codes "lload_2" ∷ codes "lload_3" ∷
    codes "astore" ∷ codes "astore_0" ∷ codes "astore_1" ∷ codes "astore_2" ∷ codes "astore_3" ∷ codes "dstore" ∷ codes "dstore_0" ∷ codes "dstore_1" ∷ codes "dstore_2" ∷ codes "dstore_3" ∷ codes "fstore" ∷ codes "fstore_0" ∷ codes "fstore_1" ∷ codes "fstore_2" ∷ codes "fstore_3" ∷ codes "istore" ∷ codes "istore_0" ∷ codes "istore_1" ∷ codes "istore_2" ∷ codes "istore_3" ∷ codes "lstore" ∷ codes "lstore_0" ∷ codes "lstore_1" ∷ codes "lstore_2" ∷ codes "lstore_3" ∷
    codes "aaload" ∷ codes "aastore" ∷ codes "arraylength" ∷ codes "baload" ∷ codes "bastore" ∷ codes "caload" ∷ codes "castore" ∷ codes "daload" ∷ codes "dastore" ∷ codes "faload" ∷ codes "fastore" ∷ codes "iaload" ∷ codes "iastore" ∷ codes "laload" ∷ codes "lastore" ∷ codes "saload" ∷ codes "sastore" ∷
    codes "pop" ∷ codes "pop2" ∷ codes "dup" ∷ codes "dup_x1" ∷ codes "dup_x2" ∷ codes "dup2" ∷ codes "dup2_x1" ∷ codes "dup2_x2" ∷ codes "swap" ∷
    codes "iadd" ∷ codes "isub" ∷ codes "imul" ∷ codes "idiv" ∷ codes "irem" ∷ codes "ineg" ∷ codes "ishl" ∷ codes "ishr" ∷ codes "iushr" ∷ codes "iand" ∷ codes "ior" ∷ codes "ixor" ∷ codes "iinc" ∷
    codes "ladd" ∷ codes "lsub" ∷ codes "lmul" ∷ codes "ldiv" ∷ codes "lrem" ∷ codes "lneg" ∷ codes "lshl" ∷ codes "lshr" ∷ codes "lushr" ∷ codes "land" ∷ codes "lor" ∷ codes "lxor" ∷ codes "lcmp" ∷
    codes "dadd" ∷ codes "dsub" ∷ codes "dmul" ∷ codes "ddiv" ∷ codes "drem" ∷ codes "dneg" ∷ codes "dcmpl" ∷ codes "dcmpg" ∷ codes "fadd" ∷ codes "fsub" ∷ codes "fmul" ∷ codes "fdiv" ∷ codes "frem" ∷ codes "fneg" ∷ codes "fcmpl" ∷ codes "fcmpg" ∷
    codes "d2i" ∷ codes "d2l" ∷ codes "d2f" ∷ codes "f2i" ∷ codes "f2l" ∷ codes "f2d" ∷ codes "i2l" ∷ codes "i2f" ∷ codes "i2d" ∷ codes "i2b" ∷ codes "i2c" ∷ codes "i2s" ∷ codes "l2i" ∷ codes "l2f" ∷ codes "l2d" ∷
    codes "ifeq" ∷ codes "ifne" ∷ codes "iflt" ∷ codes "ifge" ∷ codes "ifgt" ∷ codes "ifle" ∷ codes "if_icmpeq" ∷ codes "if_icmpne" ∷ codes "if_icmplt" ∷ codes "if_icmpge" ∷ codes "if_icmpgt" ∷ codes "if_icmple" ∷ codes "if_acmpeq" ∷ codes "if_acmpne" ∷ codes "goto" ∷ codes "jsr" ∷ codes "ret" ∷ codes "tableswitch" ∷ codes "lookupswitch" ∷ codes "ifnull" ∷ codes "ifnonnull" ∷ codes "goto_w" ∷ codes "jsr_w" ∷
    codes "areturn" ∷ codes "dreturn" ∷ codes "freturn" ∷ codes "ireturn" ∷ codes "lreturn" ∷ codes "return" ∷
    codes "getstatic" ∷ codes "putstatic" ∷ codes "getfield" ∷ codes "putfield" ∷ codes "invokevirtual" ∷ codes "invokespecial" ∷ codes "invokestatic" ∷ codes "invokeinterface" ∷ codes "invokedynamic" ∷
    codes "new" ∷ codes "newarray" ∷ codes "anewarray" ∷ codes "athrow" ∷ codes "checkcast" ∷ codes "instanceof" ∷ codes "monitorenter" ∷ codes "monitorexit" ∷ codes "multianewarray" ∷
    codes "nop" ∷ codes "wide" ∷ codes "breakpoint" ∷
    []
unfolding mnemonics
mnemonics_by_family = refl

mnemonics_end : length mnemonics ≡ 203
unfolding mnemonics
mnemonics_end = refl

base_types : map base_word (4 ∷ 5 ∷ 6 ∷ 7 ∷ 8 ∷ 9 ∷ 10 ∷ 11 ∷ 12 ∷ []) ≡ codes "boolean" ∷ codes "char" ∷ codes "float" ∷ codes "double" ∷ codes "byte" ∷ codes "short" ∷ codes "int" ∷ codes "long" ∷ [] ∷ []
base_types = refl
