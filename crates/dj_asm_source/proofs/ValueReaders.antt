-- The readers of a field's constant, of what ldc pushes, and of the word `interface`, each to the end of its line.
use Rattle.std.proofs.Common.{◌≡◌, ℕ, Bool, true, false, ℤ, FitsSigned, List, [], ◌∷◌, ◌++◌, Option, Some, None, IfSome, codes, refl, sym, ap, subst, true≢false}
use Rattle.std.specs.Prelude.{⊤}
use Rattle.std.specs.Int.{w32, w64}
use Rattle.dj_cursor.proofs.Options.{some_is}
use Rattle.dj_names.specs.trusted.Types.{Name}
use Rattle.dj_pool.specs.trusted.Pool.{IsClassText}
use Rattle.dj_asm_tokens.specs.trusted.Words.{Token, Word, Quoted, Bad, LineEnd}
use Rattle.dj_asm_source.specs.trusted.Items.{Item, Exactly, Ended, Says}
use Rattle.dj_asm_source.specs.trusted.Lines.{Value, IntValue, LongValue, StringValue, value_items, IsSizedValue, Literal, IntLiteral, StringLiteral, ClassLiteral, literal_items, IsLiteralName, IsSizedLiteral, interface_items}
use Rattle.dj_asm_tokens.specs.WordReading.{row_of, class_text_test}
use Rattle.dj_asm_source.specs.Reading.{is_signed, ◌&◌}
use Rattle.dj_asm_source.specs.LineReading.{line_end, number, string, name, ValueStart, NoValue, IntWord, LongWord, StringWord, value_start, value_after, value, LiteralStart, IntLiteralWord, StringLiteralWord, ClassLiteralWord, literal_start, literal_after, literal, interface_start, interface_after, interface_end}
use Rattle.dj_asm_source.proofs.Readers.{Lang, Started, IsReader, both, sequence_reads, IsMade, mapped_reads, got_reads}
use Rattle.dj_asm_source.proofs.Choices.{after_first, HasFirst, IsChoice, IsReported, choose_reads, place}
use Rattle.dj_asm_source.proofs.WordLaws.{row_sound, row_value, rows_reported, signed_32, signed_64}
use Rattle.dj_asm_source.proofs.FieldReaders.{all, end_lang, end_reads, number_lang, number_reads, string_lang, string_reads, name_lang, class_text_reads}

-- what a value's start has that has a word
abbrev IsWorded : ValueStart → Type 0
IsWorded NoValue = ⊥
IsWorded start = ⊤

-- ---- the constant of a field

abbrev pub value_lang : Lang (Option Value)
value_lang = record { items = λ v. value_items v ++ Ended ∷ []; is = all; fits = λ v. IfSome v IsSizedValue }

abbrev int_lang : Lang (ℤ × ⊤)
int_lang = both (number_lang (FitsSigned w32)) end_lang

abbrev pub long_lang : Lang (ℤ × ⊤)
long_lang = both (number_lang (FitsSigned w64)) end_lang

abbrev text_lang : Lang (List ℕ × ⊤)
text_lang = both string_lang end_lang

int_reads : IsReader int_lang (number (is_signed 31) & line_end)
int_reads = sequence_reads (number_lang (FitsSigned w32)) end_lang (number (is_signed 31)) line_end (number_reads (is_signed 31) (FitsSigned w32) signed_32 refl) end_reads

pub long_reads : IsReader long_lang (number (is_signed 63) & line_end)
long_reads = sequence_reads (number_lang (FitsSigned w64)) end_lang (number (is_signed 63)) line_end (number_reads (is_signed 63) (FitsSigned w64) signed_64 refl) end_reads

text_reads : IsReader text_lang (string & line_end)
text_reads = sequence_reads string_lang end_lang string line_end string_reads end_reads

abbrev int_of : ℤ × ⊤ → Option Value
int_of x = Some (IntValue x.0)

abbrev long_of : ℤ × ⊤ → Option Value
long_of x = Some (LongValue x.0)

abbrev text_of : List ℕ × ⊤ → Option Value
text_of x = Some (StringValue x.0)

abbrev IsValueOf : ValueStart → Option Value → Type 0
IsValueOf NoValue v = v ≡ None
IsValueOf IntWord v = IsMade int_of int_lang.is v
IsValueOf LongWord v = IsMade long_of long_lang.is v
IsValueOf StringWord v = IsMade text_of text_lang.is v

abbrev value_item : ValueStart → Item
value_item NoValue = Ended
value_item IntWord = Exactly (codes "int")
value_item LongWord = Exactly (codes "long")
value_item StringWord = Exactly (codes "string")

abbrev value_rows : List (List ℕ × ValueStart)
value_rows = (codes "int", IntWord) ∷ (codes "long", LongWord) ∷ (codes "string", StringWord) ∷ []

-- the word of a start; where there is no value none is read
abbrev value_word : ValueStart → List ℕ
value_word NoValue = []
value_word IntWord = codes "int"
value_word LongWord = codes "long"
value_word StringWord = codes "string"

value_sound : (token : Token) (k : ValueStart) → value_start token ≡ Some k → Says (value_item k) token
value_sound LineEnd k e = subst (λ j. Says (value_item j) LineEnd) (some_is NoValue k e) refl
value_sound (Word word) IntWord e = ap Word (row_sound value_word value_rows word IntWord (refl, (refl, (refl, tt))) e)
value_sound (Word word) LongWord e = ap Word (row_sound value_word value_rows word LongWord (refl, (refl, (refl, tt))) e)
value_sound (Word word) StringWord e = ap Word (row_sound value_word value_rows word StringWord (refl, (refl, (refl, tt))) e)
value_sound (Word word) NoValue e = absurd (not_none (row_value IsWorded value_rows word NoValue (tt, (tt, (tt, tt))) e)) where
  not_none : IsWorded NoValue → ⊥
  not_none x = x
value_sound (Quoted units) k e = absurd cc
value_sound Bad k e = absurd cc

value_whole : (token : Token) (k : ValueStart) → Says (value_item k) token → value_start token ≡ Some k
value_whole token NoValue e = ap value_start e
value_whole token IntWord e = ap value_start e
value_whole token LongWord e = ap value_start e
value_whole token StringWord e = ap value_start e

values_choice : IsChoice value_lang IsValueOf value_item value_start
values_choice = record { sound = value_sound; whole = λ token k v p said. value_whole token k said; kind = kind; is = λ k v p. tt; items = items } where
  kind : (v : Option Value) → ⊤ → (k : ValueStart) × IsValueOf k v
  kind None i = (NoValue, refl)
  kind (Some (IntValue n)) i = (IntWord, ((n, tt), refl, (tt, tt)))
  kind (Some (LongValue n)) i = (LongWord, ((n, tt), refl, (tt, tt)))
  kind (Some (StringValue units)) i = (StringWord, ((units, tt), refl, (tt, tt)))

  items : (k : ValueStart) (v : Option Value) → IsValueOf k v → HasFirst value_lang (value_item k) v
  items NoValue v p = subst (HasFirst value_lang Ended) (sym p) refl
  items IntWord v p = subst (HasFirst value_lang (Exactly (codes "int"))) (sym p.1) refl
  items LongWord v p = subst (HasFirst value_lang (Exactly (codes "long"))) (sym p.1) refl
  items StringWord v p = subst (HasFirst value_lang (Exactly (codes "string"))) (sym p.1) refl

abbrev AfterValue : ValueStart → Lang (Option Value)
AfterValue k = after_first value_lang IsValueOf k

value_each : (k : ValueStart) → IsReader (AfterValue k) (value_after k)
value_each NoValue = got_reads (AfterValue NoValue) None refl refl tt (λ v e. e)
value_each IntWord =
    mapped_reads int_lang (AfterValue IntWord) int_of (number (is_signed 31) & line_end)
    (record { items = λ x i. refl; is = λ x i. (x, refl, i); fits = λ x f. f.0; unfit = λ x f. (f, tt); onto = λ v p. p }) int_reads
value_each LongWord =
    mapped_reads long_lang (AfterValue LongWord) long_of (number (is_signed 63) & line_end)
    (record { items = λ x i. refl; is = λ x i. (x, refl, i); fits = λ x f. f.0; unfit = λ x f. (f, tt); onto = λ v p. p }) long_reads
value_each StringWord =
    mapped_reads text_lang (AfterValue StringWord) text_of (string & line_end)
    (record { items = λ x i. refl; is = λ x i. (x, refl, i); fits = λ x f. tt; unfit = λ x f. (tt, tt); onto = λ v p. p }) text_reads

value_some : Started value_lang []
value_some = record { value = None; is = tt; fits = tt; more = place LineEnd ∷ []; said = (refl, tt) }

pub value_reads : IsReader value_lang value
value_reads = choose_reads value_lang IsValueOf value_item value_start values_choice value_after value_some (λ token k e. value_each k)

-- ---- what ldc pushes

abbrev pub literal_lang : Lang Literal
literal_lang = record { items = λ l. literal_items l ++ Ended ∷ []; is = IsLiteralName; fits = IsSizedLiteral }

abbrev class_lang : Lang (Name × ⊤)
class_lang = both (name_lang IsClassText) end_lang

abbrev int_literal : ℤ × ⊤ → Literal
int_literal x = IntLiteral x.0

abbrev text_literal : List ℕ × ⊤ → Literal
text_literal x = StringLiteral x.0

abbrev class_literal : Name × ⊤ → Literal
class_literal x = ClassLiteral x.0

abbrev IsLiteralOf : LiteralStart → Literal → Type 0
IsLiteralOf IntLiteralWord l = IsMade int_literal int_lang.is l
IsLiteralOf StringLiteralWord l = IsMade text_literal text_lang.is l
IsLiteralOf ClassLiteralWord l = IsMade class_literal class_lang.is l

abbrev literal_word : LiteralStart → List ℕ
literal_word IntLiteralWord = codes "int"
literal_word StringLiteralWord = codes "string"
literal_word ClassLiteralWord = codes "class"

abbrev literal_first : LiteralStart → Item
literal_first k = Exactly (literal_word k)

abbrev literal_rows : List (List ℕ × LiteralStart)
literal_rows = (codes "int", IntLiteralWord) ∷ (codes "string", StringLiteralWord) ∷ (codes "class", ClassLiteralWord) ∷ []

literal_row : (k : LiteralStart) → row_of literal_rows (literal_word k) ≡ Some k
literal_row IntLiteralWord = refl
literal_row StringLiteralWord = refl
literal_row ClassLiteralWord = refl

literal_reported : IsReported literal_first all literal_start
literal_reported = rows_reported literal_word literal_rows (refl, (refl, (refl, tt))) literal_row

literals_choice : IsChoice literal_lang IsLiteralOf literal_first literal_start
literals_choice = record { sound = λ token k e. (literal_reported.sound token k e).1; whole = λ token k l p said. literal_reported.whole token k tt said; kind = kind; is = is; items = items } where
  kind : (l : Literal) → IsLiteralName l → (k : LiteralStart) × IsLiteralOf k l
  kind (IntLiteral n) i = (IntLiteralWord, ((n, tt), refl, (tt, tt)))
  kind (StringLiteral units) i = (StringLiteralWord, ((units, tt), refl, (tt, tt)))
  kind (ClassLiteral name) i = (ClassLiteralWord, ((name, tt), refl, (i, tt)))

  is : (k : LiteralStart) (l : Literal) → IsLiteralOf k l → IsLiteralName l
  is IntLiteralWord l p = subst IsLiteralName (sym p.1) tt
  is StringLiteralWord l p = subst IsLiteralName (sym p.1) tt
  is ClassLiteralWord l p = subst IsLiteralName (sym p.1) p.2.0

  items : (k : LiteralStart) (l : Literal) → IsLiteralOf k l → HasFirst literal_lang (literal_first k) l
  items IntLiteralWord l p = subst (HasFirst literal_lang (Exactly (codes "int"))) (sym p.1) refl
  items StringLiteralWord l p = subst (HasFirst literal_lang (Exactly (codes "string"))) (sym p.1) refl
  items ClassLiteralWord l p = subst (HasFirst literal_lang (Exactly (codes "class"))) (sym p.1) refl

abbrev AfterLiteral : LiteralStart → Lang Literal
AfterLiteral k = after_first literal_lang IsLiteralOf k

literal_each : (k : LiteralStart) → IsReader (AfterLiteral k) (literal_after k)
literal_each IntLiteralWord =
    mapped_reads int_lang (AfterLiteral IntLiteralWord) int_literal (number (is_signed 31) & line_end)
    (record { items = λ x i. refl; is = λ x i. (x, refl, i); fits = λ x f. f.0; unfit = λ x f. (f, tt); onto = λ l p. p }) int_reads
literal_each StringLiteralWord =
    mapped_reads text_lang (AfterLiteral StringLiteralWord) text_literal (string & line_end)
    (record { items = λ x i. refl; is = λ x i. (x, refl, i); fits = λ x f. tt; unfit = λ x f. (tt, tt); onto = λ l p. p }) text_reads
literal_each ClassLiteralWord =
    mapped_reads class_lang (AfterLiteral ClassLiteralWord) class_literal (name class_text_test & line_end)
    (record { items = λ x i. refl; is = λ x i. (x, refl, i); fits = λ x f. tt; unfit = λ x f. (tt, tt); onto = λ l p. p })
    (sequence_reads (name_lang IsClassText) end_lang (name class_text_test) line_end class_text_reads end_reads)

literal_some : Started literal_lang []
literal_some = record { value = StringLiteral []; is = tt; fits = tt; more = place (Word (codes "string")) ∷ place (Quoted []) ∷ place LineEnd ∷ []; said = (refl, (refl, (refl, tt))) }

pub literal_reads : IsReader literal_lang literal
literal_reads = choose_reads literal_lang IsLiteralOf literal_first literal_start literals_choice literal_after literal_some (λ token k e. literal_each k)

-- ---- `interface`

abbrev pub interface_lang : Lang Bool
interface_lang = record { items = λ b. interface_items b ++ Ended ∷ []; is = all; fits = all }

abbrev true_of : ⊤ → Bool
true_of x = true

abbrev IsMarked : Bool → Bool → Type 0
IsMarked false b = b ≡ false
IsMarked true b = IsMade true_of all b

abbrev marked_item : Bool → Item
marked_item false = Ended
marked_item true = Exactly (codes "interface")

marked_sound : (token : Token) (k : Bool) → interface_start token ≡ Some k → Says (marked_item k) token
marked_sound LineEnd k e = subst (λ j. Says (marked_item j) LineEnd) (some_is false k e) refl
marked_sound (Word word) true e = ap Word (row_sound (λ k. codes "interface") ((codes "interface", true) ∷ []) word true (refl, tt) e)
marked_sound (Word word) false e = absurd (true≢false (sym (row_value (λ k. k ≡ true) ((codes "interface", true) ∷ []) word false (refl, tt) e)))
marked_sound (Quoted units) k e = absurd cc
marked_sound Bad k e = absurd cc

marked_whole : (token : Token) (k : Bool) → Says (marked_item k) token → interface_start token ≡ Some k
marked_whole token false e = ap interface_start e
marked_whole token true e = ap interface_start e

marked_choice : IsChoice interface_lang IsMarked marked_item interface_start
marked_choice = record { sound = marked_sound; whole = λ token k b p said. marked_whole token k said; kind = kind; is = λ k b p. tt; items = items } where
  kind : (b : Bool) → ⊤ → (k : Bool) × IsMarked k b
  kind false i = (false, refl)
  kind true i = (true, (tt, refl, tt))

  items : (k : Bool) (b : Bool) → IsMarked k b → HasFirst interface_lang (marked_item k) b
  items false b p = subst (HasFirst interface_lang Ended) (sym p) refl
  items true b p = subst (HasFirst interface_lang (Exactly (codes "interface"))) (sym p.1) refl

abbrev AfterMark : Bool → Lang Bool
AfterMark k = after_first interface_lang IsMarked k

marked_each : (k : Bool) → IsReader (AfterMark k) (interface_after k)
marked_each false = got_reads (AfterMark false) false refl refl tt (λ b e. e)
marked_each true =
    mapped_reads end_lang (AfterMark true) true_of line_end
    (record { items = λ x i. refl; is = λ x i. (x, refl, i); fits = λ x f. tt; unfit = λ x f. tt; onto = λ b p. p }) end_reads

marked_some : Started interface_lang []
marked_some = record { value = false; is = tt; fits = tt; more = place LineEnd ∷ []; said = (refl, tt) }

pub interface_reads : IsReader interface_lang interface_end
interface_reads = choose_reads interface_lang IsMarked marked_item interface_start marked_choice interface_after marked_some (λ token k e. marked_each k)
