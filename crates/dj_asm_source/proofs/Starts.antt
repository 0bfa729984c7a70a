-- What first words begin: labels, instructions and directives, of which no two have one word.
use Rattle.std.proofs.Common.{◌≡◌, ◌≢◌, ℕ, zero, suc, ◌+◌, ◌-◌, ◌<◌, ◌≤◌, Bool, true, false, cond, eqb, ◌&&◌, List, [], ◌∷◌, ◌++◌, length, Option, Some, None, is_none, codes, slice_get, option_map, refl, sym, ap, ◌∙◌, subst, arith, unwrap_or}
use Rattle.std.specs.Prelude.{⊤}
use Rattle.std.specs.List.{AllByRecursion, list_all}
use Rattle.std.proofs.lemmas.Bool.{and_parts, eqb-true}
use Rattle.dj_cursor.proofs.Options.{some_is, chose_some, bind_some}
use Rattle.dj_cursor.specs.trusted.Options.{◌>>=◌}
use Rattle.dj_asm_tokens.specs.trusted.Words.{Word}
use Rattle.dj_asm_source.specs.trusted.Items.{Item, Exactly}
use Rattle.dj_asm_tokens.specs.trusted.Mnemonics.{mnemonics, mnemonic}
use Rattle.dj_asm_tokens.specs.WordReading.{tested, row_of, place_from, before_colon, is_some_label, label_in}
use Rattle.dj_asm_source.specs.Reading.{opcode_of}
use Rattle.dj_asm_source.specs.LineReading.{LineStart, ClassLine, VersionLine, SuperLine, ImplementsLine, FieldLine, AbstractLine, MethodLine, StackLine, LocalsLine, CatchLine, FrameLine, EndLine, LabelLine, OperationLine, directives, or_else, start_in}
use Rattle.dj_asm_source.proofs.WordLaws.{IsWordReported, word_reported, row_sound, row_value, apart}
use Rattle.dj_asm_source.proofs.TypeWords.{mapped_some, some_label_decides, places_reported, there}
use Rattle.dj_asm_source.proofs.Choices.{IsReported}

-- ---- labels

colon_sound : (word label : List ℕ) → before_colon word ≡ Some label → word ≡ label ++ codes ":"
colon_sound [] label e = absurd cc
colon_sound (b ∷ []) label e =
    let c = chose_some (eqb b 58) [] label e in
    ap (λ u. u ∷ []) (eqb-true b 58 c.0) ∙ ap (λ l. l ++ codes ":") c.1
colon_sound (b ∷ c ∷ bs) label e =
    let m = mapped_some (λ l. b ∷ l) (before_colon (c ∷ bs)) label e in
    ap (λ l. b ∷ l) (colon_sound (c ∷ bs) m.0 m.1) ∙ ap (λ l. l ++ codes ":") m.2

colon_whole : (label : List ℕ) → before_colon (label ++ codes ":") ≡ Some label
colon_whole [] = refl
colon_whole (b ∷ []) = refl
colon_whole (b ∷ c ∷ bs) = ap (option_map (λ l. b ∷ l)) (colon_whole (c ∷ bs))

label_in_sound : (word label : List ℕ) → label_in word ≡ Some label → (label ≢ []) × (word ≡ label ++ codes ":")
label_in_sound word label e =
    let b = bind_some (before_colon word) (tested is_some_label) label e in
    let c = chose_some (is_some_label b.0) b.0 label b.2 in
    (subst (λ l. l ≢ []) c.1 ((some_label_decides b.0).0 c.0), colon_sound word b.0 b.1 ∙ ap (λ l. l ++ codes ":") c.1)

label_in_whole : (label : List ℕ) → label ≢ [] → label_in (label ++ codes ":") ≡ Some label
label_in_whole label some =
    ap (λ o. o >>= tested is_some_label) (colon_whole label) ∙ ap (λ b. cond b (Some label) None) ((some_label_decides label).1 some)

-- ---- instructions

mnemonics_differ : apart mnemonics ≡ true
unfolding mnemonics
mnemonics_differ = refl

mnemonic_count : length mnemonics ≡ 203
unfolding mnemonics
mnemonic_count = refl

pub opcode_word_reported : IsWordReported (λ op. Exactly (mnemonic op)) (λ op. op < 203) (place_from 0 mnemonics)
opcode_word_reported = record {
  sound = λ word op e. let s = p.sound word op e in (omega (arith, s.0.1, mnemonic_count), subst (λ i. Word word ≡ Word (unwrap_or (slice_get mnemonics i) [])) (less_none op) s.1);
  whole = λ token op l e. p.whole token op (omega arith, omega (arith, l, mnemonic_count)) (subst (λ i. token ≡ Word (unwrap_or (slice_get mnemonics i) [])) (sym (less_none op)) e);
} where
  less_none : (op : ℕ) → op - 0 ≡ op
  less_none op = omega arith

  p : IsWordReported (λ i. Exactly (unwrap_or (slice_get mnemonics (i - 0)) [])) (λ i. (0 ≤ i) × (i < 0 + length mnemonics)) (place_from 0 mnemonics)
  p = places_reported 0 mnemonics mnemonics_differ

pub opcode_reported : IsReported (λ op. Exactly (mnemonic op)) (λ op. op < 203) opcode_of
opcode_reported = word_reported (λ op. Exactly (mnemonic op)) (λ op. op < 203) (place_from 0 mnemonics) opcode_word_reported

-- ---- lines

abbrev pub start_word : LineStart → List ℕ
start_word ClassLine = codes ".class"
start_word VersionLine = codes ".version"
start_word SuperLine = codes ".super"
start_word ImplementsLine = codes ".implements"
start_word FieldLine = codes ".field"
start_word AbstractLine = codes ".abstract"
start_word MethodLine = codes ".method"
start_word StackLine = codes ".stack"
start_word LocalsLine = codes ".locals"
start_word CatchLine = codes ".catch"
start_word FrameLine = codes ".frame"
start_word EndLine = codes ".end"
start_word (LabelLine label) = label ++ codes ":"
start_word (OperationLine op) = mnemonic op

abbrev pub start_item : LineStart → Item
start_item start = Exactly (start_word start)

abbrev pub IsStart : LineStart → Type 0
IsStart (LabelLine label) = label ≢ []
IsStart (OperationLine op) = op < 203
IsStart start = ⊤

-- whether a start is a directive's
abbrev is_directive : LineStart → Bool
is_directive (LabelLine label) = false
is_directive (OperationLine op) = false
is_directive start = true

directive_rows : AllByRecursion (λ (row : List ℕ × LineStart). row.0 ≡ start_word row.1) directives
directive_rows = (refl, (refl, (refl, (refl, (refl, (refl, (refl, (refl, (refl, (refl, (refl, (refl, tt))))))))))))

directive_starts : AllByRecursion (λ (row : List ℕ × LineStart). IsStart row.1) directives
directive_starts = (tt, (tt, (tt, (tt, (tt, (tt, (tt, (tt, (tt, (tt, (tt, (tt, tt))))))))))))

directive_colons : AllByRecursion (λ (row : List ℕ × LineStart). before_colon (start_word row.1) ≡ None) directives
directive_colons = (refl, (refl, (refl, (refl, (refl, (refl, (refl, (refl, (refl, (refl, (refl, (refl, tt))))))))))))

start_sound : (word : List ℕ) (start : LineStart) → start_in word ≡ Some start → IsStart start × (Word word ≡ Word (start_word start))
start_sound word start e = by (row_of directives word) refl e where
  operation : option_map OperationLine (place_from 0 mnemonics word) ≡ Some start → IsStart start × (Word word ≡ Word (start_word start))
  operation e =
      let m = mapped_some OperationLine (place_from 0 mnemonics word) start e in
      subst (λ k. IsStart k × (Word word ≡ Word (start_word k))) m.2 (opcode_word_reported.sound word m.0 m.1)

  label : (o : Option (List ℕ)) → label_in word ≡ o → or_else (option_map LabelLine o) (option_map OperationLine (place_from 0 mnemonics word)) ≡ Some start → IsStart start × (Word word ≡ Word (start_word start))
  label (Some l) t e =
      let s = label_in_sound word l t in
      subst (λ k. IsStart k × (Word word ≡ Word (start_word k))) (some_is (LabelLine l) start e) (s.0, ap Word s.1)
  label None t e = operation e

  by : (o : Option LineStart) → row_of directives word ≡ o
      → or_else o (or_else (option_map LabelLine (label_in word)) (option_map OperationLine (place_from 0 mnemonics word))) ≡ Some start
      → IsStart start × (Word word ≡ Word (start_word start))
  by (Some k) t e =
      subst (λ j. IsStart j × (Word word ≡ Word (start_word j))) (some_is k start e)
      (row_value IsStart directives word k directive_starts t, ap Word (row_sound start_word directives word k directive_rows t))
  by None t e = label (label_in word) refl e

-- no directive ends with a colon
no_colon : (word : List ℕ) (label : List ℕ) → before_colon word ≡ Some label → row_of directives word ≡ None
no_colon word label c = by (row_of directives word) refl where
  by : (o : Option LineStart) → row_of directives word ≡ o → o ≡ None
  by None t = refl
  by (Some k) t =
      let none = row_value (λ j. before_colon (start_word j) ≡ None) directives word k directive_colons t in
      let same = row_sound start_word directives word k directive_rows t in
      let found : before_colon (start_word k) ≡ Some label = sym (ap before_colon same) ∙ c in
      absurd cc (none, found)

-- no mnemonic is a directive or ends with a colon
abbrev is_apart : List ℕ → Bool
is_apart word = is_none (row_of directives word) && is_none (before_colon word)

mnemonics_apart : list_all is_apart mnemonics ≡ true
unfolding mnemonics
mnemonics_apart = refl

one_apart : (words : List (List ℕ)) (i : ℕ) (word : List ℕ) → list_all is_apart words ≡ true → slice_get words i ≡ Some word → is_apart word ≡ true
one_apart [] i word all e = absurd cc
one_apart (w ∷ ws) zero word all e = ap is_apart (sym (some_is w word e)) ∙ (and_parts (is_apart w) (list_all is_apart ws) all).0
one_apart (w ∷ ws) (suc i) word all e = one_apart ws i word (and_parts (is_apart w) (list_all is_apart ws) all).1 e

none_is : {A : Type 0} (o : Option A) → is_none o ≡ true → o ≡ None
none_is None e = refl
none_is (Some x) e = absurd cc

mnemonic_apart : (op : ℕ) → op < 203 → (row_of directives (mnemonic op) ≡ None) × (before_colon (mnemonic op) ≡ None)
mnemonic_apart op l =
    let a = one_apart mnemonics op (mnemonic op) mnemonics_apart (there mnemonics op (omega (arith, l, mnemonic_count))) in
    let b = and_parts (is_none (row_of directives (mnemonic op))) (is_none (before_colon (mnemonic op))) a in
    (none_is (row_of directives (mnemonic op)) b.0, none_is (before_colon (mnemonic op)) b.1)

start_whole : (start : LineStart) → IsStart start → start_in (start_word start) ≡ Some start
start_whole ClassLine i = refl
start_whole VersionLine i = refl
start_whole SuperLine i = refl
start_whole ImplementsLine i = refl
start_whole FieldLine i = refl
start_whole AbstractLine i = refl
start_whole MethodLine i = refl
start_whole StackLine i = refl
start_whole LocalsLine i = refl
start_whole CatchLine i = refl
start_whole FrameLine i = refl
start_whole EndLine i = refl
start_whole (LabelLine label) i =
    let word = label ++ codes ":" in
    ap (λ o. or_else o (or_else (option_map LabelLine (label_in word)) (option_map OperationLine (place_from 0 mnemonics word)))) (no_colon word label (colon_whole label))
    ∙ ap (λ o. or_else (option_map LabelLine o) (option_map OperationLine (place_from 0 mnemonics word))) (label_in_whole label i)
start_whole (OperationLine op) i =
    let word = mnemonic op in
    let a = mnemonic_apart op i in
    ap (λ o. or_else o (or_else (option_map LabelLine (label_in word)) (option_map OperationLine (place_from 0 mnemonics word)))) a.0
    ∙ (ap (λ o. or_else (option_map LabelLine (o >>= tested is_some_label)) (option_map OperationLine (place_from 0 mnemonics word))) a.1
    ∙ ap (option_map OperationLine) (place_of op i)) where
      place_of : (op : ℕ) → op < 203 → place_from 0 mnemonics (mnemonic op) ≡ Some op
      place_of op l = from (opcode_word_reported.whole (Word (mnemonic op)) op l refl) where
        from : (word : List ℕ) × (Word (mnemonic op) ≡ Word word) × (place_from 0 mnemonics word ≡ Some op) → place_from 0 mnemonics (mnemonic op) ≡ Some op
        from (word, same, e) = let equal : word ≡ mnemonic op = cc in subst (λ w. place_from 0 mnemonics w ≡ Some op) equal e

pub start_word_reported : IsWordReported start_item IsStart start_in
start_word_reported = record { sound = start_sound; whole = λ token start i e. (start_word start, e, start_whole start i) }
