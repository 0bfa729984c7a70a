-- Lines are read by their first words.
use Rattle.std.proofs.Common.{◌≡◌, ℕ, true, cond, ℤ, [], ◌∷◌, drop, Option, Some, None, is_some, refl, sym, ap, ◌∙◌, subst, arith}
use Rattle.std.specs.Prelude.{⊤}
use Rattle.dj_cursor.proofs.Options.{bind_some, chose_some}
use Rattle.dj_cursor.specs.trusted.Options.{◌>>=◌}
use Rattle.dj_names.specs.trusted.Types.{Name}
use Rattle.dj_names.specs.trusted.Names.{IsUnqualifiedName, IsMethodName, IsClassName}
use Rattle.dj_names.specs.trusted.Descriptors.{IsFieldDescriptor, IsMethodDescriptor}
use Rattle.dj_names.specs.Tests.{unqualified_name_test, method_name_test, field_descriptor_test, method_descriptor_test}
use Rattle.dj_ops.specs.trusted.Forms.{form_of}
use Rattle.dj_asm_tokens.specs.trusted.Words.{Token, Word}
use Rattle.dj_asm_source.specs.trusted.Items.{Says}
use Rattle.dj_asm_source.specs.trusted.Lines.{Label, Value, Frame, Operation, Labelled, Catch, Line, Class, Version, Super, Implements, Field, Abstract, Method, Stack, Locals, Beside, Framed, Does, End, IsLine, IsSized, FitsBits}
use Rattle.dj_asm_source.specs.trusted.Sources.{line_items}
use Rattle.dj_asm_source.specs.Order.{State, AtClass, AtVersion, AtSuper, AtInterfaces, AtFields, AtMethods, AtStack, AtLocals, InBody, InFrame, after}
use Rattle.dj_asm_tokens.specs.WordReading.{tested}
use Rattle.dj_asm_source.specs.Reading.{◌&◌, word_of}
use Rattle.dj_asm_source.specs.LineReading.{LineStart, ClassLine, VersionLine, SuperLine, ImplementsLine, FieldLine, AbstractLine, MethodLine, StackLine, LocalsLine, CatchLine, FrameLine, EndLine, LabelLine, OperationLine, start_in, may_begin, line_start, line_after, line, line_end, flags, number, name, label, caught, value, frame, class_name, fits_16, operation}
use Rattle.dj_asm_source.proofs.Readers.{Lang, Started, IsReader, both, sequence_reads, IsMade, mapped_reads}
use Rattle.dj_asm_source.proofs.Choices.{after_first, IsChoice, IsReported, choose_reads, kind_started, place}
use Rattle.dj_asm_source.proofs.WordLaws.{word_reported, bits_decide}
use Rattle.dj_asm_source.proofs.Starts.{start_item, start_word, IsStart, start_word_reported}
use Rattle.dj_asm_source.proofs.FieldReaders.{all, end_lang, end_reads, flags_lang, flags_reads, label_lang, label_reads, number_lang, number_reads, name_lang, class_name_reads, field_name_reads, method_name_reads, field_desc_reads, method_desc_reads, caught_lang, caught_reads}
use Rattle.dj_asm_source.proofs.ValueReaders.{value_lang, value_reads}
use Rattle.dj_asm_source.proofs.FrameReaders.{frames_lang, frame_reads}
use Rattle.dj_asm_source.proofs.OperationReaders.{IsOperationBy, Operands}
use Rattle.dj_asm_source.proofs.Operations.{operation_reads, operation_whole, operation_kind}
use Rattle.dj_asm_source.proofs.LineOrder.{after_class, after_version, after_super, after_implements, after_field, after_abstract, after_method, after_stack, after_locals, after_catch, after_frame, after_end, after_label, after_operation}

-- ---- what is made

abbrev class_line : ℕ × (Name × ⊤) → Line
class_line x = Class x.0 x.1.0

abbrev version_line : ℤ × (ℤ × ⊤) → Line
version_line x = Version x.0 x.1.0

abbrev super_line : Name × ⊤ → Line
super_line x = Super x.0

abbrev implements_line : Name × ⊤ → Line
implements_line x = Implements x.0

abbrev field_line : ℕ × (Name × (Name × Option Value)) → Line
field_line x = Field x.0 x.1.0 x.1.1.0 x.1.1.1

abbrev abstract_line : ℕ × (Name × (Name × ⊤)) → Line
abstract_line x = Abstract x.0 x.1.0 x.1.1.0

abbrev method_line : ℕ × (Name × (Name × ⊤)) → Line
method_line x = Method x.0 x.1.0 x.1.1.0

abbrev stack_line : ℤ × ⊤ → Line
stack_line x = Stack x.0

abbrev locals_line : ℤ × ⊤ → Line
locals_line x = Locals x.0

abbrev catch_line : Option Name × (Label × (Label × (Label × ⊤))) → Line
catch_line x = Beside (Catch x.0 x.1.0 x.1.1.0 x.1.1.1.0)

abbrev frame_line : Frame → Line
frame_line x = Framed x

abbrev last_line : ⊤ → Line
last_line x = End

abbrev label_line : Label → ⊤ → Line
label_line defined x = Beside (Labelled defined)

abbrev operation_line : Operation → Line
operation_line x = Does x

-- ---- the languages of what stands after first words

abbrev class_lang : Lang (ℕ × (Name × ⊤))
class_lang = both flags_lang (both (name_lang IsClassName) end_lang)

abbrev count_lang : Lang (ℤ × ⊤)
count_lang = both (number_lang (FitsBits 16)) end_lang

abbrev version_lang : Lang (ℤ × (ℤ × ⊤))
version_lang = both (number_lang (FitsBits 16)) count_lang

abbrev named_lang : Lang (Name × ⊤)
named_lang = both (name_lang IsClassName) end_lang

abbrev field_lang : Lang (ℕ × (Name × (Name × Option Value)))
field_lang = both flags_lang (both (name_lang IsUnqualifiedName) (both (name_lang IsFieldDescriptor) value_lang))

abbrev method_lang : Lang (ℕ × (Name × (Name × ⊤)))
method_lang = both flags_lang (both (name_lang IsMethodName) (both (name_lang IsMethodDescriptor) end_lang))

abbrev catch_lang : Lang (Option Name × (Label × (Label × (Label × ⊤))))
catch_lang = both caught_lang (both label_lang (both label_lang (both label_lang end_lang)))

abbrev IsLineOf : LineStart → Line → Type 0
IsLineOf ClassLine l = IsMade class_line class_lang.is l
IsLineOf VersionLine l = IsMade version_line version_lang.is l
IsLineOf SuperLine l = IsMade super_line named_lang.is l
IsLineOf ImplementsLine l = IsMade implements_line named_lang.is l
IsLineOf FieldLine l = IsMade field_line field_lang.is l
IsLineOf AbstractLine l = IsMade abstract_line method_lang.is l
IsLineOf MethodLine l = IsMade method_line method_lang.is l
IsLineOf StackLine l = IsMade stack_line count_lang.is l
IsLineOf LocalsLine l = IsMade locals_line count_lang.is l
IsLineOf CatchLine l = IsMade catch_line catch_lang.is l
IsLineOf FrameLine l = IsMade frame_line frames_lang.is l
IsLineOf EndLine l = IsMade last_line all l
IsLineOf (LabelLine defined) l = IsMade (label_line defined) all l
IsLineOf (OperationLine op) l = IsMade operation_line (IsOperationBy op (form_of op)) l

-- ---- lines in a state

abbrev pub lines_lang : State → Lang Line
lines_lang state = record { items = line_items; is = λ l. IsLine l × (is_some (after state l) ≡ true); fits = IsSized }

abbrev IsLineIn : State → LineStart → Line → Type 0
IsLineIn state start l = (may_begin state start ≡ true) × IsStart start × IsLineOf start l

follows : (state : State) (start : LineStart) (l : Line) → IsLineOf start l → is_some (after state l) ≡ may_begin state start
follows state ClassLine l (x, e, i) = ap (λ k. is_some (after state k)) e ∙ after_class state x.0 x.1.0
follows state VersionLine l (x, e, i) = ap (λ k. is_some (after state k)) e ∙ after_version state x.0 x.1.0
follows state SuperLine l (x, e, i) = ap (λ k. is_some (after state k)) e ∙ after_super state x.0
follows state ImplementsLine l (x, e, i) = ap (λ k. is_some (after state k)) e ∙ after_implements state x.0
follows state FieldLine l (x, e, i) = ap (λ k. is_some (after state k)) e ∙ after_field state x.0 x.1.0 x.1.1.0 x.1.1.1
follows state AbstractLine l (x, e, i) = ap (λ k. is_some (after state k)) e ∙ after_abstract state x.0 x.1.0 x.1.1.0
follows state MethodLine l (x, e, i) = ap (λ k. is_some (after state k)) e ∙ after_method state x.0 x.1.0 x.1.1.0
follows state StackLine l (x, e, i) = ap (λ k. is_some (after state k)) e ∙ after_stack state x.0
follows state LocalsLine l (x, e, i) = ap (λ k. is_some (after state k)) e ∙ after_locals state x.0
follows state CatchLine l (x, e, i) = ap (λ k. is_some (after state k)) e ∙ after_catch state x.0 x.1.0 x.1.1.0 x.1.1.1.0
follows state FrameLine l (x, e, i) = ap (λ k. is_some (after state k)) e ∙ after_frame state x
follows state EndLine l (x, e, i) = ap (λ k. is_some (after state k)) e ∙ after_end state
follows state (LabelLine defined) l (x, e, i) = ap (λ k. is_some (after state k)) e ∙ after_label state defined
follows state (OperationLine op) l (x, e, i) = ap (λ k. is_some (after state k)) e ∙ after_operation state op x

kind_of : (l : Line) → IsLine l → (start : LineStart) × IsStart start × IsLineOf start l
kind_of (Class flags name) i = (ClassLine, tt, ((flags, (name, tt)), refl, (tt, (i, tt))))
kind_of (Version major minor) i = (VersionLine, tt, ((major, (minor, tt)), refl, (tt, (tt, tt))))
kind_of (Super name) i = (SuperLine, tt, ((name, tt), refl, (i, tt)))
kind_of (Implements name) i = (ImplementsLine, tt, ((name, tt), refl, (i, tt)))
kind_of (Field flags name desc value) i = (FieldLine, tt, ((flags, (name, (desc, value))), refl, (tt, (i.0, (i.1, tt)))))
kind_of (Abstract flags name desc) i = (AbstractLine, tt, ((flags, (name, (desc, tt))), refl, (tt, (i.0, (i.1, tt)))))
kind_of (Method flags name desc) i = (MethodLine, tt, ((flags, (name, (desc, tt))), refl, (tt, (i.0, (i.1, tt)))))
kind_of (Stack n) i = (StackLine, tt, ((n, tt), refl, (tt, tt)))
kind_of (Locals n) i = (LocalsLine, tt, ((n, tt), refl, (tt, tt)))
kind_of (Beside (Labelled defined)) i = (LabelLine defined, i, (tt, refl, tt))
kind_of (Beside (Catch class from to handler)) i = (CatchLine, tt, ((class, (from, (to, (handler, tt)))), refl, (i, (tt, (tt, (tt, tt))))))
kind_of (Framed f) i = (FrameLine, tt, (f, refl, i))
kind_of (Does o) i = let k = operation_kind o i in (OperationLine k.0, k.1, (o, refl, k.2))
kind_of End i = (EndLine, tt, (tt, refl, tt))

is_line : (start : LineStart) (l : Line) → IsStart start → IsLineOf start l → IsLine l
is_line ClassLine l s p = subst IsLine (sym p.1) p.2.1.0
is_line VersionLine l s p = subst IsLine (sym p.1) tt
is_line SuperLine l s p = subst IsLine (sym p.1) p.2.0
is_line ImplementsLine l s p = subst IsLine (sym p.1) p.2.0
is_line FieldLine l s p = subst IsLine (sym p.1) (p.2.1.0, p.2.1.1.0)
is_line AbstractLine l s p = subst IsLine (sym p.1) (p.2.1.0, p.2.1.1.0)
is_line MethodLine l s p = subst IsLine (sym p.1) (p.2.1.0, p.2.1.1.0)
is_line StackLine l s p = subst IsLine (sym p.1) tt
is_line LocalsLine l s p = subst IsLine (sym p.1) tt
is_line CatchLine l s p = subst IsLine (sym p.1) p.2.0
is_line FrameLine l s p = subst IsLine (sym p.1) p.2
is_line EndLine l s p = subst IsLine (sym p.1) tt
is_line (LabelLine defined) l s p = subst IsLine (sym p.1) s
is_line (OperationLine op) l s p = subst IsLine (sym p.1) (operation_whole op s p.0 p.2).0

abbrev HasStart : LineStart → Line → Type 0
HasStart start l = line_items l ≡ start_item start ∷ drop 1 (line_items l)

has_start : (start : LineStart) (l : Line) → IsStart start → IsLineOf start l → HasStart start l
has_start ClassLine l s p = subst (HasStart ClassLine) (sym p.1) refl
has_start VersionLine l s p = subst (HasStart VersionLine) (sym p.1) refl
has_start SuperLine l s p = subst (HasStart SuperLine) (sym p.1) refl
has_start ImplementsLine l s p = subst (HasStart ImplementsLine) (sym p.1) refl
has_start FieldLine l s p = subst (HasStart FieldLine) (sym p.1) refl
has_start AbstractLine l s p = subst (HasStart AbstractLine) (sym p.1) refl
has_start MethodLine l s p = subst (HasStart MethodLine) (sym p.1) refl
has_start StackLine l s p = subst (HasStart StackLine) (sym p.1) refl
has_start LocalsLine l s p = subst (HasStart LocalsLine) (sym p.1) refl
has_start CatchLine l s p = subst (HasStart CatchLine) (sym p.1) refl
has_start FrameLine l s p = subst (HasStart FrameLine) (sym p.1) refl
has_start EndLine l s p = subst (HasStart EndLine) (sym p.1) refl
has_start (LabelLine defined) l s p = subst (HasStart (LabelLine defined)) (sym p.1) refl
has_start (OperationLine op) l s p = subst (HasStart (OperationLine op)) (sym p.1) (operation_whole op s p.0 p.2).1

start_reported : IsReported start_item IsStart (λ token. word_of token >>= start_in)
start_reported = word_reported start_item IsStart start_in start_word_reported

line_start_sound : (state : State) (token : Token) (start : LineStart) → line_start state token ≡ Some start → (may_begin state start ≡ true) × IsStart start × Says (start_item start) token
line_start_sound state token start e =
    let b = bind_some (word_of token >>= start_in) (tested (may_begin state)) start e in
    let c = chose_some (may_begin state b.0) b.0 start b.2 in
    let s = start_reported.sound token b.0 b.1 in
    (subst (λ k. may_begin state k ≡ true) c.1 c.0, subst IsStart c.1 s.0, subst (λ k. Says (start_item k) token) c.1 s.1)

line_choice : (state : State) → IsChoice (lines_lang state) (IsLineIn state) start_item (line_start state)
line_choice state = record {
  sound = λ token start e. (line_start_sound state token start e).2;
  whole = λ token start l p said. ap (λ o. o >>= tested (may_begin state)) (start_reported.whole token start p.1 said) ∙ ap (λ b. cond b (Some start) None) p.0;
  kind = λ l i. let k = kind_of l i.0 in (k.0, (sym (follows state k.0 l k.2) ∙ i.1, k.1, k.2));
  is = λ start l p. (is_line start l p.1 p.2, follows state start l p.2 ∙ p.0);
  items = λ start l p. has_start start l p.1 p.2;
}

-- ---- readers

count_reads : IsReader count_lang (number fits_16 & line_end)
count_reads = sequence_reads (number_lang (FitsBits 16)) end_lang (number fits_16) line_end (number_reads fits_16 (FitsBits 16) (bits_decide 16 65535 refl) refl) end_reads

named_reads : IsReader named_lang (class_name & line_end)
named_reads = sequence_reads (name_lang IsClassName) end_lang class_name line_end class_name_reads end_reads

method_reads : IsReader method_lang (flags & (name method_name_test & (name method_descriptor_test & line_end)))
method_reads =
    sequence_reads flags_lang (both (name_lang IsMethodName) (both (name_lang IsMethodDescriptor) end_lang)) flags (name method_name_test & (name method_descriptor_test & line_end)) flags_reads
    (sequence_reads (name_lang IsMethodName) (both (name_lang IsMethodDescriptor) end_lang) (name method_name_test) (name method_descriptor_test & line_end) method_name_reads
    (sequence_reads (name_lang IsMethodDescriptor) end_lang (name method_descriptor_test) line_end method_desc_reads end_reads))

field_reads : IsReader field_lang (flags & (name unqualified_name_test & (name field_descriptor_test & value)))
field_reads =
    sequence_reads flags_lang (both (name_lang IsUnqualifiedName) (both (name_lang IsFieldDescriptor) value_lang)) flags (name unqualified_name_test & (name field_descriptor_test & value)) flags_reads
    (sequence_reads (name_lang IsUnqualifiedName) (both (name_lang IsFieldDescriptor) value_lang) (name unqualified_name_test) (name field_descriptor_test & value) field_name_reads
    (sequence_reads (name_lang IsFieldDescriptor) value_lang (name field_descriptor_test) value field_desc_reads value_reads))

catch_reads : IsReader catch_lang (caught & (label & (label & (label & line_end))))
catch_reads =
    sequence_reads caught_lang (both label_lang (both label_lang (both label_lang end_lang))) caught (label & (label & (label & line_end))) caught_reads
    (sequence_reads label_lang (both label_lang (both label_lang end_lang)) label (label & (label & line_end)) label_reads
    (sequence_reads label_lang (both label_lang end_lang) label (label & line_end) label_reads
    (sequence_reads label_lang end_lang label line_end label_reads end_reads)))

module _ (state : State) where
  abbrev After : LineStart → Lang Line
  After start = after_first (lines_lang state) (IsLineIn state) start

  line_each : (start : LineStart) → may_begin state start ≡ true → IsStart start → IsReader (After start) (line_after start)
  line_each ClassLine t s =
      mapped_reads class_lang (After ClassLine) class_line (flags & (class_name & line_end))
      (record { items = λ x i. refl; is = λ x i. (t, s, (x, refl, i)); fits = λ x f. tt; unfit = λ x f. (tt, (tt, tt)); onto = λ l p. p.2 })
      (sequence_reads flags_lang named_lang flags (class_name & line_end) flags_reads named_reads)
  line_each VersionLine t s =
      mapped_reads version_lang (After VersionLine) version_line (number fits_16 & (number fits_16 & line_end))
      (record { items = λ x i. refl; is = λ x i. (t, s, (x, refl, i)); fits = λ x f. (f.0, f.1.0); unfit = λ x f. (f.0, (f.1, tt)); onto = λ l p. p.2 })
      (sequence_reads (number_lang (FitsBits 16)) count_lang (number fits_16) (number fits_16 & line_end) (number_reads fits_16 (FitsBits 16) (bits_decide 16 65535 refl) refl) count_reads)
  line_each SuperLine t s =
      mapped_reads named_lang (After SuperLine) super_line (class_name & line_end)
      (record { items = λ x i. refl; is = λ x i. (t, s, (x, refl, i)); fits = λ x f. tt; unfit = λ x f. (tt, tt); onto = λ l p. p.2 }) named_reads
  line_each ImplementsLine t s =
      mapped_reads named_lang (After ImplementsLine) implements_line (class_name & line_end)
      (record { items = λ x i. refl; is = λ x i. (t, s, (x, refl, i)); fits = λ x f. tt; unfit = λ x f. (tt, tt); onto = λ l p. p.2 }) named_reads
  line_each FieldLine t s =
      mapped_reads field_lang (After FieldLine) field_line (flags & (name unqualified_name_test & (name field_descriptor_test & value)))
      (record { items = λ x i. refl; is = λ x i. (t, s, (x, refl, i)); fits = λ x f. f.1.1.1; unfit = λ x f. (tt, (tt, (tt, f))); onto = λ l p. p.2 }) field_reads
  line_each AbstractLine t s =
      mapped_reads method_lang (After AbstractLine) abstract_line (flags & (name method_name_test & (name method_descriptor_test & line_end)))
      (record { items = λ x i. refl; is = λ x i. (t, s, (x, refl, i)); fits = λ x f. tt; unfit = λ x f. (tt, (tt, (tt, tt))); onto = λ l p. p.2 }) method_reads
  line_each MethodLine t s =
      mapped_reads method_lang (After MethodLine) method_line (flags & (name method_name_test & (name method_descriptor_test & line_end)))
      (record { items = λ x i. refl; is = λ x i. (t, s, (x, refl, i)); fits = λ x f. tt; unfit = λ x f. (tt, (tt, (tt, tt))); onto = λ l p. p.2 }) method_reads
  line_each StackLine t s =
      mapped_reads count_lang (After StackLine) stack_line (number fits_16 & line_end)
      (record { items = λ x i. refl; is = λ x i. (t, s, (x, refl, i)); fits = λ x f. f.0; unfit = λ x f. (f, tt); onto = λ l p. p.2 }) count_reads
  line_each LocalsLine t s =
      mapped_reads count_lang (After LocalsLine) locals_line (number fits_16 & line_end)
      (record { items = λ x i. refl; is = λ x i. (t, s, (x, refl, i)); fits = λ x f. f.0; unfit = λ x f. (f, tt); onto = λ l p. p.2 }) count_reads
  line_each CatchLine t s =
      mapped_reads catch_lang (After CatchLine) catch_line (caught & (label & (label & (label & line_end))))
      (record { items = λ x i. refl; is = λ x i. (t, s, (x, refl, i)); fits = λ x f. tt; unfit = λ x f. (tt, (tt, (tt, (tt, tt)))); onto = λ l p. p.2 }) catch_reads
  line_each FrameLine t s =
      mapped_reads frames_lang (After FrameLine) frame_line frame
      (record { items = λ x i. refl; is = λ x i. (t, s, (x, refl, i)); fits = λ x f. f; unfit = λ x f. f; onto = λ l p. p.2 }) frame_reads
  line_each EndLine t s =
      mapped_reads end_lang (After EndLine) last_line line_end
      (record { items = λ x i. refl; is = λ x i. (t, s, (x, refl, i)); fits = λ x f. tt; unfit = λ x f. tt; onto = λ l p. p.2 }) end_reads
  line_each (LabelLine defined) t s =
      mapped_reads end_lang (After (LabelLine defined)) (label_line defined) line_end
      (record { items = λ x i. refl; is = λ x i. (t, s, (x, refl, i)); fits = λ x f. tt; unfit = λ x f. tt; onto = λ l p. p.2 }) end_reads
  line_each (OperationLine op) t s =
      mapped_reads (Operands op (form_of op)) (After (OperationLine op)) operation_line (operation op)
      (record { items = λ x i. refl; is = λ x i. (t, s, (x, refl, i)); fits = λ x f. f; unfit = λ x f. f; onto = λ l p. p.2 }) (operation_reads op s)

  -- a line of a start that may begin
  some_of : (start : LineStart) → may_begin state start ≡ true → IsStart start → Started (lines_lang state) []
  some_of start t s =
      let begun : line_start state (Word (start_word start)) ≡ Some start = ap (λ o. o >>= tested (may_begin state)) (start_reported.whole (Word (start_word start)) start s refl) ∙ ap (λ b. cond b (Some start) None) t in
      let k = kind_started (lines_lang state) (IsLineIn state) start_item (line_start state) (line_choice state) (place (Word (start_word start))) [] start begun [] (line_each start t s).some in
      record { value = k.value; is = k.is; fits = k.fits; more = place (Word (start_word start)) ∷ k.more; said = k.said }

some_line : (state : State) → Started (lines_lang state) []
some_line AtClass = some_of AtClass ClassLine refl tt
some_line AtVersion = some_of AtVersion SuperLine refl tt
some_line AtSuper = some_of AtSuper SuperLine refl tt
some_line AtInterfaces = some_of AtInterfaces AbstractLine refl tt
some_line AtFields = some_of AtFields AbstractLine refl tt
some_line AtMethods = some_of AtMethods AbstractLine refl tt
some_line AtStack = some_of AtStack StackLine refl tt
some_line AtLocals = some_of AtLocals LocalsLine refl tt
some_line InBody = some_of InBody EndLine refl tt
some_line InFrame = some_of InFrame (OperationLine 0) refl (omega arith)

pub line_reads : (state : State) → IsReader (lines_lang state) (line state)
line_reads state =
    choose_reads (lines_lang state) (IsLineIn state) start_item (line_start state) (line_choice state) line_after (some_line state)
    (λ token start e. let s = line_start_sound state token start e in line_each state start s.0 s.1)
