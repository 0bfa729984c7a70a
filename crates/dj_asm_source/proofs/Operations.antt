-- Instructions are read by the forms of their opcodes: those after `wide`, and then all.
use Rattle.std.proofs.Common.{◌≡◌, ◌≢◌, ◌⊎◌, ℕ, ◌≤◌, ◌<◌, Bool, true, false, cond, eqb, leb, pos, [], ◌∷◌, drop, Some, None, codes, refl, sym, ap, ◌∙◌, subst, inl, inr, arith, true≢false}
use Rattle.std.proofs.lemmas.Bool.{and_parts, leb-true, leb-false, le-leb, lt-leb, eqb-true, ne_eqb, eq-eqb, or_cases, or_left, or_right, cases_lt}
use Rattle.dj_cursor.proofs.Options.{bind_some, chose_some}
use Rattle.dj_cursor.specs.trusted.Options.{◌>>=◌}
use Rattle.dj_names.specs.trusted.Types.{Name}
use Rattle.dj_ops.specs.trusted.Forms.{OperandForm, Bare, SignedByte, SignedShort, ShortLiteral, LongLiteral, Slot, SlotAndByte, ShortOffset, LongOffset, MemberIndex, InterfaceIndex, DynamicIndex, ClassIndex, ArrayType, MultiIndex, TableSwitch, LookupSwitch, WidePrefix, Reserved, form_of}
use Rattle.dj_pool.specs.trusted.Pool.{IsClassText}
use Rattle.dj_asm_tokens.specs.trusted.Words.{Token, Word, LineEnd}
use Rattle.dj_asm_source.specs.trusted.Items.{Says}
use Rattle.dj_asm_tokens.specs.trusted.Mnemonics.{mnemonics}
use Rattle.dj_asm_source.specs.trusted.Lines.{Operation, Plain, Push, Local, Increment, Load, LoadLong, Jump, Table, Lookup, Member, Dynamic, ClassOf, Array, Multi, op_item, IsOperation, IsMethodUse, IsLiteralName}
use Rattle.dj_asm_tokens.specs.WordReading.{tested}
use Rattle.dj_asm_source.specs.Reading.{◌&◌, opcode_of}
use Rattle.dj_asm_source.specs.LineReading.{line_end, number, slot_fits, increment_fits, slot, increment, may_be_wide, wide_start, wide_after, wide, operation_by, operation}
use Rattle.dj_asm_source.proofs.Readers.{Lang, Started, IsReader, IsMade, mapped_reads}
use Rattle.dj_asm_source.proofs.Choices.{after_first, HasFirst, IsChoice, choose_reads, place}
use Rattle.dj_asm_source.proofs.Starts.{opcode_reported}
use Rattle.dj_asm_source.proofs.Opcodes.{below, agree, member_form}
use Rattle.dj_asm_source.proofs.FieldReaders.{one_number}
use Rattle.dj_asm_source.proofs.OperationReaders.{slot_of, increment_of, member_of, open_member_of, load_of, load_long_of, slot_lang, increment_lang, field_use_lang, open_use_lang, method_use_lang, load_long_lang, IsLoadBy, IsMemberBy, may_mark, IsWide, IsOperationBy, done_items, operand_lang, Operands, plain_reads, byte_reads, short_reads, load_reads, long_literal_reads, local_reads, increments_reads, jump_reads, member_reads, dynamic_reads, class_reads, array_reads, multi_reads, table_reads, lookup_reads, slot_reads, increment_number_reads}

-- ---- after `wide`

abbrev wide_lang : Lang Operation
wide_lang = operand_lang IsWide

abbrev IsWideBy : Bool → ℕ → Operation → Type 0
IsWideBy true op o = IsMade (increment_of true) (increment_lang true).is o
IsWideBy false op o = IsMade (slot_of true op) (slot_lang true).is o

abbrev IsWideOf : ℕ → Operation → Type 0
IsWideOf op o = (op < 203) × (may_be_wide (form_of op) ≡ true) × IsWideBy (eqb op 132) op o

wide_sound : (token : Token) (op : ℕ) → wide_start token ≡ Some op → (op < 203) × (may_be_wide (form_of op) ≡ true) × Says (op_item op) token
wide_sound token op e =
    let b = bind_some (opcode_of token) (tested (λ k. may_be_wide (form_of k))) op e in
    let c = chose_some (may_be_wide (form_of b.0)) b.0 op b.2 in
    let s = opcode_reported.sound token b.0 b.1 in
    (subst (λ k. k < 203) c.1 s.0, subst (λ k. may_be_wide (form_of k) ≡ true) c.1 c.0, subst (λ k. Says (op_item k) token) c.1 s.1)

wide_whole : (token : Token) (op : ℕ) → op < 203 → may_be_wide (form_of op) ≡ true → Says (op_item op) token → wide_start token ≡ Some op
wide_whole token op l t said = ap (λ o. o >>= tested (λ k. may_be_wide (form_of k))) (opcode_reported.whole token op l said) ∙ ap (λ b. cond b (Some op) None) t

slot_form : (op : ℕ) (form : OperandForm) → op < 203 → form_of op ≡ form → may_be_wide form ≡ true → eqb op 132 ≡ false → form ≡ Slot
slot_form op Slot l e t n = refl
slot_form op SlotAndByte l e t n = absurd (true≢false (sym (agree op SlotAndByte l e) ∙ n))
slot_form op form l e t n = absurd cc

no_increment : (op : ℕ) → form_of op ≡ Slot → eqb op 132 ≡ false
unfolding form_of
no_increment op e = ne_eqb op 132 (λ same. other (sym (ap form_of same) ∙ e)) where
  other : form_of 132 ≡ Slot → ⊥
  other e = absurd cc

wide_choice : IsChoice wide_lang IsWideOf op_item wide_start
unfolding form_of
wide_choice = record {
  sound = λ token op e. (wide_sound token op e).2;
  whole = λ token op o p said. wide_whole token op p.0 p.1 said;
  kind = kind;
  is = λ op o p. is op (eqb op 132) refl o p.0 p.1 p.2;
  items = λ op o p. items op (eqb op 132) refl o p.2;
} where
  kind : (o : Operation) → IsWide o → (op : ℕ) × IsWideOf op o
  kind (Local true op n) i = (op, (below op (λ r. absurd cc (i, r)), ap may_be_wide i, subst (λ b. IsWideBy b op (Local true op n)) (sym (no_increment op i)) ((n, tt), refl, (tt, tt))))
  kind (Increment true n by) i = (132, (omega arith, refl, ((n, (by, tt)), refl, (tt, (tt, tt)))))
  kind o i = absurd i

  is : (op : ℕ) (b : Bool) → eqb op 132 ≡ b → (o : Operation) → op < 203 → may_be_wide (form_of op) ≡ true → IsWideBy b op o → IsWide o
  is op true e o l t p = subst IsWide (sym p.1) tt
  is op false e o l t p = subst IsWide (sym p.1) (slot_form op (form_of op) l refl t e)

  items : (op : ℕ) (b : Bool) → eqb op 132 ≡ b → (o : Operation) → IsWideBy b op o → HasFirst wide_lang (op_item op) o
  items op true e o p = subst (λ k. HasFirst wide_lang (op_item k) o) (sym (eqb-true op 132 e)) (subst (HasFirst wide_lang (op_item 132)) (sym p.1) refl)
  items op false e o p = subst (HasFirst wide_lang (op_item op)) (sym p.1) refl

wide_each : (op : ℕ) (b : Bool) → eqb op 132 ≡ b → op < 203 → may_be_wide (form_of op) ≡ true → IsReader (after_first wide_lang IsWideOf op) (cond b (increment true) (slot true op))
wide_each op true e l t =
    mapped_reads (increment_lang true) (after_first wide_lang IsWideOf op) (increment_of true) (number (slot_fits true) & (number (increment_fits true) & line_end))
    (record {
      items = λ x i. refl;
      is = λ x i. (l, t, subst (λ b. IsWideBy b op (increment_of true x)) (sym e) (x, refl, i));
      fits = λ x f. (f.0, f.1.0);
      unfit = λ x f. (f.0, (f.1, tt));
      onto = λ o p. subst (λ b. IsWideBy b op o) e p.2;
    }) (increment_number_reads true)
wide_each op false e l t =
    mapped_reads (slot_lang true) (after_first wide_lang IsWideOf op) (slot_of true op) (number (slot_fits true) & line_end)
    (record {
      items = λ x i. refl;
      is = λ x i. (l, t, subst (λ b. IsWideBy b op (slot_of true op x)) (sym e) (x, refl, i));
      fits = λ x f. f.0;
      unfit = λ x f. (f, tt);
      onto = λ o p. subst (λ b. IsWideBy b op o) e p.2;
    }) (slot_reads true)

wide_some : Started wide_lang []
unfolding form_of mnemonics
wide_some = record {
  value = Local true 21 (pos 1);
  is = refl;
  fits = (1, refl, omega arith);
  more = place (Word (codes "iload")) ∷ place (Word (codes "1")) ∷ place LineEnd ∷ [];
  said = (refl, (inl one_number, (refl, tt)));
}

wide_reads : IsReader wide_lang wide
wide_reads =
    choose_reads wide_lang IsWideOf op_item wide_start wide_choice wide_after wide_some (λ token op e. let s = wide_sound token op e in wide_each op (eqb op 132) refl s.0 s.1)

-- ---- all

no_reader : (op : ℕ) → op < 203 → form_of op ≡ Reserved → ⊥
no_reader op l e = absurd cc (agree op Reserved l e)

by_form : (op : ℕ) (form : OperandForm) → op < 203 → form_of op ≡ form → IsReader (Operands op form) (operation_by op form)
by_form op Bare l e = plain_reads op
by_form op SignedByte l e = byte_reads op e
by_form op SignedShort l e = short_reads op e
by_form op ShortLiteral l e = load_reads op (IsOperationBy op ShortLiteral) (λ x i. (x, refl, i)) (λ o p. p)
by_form op LongLiteral l e = long_literal_reads op (eqb op 20)
by_form op Slot l e = local_reads op
by_form op SlotAndByte l e = increments_reads op
by_form op ShortOffset l e = jump_reads op
by_form op LongOffset l e = jump_reads op
by_form op MemberIndex l e = member_reads op (leb op 181) (may_mark op)
by_form op InterfaceIndex l e = member_reads op (leb op 181) (may_mark op)
by_form op DynamicIndex l e = dynamic_reads op
by_form op ClassIndex l e = class_reads op
by_form op ArrayType l e = array_reads op
by_form op MultiIndex l e = multi_reads op
by_form op TableSwitch l e = table_reads op
by_form op LookupSwitch l e = lookup_reads op
by_form op WidePrefix l e = wide_reads
by_form op Reserved l e = absurd (no_reader op l e)

pub operation_reads : (op : ℕ) → op < 203 → IsReader (Operands op (form_of op)) (operation op)
operation_reads op l = by_form op (form_of op) l refl

-- ---- what a word begins is an operation, and each has its word

abbrev pub HasWord : ℕ → Operation → Type 0
HasWord op o = done_items o ≡ op_item op ∷ drop 1 (done_items o)

abbrev IsWhole : ℕ → Operation → Type 0
IsWhole op o = IsOperation o × HasWord op o

-- a made operation has what it was made with
made : {A : Type 0} (op : ℕ) (f : A → Operation) (is : A → Type 0) (o : Operation) (p : IsMade f is o) → IsWhole op (f p.0) → IsWhole op o
made op f is o p w = subst (IsWhole op) (sym p.1) w

member_whole : (op : ℕ) → 178 ≤ op → op ≤ 185 → (is_field marked : Bool) → leb op 181 ≡ is_field → may_mark op ≡ marked → (o : Operation) → IsMemberBy is_field marked op o → IsWhole op o
member_whole op low high true marked t m o p =
    made op (member_of op) field_use_lang.is o p
    ((p.2.0, inl (record { from = low; to = leb-true op 181 t; named = p.2.1.0; described = p.2.1.1.0; plain = refl })), refl)
member_whole op low high false true t m o p =
    made op (open_member_of op) open_use_lang.is o p
    ((p.2.0, inr (record { from = leb-false op 181 t; to = high; named = p.2.1.0; described = p.2.1.1.0; marked = λ i. which })), refl) where
      which : (op ≡ 183) ⊎ (op ≡ 184)
      which = elim (or_cases (eqb op 183) (eqb op 184) m) [
        | inl a ↦ inl (eqb-true op 183 a)
        | inr b ↦ inr (eqb-true op 184 b)
      ]
member_whole op low high false false t m o p =
    made op (member_of op) method_use_lang.is o p
    ((p.2.0, inr (record { from = leb-false op 181 t; to = high; named = p.2.1.0; described = p.2.1.1.0; marked = λ i. absurd (true≢false (sym i)) })), refl)

load_whole : (op : ℕ) → (op ≡ 19) ⊎ (op ≡ 20) → (is_long : Bool) → eqb op 20 ≡ is_long → (o : Operation) → IsLoadBy is_long op o → IsWhole op o
load_whole op n true t o p = subst (λ k. IsWhole k o) (sym (eqb-true op 20 t)) (made 20 load_long_of load_long_lang.is o p (tt, refl))
load_whole op (inl n) false t o p = made op (load_of op) IsLiteralName o p ((inr n, p.2), refl)
load_whole op (inr n) false t o p = absurd (true≢false (sym (eq-eqb op 20 n) ∙ t))

wide_whole_of : (o : Operation) → IsWide o → IsWhole 196 o
unfolding mnemonics
wide_whole_of (Local true op n) i = (i, refl)
wide_whole_of (Increment true n by) i = (tt, refl)
wide_whole_of o i = absurd i

-- 19 or 20
two_loads : (op : ℕ) → 19 ≤ op → op ≤ 20 → (op ≡ 19) ⊎ (op ≡ 20)
two_loads op low high = elim (cases_lt op 20) [
  | inl l ↦ inl (omega (arith, low, l))
  | inr l ↦ inr (omega (arith, high, l))
]

whole_by : (op : ℕ) (form : OperandForm) → op < 203 → form_of op ≡ form → (o : Operation) → IsOperationBy op form o → IsWhole op o
whole_by op Bare l e o p = subst (IsWhole op) (sym p.1) (e, refl)
whole_by op SignedByte l e o p = subst (IsWhole op) (sym p.1) (inl e, refl)
whole_by op SignedShort l e o p = subst (IsWhole op) (sym p.1) (inr e, refl)
whole_by op ShortLiteral l e o p = subst (IsWhole op) (sym p.1) ((inl (eqb-true op 18 (agree op ShortLiteral l e)), p.2), refl)
whole_by op LongLiteral l e o p =
    let a = and_parts (leb 19 op) (leb op 20) (agree op LongLiteral l e) in
    load_whole op (two_loads op (leb-true 19 op a.0) (leb-true op 20 a.1)) (eqb op 20) refl o p
whole_by op Slot l e o p = subst (IsWhole op) (sym p.1) (e, refl)
whole_by op SlotAndByte l e o p = subst (λ k. IsWhole k o) (sym (eqb-true op 132 (agree op SlotAndByte l e))) (subst (IsWhole 132) (sym p.1) (tt, refl))
whole_by op ShortOffset l e o p = subst (IsWhole op) (sym p.1) (inl e, refl)
whole_by op LongOffset l e o p = subst (IsWhole op) (sym p.1) (inr e, refl)
whole_by op MemberIndex l e o p =
    let a = and_parts (leb 178 op) (leb op 184) (agree op MemberIndex l e) in
    member_whole op (leb-true 178 op a.0) (omega (arith, leb-true op 184 a.1)) (leb op 181) (may_mark op) refl refl o p
whole_by op InterfaceIndex l e o p =
    let same : op ≡ 185 = eqb-true op 185 (agree op InterfaceIndex l e) in
    member_whole op (omega (arith, same)) (omega (arith, same)) (leb op 181) (may_mark op) refl refl o p
whole_by op DynamicIndex l e o p = subst (λ k. IsWhole k o) (sym (eqb-true op 186 (agree op DynamicIndex l e))) (subst (IsWhole 186) (sym p.1) ((p.2.1.0, p.2.1.1.0), refl))
whole_by op ClassIndex l e o p = subst (IsWhole op) (sym p.1) ((e, p.2.0), refl)
whole_by op ArrayType l e o p = subst (λ k. IsWhole k o) (sym (eqb-true op 188 (agree op ArrayType l e))) (subst (IsWhole 188) (sym p.1) (p.2.0, refl))
whole_by op MultiIndex l e o p = subst (λ k. IsWhole k o) (sym (eqb-true op 197 (agree op MultiIndex l e))) (subst (IsWhole 197) (sym p.1) (p.2.0, refl))
whole_by op TableSwitch l e o p = subst (λ k. IsWhole k o) (sym (eqb-true op 170 (agree op TableSwitch l e))) (subst (IsWhole 170) (sym p.1) (p.2.1, refl))
whole_by op LookupSwitch l e o p = subst (λ k. IsWhole k o) (sym (eqb-true op 171 (agree op LookupSwitch l e))) (subst (IsWhole 171) (sym p.1) (tt, refl))
whole_by op WidePrefix l e o p = subst (λ k. IsWhole k o) (sym (eqb-true op 196 (agree op WidePrefix l e))) (wide_whole_of o p)
whole_by op Reserved l e o p = absurd p

pub operation_whole : (op : ℕ) → op < 203 → (o : Operation) → IsOperationBy op (form_of op) o → IsOperation o × HasWord op o
operation_whole op l o p = whole_by op (form_of op) l refl o p

abbrev HasKind : Operation → Type 0
HasKind o = (op : ℕ) × (op < 203) × IsOperationBy op (form_of op) o

-- an operation of a form that isn't reserved
of_form : (o : Operation) (op : ℕ) (form : OperandForm) → form_of op ≡ form → form ≢ Reserved → IsOperationBy op form o → HasKind o
of_form o op form e n p = (op, below op (λ r. n (sym e ∙ r)), subst (λ f. IsOperationBy op f o) (sym e) p)

method_kind : (op : ℕ) (class name desc : Name) (interface marked : Bool) → may_mark op ≡ marked → IsClassText class → IsMethodUse op name desc interface
    → IsMemberBy false marked op (Member op class name desc interface)
method_kind op class name desc interface true m is called_by = ((class, (name, (desc, interface))), refl, (is, (called_by.named, (called_by.described, tt))))
method_kind op class name desc false false m is called_by = ((class, (name, (desc, tt))), refl, (is, (called_by.named, (called_by.described, tt))))
method_kind op class name desc true false m is called_by = absurd (marked (called_by.marked refl)) where
  marked : (op ≡ 183) ⊎ (op ≡ 184) → ⊥
  marked (inl e) = true≢false (sym (or_left (eqb op 183) (eqb op 184) (eq-eqb op 183 e)) ∙ m)
  marked (inr e) = true≢false (sym (or_right (eqb op 183) (eqb op 184) (eq-eqb op 184 e)) ∙ m)

past_fields : (op : ℕ) → 182 ≤ op → leb op 181 ≡ false
past_fields op l = lt-leb op 181 l

pub operation_kind : (o : Operation) → IsOperation o → HasKind o
unfolding form_of
operation_kind (Plain op) e = of_form (Plain op) op Bare e (λ r. absurd cc) (tt, refl, tt)
operation_kind (Push op n) (inl e) = of_form (Push op n) op SignedByte e (λ r. absurd cc) ((n, tt), refl, (tt, tt))
operation_kind (Push op n) (inr e) = of_form (Push op n) op SignedShort e (λ r. absurd cc) ((n, tt), refl, (tt, tt))
operation_kind (Local false op n) e = of_form (Local false op n) op Slot e (λ r. absurd cc) ((n, tt), refl, (tt, tt))
operation_kind (Local true op n) e = (196, omega arith, e)
operation_kind (Increment false n by) i = (132, omega arith, ((n, (by, tt)), refl, (tt, (tt, tt))))
operation_kind (Increment true n by) i = (196, omega arith, tt)
operation_kind (Load op l) (inl e, i) = (18, omega arith, (l, ap (λ k. Load k l) e, i))
operation_kind (Load op l) (inr e, i) = (19, omega arith, (l, ap (λ k. Load k l) e, i))
operation_kind (LoadLong n) i = (20, omega arith, ((tt, (n, tt)), refl, (tt, (tt, tt))))
operation_kind (Jump op label) (inl e) = of_form (Jump op label) op ShortOffset e (λ r. absurd cc) ((label, tt), refl, (tt, tt))
operation_kind (Jump op label) (inr e) = of_form (Jump op label) op LongOffset e (λ r. absurd cc) ((label, tt), refl, (tt, tt))
operation_kind (Table low labels last) i = (170, omega arith, ((low, (labels, last)), refl, (tt, i)))
operation_kind (Lookup pairs last) i = (171, omega arith, ((pairs, last), refl, tt))
operation_kind (Member op class name desc interface) (is, inl called_by) =
    of_form (Member op class name desc interface) op MemberIndex (member_form op called_by.from (omega (arith, called_by.to))) (λ r. absurd cc)
    (subst (λ b. IsMemberBy b (may_mark op) op (Member op class name desc interface)) (sym (le-leb op 181 called_by.to))
    ((class, (name, (desc, tt))), ap (λ b. Member op class name desc b) called_by.plain, (is, (called_by.named, (called_by.described, tt)))))
operation_kind (Member op class name desc interface) (is, inr called_by) =
    let p = subst (λ b. IsMemberBy b (may_mark op) op (Member op class name desc interface)) (sym (past_fields op called_by.from)) (method_kind op class name desc interface (may_mark op) refl is called_by) in
    elim (cases_lt op 185) [
      | inl l ↦ of_form (Member op class name desc interface) op MemberIndex (member_form op (omega (arith, called_by.from)) (omega (arith, l))) (λ r. absurd cc) p
      | inr l ↦
          let same : op ≡ 185 = omega (arith, l, called_by.to) in
          of_form (Member op class name desc interface) op InterfaceIndex (ap form_of same) (λ r. absurd cc) p
    ]
operation_kind (Dynamic n name desc) (a, b) = (186, omega arith, ((n, (name, (desc, tt))), refl, (tt, (a, (b, tt)))))
operation_kind (ClassOf op class) (e, i) = of_form (ClassOf op class) op ClassIndex e (λ r. absurd cc) ((class, tt), refl, (i, tt))
operation_kind (Array base) i = (188, omega arith, ((base, tt), refl, (i, tt)))
operation_kind (Multi desc dims) i = (197, omega arith, ((desc, (dims, tt)), refl, (i, (tt, tt))))
