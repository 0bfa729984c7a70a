-- Opcodes and the forms of their operands.
use Rattle.std.proofs.Common.{◌≡◌, ◌≢◌, ℕ, zero, suc, ◌<◌, ◌≤◌, Bool, true, false, cond, eqb, leb, ◌&&◌, List, [], ◌∷◌, refl, sym, ap, ◌∙◌, subst, inl, inr, arith}
use Rattle.std.specs.List.{list_all}
use Rattle.std.proofs.lemmas.Bool.{and_parts, leb-true, le-leb, cases_lt}
use Rattle.dj_ops.specs.trusted.Forms.{OperandForm, Bare, SignedByte, SignedShort, ShortLiteral, LongLiteral, Slot, SlotAndByte, ShortOffset, LongOffset, MemberIndex, InterfaceIndex, DynamicIndex, ClassIndex, ArrayType, MultiIndex, TableSwitch, LookupSwitch, WidePrefix, Reserved, form_rows, form_in, form_of}

-- ---- past the last row

abbrev last_form : OperandForm → List (ℕ × OperandForm) → OperandForm
last_form form [] = form
last_form form (row ∷ rows) = last_form row.1 rows

past_rows : (form : OperandForm) (rows : List (ℕ × OperandForm)) (op : ℕ) → list_all (λ row. leb row.0 203) rows ≡ true → 203 ≤ op → form_in form rows op ≡ last_form form rows
past_rows form [] op all l = refl
past_rows form (row ∷ rows) op all l =
    let a = and_parts (leb row.0 203) (list_all (λ r. leb r.0 203) rows) all in
    let below : row.0 ≤ op = omega (arith, leb-true row.0 203 a.0, l) in
    ap (λ t. cond t (form_in row.1 rows op) form) (le-leb row.0 op below) ∙ past_rows row.1 rows op a.1 l

reserved : (op : ℕ) → 203 ≤ op → form_of op ≡ Reserved
unfolding form_of
reserved op l = past_rows Bare form_rows op refl l

-- what has a form is below 203
pub below : (op : ℕ) → form_of op ≢ Reserved → op < 203
below op n = elim (cases_lt op 203) [
  | inl l ↦ l
  | inr l ↦ absurd (n (reserved op l))
]

-- ---- below it

abbrev all_below : ℕ → (ℕ → Bool) → Bool
all_below zero test = true
all_below (suc n) test = test n && all_below n test

one_below : (n : ℕ) (test : ℕ → Bool) (k : ℕ) → all_below n test ≡ true → k < n → test k ≡ true
one_below zero test k all l = absurd (omega (arith, l))
one_below (suc n) test k all l =
    let a = and_parts (test n) (all_below n test) all in
    elim (cases_lt k n) [
      | inl below ↦ one_below n test k a.1 below
      | inr above ↦ let same : n ≡ k = omega (arith, l, above) in ap test (sym same) ∙ a.0
    ]

-- the opcodes of forms that few have
abbrev agrees : ℕ → OperandForm → Bool
agrees op ShortLiteral = eqb op 18
agrees op LongLiteral = leb 19 op && leb op 20
agrees op SlotAndByte = eqb op 132
agrees op MemberIndex = leb 178 op && leb op 184
agrees op InterfaceIndex = eqb op 185
agrees op DynamicIndex = eqb op 186
agrees op ArrayType = eqb op 188
agrees op MultiIndex = eqb op 197
agrees op TableSwitch = eqb op 170
agrees op LookupSwitch = eqb op 171
agrees op WidePrefix = eqb op 196
agrees op Reserved = false
agrees op form = true

all_agree : all_below 203 (λ op. agrees op (form_of op)) ≡ true
unfolding form_of
all_agree = refl

pub agree : (op : ℕ) (form : OperandForm) → op < 203 → form_of op ≡ form → agrees op form ≡ true
agree op form l e = subst (λ f. agrees op f ≡ true) e (one_below 203 (λ k. agrees k (form_of k)) op all_agree l)

abbrev is_member : OperandForm → Bool
is_member MemberIndex = true
is_member form = false

member_range : all_below 185 (λ op. cond (leb 178 op) (is_member (form_of op)) true) ≡ true
unfolding form_of
member_range = refl

pub member_form : (op : ℕ) → 178 ≤ op → op ≤ 184 → form_of op ≡ MemberIndex
member_form op low high = from (form_of op) (sym (ap (λ t. cond t (is_member (form_of op)) true) (le-leb 178 op low)) ∙ one_below 185 (λ k. cond (leb 178 k) (is_member (form_of k)) true) op member_range (omega (arith, high))) where
  from : (form : OperandForm) → is_member form ≡ true → form ≡ MemberIndex
  from MemberIndex e = refl
  from Bare e = absurd cc
  from SignedByte e = absurd cc
  from SignedShort e = absurd cc
  from ShortLiteral e = absurd cc
  from LongLiteral e = absurd cc
  from Slot e = absurd cc
  from SlotAndByte e = absurd cc
  from ShortOffset e = absurd cc
  from LongOffset e = absurd cc
  from InterfaceIndex e = absurd cc
  from DynamicIndex e = absurd cc
  from ClassIndex e = absurd cc
  from ArrayType e = absurd cc
  from MultiIndex e = absurd cc
  from TableSwitch e = absurd cc
  from LookupSwitch e = absurd cc
  from WidePrefix e = absurd cc
  from Reserved e = absurd cc
