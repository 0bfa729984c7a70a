-- The instruction at an address of a code: what is read stands there, what stands there is read, and the same for refusals.
use Rattle.std.proofs.Common.{◌≡◌, ℕ, ◌+◌, ◌-◌, ◌<◌, ◌≤◌, List, [], ◌∷◌, length, get_or, take, drop, Result, Ok, Err, slice_range, refl, sym, ap, ap₂, subst, ◌∙◌, arith, inl, inr}
use Rattle.std.proofs.lemmas.List.{take_at, length-append, length-take, length-drop, get_or-drop, drop-drop}
use Rattle.std.proofs.lemmas.List.Folds.{drop_split}
use Rattle.dj_cursor.specs.Steps.{Fails}
use Rattle.dj_cursor.specs.Reading.{Cursor, cursor_at, u1_at}
use Rattle.dj_cursor.proofs.Bytes.{IsBytes, IsBytes-drop}
use Rattle.dj_cursor.proofs.Steps.{bind_again, bind_err}
use Rattle.dj_cursor.proofs.Spans.{Spans, Spans-then, IsBytes-Spans, step_takes}
use Rattle.dj_cursor.proofs.Numbers.{u1_reads}
use Rattle.dj_ops.specs.declared.instruction.Instr.{Instr}
use Rattle.dj_ops.specs.declared.read.OpError.{OpError}
use Rattle.dj_ops.specs.declared.read.OpError.TheVariants as errors
use Rattle.dj_ops.specs.trusted.Forms.{form_of}
use Rattle.dj_ops.specs.trusted.Instructions.{IsProper, SpellsInstruction, Stands}
use Rattle.dj_ops.specs.Refusals.{Lacks, IsBad, Refuses, IsRefused, Yields}
use Rattle.dj_ops.specs.Reading.{is_memory, cut, instr_at}
use Rattle.dj_ops.proofs.Parts.{u1_fixed, outcome}
use Rattle.dj_ops.proofs.FormFacts.{reserved_high, high_reserved}
use Rattle.dj_ops.proofs.Taken.{form_taken}
use Rattle.dj_ops.proofs.Again.{reads_back}
use Rattle.dj_ops.proofs.Refused.{Refused, form_fails, form_refuses}

-- ---- what is read

-- these bytes at the beginning are the instruction
record Prefix (c : Cursor) (x : Instr × Cursor) : Type 0 where
  pub text : List ℕ
  pub some : 0 < length text
  pub spans : Spans c text x.1
  pub spelled : SpellsInstruction c.place x.0 text
  pub proper : IsProper x.0

prefix_taken : (c : Cursor) (x : Instr × Cursor) → IsBytes c.rest → instr_at c ≡ Ok x → Prefix c x
unfolding instr_at
prefix_taken c x fits e =
    let op = step_takes (u1_reads cut) c fits e in
    let t = form_taken (form_of op.value) c.place op.value op.next x refl op.good op.fits op.rest in
    record {
      text = op.value ∷ t.text;
      some = omega arith;
      spans = Spans-then op.spans t.spans;
      spelled = t.spelled;
      proper = t.proper;
    }

pub what_is_read : (code : List ℕ) (at : ℕ) (x : Instr × Cursor) → IsBytes code → at < length code → instr_at (cursor_at at code) ≡ Ok x → Stands code at x.0 x.1.place
what_is_read code at x fits lt e =
    let f = prefix_taken (cursor_at at code) x (IsBytes-drop at code fits) e in
    let many : x.1.place - at ≡ length f.text = omega (arith, f.spans.place) in
    let slice : slice_range code at x.1.place ≡ f.text = ap₂ (λ (n : ℕ) (l : List ℕ). take n l) many f.spans.parts ∙ take_at f.text x.1.rest (length f.text) refl in
    record {
      later = omega (arith, f.some, f.spans.place);
      within = omega (arith, f.spans.place, ap length f.spans.parts, length-append f.text x.1.rest, length-drop at code, lt);
      spelled = subst (λ (t : List ℕ). SpellsInstruction at x.0 t) (sym slice) f.spelled;
      proper = f.proper;
    }

-- ---- what stands there

pub reads_again : (code : List ℕ) (at : ℕ) (instr : Instr) (next : ℕ) → Stands code at instr next → instr_at (cursor_at at code) ≡ Ok (instr, cursor_at next code)
reads_again code at instr next s =
    let text : List ℕ = slice_range code at next in
    let spans : Spans (cursor_at at code) text (cursor_at next code) = record {
      parts = drop_split code at next (omega (arith, s.later));
      place = omega (arith, s.later, s.within, length-take (next - at) (drop at code), length-drop at code);
    } in
    reads_back at instr text s.proper s.spelled (cursor_at at code) (cursor_at next code) refl spans

abbrev found : Instr → Cursor → Result (Instr × Cursor) OpError
found instr next = Ok (instr, next)

both_same : (a b : Instr) (m n : Cursor) → found a m ≡ found b n → (a ≡ b) × (m ≡ n)
both_same a b m n h =
    let left : Instr × Cursor = (a, m) in
    let right : Instr × Cursor = (b, n) in
    let same : left ≡ right = cc in
    (ap (λ (p : Instr × Cursor). p.0) same, ap (λ (p : Instr × Cursor). p.1) same)

-- at an address stands one instruction at most
pub one_at : (code : List ℕ) (at m n : ℕ) (a b : Instr) → Stands code at a m → Stands code at b n → (a ≡ b) × (m ≡ n)
one_at code at m n a b s t =
    let same = both_same a b (cursor_at m code) (cursor_at n code) (sym (reads_again code at a m s) ∙ reads_again code at b n t) in
    (same.0, ap (λ (c : Cursor). c.place) same.1)

-- ---- refusals

-- what stands behind the first byte, and why it was refused
prefix_fails : (c : Cursor) (e : OpError) → IsBytes c.rest → 0 < length c.rest → instr_at c ≡ Err e → (op : ℕ) × (more : List ℕ) × (c.rest ≡ op ∷ more) × (op < 256) × Refused c.place op (form_of op) more e
unfolding instr_at
prefix_fails c e fits some h =
    bind_err h
    (λ r. absurd (omega (arith, some, (u1_fixed.fails c e r).1)))
    (λ x r g.
    let t = (u1_reads cut).takes c x fits r in
    (x.0, x.1.rest, t.0.parts, t.1, form_fails (form_of x.0) c.place x.0 x.1 e (IsBytes-Spans t.0 fits) g))

prefix_refuses : (c : Cursor) (e : OpError) → IsBytes c.rest → (op : ℕ) (more : List ℕ) → c.rest ≡ op ∷ more → Refused c.place op (form_of op) more e → instr_at c ≡ Err e
unfolding instr_at
prefix_refuses c e fits op more parts h =
    elim (outcome (u1_at cut c)) [
      | inl x ↦
          let t = (u1_reads cut).takes c x.0 fits x.1 in
          let whole : op ∷ more ≡ x.0.0 ∷ x.0.1.rest = sym parts ∙ t.0.parts in
          let first : op ≡ x.0.0 = cc in
          let rest : more ≡ x.0.1.rest = cc in
          let there : Refused c.place x.0.0 (form_of x.0.0) x.0.1.rest e = subst (λ (l : List ℕ). Refused c.place x.0.0 (form_of x.0.0) l e) rest (subst (λ (k : ℕ). Refused c.place k (form_of k) more e) first h) in
          bind_again _ x.1 (form_refuses (form_of x.0.0) c.place x.0.0 x.0.1 e (IsBytes-Spans t.0 fits) there)
      | inr d ↦ absurd (omega (arith, (u1_fixed.fails c d.0 d.1).1, ap length parts))
    ]

first_is : (code : List ℕ) (at op : ℕ) (more : List ℕ) → drop at code ≡ op ∷ more → (get_or code at 0 ≡ op) × (drop (at + 1) code ≡ more)
first_is code at op more e = (
  sym (get_or-drop at code 0 0 ∙ ap (λ (k : ℕ). get_or code k 0) (omega arith)) ∙ ap (λ (l : List ℕ). get_or l 0 0) e,
  sym (drop-drop 1 at code) ∙ ap (drop 1) e,
)

-- the causes, by the code and by the bytes at the address
to_cause : (code : List ℕ) (at op : ℕ) (more : List ℕ) (e : OpError) → drop at code ≡ op ∷ more → op < 256 → Refused at op (form_of op) more e → Refuses code at e
to_cause code at op more (errors.Reserved o) parts lt h = let f = first_is code at op more parts in (f.0 ∙ h.1, subst (λ (k : ℕ). 203 ≤ k) h.1 (reserved_high op lt h.0))
to_cause code at op more errors.Cut parts lt h = let f = first_is code at op more parts in subst (λ (l : List ℕ). Lacks at (form_of (get_or code at 0)) l) (sym f.1) (subst (λ (k : ℕ). Lacks at (form_of k) more) (sym f.0) h)
to_cause code at op more errors.BadOperand parts lt h = let f = first_is code at op more parts in subst (λ (l : List ℕ). IsBad at (form_of (get_or code at 0)) l) (sym f.1) (subst (λ (k : ℕ). IsBad at (form_of k) more) (sym f.0) h)
to_cause code at op more errors.Memory parts lt h = h

from_cause : (code : List ℕ) (at op : ℕ) (more : List ℕ) (e : OpError) → drop at code ≡ op ∷ more → op < 256 → Refuses code at e → Refused at op (form_of op) more e
from_cause code at op more (errors.Reserved o) parts lt h =
    let f = first_is code at op more parts in
    let same : op ≡ o = sym f.0 ∙ h.0 in
    (high_reserved op lt (subst (λ (k : ℕ). 203 ≤ k) (sym same) h.1), same)
from_cause code at op more errors.Cut parts lt h = let f = first_is code at op more parts in subst (λ (k : ℕ). Lacks at (form_of k) more) f.0 (subst (λ (l : List ℕ). Lacks at (form_of (get_or code at 0)) l) f.1 h)
from_cause code at op more errors.BadOperand parts lt h = let f = first_is code at op more parts in subst (λ (k : ℕ). IsBad at (form_of k) more) f.0 (subst (λ (l : List ℕ). IsBad at (form_of (get_or code at 0)) l) f.1 h)
from_cause code at op more errors.Memory parts lt h = h

some_there : (code : List ℕ) (at : ℕ) → at < length code → 0 < length (drop at code)
some_there code at lt = omega (arith, lt, length-drop at code)

first_there : (l : List ℕ) → 0 < length l → (op : ℕ) × (more : List ℕ) × (l ≡ op ∷ more)
first_there [] some = absurd (omega (arith, some))
first_there (op ∷ more) some = (op, more, refl)

pub has_cause : (code : List ℕ) (at : ℕ) (e : OpError) → IsBytes code → at < length code → instr_at (cursor_at at code) ≡ Err e → Refuses code at e
has_cause code at e fits lt h =
    let f = prefix_fails (cursor_at at code) e (IsBytes-drop at code fits) (some_there code at lt) h in
    to_cause code at f.0 f.1 e f.2 f.3 f.4

pub cause_refuses : (code : List ℕ) (at : ℕ) (e : OpError) → IsBytes code → at < length code → Refuses code at e → instr_at (cursor_at at code) ≡ Err e
cause_refuses code at e fits lt h =
    let l = first_there (drop at code) (some_there code at lt) in
    let here : IsBytes (drop at code) = IsBytes-drop at code fits in
    let below : l.0 < 256 = subst (λ (t : List ℕ). get_or t 0 0 < 256) l.2 (here 0) in
    prefix_refuses (cursor_at at code) e here l.0 l.1 l.2 (from_cause code at l.0 l.1 e l.2 below h)

-- ---- want of memory aside

not_found : {P : Type 0} {r : Result (Instr × Cursor) OpError} {e : OpError} {instr : Instr} {next : Cursor} → r ≡ Err e → r ≡ Ok (instr, next) → P
not_found h d = absurd cc

abbrev AllRead : List ℕ → ℕ → Result (Instr × ℕ) OpError → Type 0
AllRead code at r = (instr : Instr) (next : ℕ) → Stands code at instr next → Yields r (Ok (instr, next))

abbrev AllRefused : List ℕ → ℕ → Result (Instr × ℕ) OpError → Type 0
AllRefused code at r = (e : OpError) → Refuses code at e → Yields r (Err e)

pub read_all_read : (code : List ℕ) (at : ℕ) (x : Instr × Cursor) → instr_at (cursor_at at code) ≡ Ok x → AllRead code at (Ok (x.0, x.1.place))
read_all_read code at x e instr next s =
    let same = both_same x.0 instr x.1 (cursor_at next code) (sym e ∙ reads_again code at instr next s) in
    inl (ap₂ (λ (i : Instr) (c : Cursor). Ok (i, c.place)) same.0 same.1)

pub read_all_refused : (code : List ℕ) (at : ℕ) (x : Instr × Cursor) → IsBytes code → at < length code → instr_at (cursor_at at code) ≡ Ok x → AllRefused code at (Ok (x.0, x.1.place))
read_all_refused code at x fits lt e d h = not_found (cause_refuses code at d fits lt h) e

abbrev FailsAt : List ℕ → ℕ → OpError → Type 0
FailsAt code at e = Fails (is_memory e) e (instr_at (cursor_at at code))

pub failed_all_read : (code : List ℕ) (at : ℕ) (e : OpError) → FailsAt code at e → AllRead code at (Err e)
failed_all_read code at errors.Memory h instr next s = inr refl
failed_all_read code at (errors.Reserved op) h instr next s = not_found h (reads_again code at instr next s)
failed_all_read code at errors.Cut h instr next s = not_found h (reads_again code at instr next s)
failed_all_read code at errors.BadOperand h instr next s = not_found h (reads_again code at instr next s)

pub failed_refused : (code : List ℕ) (at : ℕ) (e : OpError) → IsBytes code → at < length code → FailsAt code at e → IsRefused code at e
failed_refused code at errors.Memory fits lt h = tt
failed_refused code at (errors.Reserved op) fits lt h = has_cause code at (errors.Reserved op) fits lt h
failed_refused code at errors.Cut fits lt h = has_cause code at errors.Cut fits lt h
failed_refused code at errors.BadOperand fits lt h = has_cause code at errors.BadOperand fits lt h

same_refusal : {r : Result (Instr × Cursor) OpError} {a b : OpError} → r ≡ Err a → r ≡ Err b → a ≡ b
same_refusal p q = cc

pub failed_all_refused : (code : List ℕ) (at : ℕ) (e : OpError) → IsBytes code → at < length code → FailsAt code at e → AllRefused code at (Err e)
failed_all_refused code at errors.Memory fits lt h d cause = inr refl
failed_all_refused code at (errors.Reserved op) fits lt h d cause = inl (ap (λ (x : OpError). Err x) (same_refusal h (cause_refuses code at d fits lt cause)))
failed_all_refused code at errors.Cut fits lt h d cause = inl (ap (λ (x : OpError). Err x) (same_refusal h (cause_refuses code at d fits lt cause)))
failed_all_refused code at errors.BadOperand fits lt h d cause = inl (ap (λ (x : OpError). Err x) (same_refusal h (cause_refuses code at d fits lt cause)))
