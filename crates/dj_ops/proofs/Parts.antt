-- Operands in parts: what is read is spelled so, what is spelled so is read, and what is refused.
use Rattle.std.proofs.Common.{◌≡◌, ℕ, zero, suc, ◌+◌, ◌*◌, ◌^◌, ◌<◌, ◌≤◌, ◌⊎◌, Bool, true, false, ltb, ℤ, List, ◌∷◌, ◌++◌, length, drop, Result, Ok, Err, FitsSigned, refl, sym, ap, subst, ◌∙◌, arith, inl, inr}
use Rattle.std.specs.Int.{Width, w8, w16, w32, byte_len, cast_signed, cast_unsigned}
use Rattle.std.proofs.lemmas.Bool.{ltb-false}
use Rattle.std.proofs.lemmas.Int.{of_z-to_z, to_z-of_z, ints}
use Rattle.std.proofs.lemmas.List.{length-drop}
use Rattle.std.proofs.Math.Facts.{sfits_to_z}
use Rattle.dj_cursor.specs.declared.cursor.Cut.{Cut}
use Rattle.dj_cursor.specs.trusted.Spelling.{u1, u2, u4, s1, s2, s4}
use Rattle.dj_cursor.specs.Steps.{lifted}
use Rattle.dj_cursor.specs.Reading.{Cursor, bytes_at, number_at, block_at, u1_at, u2_at, u4_at, many_at}
use Rattle.dj_cursor.proofs.Bytes.{IsBytes}
use Rattle.dj_cursor.proofs.Steps.{bind_ok, bind_again, bind_err, bind_fails, lifted_ok, lifted_err, cond_either, cond_true, cond_false}
use Rattle.dj_cursor.proofs.Spans.{Spans, Spans-then, Reads, step_takes, step_again}
use Rattle.dj_cursor.proofs.Numbers.{u1_reads, u2_reads, u4_reads, bytes_cut, bytes_short, number_cut, number_short}
use Rattle.dj_ops.specs.declared.instruction.Instr.{Instr}
use Rattle.dj_ops.specs.declared.read.OpError.{OpError}
use Rattle.dj_ops.specs.declared.read.OpError.TheVariants as errors
use Rattle.dj_ops.specs.trusted.Instructions.{IsProper, SpellsInstruction}
use Rattle.dj_ops.specs.Reading.{cut, both, made, checked, s1_at, s2_at, s4_at}

abbrev pub OperandReader : Type 0 → Type 0
OperandReader A = Cursor → Result (A × Cursor) OpError

abbrev pub failed : {A : Type 0} → OpError → Result A OpError
failed e = Err e

pub err_is : {A : Type 0} {d e : OpError} → failed {A = A} d ≡ failed e → d ≡ e
err_is h = cc

-- ---- what is read is spelled so, and the other way round

pub both_reads : {A B : Type 0} {p : OperandReader A} {q : OperandReader B} {s : A → List ℕ} {t : B → List ℕ} {P : A → Type 0} {Q : B → Type 0}
    → Reads p s P → Reads q t Q → Reads (both p q) (λ x. s x.0 ++ t x.1) (λ x. P x.0 × Q x.1)
both_reads {A} {B} {p} {q} {s} {t} {P} {Q} first second = record {
  takes = λ c x fits e.
      let a = step_takes first c fits e in
      let b = step_takes second a.next a.fits a.rest in
      let made : ((a.value, b.value), b.next) ≡ x = cc (b.rest) in
      subst (λ (y : (A × B) × Cursor). Spans c (s y.0.0 ++ t y.0.1) y.1 × (P y.0.0 × Q y.0.1)) made (Spans-then a.spans b.spans, (a.good, b.good));
  again = λ c x next good spans.
      let a = step_again first c x.0 (t x.1) next good.0 spans in
      bind_again _ a.1 (bind_again _ (second.again a.0 x.1 next good.1 a.2) refl);
}

-- what is made can be unmade
pub made_reads : {A B : Type 0} {p : OperandReader A} {s : A → List ℕ} {P : A → Type 0} → Reads p s P → (f : A → B) (g : B → A) (t : B → List ℕ) (Q : B → Type 0)
    → ((a : A) → P a → (s a ≡ t (f a)) × Q (f a)) → ((b : B) → Q b → P (g b) × (f (g b) ≡ b) × (s (g b) ≡ t b)) → Reads (made f p) t Q
made_reads {A} {B} {p} {s} {P} reads f g t Q to from = record {
  takes = λ c x fits e.
      let a = step_takes reads c fits e in
      let made : (f a.value, a.next) ≡ x = cc (a.rest) in
      let w = to a.value a.good in
      subst (λ (y : B × Cursor). Spans c (t y.0) y.1 × Q y.0) made (subst (λ (l : List ℕ). Spans c l a.next) w.0 a.spans, w.1);
  again = λ c b next good spans.
      let w = from b good in
      bind_again _ (reads.again c (g b) next w.0 (subst (λ (l : List ℕ). Spans c l next) (sym w.2) spans)) (ap (λ (y : B). Ok (y, next)) w.1);
}

below_1 : (z : ℤ) → FitsSigned w8 z → cast_unsigned w8 z < 2 ^ 8
below_1 z fits = omega (arith, ints, fits)

below_2 : (z : ℤ) → FitsSigned w16 z → cast_unsigned w16 z < 2 ^ 16
below_2 z fits = omega (arith, ints, fits)

below_4 : (z : ℤ) → FitsSigned w32 z → cast_unsigned w32 z < 2 ^ 32
below_4 z fits = omega (arith, ints, fits)

pub s1_reads : Reads s1_at s1 (FitsSigned w8)
unfolding s1_at
s1_reads = made_reads (u1_reads cut) (cast_signed w8) (cast_unsigned w8) s1 (FitsSigned w8)
    (λ n lt. (ap u1 (sym (of_z-to_z w8 n lt)), sfits_to_z (omega (arith, lt))))
    (λ z fits. (below_1 z fits, to_z-of_z w8 z fits, refl))

pub s2_reads : Reads s2_at s2 (FitsSigned w16)
unfolding s2_at
s2_reads = made_reads (u2_reads cut) (cast_signed w16) (cast_unsigned w16) s2 (FitsSigned w16)
    (λ n lt. (ap u2 (sym (of_z-to_z w16 n lt)), sfits_to_z (omega (arith, lt))))
    (λ z fits. (below_2 z fits, to_z-of_z w16 z fits, refl))

pub s4_reads : Reads s4_at s4 (FitsSigned w32)
unfolding s4_at
s4_reads = made_reads (u4_reads cut) (cast_signed w32) (cast_unsigned w32) s4 (FitsSigned w32)
    (λ n lt. (ap u4 (sym (of_z-to_z w32 n lt)), sfits_to_z (omega (arith, lt))))
    (λ z fits. (below_4 z fits, to_z-of_z w32 z fits, refl))

-- ---- instructions that are read

-- an instruction that is read behind this opcode is spelled so
pub record Taken (at op : ℕ) (c : Cursor) (x : Instr × Cursor) : Type 0 where
  pub text : List ℕ
  pub spans : Spans c text x.1
  pub spelled : SpellsInstruction at x.0 (op ∷ text)
  pub proper : IsProper x.0

pub made_taken : {A : Type 0} {p : OperandReader A} {s : A → List ℕ} {P : A → Type 0} → Reads p s P → (f : A → Instr) (at op : ℕ)
    → ((a : A) → P a → SpellsInstruction at (f a) (op ∷ s a) × IsProper (f a)) → (c : Cursor) (x : Instr × Cursor) → IsBytes c.rest → made f p c ≡ Ok x → Taken at op c x
made_taken {s} reads f at op good c x fits e =
    let a = step_takes reads c fits e in
    let made : (f a.value, a.next) ≡ x = cc (a.rest) in
    let w = good a.value a.good in
    subst (λ (y : Instr × Cursor). Taken at op c y) made (record { text = s a.value; spans = a.spans; spelled = w.0; proper = w.1 })

pub checked_taken : {A : Type 0} {p : OperandReader A} {s : A → List ℕ} {P : A → Type 0} → Reads p s P → (test : A → Bool) (f : A → Instr) (at op : ℕ)
    → ((a : A) → P a → test a ≡ true → SpellsInstruction at (f a) (op ∷ s a) × IsProper (f a)) → (c : Cursor) (x : Instr × Cursor) → IsBytes c.rest → checked test f p c ≡ Ok x → Taken at op c x
checked_taken {s} reads test f at op good c x fits e =
    let a = step_takes reads c fits e in
    cond_either (test a.value) _ _ a.rest
    (λ passes d.
    let made : (f a.value, a.next) ≡ x = cc (d) in
    let w = good a.value a.good passes in
    subst (λ (y : Instr × Cursor). Taken at op c y) made (record { text = s a.value; spans = a.spans; spelled = w.0; proper = w.1 }))
    (λ fails d. absurd cc)

pub made_again : {A : Type 0} {p : OperandReader A} {s : A → List ℕ} {P : A → Type 0} → Reads p s P → (f : A → Instr) (a : A) (c next : Cursor) → P a → Spans c (s a) next → made f p c ≡ Ok (f a, next)
made_again reads f a c next good spans = bind_again _ (reads.again c a next good spans) refl

pub checked_again : {A : Type 0} {p : OperandReader A} {s : A → List ℕ} {P : A → Type 0} → Reads p s P → (test : A → Bool) (f : A → Instr) (a : A) (c next : Cursor) → P a → test a ≡ true → Spans c (s a) next
    → checked test f p c ≡ Ok (f a, next)
checked_again reads test f a c next good passes spans = bind_again _ (reads.again c a next good spans) (cond_true _ passes refl)

-- ---- parts of one length

-- this many bytes are read, where they are there
pub record Fixed {A : Type 0} (p : OperandReader A) (n : ℕ) : Type 0 where
  pub some : (c : Cursor) (x : A × Cursor) → p c ≡ Ok x → n + length x.1.rest ≡ length c.rest
  pub fails : (c : Cursor) (e : OpError) → p c ≡ Err e → (e ≡ errors.Cut) × (length c.rest < n)
  pub short : (c : Cursor) → length c.rest < n → p c ≡ Err errors.Cut

bytes_some : (n : ℕ) (c : Cursor) (x : List ℕ × Cursor) → bytes_at n c ≡ Ok x → n + length x.1.rest ≡ length c.rest
bytes_some n c x h =
    cond_either (ltb (length c.rest) n) _ _ h (λ short d. absurd cc) (λ long d.
    let le : n ≤ length c.rest = ltb-false _ _ long in
    let next-is : record { place = c.place + n; rest = drop n c.rest } ≡ x.1 = cc in
    subst (λ (m : Cursor). n + length m.rest ≡ length c.rest) next-is (omega (arith, length-drop n c.rest)))

lifted_cut : {A : Type 0} {r : Result A Cut} {e : OpError} → lifted (λ x. cut x.0) r ≡ Err e → (d : Cut) × (r ≡ Err d) × (e ≡ errors.Cut)
lifted_cut h = let d = lifted_err h in (d.0, d.1, sym d.2)

pub block_fixed : (n : ℕ) → Fixed (block_at cut n) n
block_fixed n = record {
  some = λ c x h. bytes_some n c x (lifted_ok (λ (y : Cut). cut y.0) h);
  fails = λ c e h. let d = lifted_cut h in (d.2, (bytes_cut n c d.0 d.1).0);
  short = λ c lt. ap (lifted (λ (y : Cut). cut y.0)) (bytes_short n c lt);
}

abbrev pub number_part : Width → OperandReader ℕ
number_part w c = lifted (λ x. cut x.0) (number_at w c)

number_some : (w : Width) (c : Cursor) (x : ℕ × Cursor) → number_at w c ≡ Ok x → byte_len w + length x.1.rest ≡ length c.rest
number_some w c x h =
    let b = bind_ok h in
    let next-is : b.0.1 ≡ x.1 = cc (b.2) in
    subst (λ (m : Cursor). byte_len w + length m.rest ≡ length c.rest) next-is (bytes_some (byte_len w) c b.0 b.1)

pub number_fixed : (w : Width) → Fixed (number_part w) (byte_len w)
number_fixed w = record {
  some = λ c x h. number_some w c x (lifted_ok (λ (y : Cut). cut y.0) h);
  fails = λ c e h. let d = lifted_cut h in (d.2, (number_cut w c d.0 d.1).0);
  short = λ c lt. ap (lifted (λ (y : Cut). cut y.0)) (number_short w c lt);
}

pub u1_fixed : Fixed (u1_at cut) 1
u1_fixed = number_fixed w8

pub u2_fixed : Fixed (u2_at cut) 2
u2_fixed = number_fixed w16

pub u4_fixed : Fixed (u4_at cut) 4
u4_fixed = number_fixed w32

-- it was read, or it was not
abbrev pub Outcome : {A : Type 0} → Result A OpError → Type 0
Outcome {A} r = ((x : A) × (r ≡ Ok x)) ⊎ ((e : OpError) × (r ≡ Err e))

pub outcome : {A : Type 0} (r : Result A OpError) → Outcome r
outcome (Ok x) = inl (x, refl)
outcome (Err e) = inr (e, refl)

pub made_fixed : {A B : Type 0} {p : OperandReader A} {n : ℕ} (f : A → B) → Fixed p n → Fixed (made f p) n
made_fixed {A} {B} {p} {n} f fixed = record {
  some = λ c x h.
      let a = bind_ok h in
      let next-is : a.0.1 ≡ x.1 = cc (a.2) in
      subst (λ (m : Cursor). n + length m.rest ≡ length c.rest) next-is (fixed.some c a.0 a.1);
  fails = λ c e h. bind_err h (λ r. fixed.fails c e r) (λ a r d. absurd cc);
  short = λ c lt. bind_fails _ (fixed.short c lt);
}

pub both_fixed : {A B : Type 0} {p : OperandReader A} {q : OperandReader B} {m n : ℕ} → Fixed p m → Fixed q n → Fixed (both p q) (m + n)
both_fixed {A} {B} {p} {q} {m} {n} first second = record {
  some = λ c x h.
      let a = bind_ok {r = p c} h in
      let b = bind_ok {r = q a.0.1} a.2 in
      let next-is : b.0.1 ≡ x.1 = cc (b.2) in
      subst (λ (k : Cursor). m + n + length k.rest ≡ length c.rest) next-is (omega (arith, first.some c a.0 a.1, second.some a.0.1 b.0 b.1));
  fails = λ c e h.
      bind_err h
      (λ r. let d = first.fails c e r in (d.0, omega (arith, d.1)))
      (λ a r g. bind_err g (λ s. let d = second.fails a.1 e s in (d.0, omega (arith, d.1, first.some c a r))) (λ b s k. absurd cc));
  short = λ c lt.
      elim (outcome (p c)) [
        | inl a ↦ bind_again _ a.1 (bind_fails _ (second.short a.0.1 (omega (arith, lt, first.some c a.0 a.1))))
        | inr e ↦ bind_fails _ (e.1 ∙ ap failed (first.fails c e.0 e.1).0)
      ];
}

pub s1_fixed : Fixed s1_at 1
unfolding s1_at
s1_fixed = made_fixed (cast_signed w8) u1_fixed

pub s2_fixed : Fixed s2_at 2
unfolding s2_at
s2_fixed = made_fixed (cast_signed w16) u2_fixed

pub s4_fixed : Fixed s4_at 4
unfolding s4_at
s4_fixed = made_fixed (cast_signed w32) u4_fixed

many_some : {A : Type 0} {p : OperandReader A} {n : ℕ} → Fixed p n → (k : ℕ) (c : Cursor) (x : List A × Cursor) → many_at p k c ≡ Ok x → k * n + length x.1.rest ≡ length c.rest
unfolding many_at
many_some {n} fixed zero c x h =
    let next-is : c ≡ x.1 = cc in
    subst (λ (m : Cursor). 0 * n + length m.rest ≡ length c.rest) next-is (omega arith)
many_some {p} {n} fixed (suc k) c x h =
    let a = bind_ok {r = p c} h in
    let b = bind_ok {r = many_at p k a.0.1} a.2 in
    let next-is : b.0.1 ≡ x.1 = cc (b.2) in
    subst (λ (m : Cursor). suc k * n + length m.rest ≡ length c.rest) next-is (omega (arith, fixed.some c a.0 a.1, many_some fixed k a.0.1 b.0 b.1))

many_fails : {A : Type 0} {p : OperandReader A} {n : ℕ} → Fixed p n → (k : ℕ) (c : Cursor) (e : OpError) → many_at p k c ≡ Err e → (e ≡ errors.Cut) × (length c.rest < k * n)
unfolding many_at
many_fails fixed zero c e h = absurd cc
many_fails {n} fixed (suc k) c e h =
    bind_err h
    (λ r. let d = fixed.fails c e r in (d.0, omega (arith, d.1)))
    (λ a r g. bind_err g (λ s. let d = many_fails fixed k a.1 e s in (d.0, omega (arith, d.1, fixed.some c a r))) (λ b s l. absurd cc))

many_short : {A : Type 0} {p : OperandReader A} {n : ℕ} → Fixed p n → (k : ℕ) (c : Cursor) → length c.rest < k * n → many_at p k c ≡ Err errors.Cut
unfolding many_at
many_short fixed zero c lt = absurd (omega (arith, lt))
many_short {p} fixed (suc k) c lt =
    elim (outcome (p c)) [
      | inl a ↦ bind_again _ a.1 (bind_fails _ (many_short fixed k a.0.1 (omega (arith, lt, fixed.some c a.0 a.1))))
      | inr e ↦ bind_fails _ (e.1 ∙ ap failed (fixed.fails c e.0 e.1).0)
    ]

pub many_fixed : {A : Type 0} {p : OperandReader A} {n : ℕ} → Fixed p n → (k : ℕ) → Fixed (many_at p k) (k * n)
many_fixed fixed k = record { some = many_some fixed k; fails = many_fails fixed k; short = many_short fixed k }

-- ---- operands that are judged

-- bytes are missing, or all are there and the test fails
pub checked_fails : {A B P : Type 0} {p : OperandReader A} {n : ℕ} → Fixed p n → (test : A → Bool) (f : A → B) (c : Cursor) (e : OpError) → checked test f p c ≡ Err e
    → (e ≡ errors.Cut → length c.rest < n → P) → (e ≡ errors.BadOperand → (x : A × Cursor) → p c ≡ Ok x → test x.0 ≡ false → P) → P
checked_fails fixed test f c e h one other =
    bind_err h
    (λ r. let d = fixed.fails c e r in one d.0 d.1)
    (λ a r g. cond_either (test a.0) _ _ g (λ passes d. absurd cc) (λ fails d. let bad : errors.BadOperand ≡ e = cc in other (sym bad) a r fails))

pub checked_short : {A B : Type 0} {p : OperandReader A} {n : ℕ} → Fixed p n → (test : A → Bool) (f : A → B) (c : Cursor) → length c.rest < n → checked test f p c ≡ Err errors.Cut
checked_short fixed test f c lt = bind_fails _ (fixed.short c lt)

pub checked_bad : {A B : Type 0} {p : OperandReader A} {n : ℕ} → Fixed p n → (test : A → Bool) (f : A → B) (c : Cursor) → n ≤ length c.rest → ((x : A × Cursor) → p c ≡ Ok x → test x.0 ≡ false)
    → checked test f p c ≡ Err errors.BadOperand
checked_bad {p} fixed test f c le bad =
    elim (outcome (p c)) [
      | inl a ↦ bind_again _ a.1 (cond_false _ (bad a.0 a.1) refl)
      | inr e ↦ absurd (omega (arith, le, (fixed.fails c e.0 e.1).1))
    ]
