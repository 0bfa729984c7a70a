-- What follows the offset_delta of a frame: what is read is spelled so, and what is spelled so is read.
use Rattle.std.proofs.Common.{◌≡◌, ℕ, ◌+◌, ◌-◌, ◌<◌, ◌≤◌, true, false, eqb, ltb, List, [], ◌∷◌, ◌++◌, length, Ok, refl, sym, ap, ap₂, subst, ◌∙◌, arith}
use Rattle.std.specs.List.{AllByRecursion}
use Rattle.std.specs.List.Sorted.{IsStrictlyIncreasing}
use Rattle.std.proofs.lemmas.Bool.{eqb-true, ltb-true, lt-ltb, le-ltb}
use Rattle.std.proofs.lemmas.Bool.Decides.{nat_tests}
use Rattle.dj_cursor.specs.trusted.Spelling.{table_bytes}
use Rattle.dj_cursor.specs.Reading.{Cursor}
use Rattle.dj_cursor.proofs.Bytes.{IsBytes}
use Rattle.dj_cursor.proofs.Steps.{bind_again, cond_either, cond_true, cond_false}
use Rattle.dj_cursor.proofs.Spans.{Spans, Spans-none, Spans-then, Spans-stay, step_takes, step_again}
use Rattle.dj_cursor.specs.Faults.{AreFew}
use Rattle.dj_cursor.proofs.Parts.{many_reads, table_reads}
use Rattle.dj_ops.specs.declared.frames.VType.{VType}
use Rattle.dj_ops.specs.declared.frames.Form.{Form}
use Rattle.dj_ops.specs.declared.frames.Form.TheVariants as forms
use Rattle.dj_frames.specs.declared.read.FrameError.TheVariants as errors
use Rattle.dj_frames.specs.trusted.StackMaps.{type_bytes, IsType, types_of, HasCounts, form_bytes, long_tag}
use Rattle.dj_frames.specs.Reading.{stack1_at, append_at, full_at, form_at}
use Rattle.dj_frames.proofs.TypeLaws.{type_reads}

-- ---- all of a list that is joined

pub all_join : {A : Type 0} (P : A → Type 0) (xs ys : List A) → AllByRecursion P xs → AllByRecursion P ys → AllByRecursion P (xs ++ ys)
all_join P [] ys p q = q
all_join P (x ∷ xs) ys p q = (p.0, all_join P xs ys p.1 q)

pub all_prefix : {A : Type 0} (P : A → Type 0) (xs ys : List A) → AllByRecursion P (xs ++ ys) → AllByRecursion P xs
all_prefix P [] ys p = tt
all_prefix P (x ∷ xs) ys p = (p.0, all_prefix P xs ys p.1)

pub all_back : {A : Type 0} (P : A → Type 0) (xs ys : List A) → AllByRecursion P (xs ++ ys) → AllByRecursion P ys
all_back P [] ys p = p
all_back P (x ∷ xs) ys p = all_back P xs ys p.1

-- ---- forms

-- the form has this tag, and can be spelled
pub record IsTagged (starts : List ℕ) (tag : ℕ) (form : Form) : Type 0 where
  pub is_tag : long_tag form ≡ tag
  pub counts : HasCounts form
  pub types : AllByRecursion (IsType starts) (types_of form)

abbrev pub Formed : List ℕ → ℕ → Cursor → Form × Cursor → Type 0
Formed starts tag c x = Spans c (form_bytes starts x.0) x.1 × IsTagged starts tag x.0

-- one operand, whatever the tag
abbrev pub Operand : List ℕ → Cursor → Form × Cursor → Type 0
Operand starts c x = (operand : VType) × (x.0 ≡ forms.Stack1 operand) × Spans c (type_bytes starts operand) x.1 × IsType starts operand

pub stack1_takes : (starts : List ℕ) → IsStrictlyIncreasing starts → (c : Cursor) (x : Form × Cursor) → IsBytes c.rest → stack1_at starts c ≡ Ok x → Operand starts c x
unfolding stack1_at
stack1_takes starts rise c x fits e =
    let operand = step_takes (type_reads starts rise) c fits e in
    let made : (forms.Stack1 operand.value, operand.next) ≡ x = cc (operand.rest) in
    subst (Operand starts c) made (operand.value, refl, operand.spans, operand.good)

pub stack1_again : (starts : List ℕ) → IsStrictlyIncreasing starts → (c : Cursor) (operand : VType) (next : Cursor) → IsType starts operand → Spans c (type_bytes starts operand) next → stack1_at starts c ≡ Ok (forms.Stack1 operand, next)
unfolding stack1_at
stack1_again starts rise c operand next good s = bind_again _ ((type_reads starts rise).again c operand next good s) refl

stack1_formed : (starts : List ℕ) (c : Cursor) (form : Form) (next : Cursor) → Operand starts c (form, next) → Formed starts 247 c (form, next)
stack1_formed starts c form next o =
    subst (λ (f : Form). Formed starts 247 c (f, next)) (sym o.1) (o.2, record { is_tag = refl; counts = tt; types = (o.3, tt) })

append_takes : (starts : List ℕ) → IsStrictlyIncreasing starts → (tag : ℕ) → 251 < tag → tag < 255 → (c : Cursor) (x : Form × Cursor) → IsBytes c.rest → append_at starts (tag - 251) c ≡ Ok x → Formed starts tag c x
unfolding append_at
append_takes starts rise tag low high c x fits e =
    let locals = step_takes (many_reads (type_reads starts rise) (tag - 251)) c fits e in
    let made : (forms.Append locals.value, locals.next) ≡ x = cc (locals.rest) in
    let count : length locals.value ≡ tag - 251 = locals.good.0 in
    subst (Formed starts tag c) made (locals.spans, record { is_tag = omega (arith, count, low); counts = (omega (arith, count, low), omega (arith, count, high)); types = locals.good.1 })

full_takes : (starts : List ℕ) → IsStrictlyIncreasing starts → (c : Cursor) (x : Form × Cursor) → IsBytes c.rest → full_at starts c ≡ Ok x → Formed starts 255 c x
unfolding full_at
full_takes starts rise c x fits e =
    let locals = step_takes (table_reads errors.BadFrame (type_reads starts rise)) c fits e in
    let operands = step_takes (table_reads errors.BadFrame (type_reads starts rise)) locals.next locals.fits locals.rest in
    let made : (forms.Full locals.value operands.value, operands.next) ≡ x = cc (operands.rest) in
    subst (Formed starts 255 c) made (
      Spans-then locals.spans operands.spans,
      record {
        is_tag = refl;
        counts = (locals.good.0, operands.good.0);
        types = all_join (IsType starts) locals.value operands.value locals.good.1 operands.good.1;
      },
    )

chop_formed : (starts : List ℕ) (tag : ℕ) → 247 < tag → tag < 251 → (c : Cursor) → Formed starts tag c (forms.Chop (251 - tag), c)
chop_formed starts tag low high c = (Spans-none c, record { is_tag = omega arith; counts = (omega arith, omega arith); types = tt })

same_formed : (starts : List ℕ) (c : Cursor) → Formed starts 251 c (forms.Same, c)
same_formed starts c = (Spans-none c, record { is_tag = refl; counts = tt; types = tt })

abbrev at_tag : (starts : List ℕ) (c : Cursor) (x : Form × Cursor) (tag other : ℕ) → tag ≡ other → Formed starts other c x → Formed starts tag c x
at_tag starts c x tag other same h = subst (λ (t : ℕ). Formed starts t c x) (sym same) h

pub form_takes : (starts : List ℕ) → IsStrictlyIncreasing starts → (tag : ℕ) → 247 ≤ tag → tag < 256 → (c : Cursor) (x : Form × Cursor) → IsBytes c.rest → form_at starts tag c ≡ Ok x → Formed starts tag c x
unfolding form_at
form_takes starts rise tag low high c x fits e =
    cond_either _ _ _ e (λ b d. at_tag starts c x tag 247 (eqb-true _ _ b) (stack1_formed starts c x.0 x.1 (stack1_takes starts rise c x fits d))) (λ a e.
    cond_either _ _ _ e (λ b d. let made : (forms.Chop (251 - tag), c) ≡ x = cc (d) in
    subst (Formed starts tag c) made (chop_formed starts tag (grind (arith, nat_tests)) (ltb-true _ _ b) c)) (λ b e.
    cond_either _ _ _ e (λ k d. let made : (forms.Same, c) ≡ x = cc (d) in
    at_tag starts c x tag 251 (eqb-true _ _ k) (subst (Formed starts 251 c) made (same_formed starts c))) (λ k e.
    cond_either _ _ _ e (λ m d. append_takes starts rise tag (grind (arith, nat_tests)) (ltb-true _ _ m) c x fits d) (λ m d.
    let last : tag ≡ 255 = grind (arith, nat_tests) in
    at_tag starts c x tag 255 last (full_takes starts rise c x fits d)))))

-- ---- what is spelled so is read

pub form_again : (starts : List ℕ) → IsStrictlyIncreasing starts → (c : Cursor) (form : Form) (next : Cursor) → HasCounts form → AllByRecursion (IsType starts) (types_of form) → Spans c (form_bytes starts form) next
    → form_at starts (long_tag form) c ≡ Ok (form, next)
unfolding form_at append_at full_at
form_again starts rise c forms.Same next counts types s = ap (λ (m : Cursor). Ok (forms.Same, m)) (Spans-stay s)
form_again starts rise c (forms.Stack1 operand) next counts types s = stack1_again starts rise c operand next types.0 s
form_again starts rise c (forms.Chop count) next counts types s =
    let is : 251 - (251 - count) ≡ count = omega (arith, counts.1) in
    let a : eqb (251 - count) 247 ≡ false = grind (arith, nat_tests) in
    let b : ltb (251 - count) 251 ≡ true = lt-ltb _ _ (omega (arith, counts.0, counts.1)) in
    let read : Ok (forms.Chop (251 - (251 - count)), c) ≡ Ok (forms.Chop count, next) = ap₂ (λ (n : ℕ) (m : Cursor). Ok (forms.Chop n, m)) is (Spans-stay s) in
    cond_false _ a (cond_true _ b read)
form_again starts rise c (forms.Append locals) next counts types s =
    let is : (251 + length locals) - 251 ≡ length locals = omega arith in
    let a : eqb (251 + length locals) 247 ≡ false = grind (arith, nat_tests) in
    let b : ltb (251 + length locals) 251 ≡ false = le-ltb _ _ (omega arith) in
    let d : eqb (251 + length locals) 251 ≡ false = grind (arith, nat_tests) in
    let f : ltb (251 + length locals) 255 ≡ true = lt-ltb _ _ (omega (arith, counts.1)) in
    let read : append_at starts (length locals) c ≡ Ok (forms.Append locals, next) = bind_again _ ((many_reads (type_reads starts rise) (length locals)).again c locals next (refl, types) s) refl in
    let same : append_at starts ((251 + length locals) - 251) c ≡ append_at starts (length locals) c = ap (λ (n : ℕ). append_at starts n c) is in
    cond_false _ a (cond_false _ b (cond_false _ d (cond_true _ f (same ∙ read))))
form_again starts rise c (forms.Full locals operands) next counts types s =
    let few : AreFew (IsType starts) locals = (counts.0, all_prefix (IsType starts) locals operands types) in
    let more : AreFew (IsType starts) operands = (counts.1, all_back (IsType starts) locals operands types) in
    let first = step_again (table_reads errors.BadFrame (type_reads starts rise)) c locals (table_bytes (type_bytes starts) operands) next few s in
    bind_again _ first.1 (bind_again _ ((table_reads errors.BadFrame (type_reads starts rise)).again first.0 operands next more first.2) refl)
