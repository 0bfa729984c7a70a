-- One constant: what is read is spelled so, and what is spelled so is read.
use Rattle.std.proofs.Common.{◌≡◌, ℕ, ◌^◌, ◌<◌, ◌||◌, true, eqb, List, ◌++◌, length, Result, Ok, FitsSigned, refl, sym, ap, subst, arith, inl, inr}
use Rattle.std.specs.Int.{w32, w64, cast_signed, cast_unsigned}
use Rattle.std.proofs.lemmas.Bool.{eqb-true, or_cases}
use Rattle.std.proofs.lemmas.Int.{of_z-to_z, to_z-of_z, ints}
use Rattle.dj_cursor.specs.trusted.Spelling.{u1, u2, u4, u8, s4, s8}
use Rattle.dj_cursor.specs.Steps.{◌>>=◌}
use Rattle.dj_cursor.specs.Reading.{Cursor, u1_at, u2_at, u4_at, u8_at}
use Rattle.dj_cursor.proofs.Bytes.{IsBytes}
use Rattle.dj_cursor.proofs.Steps.{bind_again, never_ok, guard_ok, guard_again, cond_either}
use Rattle.dj_cursor.proofs.Spans.{Spans, Spans-then, Reads, step_takes, step_again}
use Rattle.dj_cursor.proofs.Numbers.{u1_reads, u2_reads, u4_reads, u8_reads, block_reads}
use Rattle.dj_pool.specs.declared.pool.PoolError.{PoolError}
use Rattle.dj_pool.specs.declared.pool.PoolError.TheVariants as pool_errors
use Rattle.dj_pool.specs.trusted.Pool.{Constant, Utf8, Integer, Float, Long, Double, Class, Text, Field, Method, InterfaceMethod, NameAndType, Handle, MethodType, Dynamic, Hole, constant_bytes, IsWhole}
use Rattle.dj_pool.specs.Reading.{utf8_at, number4_at, number8_at, named_at, paired_at, handle_at, is_named, is_paired, untagged_at, constant_at_cursor}
use Rattle.dj_pool.proofs.Decides.{TestsDecide}

-- ---- signed numbers

pub fits_again_4 : (n : ℕ) → n < 2 ^ 32 → FitsSigned w32 (cast_signed w32 n)
fits_again_4 n lt = omega (arith, ints, lt)

pub fits_again_8 : (n : ℕ) → n < 2 ^ 64 → FitsSigned w64 (cast_signed w64 n)
fits_again_8 n lt = omega (arith, ints, lt)

below_4 : (z : _) → FitsSigned w32 z → cast_unsigned w32 z < 2 ^ 32
below_4 z fits = omega (arith, ints, fits)

below_8 : (z : _) → FitsSigned w64 z → cast_unsigned w64 z < 2 ^ 64
below_8 z fits = omega (arith, ints, fits)

-- ---- what is read after a tag

-- the rest of a constant that has this tag
pub record Tail (tag : ℕ) (c : Cursor) (x : Constant × Cursor) : Type 0 where
  pub text : List ℕ
  pub spells : u1 tag ++ text ≡ constant_bytes x.0
  pub spans : Spans c text x.1
  pub whole : IsWhole x.0

-- a number, and what is made of it
one_tail : (tag : ℕ) (bytes_of : ℕ → List ℕ) (P : ℕ → Type 0) (part : Cursor → Result (ℕ × Cursor) PoolError) (make : ℕ → Constant) → Reads part bytes_of P
    → ((n : ℕ) → P n → (u1 tag ++ bytes_of n ≡ constant_bytes (make n)) × IsWhole (make n)) → (c : Cursor) (x : Constant × Cursor) → IsBytes c.rest → (part c >>= λ n. Ok (make n.0, n.1)) ≡ Ok x → Tail tag c x
one_tail tag bytes_of P part make reads is c x fits e =
    let n = step_takes reads c fits e in
    let made : (make n.value, n.next) ≡ x = cc (n.rest) in
    let g = is n.value n.good in
    subst (λ (y : Constant × Cursor). Tail tag c y) made (record { text = bytes_of n.value; spells = g.0; spans = n.spans; whole = g.1 })

-- two numbers, and what is made of them
two_tail : (tag : ℕ) (first_bytes : ℕ → List ℕ) (P : ℕ → Type 0) (part : Cursor → Result (ℕ × Cursor) PoolError) (make : ℕ → ℕ → Constant) → Reads part first_bytes P
    → ((m n : ℕ) → P m → n < 2 ^ 16 → (u1 tag ++ (first_bytes m ++ u2 n) ≡ constant_bytes (make m n)) × IsWhole (make m n)) → (c : Cursor) (x : Constant × Cursor) → IsBytes c.rest
    → (part c >>= λ m. u2_at pool_errors.Cut m.1 >>= λ n. Ok (make m.0 n.0, n.1)) ≡ Ok x → Tail tag c x
two_tail tag first_bytes P part make reads is c x fits e =
    let m = step_takes reads c fits e in
    let n = step_takes (u2_reads pool_errors.Cut) m.next m.fits m.rest in
    let made : (make m.value n.value, n.next) ≡ x = cc (n.rest) in
    let g = is m.value n.value m.good n.good in
    subst (λ (y : Constant × Cursor). Tail tag c y) made (record { text = first_bytes m.value ++ u2 n.value; spells = g.0; spans = Spans-then m.spans n.spans; whole = g.1 })

utf8_tail : TestsDecide → (index : ℕ) (c : Cursor) (x : Constant × Cursor) → IsBytes c.rest → utf8_at index c ≡ Ok x → Tail 1 c x
unfolding utf8_at
utf8_tail d index c x fits e =
    let n = step_takes (u2_reads pool_errors.Cut) c fits e in
    let t = step_takes (block_reads pool_errors.Cut n.value) n.next n.fits n.rest in
    let g = guard_ok _ t.rest in
    let both : Spans c (u2 n.value ++ t.value) t.next = Spans-then n.spans t.spans in
    let whole : Spans c (u2 (length t.value) ++ t.value) t.next = subst (λ (k : ℕ). Spans c (u2 k ++ t.value) t.next) (sym t.good) both in
    let made : Tail 1 c (Utf8 t.value, t.next) = record { text = u2 (length t.value) ++ t.value; spells = refl; spans = whole; whole = (omega (arith, t.good, n.good), (d.modified_utf8 t.value).0 g.0) } in
    subst (λ (y : Constant × Cursor). Tail 1 c y) g.1 made

integer_tail : (c : Cursor) (x : Constant × Cursor) → IsBytes c.rest → number4_at 3 c ≡ Ok x → Tail 3 c x
unfolding number4_at
integer_tail = one_tail 3 u4 (λ n. n < 2 ^ 32) (u4_at pool_errors.Cut) (λ n. Integer (cast_signed w32 n)) (u4_reads pool_errors.Cut) (λ n lt. (ap (λ (k : ℕ). u1 3 ++ u4 k) (sym (of_z-to_z w32 n lt)), fits_again_4 n lt))

float_tail : (c : Cursor) (x : Constant × Cursor) → IsBytes c.rest → number4_at 4 c ≡ Ok x → Tail 4 c x
unfolding number4_at
float_tail = one_tail 4 u4 (λ n. n < 2 ^ 32) (u4_at pool_errors.Cut) Float (u4_reads pool_errors.Cut) (λ n lt. (refl, lt))

long_tail : (c : Cursor) (x : Constant × Cursor) → IsBytes c.rest → number8_at 5 c ≡ Ok x → Tail 5 c x
unfolding number8_at
long_tail = one_tail 5 u8 (λ n. n < 2 ^ 64) (u8_at pool_errors.Cut) (λ n. Long (cast_signed w64 n)) (u8_reads pool_errors.Cut) (λ n lt. (ap (λ (k : ℕ). u1 5 ++ u8 k) (sym (of_z-to_z w64 n lt)), fits_again_8 n lt))

double_tail : (c : Cursor) (x : Constant × Cursor) → IsBytes c.rest → number8_at 6 c ≡ Ok x → Tail 6 c x
unfolding number8_at
double_tail = one_tail 6 u8 (λ n. n < 2 ^ 64) (u8_at pool_errors.Cut) Double (u8_reads pool_errors.Cut) (λ n lt. (refl, lt))

class_tail : (c : Cursor) (x : Constant × Cursor) → IsBytes c.rest → named_at 7 c ≡ Ok x → Tail 7 c x
unfolding named_at
class_tail = one_tail 7 u2 (λ n. n < 2 ^ 16) (u2_at pool_errors.Cut) Class (u2_reads pool_errors.Cut) (λ n lt. (refl, lt))

text_tail : (c : Cursor) (x : Constant × Cursor) → IsBytes c.rest → named_at 8 c ≡ Ok x → Tail 8 c x
unfolding named_at
text_tail = one_tail 8 u2 (λ n. n < 2 ^ 16) (u2_at pool_errors.Cut) Text (u2_reads pool_errors.Cut) (λ n lt. (refl, lt))

method_type_tail : (c : Cursor) (x : Constant × Cursor) → IsBytes c.rest → named_at 16 c ≡ Ok x → Tail 16 c x
unfolding named_at
method_type_tail = one_tail 16 u2 (λ n. n < 2 ^ 16) (u2_at pool_errors.Cut) MethodType (u2_reads pool_errors.Cut) (λ n lt. (refl, lt))

field_tail : (c : Cursor) (x : Constant × Cursor) → IsBytes c.rest → paired_at 9 c ≡ Ok x → Tail 9 c x
unfolding paired_at
field_tail = two_tail 9 u2 (λ n. n < 2 ^ 16) (u2_at pool_errors.Cut) Field (u2_reads pool_errors.Cut) (λ m n l k. (refl, (l, k)))

method_tail : (c : Cursor) (x : Constant × Cursor) → IsBytes c.rest → paired_at 10 c ≡ Ok x → Tail 10 c x
unfolding paired_at
method_tail = two_tail 10 u2 (λ n. n < 2 ^ 16) (u2_at pool_errors.Cut) Method (u2_reads pool_errors.Cut) (λ m n l k. (refl, (l, k)))

interface_method_tail : (c : Cursor) (x : Constant × Cursor) → IsBytes c.rest → paired_at 11 c ≡ Ok x → Tail 11 c x
unfolding paired_at
interface_method_tail = two_tail 11 u2 (λ n. n < 2 ^ 16) (u2_at pool_errors.Cut) InterfaceMethod (u2_reads pool_errors.Cut) (λ m n l k. (refl, (l, k)))

name_and_type_tail : (c : Cursor) (x : Constant × Cursor) → IsBytes c.rest → paired_at 12 c ≡ Ok x → Tail 12 c x
unfolding paired_at
name_and_type_tail = two_tail 12 u2 (λ n. n < 2 ^ 16) (u2_at pool_errors.Cut) NameAndType (u2_reads pool_errors.Cut) (λ m n l k. (refl, (l, k)))

dynamic_tail : (c : Cursor) (x : Constant × Cursor) → IsBytes c.rest → paired_at 18 c ≡ Ok x → Tail 18 c x
unfolding paired_at
dynamic_tail = two_tail 18 u2 (λ n. n < 2 ^ 16) (u2_at pool_errors.Cut) Dynamic (u2_reads pool_errors.Cut) (λ m n l k. (refl, (l, k)))

handle_tail : (c : Cursor) (x : Constant × Cursor) → IsBytes c.rest → handle_at c ≡ Ok x → Tail 15 c x
unfolding handle_at
handle_tail = two_tail 15 u1 (λ n. n < 2 ^ 8) (u1_at pool_errors.Cut) Handle (u1_reads pool_errors.Cut) (λ m n l k. (refl, (l, k)))

-- ---- which tag it is

-- what holds at each tag of some, where the tag is one of them
pub at_one : (t : ℕ) (P : ℕ → Type 0) (n : ℕ) → eqb n t ≡ true → P t → P n
at_one t P n h p = subst P (sym (eqb-true n t h)) p

pub at_two : (s t : ℕ) (P : ℕ → Type 0) (n : ℕ) → (eqb n s || eqb n t) ≡ true → P s → P t → P n
at_two s t P n h p q = elim (or_cases (eqb n s) (eqb n t) h) as (λ _. P n) [ inl a ↦ at_one s P n a p | inr b ↦ at_one t P n b q ]

pub at_named : (P : ℕ → Type 0) (n : ℕ) → is_named n ≡ true → P 7 → P 8 → P 16 → P n
at_named P n h p q r = elim (or_cases (eqb n 7) (eqb n 8 || eqb n 16) h) as (λ _. P n) [ inl a ↦ at_one 7 P n a p | inr b ↦ at_two 8 16 P n b q r ]

pub at_paired : (P : ℕ → Type 0) (n : ℕ) → is_paired n ≡ true → P 9 → P 10 → P 11 → P 12 → P 18 → P n
at_paired P n h p q r s t =
    elim (or_cases (eqb n 9) (eqb n 10 || (eqb n 11 || (eqb n 12 || eqb n 18))) h) as (λ _. P n) [
      | inl a ↦ at_one 9 P n a p
      | inr b ↦ elim (or_cases (eqb n 10) (eqb n 11 || (eqb n 12 || eqb n 18)) b) as (λ _. P n) [
        | inl a ↦ at_one 10 P n a q
        | inr b ↦ elim (or_cases (eqb n 11) (eqb n 12 || eqb n 18) b) as (λ _. P n) [ inl a ↦ at_one 11 P n a r | inr b ↦ at_two 12 18 P n b s t ]
      ]
    ]

untagged_takes : TestsDecide → (index place tag : ℕ) (c : Cursor) (x : Constant × Cursor) → IsBytes c.rest → untagged_at index place tag c ≡ Ok x → Tail tag c x
unfolding untagged_at
untagged_takes d index place tag c x fits e =
    cond_either (eqb tag 1) _ _ e (λ t r. at_one 1 (λ (n : ℕ). Tail n c x) tag t (utf8_tail d index c x fits r)) (λ t r.
    cond_either (eqb tag 3 || eqb tag 4) _ _ r (λ t r. at_two 3 4 (λ (n : ℕ). number4_at n c ≡ Ok x → Tail n c x) tag t (integer_tail c x fits) (float_tail c x fits) r) (λ t r.
    cond_either (eqb tag 5 || eqb tag 6) _ _ r (λ t r. at_two 5 6 (λ (n : ℕ). number8_at n c ≡ Ok x → Tail n c x) tag t (long_tail c x fits) (double_tail c x fits) r) (λ t r.
    cond_either (is_named tag) _ _ r (λ t r. at_named (λ (n : ℕ). named_at n c ≡ Ok x → Tail n c x) tag t (class_tail c x fits) (text_tail c x fits) (method_type_tail c x fits) r) (λ t r.
    cond_either (is_paired tag) _ _ r (λ t r. at_paired (λ (n : ℕ). paired_at n c ≡ Ok x → Tail n c x) tag t (field_tail c x fits) (method_tail c x fits) (interface_method_tail c x fits) (name_and_type_tail c x fits) (dynamic_tail c x fits) r) (λ t r.
    cond_either (eqb tag 15) _ _ r (λ t r. at_one 15 (λ (n : ℕ). Tail n c x) tag t (handle_tail c x fits r)) (λ t r. never_ok r))))))

constant_takes : TestsDecide → (index : ℕ) (c : Cursor) (x : Constant × Cursor) → IsBytes c.rest → constant_at_cursor index c ≡ Ok x → Spans c (constant_bytes x.0) x.1 × IsWhole x.0
unfolding constant_at_cursor
constant_takes d index c x fits e =
    let t = step_takes (u1_reads pool_errors.Cut) c fits e in
    let r = untagged_takes d index c.place t.value t.next x t.fits t.rest in
    (subst (λ (b : List ℕ). Spans c b x.1) r.spells (Spans-then t.spans r.spans), r.whole)

-- ---- what is spelled so is read

-- what is read at this tag
tag_again : (index tag : ℕ) (c : Cursor) (text : List ℕ) (x : Constant × Cursor) → tag < 2 ^ 8 → ((mid : Cursor) → Spans mid text x.1 → untagged_at index c.place tag mid ≡ Ok x) → Spans c (u1 tag ++ text) x.1 → constant_at_cursor index c ≡ Ok x
unfolding constant_at_cursor
tag_again index tag c text x lt read s =
    let t = step_again (u1_reads pool_errors.Cut) c tag text x.1 lt s in
    bind_again _ t.1 (read t.0 t.2)

one_again : (bytes_of : ℕ → List ℕ) (P : ℕ → Type 0) (part : Cursor → Result (ℕ × Cursor) PoolError) (make : ℕ → Constant) → Reads part bytes_of P → (n : ℕ) → P n
    → (mid next : Cursor) → Spans mid (bytes_of n) next → (let r : Result (Constant × Cursor) PoolError = Ok (make n, next) in (part mid >>= λ x. Ok (make x.0, x.1)) ≡ r)
one_again bytes_of P part make reads n good mid next s = bind_again _ (reads.again mid n next good s) refl

two_again : (bytes_of : ℕ → List ℕ) (P : ℕ → Type 0) (part : Cursor → Result (ℕ × Cursor) PoolError) (make : ℕ → ℕ → Constant) → Reads part bytes_of P → (m n : ℕ) → P m → n < 2 ^ 16
    → (mid next : Cursor) → Spans mid (bytes_of m ++ u2 n) next → (let r : Result (Constant × Cursor) PoolError = Ok (make m n, next) in (part mid >>= λ x. u2_at pool_errors.Cut x.1 >>= λ y. Ok (make x.0 y.0, y.1)) ≡ r)
two_again bytes_of P part make reads m n good lt mid next s =
    let a = step_again reads mid m (u2 n) next good s in
    bind_again _ a.1 (bind_again _ ((u2_reads pool_errors.Cut).again a.0 n next lt a.2) refl)

utf8_again : TestsDecide → (index : ℕ) (text : List ℕ) → IsWhole (Utf8 text) → (c next : Cursor) → Spans c (u2 (length text) ++ text) next → utf8_at index c ≡ Ok (Utf8 text, next)
unfolding utf8_at
utf8_again d index text good c next s =
    let n = step_again (u2_reads pool_errors.Cut) c (length text) text next good.0 s in
    bind_again _ n.1 (bind_again _ ((block_reads pool_errors.Cut (length text)).again n.0 text next refl n.2) (guard_again _ ((d.modified_utf8 text).1 good.1)))

integer_again : (z : _) → FitsSigned w32 z → (c next : Cursor) → Spans c (s4 z) next → number4_at 3 c ≡ Ok (Integer z, next)
unfolding number4_at
integer_again z fits c next s =
    bind_again _ ((u4_reads pool_errors.Cut).again c (cast_unsigned w32 z) next (below_4 z fits) s) (ap (λ (k : _). Ok (Integer k, next)) (to_z-of_z w32 z fits))

long_again : (z : _) → FitsSigned w64 z → (c next : Cursor) → Spans c (s8 z) next → number8_at 5 c ≡ Ok (Long z, next)
unfolding number8_at
long_again z fits c next s =
    bind_again _ ((u8_reads pool_errors.Cut).again c (cast_unsigned w64 z) next (below_8 z fits) s) (ap (λ (k : _). Ok (Long k, next)) (to_z-of_z w64 z fits))

constant_again : TestsDecide → (index : ℕ) (c : Cursor) (k : Constant) (next : Cursor) → IsWhole k → Spans c (constant_bytes k) next → constant_at_cursor index c ≡ Ok (k, next)
unfolding untagged_at number4_at number8_at named_at paired_at handle_at
constant_again d index c (Utf8 text) next good s = tag_again index 1 c (u2 (length text) ++ text) (Utf8 text, next) (omega arith) (λ mid m. utf8_again d index text good mid next m) s
constant_again d index c (Integer z) next good s = tag_again index 3 c (s4 z) (Integer z, next) (omega arith) (λ mid m. integer_again z good mid next m) s
constant_again d index c (Float n) next good s = tag_again index 4 c (u4 n) (Float n, next) (omega arith) (λ mid m. one_again u4 (λ n. n < 2 ^ 32) (u4_at pool_errors.Cut) Float (u4_reads pool_errors.Cut) n good mid next m) s
constant_again d index c (Long z) next good s = tag_again index 5 c (s8 z) (Long z, next) (omega arith) (λ mid m. long_again z good mid next m) s
constant_again d index c (Double n) next good s = tag_again index 6 c (u8 n) (Double n, next) (omega arith) (λ mid m. one_again u8 (λ n. n < 2 ^ 64) (u8_at pool_errors.Cut) Double (u8_reads pool_errors.Cut) n good mid next m) s
constant_again d index c (Class n) next good s = tag_again index 7 c (u2 n) (Class n, next) (omega arith) (λ mid m. one_again u2 (λ n. n < 2 ^ 16) (u2_at pool_errors.Cut) Class (u2_reads pool_errors.Cut) n good mid next m) s
constant_again d index c (Text n) next good s = tag_again index 8 c (u2 n) (Text n, next) (omega arith) (λ mid m. one_again u2 (λ n. n < 2 ^ 16) (u2_at pool_errors.Cut) Text (u2_reads pool_errors.Cut) n good mid next m) s
constant_again d index c (Field a b) next good s = tag_again index 9 c (u2 a ++ u2 b) (Field a b, next) (omega arith) (λ mid m. two_again u2 (λ n. n < 2 ^ 16) (u2_at pool_errors.Cut) Field (u2_reads pool_errors.Cut) a b good.0 good.1 mid next m) s
constant_again d index c (Method a b) next good s = tag_again index 10 c (u2 a ++ u2 b) (Method a b, next) (omega arith) (λ mid m. two_again u2 (λ n. n < 2 ^ 16) (u2_at pool_errors.Cut) Method (u2_reads pool_errors.Cut) a b good.0 good.1 mid next m) s
constant_again d index c (InterfaceMethod a b) next good s = tag_again index 11 c (u2 a ++ u2 b) (InterfaceMethod a b, next) (omega arith) (λ mid m. two_again u2 (λ n. n < 2 ^ 16) (u2_at pool_errors.Cut) InterfaceMethod (u2_reads pool_errors.Cut) a b good.0 good.1 mid next m) s
constant_again d index c (NameAndType a b) next good s = tag_again index 12 c (u2 a ++ u2 b) (NameAndType a b, next) (omega arith) (λ mid m. two_again u2 (λ n. n < 2 ^ 16) (u2_at pool_errors.Cut) NameAndType (u2_reads pool_errors.Cut) a b good.0 good.1 mid next m) s
constant_again d index c (Handle a b) next good s = tag_again index 15 c (u1 a ++ u2 b) (Handle a b, next) (omega arith) (λ mid m. two_again u1 (λ n. n < 2 ^ 8) (u1_at pool_errors.Cut) Handle (u1_reads pool_errors.Cut) a b good.0 good.1 mid next m) s
constant_again d index c (MethodType n) next good s = tag_again index 16 c (u2 n) (MethodType n, next) (omega arith) (λ mid m. one_again u2 (λ n. n < 2 ^ 16) (u2_at pool_errors.Cut) MethodType (u2_reads pool_errors.Cut) n good mid next m) s
constant_again d index c (Dynamic a b) next good s = tag_again index 18 c (u2 a ++ u2 b) (Dynamic a b, next) (omega arith) (λ mid m. two_again u2 (λ n. n < 2 ^ 16) (u2_at pool_errors.Cut) Dynamic (u2_reads pool_errors.Cut) a b good.0 good.1 mid next m) s
constant_again d index c Hole next good s = absurd good

pub constant_reads : TestsDecide → (index : ℕ) → Reads (constant_at_cursor index) constant_bytes IsWhole
constant_reads d index = record { takes = constant_takes d index; again = constant_again d index }
