-- One constant that is not read: the first fault is reported, and reported only where it is.
use Rattle.std.proofs.Common.{◌≡◌, ℕ, ◌+◌, ◌^◌, ◌<◌, ◌⊎◌, ◌||◌, Bool, true, false, eqb, ℤ, pos, FitsSigned, List, [], ◌∷◌, ◌++◌, length, replicate, Contains, Result, Ok, Err, refl, sym, ap, subst, ◌∙◌, append_assoc, arith, inl, inr}
use Rattle.std.specs.Prelude.{slice_index_or}
use Rattle.std.specs.List.{flat_map, AllByRecursion}
use Rattle.std.specs.Int.{w32, w64, cast_unsigned}
use Rattle.std.proofs.lemmas.Bool.{eqb-true}
use Rattle.std.proofs.lemmas.Int.{ints}
use Rattle.std.proofs.lemmas.List.{length-append, length-replicate, append-nil}
use Rattle.std.proofs.lemmas.List.Elements.{All-from_recursion}
use Rattle.dj_cursor.specs.trusted.Spelling.{u1, u2, u4, u8, s4, s8}
use Rattle.dj_cursor.specs.Steps.{◌>>=◌}
use Rattle.dj_cursor.specs.Reading.{Cursor, block_at, u1_at, u2_at, u4_at, u8_at}
use Rattle.dj_cursor.specs.Faults.{after, IsCut}
use Rattle.dj_cursor.proofs.Bytes.{IsBytes}
use Rattle.dj_cursor.proofs.Steps.{bind_again, bind_err, bind_fails, cond_either, cond_false}
use Rattle.dj_cursor.proofs.Spans.{Spans, IsBytes-Spans, Reads, step_again}
use Rattle.dj_cursor.proofs.Numbers.{u1_reads, u2_reads, u4_reads, u8_reads, block_reads}
use Rattle.dj_cursor.proofs.FaultLaws.{Refuses, after-Spans, u1_refuses, u2_refuses, u4_refuses, u8_refuses, block_refuses}
use Rattle.dj_names.specs.trusted.ModifiedUtf8.{IsModifiedUtf8}
use Rattle.dj_names.specs.Tests.{modified_utf8_test}
use Rattle.dj_pool.specs.declared.pool.PoolError.{PoolError}
use Rattle.dj_pool.specs.declared.pool.PoolError.TheVariants as pool_errors
use Rattle.dj_pool.specs.trusted.Pool.{Constant, Utf8, Integer, Float, Long, Double, Class, Text, Field, Method, InterfaceMethod, NameAndType, Handle, MethodType, Dynamic, Hole, constant_bytes}
use Rattle.dj_pool.specs.Faults.{tags, items_of, IsSized, IsNoText, ConstantFault}
use Rattle.dj_pool.specs.Reading.{utf8_at, number4, number4_at, number8, number8_at, named, named_at, paired, paired_at, handle_at, is_named, is_paired, untagged_at, constant_at_cursor}
use Rattle.dj_pool.proofs.Decides.{TestsDecide}
use Rattle.dj_pool.proofs.ConstantLaws.{at_one, at_two, at_named, at_paired}

abbrev pub joined : List (List ℕ) → List ℕ
joined items = flat_map (λ (i : List ℕ). i) items

-- ---- a fault in the items is reported

-- where some of the items stand, and the next is not there whole, the reader reports its place
pub record Cuts {X : Type 0} (part : Cursor → Result X PoolError) (items : List (List ℕ)) : Type 0 where
  pub cut : (before : List (List ℕ)) (item : List ℕ) (later : List (List ℕ)) → items ≡ before ++ item ∷ later → (c : Cursor) (rest : List ℕ) → c.rest ≡ joined before ++ rest → length rest < length item
      → part c ≡ Err (pool_errors.Cut (c.place + length (joined before)))

cuts_none : {X : Type 0} (part : Cursor → Result X PoolError) → Cuts part []
cuts_none part = record { cut = λ before item later e. none before item later e }
  where
    none : {P : Type 0} (before : List (List ℕ)) (item : List ℕ) (later : List (List ℕ)) → [] ≡ before ++ item ∷ later → P
    none [] item later e = absurd cc
    none (b ∷ bs) item later e = absurd cc

cuts_item : {A X : Type 0} (part : Cursor → Result (A × Cursor) PoolError) (bytes_of : A → List ℕ) (P : A → Type 0) (n : ℕ) → Reads part bytes_of P → Refuses part (IsCut pool_errors.Cut n) → (x : A) → P x → length (bytes_of x) ≡ n
    → (k : A × Cursor → Result X PoolError) (items : List (List ℕ)) → Cuts (λ c. k (x, c)) items → Cuts (λ c. part c >>= k) (bytes_of x ∷ items)
cuts_item {A} {X} part bytes_of P n reads refuses x good len k items next = record { cut = λ before item later e c rest p lt. here before item later e c rest p lt }
  where
    here : (before : List (List ℕ)) (item : List ℕ) (later : List (List ℕ)) → bytes_of x ∷ items ≡ before ++ item ∷ later → (c : Cursor) (rest : List ℕ) → c.rest ≡ joined before ++ rest → length rest < length item
        → (part c >>= k) ≡ Err (pool_errors.Cut (c.place + length (joined before)))
    here [] item later e c rest p lt =
        let same : bytes_of x ≡ item = cc in
        let short : length c.rest < n = omega (arith, ap length p, ap length same, len, lt) in
        let place : c.place ≡ c.place + 0 = omega arith in
        bind_fails k (refuses.again c (pool_errors.Cut (c.place + 0)) (record { short = short; reported = ap pool_errors.Cut (sym place) }))
    here (b ∷ bs) item later e c rest p lt =
        let same : bytes_of x ≡ b = cc in
        let more : items ≡ bs ++ item ∷ later = cc in
        let parts : c.rest ≡ bytes_of x ++ (joined bs ++ rest) = p ∙ append_assoc b (joined bs) rest ∙ ap (λ (t : List ℕ). t ++ (joined bs ++ rest)) (sym same) in
        let mid : Cursor = after c (bytes_of x) (joined bs ++ rest) in
        let read = reads.again c x mid good (after-Spans c (bytes_of x) (joined bs ++ rest) parts) in
        let place : (c.place + length (bytes_of x)) + length (joined bs) ≡ c.place + length (b ++ joined bs) = omega (arith, length-append b (joined bs), ap length same) in
        bind_again k read (next.cut bs item later more mid rest refl lt ∙ ap (λ (m : ℕ). Err (pool_errors.Cut m)) place)

utf8_cuts : (index : ℕ) (text : List ℕ) → length text < 2 ^ 16 → Cuts (utf8_at index) (u2 (length text) ∷ (text ∷ []))
unfolding utf8_at
utf8_cuts index text short =
    cuts_item (u2_at pool_errors.Cut) u2 (λ n. n < 2 ^ 16) 2 (u2_reads pool_errors.Cut) (u2_refuses pool_errors.Cut) (length text) short refl _ _
    (cuts_item (block_at pool_errors.Cut (length text)) (λ t. t) (λ t. length t ≡ length text) (length text) (block_reads pool_errors.Cut (length text)) (block_refuses pool_errors.Cut (length text)) text refl refl _ _
    (cuts_none _))

cuts_u4 : {X : Type 0} (n : ℕ) → n < 2 ^ 32 → (k : ℕ × Cursor → Result X PoolError) → Cuts (λ c. u4_at pool_errors.Cut c >>= k) (u4 n ∷ [])
cuts_u4 n lt k = cuts_item (u4_at pool_errors.Cut) u4 (λ n. n < 2 ^ 32) 4 (u4_reads pool_errors.Cut) (u4_refuses pool_errors.Cut) n lt refl k [] (cuts_none _)

cuts_u8 : {X : Type 0} (n : ℕ) → n < 2 ^ 64 → (k : ℕ × Cursor → Result X PoolError) → Cuts (λ c. u8_at pool_errors.Cut c >>= k) (u8 n ∷ [])
cuts_u8 n lt k = cuts_item (u8_at pool_errors.Cut) u8 (λ n. n < 2 ^ 64) 8 (u8_reads pool_errors.Cut) (u8_refuses pool_errors.Cut) n lt refl k [] (cuts_none _)

cuts_u2 : {X : Type 0} (n : ℕ) → n < 2 ^ 16 → (k : ℕ × Cursor → Result X PoolError) (items : List (List ℕ)) → Cuts (λ c. k (n, c)) items → Cuts (λ c. u2_at pool_errors.Cut c >>= k) (u2 n ∷ items)
cuts_u2 n lt k items next = cuts_item (u2_at pool_errors.Cut) u2 (λ n. n < 2 ^ 16) 2 (u2_reads pool_errors.Cut) (u2_refuses pool_errors.Cut) n lt refl k items next

cuts_u1 : {X : Type 0} (n : ℕ) → n < 2 ^ 8 → (k : ℕ × Cursor → Result X PoolError) (items : List (List ℕ)) → Cuts (λ c. k (n, c)) items → Cuts (λ c. u1_at pool_errors.Cut c >>= k) (u1 n ∷ items)
cuts_u1 n lt k items next = cuts_item (u1_at pool_errors.Cut) u1 (λ n. n < 2 ^ 8) 1 (u1_reads pool_errors.Cut) (u1_refuses pool_errors.Cut) n lt refl k items next

below_4 : (z : ℤ) → FitsSigned w32 z → cast_unsigned w32 z < 2 ^ 32
below_4 z fits = omega (arith, ints, fits)

below_8 : (z : ℤ) → FitsSigned w64 z → cast_unsigned w64 z < 2 ^ 64
below_8 z fits = omega (arith, ints, fits)

-- the items of a number, two numbers, ..
one_cuts : (tag n : ℕ) → n < 2 ^ 16 → Cuts (named_at tag) (u2 n ∷ [])
unfolding named_at
one_cuts tag n lt = cuts_u2 n lt _ [] (cuts_none _)

two_cuts : (tag m n : ℕ) → m < 2 ^ 16 → n < 2 ^ 16 → Cuts (paired_at tag) (u2 m ∷ (u2 n ∷ []))
unfolding paired_at
two_cuts tag m n l k = cuts_u2 m l _ _ (cuts_u2 n k _ [] (cuts_none _))

four_cuts : (tag n : ℕ) → n < 2 ^ 32 → Cuts (number4_at tag) (u4 n ∷ [])
unfolding number4_at
four_cuts tag n lt = cuts_u4 n lt _

eight_cuts : (tag n : ℕ) → n < 2 ^ 64 → Cuts (number8_at tag) (u8 n ∷ [])
unfolding number8_at
eight_cuts tag n lt = cuts_u8 n lt _

handle_cuts : (m n : ℕ) → m < 2 ^ 8 → n < 2 ^ 16 → Cuts handle_at (u1 m ∷ (u2 n ∷ []))
unfolding handle_at
handle_cuts m n l k = cuts_u1 m l _ _ (cuts_u2 n k _ [] (cuts_none _))

-- what follows a tag, wherever the tag stands
abbrev TailCuts : ℕ → ℕ → List (List ℕ) → Type 0
TailCuts index tag items = (place : ℕ) → Cuts (untagged_at index place tag) items

tail_cuts : (index tag : ℕ) → tag < 2 ^ 8 → (items : List (List ℕ)) → TailCuts index tag items → Cuts (constant_at_cursor index) (u1 tag ∷ items)
unfolding constant_at_cursor
tail_cuts index tag lt items tail = record {
  cut = λ before item later e c rest p short. (cuts_u1 tag lt (λ (t : ℕ × Cursor). untagged_at index c.place t.0 t.1) items (tail c.place)).cut before item later e c rest p short;
}

pub constant_cuts : (index : ℕ) (k : Constant) → IsSized k → Cuts (constant_at_cursor index) (items_of k)
unfolding untagged_at
constant_cuts index (Utf8 text) s = tail_cuts index 1 (omega arith) (u2 (length text) ∷ (text ∷ [])) (λ place. utf8_cuts index text s)
constant_cuts index (Integer z) s = tail_cuts index 3 (omega arith) (s4 z ∷ []) (λ place. four_cuts 3 (cast_unsigned w32 z) (below_4 z s))
constant_cuts index (Float n) s = tail_cuts index 4 (omega arith) (u4 n ∷ []) (λ place. four_cuts 4 n s)
constant_cuts index (Long z) s = tail_cuts index 5 (omega arith) (s8 z ∷ []) (λ place. eight_cuts 5 (cast_unsigned w64 z) (below_8 z s))
constant_cuts index (Double n) s = tail_cuts index 6 (omega arith) (u8 n ∷ []) (λ place. eight_cuts 6 n s)
constant_cuts index (Class n) s = tail_cuts index 7 (omega arith) (u2 n ∷ []) (λ place. one_cuts 7 n s)
constant_cuts index (Text n) s = tail_cuts index 8 (omega arith) (u2 n ∷ []) (λ place. one_cuts 8 n s)
constant_cuts index (Field m n) s = tail_cuts index 9 (omega arith) (u2 m ∷ (u2 n ∷ [])) (λ place. two_cuts 9 m n s.0 s.1)
constant_cuts index (Method m n) s = tail_cuts index 10 (omega arith) (u2 m ∷ (u2 n ∷ [])) (λ place. two_cuts 10 m n s.0 s.1)
constant_cuts index (InterfaceMethod m n) s = tail_cuts index 11 (omega arith) (u2 m ∷ (u2 n ∷ [])) (λ place. two_cuts 11 m n s.0 s.1)
constant_cuts index (NameAndType m n) s = tail_cuts index 12 (omega arith) (u2 m ∷ (u2 n ∷ [])) (λ place. two_cuts 12 m n s.0 s.1)
constant_cuts index (Handle m n) s = tail_cuts index 15 (omega arith) (u1 m ∷ (u2 n ∷ [])) (λ place. handle_cuts m n s.0 s.1)
constant_cuts index (MethodType n) s = tail_cuts index 16 (omega arith) (u2 n ∷ []) (λ place. one_cuts 16 n s)
constant_cuts index (Dynamic m n) s = tail_cuts index 18 (omega arith) (u2 m ∷ (u2 n ∷ [])) (λ place. two_cuts 18 m n s.0 s.1)
constant_cuts index Hole s = absurd s

-- ---- a byte that is no tag

abbrev IsNoTag : ℕ → Type 0
IsNoTag tag = Contains tags tag → ⊥

untrue : (b : Bool) → (b ≡ true → ⊥) → b ≡ false
untrue true h = absurd (h refl)
untrue false h = refl

apart : {P : Type 0} {b : Bool} → b ≡ true → b ≡ false → P
apart h k = absurd cc

err_same : (d e : PoolError) → (let x : Result (Constant × Cursor) PoolError = Err d in x ≡ Err e) → e ≡ d
err_same d e h = cc

another : (a b : ℕ) → (a ≡ b → ⊥) → eqb a b ≡ false
another a b never = untrue (eqb a b) (λ h. never (eqb-true a b h))

-- no tag is any of these, given as where in the table it would stand
no_tag : (tag k t : ℕ) → IsNoTag tag → (k < length tags) → (slice_index_or tags k tag ≡ t) → eqb tag t ≡ false
no_tag tag k t never lt at = another tag t (λ same. never (k, lt, at ∙ sym same))

untagged_denied : (index place tag : ℕ) (c : Cursor) → IsNoTag tag → untagged_at index place tag c ≡ Err (pool_errors.Tag place)
unfolding untagged_at
untagged_denied index place tag c never =
    let n = λ (k t : ℕ) (lt : k < length tags) (at : slice_index_or tags k tag ≡ t). no_tag tag k t never lt at in
    rw (n 0 1 (omega arith) refl, n 1 3 (omega arith) refl, n 2 4 (omega arith) refl, n 3 5 (omega arith) refl, n 4 6 (omega arith) refl, n 5 7 (omega arith) refl, n 6 8 (omega arith) refl, n 12 16 (omega arith) refl, n 7 9 (omega arith) refl, n 8 10 (omega arith) refl, n 9 11 (omega arith) refl, n 10 12 (omega arith) refl, n 13 18 (omega arith) refl, n 11 15 (omega arith) refl) refl

-- ---- and only there

-- what follows a tag is cut
record CutTail (tag : ℕ) (c : Cursor) (e : PoolError) : Type 0 where
  constant : Constant
  sized : IsSized constant
  before : List (List ℕ)
  item : List ℕ
  later : List (List ℕ)
  items : items_of constant ≡ u1 tag ∷ (before ++ item ∷ later)
  rest : List ℕ
  parts : c.rest ≡ joined before ++ rest
  cut : IsCut pool_errors.Cut (length item) (after c (joined before) rest) e

-- what follows a tag is faulty
record NoTextTail (index tag : ℕ) (c : Cursor) (e : PoolError) : Type 0 where
  text : List ℕ
  rest : List ℕ
  parts : c.rest ≡ (u2 (length text) ++ text) ++ rest
  tag_is : tag ≡ 1
  short : length text < 2 ^ 16
  wrong : IsModifiedUtf8 text → ⊥
  reported : e ≡ pool_errors.Text index

-- the first item is cut
first_cut : (tag : ℕ) (k : Constant) (item : List ℕ) (later : List (List ℕ)) → IsSized k → items_of k ≡ u1 tag ∷ (item ∷ later) → (c : Cursor) (e : PoolError) → IsCut pool_errors.Cut (length item) c e → CutTail tag c e
first_cut tag k item later sized is c e cut = record {
  constant = k;
  sized = sized;
  before = [];
  item = item;
  later = later;
  items = is;
  rest = c.rest;
  parts = refl;
  cut = record { short = cut.short; reported = cut.reported ∙ ap pool_errors.Cut (omega arith) };
}

-- the second item is cut
second_cut : (tag : ℕ) (k : Constant) (first item : List ℕ) → IsSized k → items_of k ≡ u1 tag ∷ (first ∷ (item ∷ [])) → (c mid : Cursor) (e : PoolError) → Spans c first mid → IsCut pool_errors.Cut (length item) mid e → CutTail tag c e
second_cut tag k first item sized is c mid e s cut = record {
  constant = k;
  sized = sized;
  before = first ∷ [];
  item = item;
  later = [];
  items = is;
  rest = mid.rest;
  parts = s.parts ∙ ap (λ (t : List ℕ). t ++ mid.rest) (sym (append-nil first));
  cut = record { short = cut.short; reported = cut.reported ∙ ap pool_errors.Cut (omega (arith, s.place, ap length (append-nil first))) };
}

one_says : (tag n : ℕ) (part : Cursor → Result (ℕ × Cursor) PoolError) (make : ℕ → Constant) (k : Constant) (item : List ℕ) → Refuses part (IsCut pool_errors.Cut n) → IsSized k → items_of k ≡ u1 tag ∷ (item ∷ []) → length item ≡ n
    → (c : Cursor) (e : PoolError) → IsBytes c.rest → (let r : Result (Constant × Cursor) PoolError = Err e in (part c >>= λ x. Ok (make x.0, x.1)) ≡ r) → CutTail tag c e
one_says tag n part make k item refuses sized is len c e fits h =
    bind_err h (λ r. first_cut tag k item [] sized is c e (subst (λ (m : ℕ). IsCut pool_errors.Cut m c e) (sym len) (refuses.says c e fits r))) (λ x r g. absurd cc)

two_says : (tag w : ℕ) (bytes_of : ℕ → List ℕ) (P : ℕ → Type 0) (part : Cursor → Result (ℕ × Cursor) PoolError) (make : ℕ → ℕ → Constant) → Reads part bytes_of P → Refuses part (IsCut pool_errors.Cut w) → P 0 → ((n : ℕ) → length (bytes_of n) ≡ w)
    → ((m : ℕ) → P m → IsSized (make m 0)) → ((m : ℕ) → items_of (make m 0) ≡ u1 tag ∷ (bytes_of m ∷ (u2 0 ∷ [])))
    → (c : Cursor) (e : PoolError) → IsBytes c.rest → (let r : Result (Constant × Cursor) PoolError = Err e in (part c >>= λ x. u2_at pool_errors.Cut x.1 >>= λ y. Ok (make x.0 y.0, y.1)) ≡ r) → CutTail tag c e
two_says tag w bytes_of P part make reads refuses none len sized is c e fits h =
    bind_err h
    (λ r. first_cut tag (make 0 0) (bytes_of 0) (u2 0 ∷ []) (sized 0 none) (is 0) c e (subst (λ (m : ℕ). IsCut pool_errors.Cut m c e) (sym (len 0)) (refuses.says c e fits r)))
    (λ x r g.
    let t = reads.takes c x fits r in
    bind_err g
    (λ r. second_cut tag (make x.0 0) (bytes_of x.0) (u2 0) (sized x.0 t.1) (is x.0) c x.1 e t.0 ((u2_refuses pool_errors.Cut).says x.1 e (IsBytes-Spans t.0 fits) r))
    (λ y r k. absurd cc))

utf8_says : TestsDecide → (index : ℕ) (c : Cursor) (e : PoolError) → IsBytes c.rest → utf8_at index c ≡ Err e → CutTail 1 c e ⊎ NoTextTail index 1 c e
unfolding utf8_at
utf8_says d index c e fits h =
    bind_err h
    (λ r. inl (first_cut 1 (Utf8 []) (u2 0) ([] ∷ []) (omega arith) refl c e ((u2_refuses pool_errors.Cut).says c e fits r)))
    (λ n r g.
    let t = (u2_reads pool_errors.Cut).takes c n fits r in
    let dummy : List ℕ = replicate n.0 0 in
    let len : length dummy ≡ n.0 = length-replicate n.0 0 in
    let more = IsBytes-Spans t.0 fits in
    bind_err g
    (λ r.
    let s : Spans c (u2 (length dummy)) n.1 = subst (λ (k : ℕ). Spans c (u2 k) n.1) (sym len) t.0 in
    inl (second_cut 1 (Utf8 dummy) (u2 (length dummy)) dummy (omega (arith, len, t.1)) refl c n.1 e s (subst (λ (m : ℕ). IsCut pool_errors.Cut m n.1 e) (sym len) ((block_refuses pool_errors.Cut n.0).says n.1 e more r))))
    (λ b r g.
    let u = (block_reads pool_errors.Cut n.0).takes n.1 b more r in
    cond_either (modified_utf8_test b.0) _ _ g (λ y k. absurd cc) (λ unproved k.
    let parts : c.rest ≡ (u2 (length b.0) ++ b.0) ++ b.1.rest = t.0.parts ∙ ap (λ (l : List ℕ). u2 n.0 ++ l) u.0.parts ∙ ap (λ (m : ℕ). u2 m ++ (b.0 ++ b.1.rest)) (sym u.1) ∙ sym (append_assoc (u2 (length b.0)) b.0 b.1.rest) in
    inr (record { text = b.0; rest = b.1.rest; parts = parts; tag_is = refl; short = omega (arith, u.1, t.1); wrong = λ is. apart ((d.modified_utf8 b.0).1 is) unproved; reported = err_same _ _ k }))))

abbrev TailFault : ℕ → ℕ → ℕ → Cursor → PoolError → Type 0
TailFault index place tag c e = CutTail tag c e ⊎ (((Contains tags tag → ⊥) × (e ≡ pool_errors.Tag place)) ⊎ NoTextTail index tag c e)

fits_2 : (n : ℕ) → n < 2 ^ 16 → (n < 2 ^ 16) × (0 < 2 ^ 16)
fits_2 n lt = (lt, omega arith)

abbrev AtTag : (ℕ → Cursor → Result (Constant × Cursor) PoolError) → Cursor → PoolError → ℕ → Type 0
AtTag part c e tag = part tag c ≡ Err e → CutTail tag c e

named_says : (tag : ℕ) (k : Constant) → IsSized k → items_of k ≡ u1 tag ∷ (u2 0 ∷ []) → (c : Cursor) (e : PoolError) → IsBytes c.rest → AtTag named_at c e tag
unfolding named_at
named_says tag k sized is c e fits = one_says tag 2 (u2_at pool_errors.Cut) (named tag) k (u2 0) (u2_refuses pool_errors.Cut) sized is refl c e fits

number4_says : (tag : ℕ) (k : Constant) → IsSized k → items_of k ≡ u1 tag ∷ (u4 0 ∷ []) → (c : Cursor) (e : PoolError) → IsBytes c.rest → AtTag number4_at c e tag
unfolding number4_at
number4_says tag k sized is c e fits = one_says tag 4 (u4_at pool_errors.Cut) (number4 tag) k (u4 0) (u4_refuses pool_errors.Cut) sized is refl c e fits

number8_says : (tag : ℕ) (k : Constant) → IsSized k → items_of k ≡ u1 tag ∷ (u8 0 ∷ []) → (c : Cursor) (e : PoolError) → IsBytes c.rest → AtTag number8_at c e tag
unfolding number8_at
number8_says tag k sized is c e fits = one_says tag 8 (u8_at pool_errors.Cut) (number8 tag) k (u8 0) (u8_refuses pool_errors.Cut) sized is refl c e fits

paired_says : (tag : ℕ) → ((m : ℕ) → m < 2 ^ 16 → IsSized (paired tag m 0)) → ((m : ℕ) → items_of (paired tag m 0) ≡ u1 tag ∷ (u2 m ∷ (u2 0 ∷ [])))
    → (c : Cursor) (e : PoolError) → IsBytes c.rest → AtTag paired_at c e tag
unfolding paired_at
paired_says tag sized is c e fits =
    two_says tag 2 u2 (λ n. n < 2 ^ 16) (u2_at pool_errors.Cut) (paired tag) (u2_reads pool_errors.Cut) (u2_refuses pool_errors.Cut) (omega arith) (λ n. refl) sized is c e fits

handle_says : (c : Cursor) (e : PoolError) → IsBytes c.rest → handle_at c ≡ Err e → CutTail 15 c e
unfolding handle_at
handle_says c e fits =
    two_says 15 1 u1 (λ n. n < 2 ^ 8) (u1_at pool_errors.Cut) Handle (u1_reads pool_errors.Cut) (u1_refuses pool_errors.Cut) (omega arith) (λ n. refl) (λ m lt. (lt, omega arith)) (λ m. refl) c e fits

zero_fits_4 : FitsSigned w32 (pos 0)
zero_fits_4 = omega (arith, ints)

zero_fits_8 : FitsSigned w64 (pos 0)
zero_fits_8 = omega (arith, ints)

-- each tag of the table is asked for before
abbrev IsAsked : ℕ → Type 0
IsAsked tag =
    (eqb tag 1 || ((eqb tag 3 || eqb tag 4) || ((eqb tag 5 || eqb tag 6) || (is_named tag || (is_paired tag || eqb tag 15))))) ≡ true

tags_asked : AllByRecursion IsAsked tags
tags_asked = (refl, (refl, (refl, (refl, (refl, (refl, (refl, (refl, (refl, (refl, (refl, (refl, (refl, (refl, tt))))))))))))))

tag_asked : (tag : ℕ) → Contains tags tag → IsAsked tag
tag_asked tag h = subst IsAsked h.2 (All-from_recursion IsAsked tags tags_asked h.0 tag h.1)

untagged_says : TestsDecide → (index place tag : ℕ) (c : Cursor) (e : PoolError) → IsBytes c.rest → untagged_at index place tag c ≡ Err e → TailFault index place tag c e
unfolding untagged_at
untagged_says d index place tag c e fits h =
    cond_either (eqb tag 1) _ _ h (λ t r. at_one 1 (λ (n : ℕ). TailFault index place n c e) tag t (elim (utf8_says d index c e fits r) as (λ _. TailFault index place 1 c e) [ inl f ↦ inl f | inr f ↦ inr (inr f) ])) (λ t1 r.
    cond_either (eqb tag 3 || eqb tag 4) _ _ r (λ t r. inl (at_two 3 4 (AtTag number4_at c e) tag t (number4_says 3 (Integer (pos 0)) zero_fits_4 refl c e fits) (number4_says 4 (Float 0) (omega arith) refl c e fits) r)) (λ t2 r.
    cond_either (eqb tag 5 || eqb tag 6) _ _ r (λ t r. inl (at_two 5 6 (AtTag number8_at c e) tag t (number8_says 5 (Long (pos 0)) zero_fits_8 refl c e fits) (number8_says 6 (Double 0) (omega arith) refl c e fits) r)) (λ t3 r.
    cond_either (is_named tag) _ _ r (λ t r. inl (at_named (AtTag named_at c e) tag t (named_says 7 (Class 0) (omega arith) refl c e fits) (named_says 8 (Text 0) (omega arith) refl c e fits) (named_says 16 (MethodType 0) (omega arith) refl c e fits) r)) (λ t4 r.
    cond_either (is_paired tag) _ _ r (λ t r. inl (at_paired (AtTag paired_at c e) tag t (paired_says 9 fits_2 (λ m. refl) c e fits) (paired_says 10 fits_2 (λ m. refl) c e fits) (paired_says 11 fits_2 (λ m. refl) c e fits) (paired_says 12 fits_2 (λ m. refl) c e fits) (paired_says 18 fits_2 (λ m. refl) c e fits) r)) (λ t5 r.
    cond_either (eqb tag 15) _ _ r (λ t r. inl (at_one 15 (λ (n : ℕ). CutTail n c e) tag t (handle_says c e fits r))) (λ t6 r.
    inr (inl (
      (λ in_table.
          let asked : IsAsked tag = tag_asked tag in_table in
          let unasked : (eqb tag 1 || ((eqb tag 3 || eqb tag 4) || ((eqb tag 5 || eqb tag 6) || (is_named tag || (is_paired tag || eqb tag 15))))) ≡ false = rw (t1, t2, t3, t4, t5, t6) refl in
          apart asked unasked),
      err_same _ _ r,
    ))))))))

constant_says : TestsDecide → (index : ℕ) (c : Cursor) (e : PoolError) → IsBytes c.rest → constant_at_cursor index c ≡ Err e → ConstantFault index c e
unfolding constant_at_cursor
constant_says d index c e fits h =
    bind_err h
    (λ r.
    let cut = (u1_refuses pool_errors.Cut).says c e fits r in
    inl (record { constant = Class 0; sized = omega arith; before = []; item = u1 7; later = u2 0 ∷ []; items = refl; rest = c.rest; parts = refl; cut = record { short = cut.short; reported = cut.reported ∙ ap pool_errors.Cut (omega arith) } }))
    (λ t r g.
    let s = (u1_reads pool_errors.Cut).takes c t fits r in
    elim (untagged_says d index c.place t.0 t.1 e (IsBytes-Spans s.0 fits) g) as (λ _. ConstantFault index c e) [
      | inl f ↦ inl (record {
        constant = f.constant;
        sized = f.sized;
        before = u1 t.0 ∷ f.before;
        item = f.item;
        later = f.later;
        items = f.items;
        rest = f.rest;
        parts = s.0.parts ∙ ap (λ (l : List ℕ). u1 t.0 ++ l) f.parts;
        cut = record { short = f.cut.short; reported = f.cut.reported ∙ ap pool_errors.Cut (omega (arith, s.0.place)) };
      })
      | inr f ↦ elim f as (λ _. ConstantFault index c e) [
        | inl g ↦ inr (inl (record { value = t.0; rest = t.1.rest; parts = s.0.parts; item = s.1; wrong = g.0; reported = g.1 }))
        | inr g ↦ inr (inr (record {
          text = g.text;
          rest = g.rest;
          parts = s.0.parts ∙ ap (λ (n : ℕ). u1 n ++ t.1.rest) g.tag_is ∙ ap (λ (l : List ℕ). u1 1 ++ l) g.parts;
          short = g.short;
          wrong = g.wrong;
          reported = g.reported;
        }))
      ]
    ])

no_text : TestsDecide → (index : ℕ) (c : Cursor) (e : PoolError) → IsNoText index c e → constant_at_cursor index c ≡ Err e
unfolding constant_at_cursor untagged_at utf8_at
no_text d index c e g =
    let next : Cursor = after c (constant_bytes (Utf8 g.text)) g.rest in
    let s : Spans c (u1 1 ++ (u2 (length g.text) ++ g.text)) next = after-Spans c (constant_bytes (Utf8 g.text)) g.rest g.parts in
    let t = step_again (u1_reads pool_errors.Cut) c 1 (u2 (length g.text) ++ g.text) next (omega arith) s in
    let n = step_again (u2_reads pool_errors.Cut) t.0 (length g.text) g.text next g.short t.2 in
    let no : modified_utf8_test g.text ≡ false = untrue _ (λ yes. g.wrong ((d.modified_utf8 g.text).0 yes)) in
    bind_again _ t.1 (bind_again _ n.1 (bind_again _ ((block_reads pool_errors.Cut (length g.text)).again n.0 g.text next refl n.2) (cond_false _ no (ap (λ (x : PoolError). Err x) (sym g.reported)))))

constant_halts : TestsDecide → (index : ℕ) (c : Cursor) (e : PoolError) → ConstantFault index c e → constant_at_cursor index c ≡ Err e
unfolding constant_at_cursor untagged_at utf8_at
constant_halts d index c e fault = elim fault as (λ _. constant_at_cursor index c ≡ Err e) [
  | inl f ↦ (constant_cuts index f.constant f.sized).cut f.before f.item f.later f.items c f.rest f.parts f.cut.short ∙ ap (λ (x : PoolError). Err x) (sym f.cut.reported)
  | inr f ↦ elim f as (λ _. constant_at_cursor index c ≡ Err e) [
    | inl g ↦ (
        let read = (u1_reads pool_errors.Cut).again c g.value (after c (u1 g.value) g.rest) g.item (after-Spans c (u1 g.value) g.rest g.parts) in
        bind_again _ read (untagged_denied index c.place g.value (after c (u1 g.value) g.rest) g.wrong ∙ ap (λ (x : PoolError). Err x) (sym g.reported)))
    | inr g ↦ no_text d index c e g
  ]
]

pub constant_refuses : TestsDecide → (index : ℕ) → Refuses (constant_at_cursor index) (ConstantFault index)
constant_refuses d index = record { says = constant_says d index; again = constant_halts d index }
