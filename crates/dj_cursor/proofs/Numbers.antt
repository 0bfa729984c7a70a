-- Bytes and numbers: what is read is spelled so, what is spelled so is read, and what doesn't fit is reported by its place.
use Rattle.std.proofs.Common.{◌≡◌, ℕ, ◌+◌, ◌^◌, ◌<◌, ◌≤◌, false, ltb, List, [], ◌∷◌, length, take, drop, Ok, Err, refl, sym, ap, subst, subst₂, ap₂, ◌∙◌, arith}
use Rattle.std.specs.Int.{Width, w8, w16, w32, w64, byte_len, from_be_bytes, to_be_bytes}
use Rattle.std.proofs.lemmas.Bool.{ltb-true, ltb-false, le-ltb, lt-ltb}
use Rattle.std.proofs.lemmas.List.{take_at, drop_at, take-append-drop, length-append, length-take}
use Rattle.std.proofs.lemmas.Nat.{be_bytes_2, be_bytes_4, be_bytes_8, from_be_bytes-to_be_bytes_2, from_be_bytes-to_be_bytes_4, from_be_bytes-to_be_bytes_8}
use Rattle.dj_cursor.specs.declared.cursor.Cut.{Cut}
use Rattle.dj_cursor.specs.trusted.Spelling.{u1, u2, u4, u8}
use Rattle.dj_cursor.specs.Reading.{Cursor, bytes_at, number_at, block_at, u1_at, u2_at, u4_at, u8_at}
use Rattle.dj_cursor.proofs.Bytes.{IsBytes, IsBytes-before}
use Rattle.dj_cursor.proofs.Steps.{bind_ok, bind_again, bind_err, bind_fails, cond_either, cond_true, cond_false}
use Rattle.dj_cursor.proofs.Spans.{Spans, Reads, Reads-spelled, lifted_reads}

-- ---- this many bytes

pub bytes_reads : (n : ℕ) → Reads (bytes_at n) (λ t. t) (λ t. length t ≡ n)
bytes_reads n = record {
  takes = λ c x fits e.
      cond_either (ltb (length c.rest) n) _ _ e (λ h d. absurd cc) (λ h d.
      let long : n ≤ length c.rest = ltb-false _ _ h in
      let t-is : take n c.rest ≡ x.0 = cc in
      let len : length (take n c.rest) ≡ n = omega (arith, length-take n c.rest) in
      let next-is : record { place = c.place + n; rest = drop n c.rest } ≡ x.1 = cc in
      let made : Spans c (take n c.rest) (record { place = c.place + n; rest = drop n c.rest }) = record { parts = sym (take-append-drop n c.rest); place = omega (arith, len) } in
      (subst₂ (λ (t : List ℕ) (m : Cursor). Spans c t m) t-is next-is made, ap length (sym t-is) ∙ len));
  again = λ c x next good s.
      let long : ltb (length c.rest) n ≡ false = le-ltb _ _ (omega (arith, ap length s.parts, length-append x next.rest)) in
      let prefix : take n c.rest ≡ x = ap (take n) s.parts ∙ take_at x next.rest n good in
      let back : drop n c.rest ≡ next.rest = ap (drop n) s.parts ∙ drop_at x next.rest n good in
      let here : c.place + n ≡ next.place = omega (arith, s.place) in
      let made : Ok (take n c.rest, record { place = c.place + n; rest = drop n c.rest }) ≡ Ok (x, next) = ap₂ (λ (t : List ℕ) (m : Cursor). Ok (t, m)) prefix (ap₂ (λ (p : ℕ) (r : List ℕ). record { place = p; rest = r }) here back) in
      cond_false _ long made;
}

-- ---- numbers

-- numbers of this width are spelled by this many bytes, each number in one way, and are below the limit
pub record IsWide (w : Width) (limit : ℕ) : Type 0 where
  pub len : (n : ℕ) → length (to_be_bytes w n) ≡ byte_len w
  pub back : (bytes : List ℕ) → length bytes ≡ byte_len w → IsBytes bytes → to_be_bytes w (from_be_bytes w bytes) ≡ bytes
  pub again : (n : ℕ) → n < limit → from_be_bytes w (to_be_bytes w n) ≡ n
  pub below : (bytes : List ℕ) → IsBytes bytes → from_be_bytes w bytes < limit

one_byte : (bytes : List ℕ) → length bytes ≡ 1 → IsBytes bytes → to_be_bytes w8 (from_be_bytes w8 bytes) ≡ bytes
one_byte [] len fits = absurd (omega (arith, len))
one_byte (b ∷ []) len fits =
    let lt : b < 256 = fits 0 in
    ap (λ (n : ℕ). n ∷ []) (omega arith)
one_byte (b ∷ (c ∷ bytes)) len fits = absurd (omega (arith, len))

pub wide8 : IsWide w8 (2 ^ 8)
wide8 = record {
  len = λ n. refl;
  back = one_byte;
  again = λ n lt. omega arith;
  below = λ bytes fits. omega (arith, fits 0);
}

pub wide16 : IsWide w16 (2 ^ 16)
wide16 = record {
  len = λ n. refl;
  back = λ bytes len fits. be_bytes_2 bytes _ len fits refl;
  again = λ n lt. from_be_bytes-to_be_bytes_2 n lt;
  below = λ bytes fits. omega (arith, fits 0, fits 1);
}

pub wide32 : IsWide w32 (2 ^ 32)
wide32 = record {
  len = λ n. refl;
  back = λ bytes len fits. be_bytes_4 bytes _ len fits refl;
  again = λ n lt. from_be_bytes-to_be_bytes_4 n lt;
  below = λ bytes fits. omega (arith, fits 0, fits 1, fits 2, fits 3);
}

pub wide64 : IsWide w64 (2 ^ 64)
wide64 = record {
  len = λ n. refl;
  back = λ bytes len fits. be_bytes_8 bytes _ len fits refl;
  again = λ n lt. from_be_bytes-to_be_bytes_8 n lt;
  below = λ bytes fits. omega (arith, fits 0, fits 1, fits 2, fits 3, fits 4, fits 5, fits 6, fits 7);
}

pub number_reads : (w : Width) (limit : ℕ) → IsWide w limit → Reads (number_at w) (to_be_bytes w) (λ n. n < limit)
number_reads w limit wide = record {
  takes = λ c x fits e.
      let s = bind_ok e in
      let t = (bytes_reads (byte_len w)).takes c s.0 fits s.1 in
      let few : IsBytes s.0.0 = IsBytes-before s.0.0 s.0.1.rest (subst IsBytes t.0.parts fits) in
      let n-is : from_be_bytes w s.0.0 ≡ x.0 = cc (s.2) in
      let next-is : s.0.1 ≡ x.1 = cc (s.2) in
      let prefix : s.0.0 ≡ to_be_bytes w x.0 = sym (wide.back s.0.0 t.1 few) ∙ ap (to_be_bytes w) n-is in
      (subst₂ (λ (t : List ℕ) (m : Cursor). Spans c t m) prefix next-is t.0, subst (λ (k : ℕ). k < limit) n-is (wide.below s.0.0 few));
  again = λ c n next lt s.
      bind_again _ ((bytes_reads (byte_len w)).again c (to_be_bytes w n) next (wide.len n) s) (ap (λ (k : ℕ). Ok (k, next)) (wide.again n lt));
}

-- ---- the same, with what a cut is to the reader

pub block_reads : {E : Type 0} (cut : ℕ → E) (n : ℕ) → Reads (block_at cut n) (λ t. t) (λ t. length t ≡ n)
block_reads cut n = lifted_reads (λ x. cut x.0) (bytes_reads n)

byte_is : (n : ℕ) → n < 2 ^ 8 → to_be_bytes w8 n ≡ u1 n
byte_is n lt = ap (λ (k : ℕ). k ∷ []) (omega arith)

pub u1_reads : {E : Type 0} (cut : ℕ → E) → Reads (u1_at cut) u1 (λ n. n < 2 ^ 8)
u1_reads cut = lifted_reads (λ x. cut x.0) (Reads-spelled (number_reads w8 (2 ^ 8) wide8) u1 byte_is)

pub u2_reads : {E : Type 0} (cut : ℕ → E) → Reads (u2_at cut) u2 (λ n. n < 2 ^ 16)
u2_reads cut = lifted_reads (λ x. cut x.0) (number_reads w16 (2 ^ 16) wide16)

pub u4_reads : {E : Type 0} (cut : ℕ → E) → Reads (u4_at cut) u4 (λ n. n < 2 ^ 32)
u4_reads cut = lifted_reads (λ x. cut x.0) (number_reads w32 (2 ^ 32) wide32)

pub u8_reads : {E : Type 0} (cut : ℕ → E) → Reads (u8_at cut) u8 (λ n. n < 2 ^ 64)
u8_reads cut = lifted_reads (λ x. cut x.0) (number_reads w64 (2 ^ 64) wide64)

-- ---- what doesn't fit

-- a cut is reported where this many bytes don't fit
pub bytes_cut : (n : ℕ) (c : Cursor) (e : Cut) → bytes_at n c ≡ Err e → (length c.rest < n) × (e.0 ≡ c.place)
bytes_cut n c e h =
    cond_either (ltb (length c.rest) n) _ _ h
    (λ short d. let made : record { 0 = c.place } ≡ e = cc in (ltb-true _ _ short, ap (λ (x : Cut). x.0) (sym made)))
    (λ long d. absurd cc)

pub bytes_short : (n : ℕ) (c : Cursor) → length c.rest < n → bytes_at n c ≡ Err (record { 0 = c.place })
bytes_short n c lt = cond_true _ (lt-ltb _ _ lt) refl

pub number_cut : (w : Width) (c : Cursor) (e : Cut) → number_at w c ≡ Err e → (length c.rest < byte_len w) × (e.0 ≡ c.place)
number_cut w c e h = bind_err h (λ r. bytes_cut (byte_len w) c e r) (λ x r d. absurd cc)

pub number_short : (w : Width) (c : Cursor) → length c.rest < byte_len w → number_at w c ≡ Err (record { 0 = c.place })
number_short w c lt = bind_fails _ (bytes_short (byte_len w) c lt)
