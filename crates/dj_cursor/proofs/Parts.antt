-- Many parts, and tables: what is read is spelled so, what is spelled so is read, and where reading stops.
use Rattle.std.proofs.Common.{◌≡◌, ℕ, zero, suc, ◌^◌, ◌<◌, List, [], ◌∷◌, ◌++◌, length, Result, Ok, Err, refl, sym, ap, subst, ◌∙◌, arith}
use Rattle.std.specs.List.{flat_map, AllByRecursion}
use Rattle.dj_cursor.specs.trusted.Spelling.{u2, table_bytes}
use Rattle.dj_cursor.specs.Reading.{Cursor, many_at, table_at}
use Rattle.dj_cursor.specs.Faults.{AreFew}
use Rattle.dj_cursor.proofs.Bytes.{IsBytes}
use Rattle.dj_cursor.proofs.Steps.{bind_ok, bind_again, bind_err, bind_fails}
use Rattle.dj_cursor.proofs.Spans.{Spans, Spans-none, Spans-then, Spans-stay, IsBytes-Spans, Reads, step_takes, step_again}
use Rattle.dj_cursor.proofs.Numbers.{u2_reads}

-- ---- many parts

abbrev pub AreMany : {A : Type 0} → (A → Type 0) → ℕ → List A → Type 0
AreMany P n xs = (length xs ≡ n) × AllByRecursion P xs

many_take : {A E : Type 0} (part : Cursor → Result (A × Cursor) E) (bytes_of : A → List ℕ) (P : A → Type 0) → Reads part bytes_of P → (n : ℕ) (c : Cursor) (x : List A × Cursor)
    → IsBytes c.rest → many_at part n c ≡ Ok x → Spans c (flat_map bytes_of x.0) x.1 × AreMany P n x.0
unfolding many_at
many_take part bytes_of P reads zero c x fits e =
    let made : ([], c) ≡ x = cc in
    subst (λ (y : List _ × Cursor). Spans c (flat_map bytes_of y.0) y.1 × AreMany P 0 y.0) made (Spans-none c, (refl, tt))
many_take part bytes_of P reads (suc n) c x fits e =
    let a = step_takes reads c fits e in
    let b = bind_ok a.rest in
    let t = many_take part bytes_of P reads n a.next b.0 a.fits b.1 in
    let made : (a.value ∷ b.0.0, b.0.1) ≡ x = cc (b.2) in
    subst (λ (y : List _ × Cursor). Spans c (flat_map bytes_of y.0) y.1 × AreMany P (suc n) y.0) made (Spans-then a.spans t.0, (ap suc t.1.0, (a.good, t.1.1)))

many_again : {A E : Type 0} (part : Cursor → Result (A × Cursor) E) (bytes_of : A → List ℕ) (P : A → Type 0) → Reads part bytes_of P → (n : ℕ) (c : Cursor) (xs : List A) (next : Cursor)
    → AreMany P n xs → Spans c (flat_map bytes_of xs) next → many_at part n c ≡ Ok (xs, next)
unfolding many_at
many_again part bytes_of P reads zero c [] next good s = ap (λ (m : Cursor). Ok ([], m)) (Spans-stay s)
many_again part bytes_of P reads zero c (x ∷ xs) next good s = absurd (omega (arith, good.0))
many_again part bytes_of P reads (suc n) c [] next good s = absurd (omega (arith, good.0))
many_again part bytes_of P reads (suc n) c (x ∷ xs) next good s =
    let a = step_again reads c x (flat_map bytes_of xs) next good.1.0 s in
    bind_again _ a.1 (bind_again _ (many_again part bytes_of P reads n a.0 xs next (omega (arith, good.0), good.1.1) a.2) refl)

pub many_reads : {A E : Type 0} {part : Cursor → Result (A × Cursor) E} {bytes_of : A → List ℕ} {P : A → Type 0} → Reads part bytes_of P → (n : ℕ) → Reads (many_at part n) (flat_map bytes_of) (AreMany P n)
many_reads {part} {bytes_of} {P} reads n = record { takes = many_take part bytes_of P reads n; again = many_again part bytes_of P reads n }

-- ---- tables

table_takes : {A E : Type 0} (cut : ℕ → E) (part : Cursor → Result (A × Cursor) E) (bytes_of : A → List ℕ) (P : A → Type 0) → Reads part bytes_of P → (c : Cursor) (x : List A × Cursor)
    → IsBytes c.rest → table_at cut part c ≡ Ok x → Spans c (table_bytes bytes_of x.0) x.1 × AreFew P x.0
unfolding table_at
table_takes cut part bytes_of P reads c x fits e =
    let n = step_takes (u2_reads cut) c fits e in
    let t = (many_reads reads n.value).takes n.next x n.fits n.rest in
    (subst (λ (k : ℕ). Spans c (u2 k ++ flat_map bytes_of x.0) x.1) (sym t.1.0) (Spans-then n.spans t.0), (omega (arith, t.1.0, n.good), t.1.1))

table_again : {A E : Type 0} (cut : ℕ → E) (part : Cursor → Result (A × Cursor) E) (bytes_of : A → List ℕ) (P : A → Type 0) → Reads part bytes_of P → (c : Cursor) (x : List A) (next : Cursor)
    → AreFew P x → Spans c (table_bytes bytes_of x) next → table_at cut part c ≡ Ok (x, next)
unfolding table_at
table_again cut part bytes_of P reads c x next good s =
    let n = step_again (u2_reads cut) c (length x) (flat_map bytes_of x) next good.0 s in
    bind_again _ n.1 ((many_reads reads (length x)).again n.0 x next (refl, good.1) n.2)

pub table_reads : {A E : Type 0} (cut : ℕ → E) {part : Cursor → Result (A × Cursor) E} {bytes_of : A → List ℕ} {P : A → Type 0} → Reads part bytes_of P → Reads (table_at cut part) (table_bytes bytes_of) (AreFew P)
table_reads cut {part} {bytes_of} {P} reads = record { takes = table_takes cut part bytes_of P reads; again = table_again cut part bytes_of P reads }

-- ---- where reading many parts stops

-- after fewer good parts than this many, the next part fails
pub record Stops {A E : Type 0} (part : Cursor → Result (A × Cursor) E) (bytes_of : A → List ℕ) (IsGood : A → Type 0) (n : ℕ) (c : Cursor) (e : E) : Type 0 where
  pub prefix : List A
  pub mid : Cursor
  pub spans : Spans c (flat_map bytes_of prefix) mid
  pub good : AllByRecursion IsGood prefix
  pub within : length prefix < n
  pub fits : IsBytes mid.rest
  pub failed : part mid ≡ Err e

pub many_stops : {A E : Type 0} {part : Cursor → Result (A × Cursor) E} {bytes_of : A → List ℕ} {P : A → Type 0} → Reads part bytes_of P → (n : ℕ) (c : Cursor) (e : E)
    → IsBytes c.rest → many_at part n c ≡ Err e → Stops part bytes_of P n c e
unfolding many_at
many_stops reads zero c e fits h = absurd cc
many_stops reads (suc n) c e fits h =
    bind_err h
    (λ r. record { prefix = []; mid = c; spans = Spans-none c; good = tt; within = omega arith; fits = fits; failed = r })
    (λ first r h.
    let t = reads.takes c first fits r in
    bind_err h
    (λ r. let s = many_stops reads n first.1 e (IsBytes-Spans t.0 fits) r in
    record { prefix = first.0 ∷ s.prefix; mid = s.mid; spans = Spans-then t.0 s.spans; good = (t.1, s.good); within = omega (arith, s.within); fits = s.fits; failed = s.failed })
    (λ others r h. absurd cc))

pub many_halt : {A E : Type 0} {part : Cursor → Result (A × Cursor) E} {bytes_of : A → List ℕ} {P : A → Type 0} → Reads part bytes_of P → (n : ℕ) (c mid : Cursor) (prefix : List A) (e : E)
    → length prefix < n → AllByRecursion P prefix → Spans c (flat_map bytes_of prefix) mid → part mid ≡ Err e → many_at part n c ≡ Err e
unfolding many_at
many_halt reads zero c mid prefix e within good s failed = absurd (omega (arith, within))
many_halt {part} reads (suc n) c mid [] e within good s failed = bind_fails _ (ap part (Spans-stay s) ∙ failed)
many_halt {bytes_of} reads (suc n) c mid (x ∷ prefix) e within good s failed =
    let first = step_again reads c x (flat_map bytes_of prefix) mid good.0 s in
    bind_again _ first.1 (bind_fails _ (many_halt reads n first.0 mid prefix e (omega (arith, within)) good.1 first.2 failed))
