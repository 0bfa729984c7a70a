-- Readers that fail exactly where there is such a fault.
use Rattle.std.proofs.Common.{◌≡◌, ℕ, ◌⊎◌, Bool, true, false, cond, List, ◌++◌, length, Result, Ok, Err, refl, sym, ap, subst, ◌∙◌, inl, inr}
use Rattle.std.specs.List.{flat_map}
use Rattle.std.specs.Int.{w8, w16, w32, w64, byte_len}
use Rattle.std.proofs.lemmas.Bool.{ltb-true, lt-ltb, eqb-true, eq-eqb}
use Rattle.std.proofs.lemmas.List.{nil_from_length}
use Rattle.dj_cursor.specs.declared.cursor.Cut.{Cut}
use Rattle.dj_cursor.specs.Steps.{◌>>=◌, lifted}
use Rattle.dj_cursor.specs.Reading.{Cursor, bytes_at, number_at, block_at, u1_at, u2_at, u4_at, u8_at, at_end, many_at, table_at}
use Rattle.dj_cursor.specs.Faults.{after, IsCut, IsDenied, IsAmong, InTurn, InTable, IsLifted, IsLeft}
use Rattle.dj_cursor.proofs.Bytes.{IsBytes}
use Rattle.dj_cursor.proofs.Steps.{bind_err, bind_again, bind_fails, lifted_err, cond_either, cond_true, cond_false}
use Rattle.dj_cursor.proofs.Spans.{Spans, IsBytes-Spans, Reads}
use Rattle.dj_cursor.proofs.Numbers.{u2_reads}
use Rattle.dj_cursor.proofs.Parts.{many_stops, many_halt}

pub record Refuses {B E : Type 0} (part : Cursor → Result B E) (Fault : Cursor → E → Type 0) : Type 0 where
  pub says : (c : Cursor) (e : E) → IsBytes c.rest → part c ≡ Err e → Fault c e
  pub again : (c : Cursor) (e : E) → Fault c e → part c ≡ Err e

-- the same law, with the fault in other words
pub Refuses-reported : {B E : Type 0} {part : Cursor → Result B E} {F G : Cursor → E → Type 0} → Refuses part F
    → ((c : Cursor) (e : E) → F c e → G c e) → ((c : Cursor) (e : E) → G c e → F c e) → Refuses part G
Refuses-reported refuses to from = record {
  says = λ c e fits h. to c e (refuses.says c e fits h);
  again = λ c e fault. refuses.again c e (from c e fault);
}

-- the same law, with the reader in other words
pub Refuses-same : {B E : Type 0} {part other : Cursor → Result B E} {F : Cursor → E → Type 0} → ((c : Cursor) → part c ≡ other c) → Refuses other F → Refuses part F
Refuses-same same refuses = record {
  says = λ c e fits h. refuses.says c e fits (sym (same c) ∙ h);
  again = λ c e fault. same c ∙ refuses.again c e fault;
}

-- ---- where the reader stands

pub Spans-after : {c next : Cursor} {text : List ℕ} → Spans c text next → next ≡ after c text next.rest
Spans-after {c} {next} {text} s = ap (λ (n : ℕ). record { place = n; rest = next.rest }) s.place

pub after-Spans : (c : Cursor) (text rest : List ℕ) → c.rest ≡ text ++ rest → Spans c text (after c text rest)
after-Spans c text rest h = record { parts = h; place = refl }

-- ---- items

bytes_refuse : (n : ℕ) → Refuses (bytes_at n) (IsCut (λ (place : ℕ). record { 0 = place }) n)
bytes_refuse n = record {
  says = λ c e fits h. cond_either _ _ _ h (λ t r. record { short = ltb-true _ _ t; reported = cc }) (λ t r. absurd cc);
  again = λ c e fault. cond_true _ (lt-ltb _ _ fault.short) (ap (λ (x : Cut). Err x) (sym fault.reported));
}

cut_lifted : {E : Type 0} (cut : ℕ → E) (n : ℕ) → {B : Type 0} (part : Cursor → Result B Cut) → Refuses part (IsCut (λ (place : ℕ). record { 0 = place }) n) → Refuses (λ c. lifted (λ (x : Cut). cut x.0) (part c)) (IsCut cut n)
cut_lifted cut n part refuses = record {
  says = λ c e fits h.
      let d = lifted_err h in
      let f = refuses.says c d.0 fits d.1 in
      record { short = f.short; reported = sym d.2 ∙ ap (λ (x : Cut). cut x.0) f.reported };
  again = λ c e fault.
      ap (lifted (λ (x : Cut). cut x.0)) (refuses.again c (record { 0 = c.place }) (record { short = fault.short; reported = refl })) ∙ ap (λ x. Err x) (sym fault.reported);
}

number_refuses : (w : _) → Refuses (number_at w) (IsCut (λ (place : ℕ). record { 0 = place }) (byte_len w))
number_refuses w = record {
  says = λ c e fits h. bind_err h (λ r. (bytes_refuse (byte_len w)).says c e fits r) (λ x r k. absurd cc);
  again = λ c e fault. bind_fails _ ((bytes_refuse (byte_len w)).again c e fault);
}

pub block_refuses : {E : Type 0} (cut : ℕ → E) (n : ℕ) → Refuses (block_at cut n) (IsCut cut n)
block_refuses cut n = cut_lifted cut n (bytes_at n) (bytes_refuse n)

pub u1_refuses : {E : Type 0} (cut : ℕ → E) → Refuses (u1_at cut) (IsCut cut 1)
u1_refuses cut = cut_lifted cut 1 (number_at w8) (number_refuses w8)

pub u2_refuses : {E : Type 0} (cut : ℕ → E) → Refuses (u2_at cut) (IsCut cut 2)
u2_refuses cut = cut_lifted cut 2 (number_at w16) (number_refuses w16)

pub u4_refuses : {E : Type 0} (cut : ℕ → E) → Refuses (u4_at cut) (IsCut cut 4)
u4_refuses cut = cut_lifted cut 4 (number_at w32) (number_refuses w32)

pub u8_refuses : {E : Type 0} (cut : ℕ → E) → Refuses (u8_at cut) (IsCut cut 8)
u8_refuses cut = cut_lifted cut 8 (number_at w64) (number_refuses w64)

-- ---- a part, and what follows it

pub refuses_then : {A B E : Type 0} {part : Cursor → Result (A × Cursor) E} {bytes_of : A → List ℕ} {P : A → Type 0} {F : Cursor → E → Type 0} {Later : A → Cursor → E → Type 0} (k : A × Cursor → Result B E)
    → Reads part bytes_of P → Refuses part F → ((x : A) → P x → Refuses (λ c. k (x, c)) (Later x)) → Refuses (λ c. part c >>= k) (InTurn F bytes_of P Later)
refuses_then {A} {B} {E} {part} {bytes_of} {P} {F} {Later} k reads refuses later = record {
  says = λ c e fits h. bind_err h
      (λ r. inl (refuses.says c e fits r))
      (λ x r g.
      let t = reads.takes c x fits r in
      let fault = (later x.0 t.1).says x.1 e (IsBytes-Spans t.0 fits) g in
      inr (record { value = x.0; rest = x.1.rest; parts = t.0.parts; good = t.1; fault = subst (λ (m : Cursor). Later x.0 m e) (Spans-after t.0) fault }));
  again = λ c e fault. elim fault as (λ _. (part c >>= k) ≡ Err e) [
    | inl f ↦ bind_fails _ (refuses.again c e f)
    | inr f ↦ bind_again _ (reads.again c f.value (after c (bytes_of f.value) f.rest) f.good (after-Spans c (bytes_of f.value) f.rest f.parts)) ((later f.value f.good).again _ e f.fault)
  ];
}

-- nothing that follows fails
pub refuses_last : {A B E : Type 0} {part : Cursor → Result A E} {F : Cursor → E → Type 0} (k : A → B) → Refuses part F → Refuses (λ c. part c >>= λ x. Ok (k x)) F
refuses_last k refuses = record {
  says = λ c e fits h. bind_err h (λ r. refuses.says c e fits r) (λ x r g. absurd cc);
  again = λ c e fault. bind_fails _ (refuses.again c e fault);
}

pub lifted_refuses : {B D E : Type 0} {part : Cursor → Result B D} {F : Cursor → D → Type 0} (up : D → E) → Refuses part F → Refuses (λ c. lifted up (part c)) (IsLifted up F)
lifted_refuses up refuses = record {
  says = λ c e fits h. let d = lifted_err h in record { part = d.0; fault = refuses.says c d.0 fits d.1; reported = sym d.2 };
  again = λ c e fault. ap (lifted up) (refuses.again c fault.part fault.fault) ∙ ap (λ x. Err x) (sym fault.reported);
}

-- ---- many parts, and tables

pub many_refuses : {A E : Type 0} {part : Cursor → Result (A × Cursor) E} {bytes_of : A → List ℕ} {P : A → Type 0} {F : Cursor → E → Type 0}
    → Reads part bytes_of P → Refuses part F → (n : ℕ) → Refuses (many_at part n) (IsAmong bytes_of P F n)
many_refuses {A} {E} {part} {bytes_of} {P} {F} reads refuses n = record {
  says = λ c e fits h.
      let s = many_stops reads n c e fits h in
      record { prefix = s.prefix; rest = s.mid.rest; parts = s.spans.parts; good = s.good; fewer = s.within; fault = subst (λ (m : Cursor). F m e) (Spans-after s.spans) (refuses.says s.mid e s.fits s.failed) };
  again = λ c e f.
      let mid : Cursor = after c (flat_map bytes_of f.prefix) f.rest in
      many_halt reads n c mid f.prefix e f.fewer f.good (after-Spans c (flat_map bytes_of f.prefix) f.rest f.parts) (refuses.again mid e f.fault);
}

pub table_refuses : {A E : Type 0} (cut : ℕ → E) {part : Cursor → Result (A × Cursor) E} {bytes_of : A → List ℕ} {P : A → Type 0} {F : Cursor → E → Type 0}
    → Reads part bytes_of P → Refuses part F → Refuses (table_at cut part) (InTable cut bytes_of P F)
unfolding table_at
table_refuses cut reads refuses = refuses_then _ (u2_reads cut) (u2_refuses cut) (λ n lt. many_refuses reads refuses n)

-- ---- tests

untrue : (b : Bool) → (b ≡ true → ⊥) → b ≡ false
untrue true h = absurd (h refl)
untrue false h = refl

-- a part whose value is tested
pub guard_refuses : {A E : Type 0} {part : Cursor → Result (A × Cursor) E} {bytes_of : A → List ℕ} {P : A → Type 0} {F : Cursor → E → Type 0} (test : A → Bool) (Allowed : A → Type 0) (denied : ℕ → E)
    → Reads part bytes_of P → Refuses part F → ((x : A) → test x ≡ true → Allowed x) → ((x : A) → Allowed x → test x ≡ true)
    → Refuses (λ c. part c >>= λ x. cond (test x.0) (Ok x) (Err (denied c.place))) (λ c e. F c e ⊎ IsDenied bytes_of P Allowed denied c e)
guard_refuses {A} {E} {part} {bytes_of} {P} {F} test Allowed denied reads refuses to from = record {
  says = λ c e fits h. bind_err h
      (λ r. inl (refuses.says c e fits r))
      (λ x r g. cond_either (test x.0) _ _ g (λ t k. absurd cc) (λ t k.
      let s = reads.takes c x fits r in
      inr (record { value = x.0; rest = x.1.rest; parts = s.0.parts; item = s.1; wrong = λ allowed. (let yes = from x.0 allowed in absurd cc); reported = cc })));
  again = λ c e fault. elim fault as (λ _. (part c >>= λ x. cond (test x.0) (Ok x) (Err (denied c.place))) ≡ Err e) [
    | inl f ↦ bind_fails _ (refuses.again c e f)
    | inr f ↦ (
        let next : Cursor = after c (bytes_of f.value) f.rest in
        let read = reads.again c f.value next f.item (after-Spans c (bytes_of f.value) f.rest f.parts) in
        let no = untrue (test f.value) (λ yes. f.wrong (to f.value yes)) in
        bind_again _ read (cond_false _ no (ap (λ x. Err x) (sym f.reported))))
  ];
}

-- nothing was to come
pub end_refuses : {A E : Type 0} (left : ℕ → E) (x : A) → Refuses (λ c. cond (at_end c) (Ok x) (Err (left c.place))) (IsLeft left)
end_refuses left x = record {
  says = λ c e fits h. cond_either (at_end c) _ _ h (λ t r. absurd cc) (λ t r. record { some = λ none. (let yes : at_end c ≡ true = eq-eqb _ _ (ap length none) in absurd cc); reported = cc });
  again = λ c e fault. cond_false _ (untrue (at_end c) (λ yes. fault.some (nil_from_length c.rest (eqb-true _ _ yes)))) (ap (λ x. Err x) (sym fault.reported));
}
