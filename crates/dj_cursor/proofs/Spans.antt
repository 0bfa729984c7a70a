-- Reading from a place to a later one, the bytes between, and the law that ties a reader to a spelling.
use Rattle.std.proofs.Common.{◌≡◌, ℕ, ◌+◌, List, [], ◌++◌, length, Result, Ok, refl, sym, ap, subst, ap₂, ◌∙◌, append_assoc, append-nil, arith}
use Rattle.std.proofs.lemmas.List.{length-append}
use Rattle.dj_cursor.specs.Steps.{◌>>=◌, lifted}
use Rattle.dj_cursor.specs.Reading.{Cursor}
use Rattle.dj_cursor.proofs.Bytes.{IsBytes, IsBytes-after}
use Rattle.dj_cursor.proofs.Steps.{bind_ok, lifted_ok}

-- ---- from a place to a later one

pub record Spans (c : Cursor) (text : List ℕ) (next : Cursor) : Type 0 where
  pub parts : c.rest ≡ text ++ next.rest
  pub place : next.place ≡ c.place + length text

pub Spans-none : (c : Cursor) → Spans c [] c
Spans-none c = record { parts = refl; place = omega arith }

pub Spans-then : {a b c : Cursor} {x y : List ℕ} → Spans a x b → Spans b y c → Spans a (x ++ y) c
Spans-then {a} {b} {c} {x} {y} p q = record {
  parts = p.parts ∙ ap (λ (t : List ℕ). x ++ t) q.parts ∙ sym (append_assoc x y c.rest);
  place = omega (arith, p.place, q.place, length-append x y);
}

pub Spans-split : (x y : List ℕ) (a c : Cursor) → Spans a (x ++ y) c → (b : Cursor) × Spans a x b × Spans b y c
Spans-split x y a c s = (
  record { place = a.place + length x; rest = y ++ c.rest },
  record { parts = s.parts ∙ append_assoc x y c.rest; place = refl },
  record { parts = refl; place = omega (arith, s.place, length-append x y) },
)

-- nothing was read
pub Spans-stay : {c next : Cursor} → Spans c [] next → c ≡ next
Spans-stay {c} {next} s =
    let here : c.place ≡ next.place = omega (arith, s.place) in
    ap₂ (λ (n : ℕ) (l : List ℕ). record { place = n; rest = l }) here s.parts

-- all was read
pub Spans-end : (c : Cursor) (text : List ℕ) (next : Cursor) → Spans c text next → next.rest ≡ [] → c.rest ≡ text
Spans-end c text next s nothing = s.parts ∙ ap (λ (r : List ℕ). text ++ r) nothing ∙ append-nil text

pub IsBytes-Spans : {a b : Cursor} {text : List ℕ} → Spans a text b → IsBytes a.rest → IsBytes b.rest
IsBytes-Spans {a} {b} {text} s h = IsBytes-after text b.rest (subst IsBytes s.parts h)

-- ---- what a part reads, and that it reads all of that

-- a part that is read is good and spelled so, and a good part that is spelled so is read
pub record Reads {A E : Type 0} (part : Cursor → Result (A × Cursor) E) (bytes_of : A → List ℕ) (IsGood : A → Type 0) : Type 0 where
  pub takes : (c : Cursor) (x : A × Cursor) → IsBytes c.rest → part c ≡ Ok x → Spans c (bytes_of x.0) x.1 × IsGood x.0
  pub again : (c : Cursor) (x : A) (next : Cursor) → IsGood x → Spans c (bytes_of x) next → part c ≡ Ok (x, next)

-- the same law, with what is good said in other words
pub Reads-good : {A E : Type 0} {part : Cursor → Result (A × Cursor) E} {bytes_of : A → List ℕ} {P Q : A → Type 0}
    → Reads part bytes_of P → ((x : A) → P x → Q x) → ((x : A) → Q x → P x) → Reads part bytes_of Q
Reads-good reads to from = record {
  takes = λ c x fits e. let t = reads.takes c x fits e in (t.0, to x.0 t.1);
  again = λ c x next good s. reads.again c x next (from x good) s;
}

-- the same law, with the spelling in other words
pub Reads-spelled : {A E : Type 0} {part : Cursor → Result (A × Cursor) E} {bytes_of : A → List ℕ} {P : A → Type 0}
    → Reads part bytes_of P → (text_of : A → List ℕ) → ((x : A) → P x → bytes_of x ≡ text_of x) → Reads part text_of P
Reads-spelled reads text_of same = record {
  takes = λ c x fits e. let t = reads.takes c x fits e in (subst (λ (l : List ℕ). Spans c l x.1) (same x.0 t.1) t.0, t.1);
  again = λ c x next good s. reads.again c x next good (subst (λ (l : List ℕ). Spans c l next) (sym (same x good)) s);
}

pub lifted_reads : {A D E : Type 0} {part : Cursor → Result (A × Cursor) D} {bytes_of : A → List ℕ} {IsGood : A → Type 0} (up : D → E)
    → Reads part bytes_of IsGood → Reads (λ c. lifted up (part c)) bytes_of IsGood
lifted_reads up reads = record {
  takes = λ c x fits e. reads.takes c x fits (lifted_ok up e);
  again = λ c x next good s. ap (lifted up) (reads.again c x next good s);
}

-- ---- a part, and what follows it

-- a step that did not fail, and what follows it
pub record Stepped {A : Type 0} (c : Cursor) (bytes_of : A → List ℕ) (IsGood : A → Type 0) (Rest : A × Cursor → Type 0) : Type 0 where
  pub value : A
  pub next : Cursor
  pub spans : Spans c (bytes_of value) next
  pub good : IsGood value
  pub fits : IsBytes next.rest
  pub rest : Rest (value, next)

pub step_takes : {A B E : Type 0} {part : Cursor → Result (A × Cursor) E} {bytes_of : A → List ℕ} {IsGood : A → Type 0} {k : A × Cursor → Result B E} {y : B}
    → Reads part bytes_of IsGood → (c : Cursor) → IsBytes c.rest → (part c >>= k) ≡ Ok y → Stepped c bytes_of IsGood (λ a. k a ≡ Ok y)
step_takes reads c fits e =
    let a = bind_ok e in
    let t = reads.takes c a.0 fits a.1 in
    record { value = a.0.0; next = a.0.1; spans = t.0; good = t.1; fits = IsBytes-Spans t.0 fits; rest = a.2 }

-- a step that will not fail
pub step_again : {A E : Type 0} {part : Cursor → Result (A × Cursor) E} {bytes_of : A → List ℕ} {IsGood : A → Type 0}
    → Reads part bytes_of IsGood → (c : Cursor) (x : A) (t : List ℕ) (next : Cursor) → IsGood x → Spans c (bytes_of x ++ t) next → (mid : Cursor) × (part c ≡ Ok (x, mid)) × Spans mid t next
step_again {bytes_of} reads c x t next good s =
    let m = Spans-split (bytes_of x) t c next s in
    (m.0, reads.again c x m.0 good m.1, m.2)
