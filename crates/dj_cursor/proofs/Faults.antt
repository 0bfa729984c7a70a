-- Which faults a reader never has.
use Rattle.std.proofs.Common.{◌≡◌, ℕ, zero, suc, Bool, cond, Result, Ok, Err, refl, sym, subst}
use Rattle.std.specs.Int.{w16}
use Rattle.dj_cursor.specs.declared.cursor.Cut.{Cut}
use Rattle.dj_cursor.specs.Steps.{◌>>=◌, lifted}
use Rattle.dj_cursor.specs.Reading.{Cursor, number_at, u2_at, many_at, table_at}
use Rattle.dj_cursor.proofs.Steps.{guard_err}

-- an error of another kind, if any
pub record Never {A E : Type 0} (Bad : E → Type 0) (r : Result A E) : Type 0 where
  pub never : (e : E) → r ≡ Err e → Bad e → ⊥

-- the step before was no such error, so it gave a value
pub past : {A B E : Type 0} {r : Result A E} {f : A → Result B E} {e : E} (Bad : E → Type 0) → (r >>= f) ≡ Err e → Bad e → Never Bad r → (x : A) × (r ≡ Ok x) × (f x ≡ Err e)
past {r = Ok x} Bad h bad one = (x, refl, h)
past {r = Err d} {e} Bad h bad one = absurd (one.never e (cc) bad)

pub guard_never : {A E : Type 0} {e : E} (Bad : E → Type 0) (b : Bool) (x : A) (d : E) → cond b (Ok x) (Err d) ≡ Err e → Bad e → Bad d
guard_never Bad b x d h bad = subst Bad (sym (guard_err b x h)) bad

pub lifted_never : {A D E : Type 0} {Bad : E → Type 0} (up : D → E) (r : Result A D) → ((d : D) → Bad (up d) → ⊥) → Never Bad (lifted up r)
lifted_never up (Ok x) fine = record { never = λ e h bad. absurd cc }
lifted_never {Bad} up (Err d) fine = record { never = λ e h bad. let same : up d ≡ e = cc in fine d (subst Bad (sym same) bad) }

pub many_never : {A E : Type 0} (Bad : E → Type 0) (part : Cursor → Result (A × Cursor) E) → ((c : Cursor) → Never Bad (part c)) → (n : ℕ) (c : Cursor) → Never Bad (many_at part n c)
unfolding many_at
many_never Bad part never zero c = record { never = λ e h bad. absurd cc }
many_never Bad part never (suc n) c = record {
  never = λ e h bad.
      let first = past Bad h bad (never c) in
      let others = past Bad first.2 bad (many_never Bad part never n first.0.1) in
      absurd (cc (others.2));
}

pub table_never : {A E : Type 0} (Bad : E → Type 0) (cut : ℕ → E) (part : Cursor → Result (A × Cursor) E) → ((place : ℕ) → Bad (cut place) → ⊥) → ((c : Cursor) → Never Bad (part c)) → (c : Cursor) → Never Bad (table_at cut part c)
unfolding table_at
table_never Bad cut part fine never c = record {
  never = λ e h bad.
      let count = past {r = u2_at cut c} Bad h bad (lifted_never (λ (x : Cut). cut x.0) (number_at w16 c) (λ d k. fine d.0 k)) in
      (many_never Bad part never count.0.0 count.0.1).never e count.2 bad;
}
