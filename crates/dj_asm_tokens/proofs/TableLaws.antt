-- The place of a word among the instructions' words, by its length.
use Rattle.std.proofs.Common.{◌≡◌, ℕ, suc, ◌<◌, ◌==◌, ◌&&◌, ◌⊎◌, Bool, true, false, cond, List, [], ◌∷◌, Option, Some, length, bytes_eq, nat_le, refl, ap, inl, inr, arith}
use Rattle.std.specs.List.{filter, list_all}
use Rattle.std.proofs.lemmas.Bool.{cases_Bool, eqb-false, ne_eqb, and_parts, leb-true, false_from_ne_true}
use Rattle.std.proofs.lemmas.Slice.Eq.{bytes_eq-Decides}
use Rattle.dj_asm_tokens.specs.trusted.Mnemonics.{mnemonics}
use Rattle.dj_asm_tokens.specs.WordReading.{row_of, place_from}
use Rattle.dj_asm_tokens.specs.Tables.{rows_from, rows_of_length}

abbrev has_length : ℕ → List ℕ × ℕ → Bool
has_length n row = length row.0 == n

other_length : (w word : List ℕ) → (length w == length word) ≡ false → bytes_eq w word ≡ false
other_length w word e =
    false_from_ne_true (bytes_eq w word) (λ h. eqb-false (length w) (length word) e (ap length ((bytes_eq-Decides w word).0 h)))

pub place_by_length : (n : ℕ) (ws : List (List ℕ)) (word : List ℕ) → row_of (filter (has_length (length word)) (rows_from n ws)) word ≡ place_from n ws word
place_by_length n [] word = refl
place_by_length n (w ∷ ws) word =
    elim (cases_Bool (length w == length word)) [
      | inl e ↦ rw e (ap (λ (o : Option ℕ). cond (bytes_eq w word) (Some n) o) (place_by_length (suc n) ws word))
      | inr e ↦ rw (e, other_length w word e) (place_by_length (suc n) ws word)
    ]

pub place_of_word : (word : List ℕ) → row_of (rows_of_length (length word)) word ≡ place_from 0 mnemonics word
place_of_word word = place_by_length 0 mnemonics word

is_short : List ℕ × ℕ → Bool
is_short row = nat_le 3 (length row.0) && nat_le (length row.0) 15

none_of_length : (n : ℕ) (rows : List (List ℕ × ℕ)) → (n < 3) ⊎ (15 < n) → list_all is_short rows ≡ true → filter (has_length n) rows ≡ []
unfolding is_short
none_of_length n [] far short = refl
none_of_length n (row ∷ rows) far short =
    let p = and_parts (nat_le 3 (length row.0) && nat_le (length row.0) 15) (list_all is_short rows) short in
    let q = and_parts (nat_le 3 (length row.0)) (nat_le (length row.0) 15) p.0 in
    let low = leb-true 3 (length row.0) q.0 in
    let high = leb-true (length row.0) 15 q.1 in
    let apart : length row.0 ≡ n → ⊥ = λ e. elim far [ inl h ↦ absurd (omega arith) | inr h ↦ absurd (omega arith) ] in
    rw (ne_eqb (length row.0) n apart) (none_of_length n rows far p.1)

pub no_rows : (n : ℕ) → (n < 3) ⊎ (15 < n) → rows_of_length n ≡ []
unfolding mnemonics is_short
no_rows n far = none_of_length n (rows_from 0 mnemonics) far refl
