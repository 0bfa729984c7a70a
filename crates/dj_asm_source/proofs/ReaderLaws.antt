-- Fields of numbers.
use Rattle.std.proofs.Common.{◌≡◌, ℕ, ◌&&◌, Bool, true, cond, ℤ, pos, negsuc, List, ◌∷◌, Option, Some, None, sym, ap, ◌∙◌, inl, inr, arith}
use Rattle.std.specs.Prelude.{int_le}
use Rattle.std.proofs.lemmas.Bool.Decides.{nat_tests}
use Rattle.std.proofs.lemmas.Int.{ints}
use Rattle.dj_asm_source.specs.declared.reader.NumberField.{NumberField}
use Rattle.dj_asm_source.specs.declared.reader.NumberField.TheVariants as fields
use Rattle.std.proofs.lemmas.Bool.{cases_Bool, and_parts, and_from}
use Rattle.dj_asm_tokens.specs.trusted.Words.{Word, Placed}
use Rattle.dj_asm_tokens.specs.Numbers.{Value, Outside, number_within}
use Rattle.dj_asm_tokens.specs.WordReading.{number_in}
use Rattle.dj_asm_source.specs.Reading.{Got, Large, said_by}
use Rattle.dj_asm_source.specs.LineReading.{number}
use Rattle.dj_asm_source.specs.Stops.{field_fits, lowest, highest}

pub in_bounds : (field : NumberField) (n : ℤ) → (int_le (lowest field) n && int_le n (highest field)) ≡ field_fits field n
in_bounds fields.U8 (pos n) = grind (arith, ints, nat_tests)
in_bounds fields.U8 (negsuc n) = grind (arith, ints, nat_tests)
in_bounds fields.U16 (pos n) = grind (arith, ints, nat_tests)
in_bounds fields.U16 (negsuc n) = grind (arith, ints, nat_tests)
in_bounds fields.I8 (pos n) = grind (arith, ints, nat_tests)
in_bounds fields.I8 (negsuc n) = grind (arith, ints, nat_tests)
in_bounds fields.I16 (pos n) = grind (arith, ints, nat_tests)
in_bounds fields.I16 (negsuc n) = grind (arith, ints, nat_tests)
in_bounds fields.I32 (pos n) = grind (arith, ints, nat_tests)
in_bounds fields.I32 (negsuc n) = grind (arith, ints, nat_tests)
in_bounds fields.I64 (pos n) = grind (arith, ints, nat_tests)
in_bounds fields.I64 (negsuc n) = grind (arith, ints, nat_tests)
in_bounds fields.Chop (pos n) = grind (arith, ints, nat_tests)
in_bounds fields.Chop (negsuc n) = grind (arith, ints, nat_tests)

pub value_within : (low high v : ℤ) (read : Option ℤ) → Value v ≡ number_within low high read → (read ≡ Some v) × (int_le low v ≡ true) × (int_le v high ≡ true)
value_within low high v None e = absurd (cc)
value_within low high v (Some n) e =
    elim (cases_Bool (int_le low n && int_le n high)) [
      | inr out ↦ absurd (let f : Value v ≡ Outside = e ∙ ap (λ (t : Bool). cond t (Value n) Outside) out in cc)
      | inl fits ↦
          let f : Value v ≡ Value n = e ∙ ap (λ (t : Bool). cond t (Value n) Outside) fits in
          let same : v ≡ n = cc in
          let p = and_parts (int_le low n) (int_le n high) fits in
          (ap (λ (z : ℤ). Some z) (sym same), ap (int_le low) same ∙ p.0, ap (λ (z : ℤ). int_le z high) same ∙ p.1)
    ]

pub number_got : (tokens rest : List Placed) (line column : ℕ) (units : List ℕ) (field : NumberField) (v : ℤ)
    → tokens ≡ record { line = line; column = column; token = Word units } ∷ rest → number_in units ≡ Some v → int_le (lowest field) v ≡ true → int_le v (highest field) ≡ true
    → number (field_fits field) tokens ≡ Got v rest
number_got tokens rest line column units field v here read low high =
    let place : Placed = record { line = line; column = column; token = Word units } in
    let fits : field_fits field v ≡ true = sym (in_bounds field v) ∙ and_from (int_le (lowest field) v) (int_le v (highest field)) low high in
    ap (number (field_fits field)) here
    ∙ ap (λ (o : Option ℤ). said_by (field_fits field) o place rest) read
    ∙ ap (λ (t : Bool). cond t (Got v rest) (Large (place ∷ rest))) fits
