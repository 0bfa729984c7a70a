-- Which methods have code.
use Rattle.std.proofs.Common.{◌≡◌, ◌≢◌, ℕ, ◌+◌, Bool, true, false, ◌||◌, ◌⊎◌, List, [], ◌∷◌, length, refl, sym, ap, ◌∙◌, inl, inr, arith}
use Rattle.std.specs.Prelude.{◌^◌, ◌/◌, ◌%◌, bit_and}
use Rattle.std.specs.Int.{bit_at, IsBitSet}
use Rattle.std.proofs.lemmas.Bool.{eqb-true, eq-eqb}
use Rattle.std.proofs.lemmas.Nat.{bit_set_by_shift, and_mask}
use Rattle.dj_pool.specs.trusted.Pool.{Constant}
use Rattle.dj_class.specs.trusted.ClassFile.{MemberInfo}
use Rattle.dj_model.specs.trusted.Program.{has_flag, is_abstract}
use Rattle.dj_early_rules.specs.trusted.Attributes.{codes_of}
use Rattle.dj_early_rules.specs.trusted.Malformed.{IsBodiless, IsFaultyMethod}
use Rattle.dj_declarations.specs.trusted.Files.{is_bodiless}

-- ---- flags

low_bit : (n : ℕ) → bit_and n 1 ≡ n % 2
low_bit n = and_mask n 1

flag_of_bit : (flags bit : ℕ) → IsBitSet flags bit → has_flag bit flags ≡ true
flag_of_bit flags bit set = eq-eqb (bit_at flags bit) 1 (sym (low_bit (flags / 2 ^ bit)) ∙ (bit_set_by_shift flags bit).1 set)

bit_of_flag : (flags bit : ℕ) → has_flag bit flags ≡ true → IsBitSet flags bit
bit_of_flag flags bit e = (bit_set_by_shift flags bit).0 (low_bit (flags / 2 ^ bit) ∙ eqb-true (bit_at flags bit) 1 e)

or_second : (a b : Bool) → b ≡ true → (a || b) ≡ true
or_second true b e = refl
or_second false b e = e

or_cases : (a b : Bool) → (a || b) ≡ true → (a ≡ true) ⊎ (b ≡ true)
or_cases true b e = inl refl
or_cases false b e = inr e

bodiless_flags : (m : MemberInfo) → IsBodiless m → is_bodiless m.flags ≡ true
bodiless_flags m (inl native) = ap (λ (b : Bool). b || is_abstract m.flags) (flag_of_bit m.flags 8 native)
bodiless_flags m (inr abstract) = or_second (has_flag 8 m.flags) (is_abstract m.flags) (flag_of_bit m.flags 10 abstract)

flags_bodiless : (m : MemberInfo) → is_bodiless m.flags ≡ true → IsBodiless m
flags_bodiless m e =
    elim (or_cases (has_flag 8 m.flags) (is_abstract m.flags) e) [
      | inl native ↦ inl (bit_of_flag m.flags 8 native)
      | inr abstract ↦ inr (bit_of_flag m.flags 10 abstract)
    ]

-- ---- methods that aren't faulty

module _ (pool : List Constant) (m : MemberInfo) (sound : IsFaultyMethod pool m → ⊥) where
  pub bodiless_reported : codes_of pool m ≡ [] → is_bodiless m.flags ≡ true
  bodiless_reported none = by (is_bodiless m.flags) refl where
    by : (b : Bool) → is_bodiless m.flags ≡ b → b ≡ true
    by true e = refl
    by false e =
        absurd (sound (inl (
          (λ bodiless. let is = bodiless_flags m bodiless in absurd cc),
          (λ one. let no = ap length none in omega (arith, one, no)),
        )))

  pub code_reported : (body : List ℕ) → codes_of pool m ≡ body ∷ [] → is_bodiless m.flags ≡ false
  code_reported body one = by (is_bodiless m.flags) refl where
    by : (b : Bool) → is_bodiless m.flags ≡ b → b ≡ false
    by false e = refl
    by true e = absurd (sound (inr (inl (flags_bodiless m e, (λ none. let no : body ∷ [] ≡ [] = sym one ∙ none in absurd cc)))))
