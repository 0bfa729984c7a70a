-- Bare bytes are the text of the units that they are.
use Rattle.std.proofs.Common.{◌≡◌, ℕ, ◌==◌, ◌&&◌, ◌++◌, true, false, not, List, [], ◌∷◌, nat_le, nat_lt, refl, ap, ◌∙◌, arith}
use Rattle.std.specs.List.{list_all}
use Rattle.std.proofs.lemmas.Bool.{and_parts, not-true}
use Rattle.std.proofs.lemmas.Bool.Decides.{nat_tests}
use Rattle.dj_names.specs.trusted.ModifiedUtf8.{unit_text, units_text}
use Rattle.dj_asm_tokens.specs.trusted.Words.{begins_escape, word_units}
use Rattle.dj_asm_tokens.specs.Texts.{is_bare}
use Rattle.dj_asm_tokens.proofs.UnitLaws.{word_byte}

bare_text : (b : ℕ) → is_bare b ≡ true → unit_text b ≡ b ∷ []
bare_text b e = grind (arith, nat_tests)

no_escape : (b : ℕ) (bytes : List ℕ) → is_bare b ≡ true → begins_escape (b ∷ bytes) ≡ false
no_escape b bytes e =
    let p = and_parts (nat_le 1 b && nat_lt b 128) (not (b == 92)) e in
    let q : (b == 92) ≡ false = not-true (b == 92) p.1 in
    rw q refl

pub bare_units : (bytes : List ℕ) → list_all is_bare bytes ≡ true → units_text (word_units 0 bytes) ≡ bytes
unfolding word_units
bare_units [] bare = refl
bare_units (b ∷ bytes) bare =
    let p = and_parts (is_bare b) (list_all is_bare bytes) bare in
    ap units_text (word_byte b bytes (no_escape b bytes p.0))
    ∙ ap (λ (t : List ℕ). t ++ units_text (word_units 0 bytes)) (bare_text b p.0)
    ∙ ap (λ (t : List ℕ). b ∷ t) (bare_units bytes p.1)
