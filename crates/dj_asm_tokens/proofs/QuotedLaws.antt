-- The text of a string, unit by unit.
use Rattle.std.proofs.Common.{Bor, ◌≡◌, ℕ, true, List, [], ◌∷◌, ◌++◌, Some, None, is_some, refl, sym, ap, ◌∙◌}
use Rattle.std.proofs.lemmas.Bool.{false≢true}
use Rattle.dj_names.specs.trusted.ModifiedUtf8.{unit_text, units_text}
use Rattle.dj_asm_tokens.specs.trusted.Words.{Opened, with_unit, string_units}
use Rattle.dj_asm_tokens.specs.declared.string.StringStep.{StringStep}
use Rattle.dj_asm_tokens.specs.declared.string.StringStep.TheVariants as steps
use Rattle.dj_asm_tokens.specs.Views.{opened_units, step_view}
use Rattle.dj_asm_tokens.specs.Strings.{Closed, Unit, Broken, string_step}
use Rattle.dj_asm_tokens.proofs.UnitLaws.{string_closed, string_broken, string_unit}

opens : (unit : ℕ) (opened : Opened) → is_some (with_unit unit opened) ≡ true → is_some opened ≡ true
opens unit None h = h
opens unit (Some x) h = refl

joins : (unit : ℕ) (opened : Opened) → is_some (with_unit unit opened) ≡ true → units_text (opened_units (with_unit unit opened)) ≡ unit_text unit ++ units_text (opened_units opened)
joins unit None h = absurd (false≢true h)
joins unit (Some x) h = refl

-- after a unit the string is still closed
pub still_closed : (bytes rest : List ℕ) (unit : ℕ) → string_step bytes ≡ Unit unit rest → is_some (string_units 0 bytes) ≡ true → is_some (string_units 0 rest) ≡ true
still_closed bytes rest unit e h = opens unit (string_units 0 rest) (ap is_some (sym (string_unit bytes rest unit e)) ∙ h)

-- and its text is that of the unit and the others
pub text_follows : (bytes rest : List ℕ) (unit : ℕ) → string_step bytes ≡ Unit unit rest → is_some (string_units 0 bytes) ≡ true
    → units_text (opened_units (string_units 0 bytes)) ≡ unit_text unit ++ units_text (opened_units (string_units 0 rest))
text_follows bytes rest unit e h =
    let is = string_unit bytes rest unit e in
    ap (λ o. units_text (opened_units o)) is ∙ joins unit (string_units 0 rest) (ap is_some (sym is) ∙ h)

closed_text : (bytes rest : List ℕ) → string_step bytes ≡ Closed rest → opened_units (string_units 0 bytes) ≡ []
closed_text bytes rest e = ap opened_units (string_closed bytes rest e)

broken_text : (bytes : List ℕ) → string_step bytes ≡ Broken → opened_units (string_units 0 bytes) ≡ []
broken_text bytes e = ap opened_units (string_broken bytes e)

pub at_end : (step : StringStep) (bytes : List ℕ) → ((unit : ℕ) (after : Bor (List ℕ)) → step ≡ steps.Unit unit after → ⊥) → step_view step ≡ string_step bytes → opened_units (string_units 0 bytes) ≡ []
at_end (steps.Closed after) bytes other e = closed_text bytes after.now (sym e)
at_end (steps.Unit unit after) bytes other e = absurd (other unit after refl)
at_end steps.Broken bytes other e = broken_text bytes (sym e)

pub join : (a b c : List ℕ) → (a ++ b) ++ c ≡ a ++ (b ++ c)
join [] b c = refl
join (x ∷ a) b c = ap (λ l. x ∷ l) (join a b c)

pub nothing_more : (a : List ℕ) → a ++ [] ≡ a
nothing_more [] = refl
nothing_more (x ∷ a) = ap (λ l. x ∷ l) (nothing_more a)
