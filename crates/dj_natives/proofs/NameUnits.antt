-- The units that a name spells are those that are read of it.
use Rattle.std.proofs.Common.{◌≡◌, ◌≢◌, ℕ, zero, suc, ◌<◌, ◌≤◌, ◌^◌, false, List, [], ◌∷◌, ◌++◌, length, Option, Some, None, refl, sym, ap, ◌∙◌, arith}
use Rattle.std.specs.Prelude.{is_some}
use Rattle.std.specs.List.{AllByRecursion}
use Rattle.std.proofs.lemmas.List.{length-append}
use Rattle.dj_names.specs.trusted.ModifiedUtf8.{unit_text, units_text, SpellsUnits}
use Rattle.dj_names.specs.trusted.UnitReading.{unit_read}
use Rattle.dj_names.specs.trusted.Tests.{units_read}
use Rattle.dj_names.specs.Tests.{modified_utf8_test}
use Rattle.dj_names.proofs.UnitLaws.{unit_again, unit_some}
use Rattle.dj_model.specs.trusted.Natives.{name_units, units_or_none}

units_step : (n : ℕ) (bytes : List ℕ) (u : ℕ) (rest us : List ℕ) → unit_read bytes ≡ Some (u, rest) → units_read n rest ≡ Some us → units_read (suc n) bytes ≡ Some (u ∷ us)
unfolding unit_read units_read
units_step n [] u rest us e f = absurd (cc)
units_step n (b ∷ more) u rest us e f = rw (e, f) refl

units_again : (units : List ℕ) (n : ℕ) → AllByRecursion (λ u. u < 2 ^ 16) units → length units ≤ n → units_read n (units_text units) ≡ Some units
unfolding units_read
units_again [] zero fit le = refl
units_again [] (suc n) fit le = refl
units_again (u ∷ us) zero fit le = absurd (omega arith)
units_again (u ∷ us) (suc n) fit le =
    units_step n (unit_text u ++ units_text us) u (units_text us) us (unit_again u (units_text us) fit.0) (units_again us n fit.1 (omega arith))

some_long : (bytes : List ℕ) → bytes ≢ [] → 1 ≤ length bytes
some_long [] some = absurd (some refl)
some_long (b ∷ more) some = omega arith

units_long : (units : List ℕ) → AllByRecursion (λ u. u < 2 ^ 16) units → length units ≤ length (units_text units)
units_long [] fit = omega arith
units_long (u ∷ us) fit =
    let one : 1 ≤ length (unit_text u) = some_long (unit_text u) (λ e. unit_some u [] fit.0 (ap (λ (t : List ℕ). t ++ []) e)) in
    let others : length us ≤ length (units_text us) = units_long us fit.1 in
    omega (arith, length-append (unit_text u) (units_text us))

pub spelled : (text units : List ℕ) → SpellsUnits text units → units ≡ name_units text
spelled text units s =
    let long : length units ≤ length text = omega (arith, units_long units s.units_fit, ap length s.text_is) in
    sym (ap units_or_none (ap (units_read (length text)) s.text_is ∙ units_again units (length text) s.units_fit long))

none_read : (o : Option (List ℕ)) → is_some o ≡ false → units_or_none o ≡ []
none_read None e = refl
none_read (Some units) e = absurd cc

pub unread : (text : List ℕ) → modified_utf8_test text ≡ false → [] ≡ name_units text
unfolding modified_utf8_test
unread text e = sym (none_read (units_read (length text) text) e)
