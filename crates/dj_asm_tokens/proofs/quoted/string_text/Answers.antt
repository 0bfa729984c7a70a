use Rattle.std.proofs.Common.{◌≡◌, ◌++◌, sym, ap, ◌∙◌}
use Rattle.dj_names.specs.trusted.ModifiedUtf8.{unit_text, units_text}
use Rattle.dj_asm_tokens.specs.trusted.Words.{string_units}
use Rattle.dj_asm_tokens.specs.Strings.{Unit, string_step}
use Rattle.dj_asm_tokens.specs.Views.{opened_units}
use Rattle.dj_asm_tokens.proofs.QuotedLaws.{still_closed, text_follows, at_end, join, nothing_more}
use Rattle.dj_asm_tokens.proofs.quoted.string_text.Goals as goal

pub loop-unit-preserved : goal.loop-unit-preserved
loop-unit-preserved c =
    let step : string_step c.loop-unit.rest.now ≡ Unit c.in-Unit.unit c.in-Unit.after.now = sym c.in-Unit.ensures.step in
    record {
      closed = still_closed c.loop-unit.rest.now c.in-Unit.after.now c.in-Unit.unit step c.loop-unit.invariant.closed;
      follows =
          ap (λ l. l ++ units_text (opened_units (string_units 0 c.in-Unit.after.now))) c.in_ok-push_unit.ensures
          ∙ (join c.loop-unit.text (unit_text c.in-Unit.unit) (units_text (opened_units (string_units 0 c.in-Unit.after.now)))
          ∙ (ap (λ l. c.loop-unit.text ++ l) (sym (text_follows c.loop-unit.rest.now c.in-Unit.after.now c.in-Unit.unit step c.loop-unit.invariant.closed)) ∙ c.loop-unit.invariant.follows));
    }

pub returns : goal.returns
returns c =
    sym (nothing_more c.loop-unit.text)
    ∙ (ap (λ o. c.loop-unit.text ++ units_text o) (sym (at_end c.string_step.result c.loop-unit.rest.now c.in_default.not-Unit c.string_step.ensures.step)) ∙ c.loop-unit.invariant.follows)
