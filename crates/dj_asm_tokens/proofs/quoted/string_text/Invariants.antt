use Rattle.std.proofs.Common.{◌≡◌, ◌++◌, true, is_some, length}
use Rattle.dj_names.specs.trusted.ModifiedUtf8.{units_text}
use Rattle.dj_asm_tokens.specs.trusted.Words.{string_units}
use Rattle.dj_asm_tokens.specs.Views.{opened_units}
use Rattle.dj_asm_tokens.proofs.quoted.string_text.Given as goal

-- what is left follows, and is closed
abbrev pub invariant-loop-unit : goal.invariant-loop-unit
invariant-loop-unit l = record {
  closed : is_some (string_units 0 l.rest) ≡ true;
  follows : l.text ++ units_text (opened_units (string_units 0 l.rest)) ≡ units_text (opened_units (string_units 0 l.bytes));
}

abbrev pub decreases-loop-unit : goal.decreases-loop-unit
decreases-loop-unit l = length l.rest
