use Rattle.std.proofs.Common.{◌≡◌, take}
use Rattle.std.specs.List.{list_any}
use Rattle.dj_early_rules.specs.Judged.{is_float_letter}
use Rattle.dj_early_rules.proofs.judged.has_float_letter.Given as goal

abbrev pub invariant-loop-byte : goal.invariant-loop-byte
invariant-loop-byte l = l.found ≡ list_any is_float_letter (take l.byte-index l.text)
