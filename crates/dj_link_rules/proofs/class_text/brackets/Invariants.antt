use Rattle.std.proofs.Common.{◌≡◌, ◌+◌, ◌≤◌, drop}
use Rattle.dj_link_rules.specs.Constants.{brackets}
use Rattle.dj_link_rules.proofs.class_text.brackets.Given as goal

-- all so far, and those that follow
abbrev pub invariant-loop-byte : goal.invariant-loop-byte
invariant-loop-byte l = (l.dims + brackets (drop l.byte-index l.text) ≡ brackets l.text) × (l.dims ≤ l.byte-index)
