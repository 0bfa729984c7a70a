use Rattle.std.proofs.Common.{◌≡◌, flat_map}
use Rattle.std.specs.Char.Escape.{encode_utf16}
use Rattle.dj_file_rules.proofs.named.units_of_path.Given as goal

-- the units of the characters so far
abbrev pub invariant-loop-c : goal.invariant-loop-c
invariant-loop-c l = l.units.items ≡ flat_map encode_utf16 l.yielded
