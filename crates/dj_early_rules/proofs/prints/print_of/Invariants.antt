use Rattle.std.proofs.Common.{◌≡◌, drop}
use Rattle.dj_early_rules.specs.Prints.{print_of}
use Rattle.dj_early_rules.proofs.prints.print_of.Given as goal

-- the bytes that are left give the number of the whole text
abbrev pub invariant-loop-byte : goal.invariant-loop-byte
invariant-loop-byte l = print_of l.print (drop l.byte-index l.text) ≡ print_of 0 l.text
