use Rattle.std.proofs.Common.{◌≡◌, ◌++◌, take}
use Rattle.dj_natives.proofs.seen.put_text.Given as goal

-- the bytes so far
abbrev pub invariant-loop-byte : goal.invariant-loop-byte
invariant-loop-byte l = l.units ≡ l.initial.units ++ take l.byte-index l.text
