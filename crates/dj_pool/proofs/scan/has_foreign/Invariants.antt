use Rattle.std.proofs.Common.{◌≡◌, take}
use Rattle.std.specs.List.{list_any}
use Rattle.dj_pool.specs.Scan.{is_foreign}
use Rattle.dj_pool.proofs.scan.has_foreign.Given as goal

abbrev pub invariant-loop-byte : goal.invariant-loop-byte
invariant-loop-byte l = l.foreign ≡ list_any is_foreign (take l.byte-index l.text)
