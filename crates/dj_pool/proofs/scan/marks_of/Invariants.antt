use Rattle.std.proofs.Common.{◌≡◌, take, eqb}
use Rattle.std.specs.List.{list_any}
use Rattle.dj_pool.specs.Scan.{is_stop_byte, is_angle}
use Rattle.dj_pool.proofs.scan.marks_of.Given as goal

abbrev pub invariant-loop-byte : goal.invariant-loop-byte
invariant-loop-byte l = record {
  stop : l.stop ≡ list_any is_stop_byte (take l.byte-index l.text);
  slash : l.slash ≡ list_any (λ b. eqb b 47) (take l.byte-index l.text);
  angle : l.angle ≡ list_any is_angle (take l.byte-index l.text);
}
