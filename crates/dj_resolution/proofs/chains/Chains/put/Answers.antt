use Rattle.std.proofs.Common.{arith}
use Rattle.dj_resolution.proofs.Bits.{bits_left_out, bits_put}
use Rattle.dj_resolution.proofs.chains.Chains.put.Goals as goal
use Rattle.dj_resolution.proofs.chains.Chains.put.Goals.{then-place-len, else-place-len}

pub invariant_of-self-2 : goal.invariant_of-self-2
invariant_of-self-2 c =
    let old = c.args.self.now in
    elim c.if-place-len.branch [
      | then-place-len w ↦
          rw w.self-is (record {
            marked = bits_put old.lists.items c.push.new.self.items old.bits.items c.args.numbers.list c.args.numbers.bits c.len-place.result old.marked c.args.numbers.marked c.in_ok-push.ensures.items
                (omega (arith, c.len-place.ensures)) (omega (arith, w.if-place-len.true, c.len.ensures));
          })
      | else-place-len w ↦
          rw w.self-is (record {
            marked = bits_left_out old.lists.items c.push.new.self.items old.bits.items c.args.numbers.list old.marked c.in_ok-push.ensures.items
                (omega (arith, w.if-place-len.false, c.len.ensures, c.len-place.ensures));
          })
    ]
