use Rattle.std.proofs.Common.{◌≡◌, ℕ, true, List, length, nat_eq, sym, ◌∙◌, subst, if◌then◌else◌}
use Rattle.std.specs.Vec.{vec_len}
use Rattle.std.proofs.lemmas.List.{with_items_is}
use Rattle.dj_resolution.specs.Bits.{AreBits, in_bits}
use Rattle.dj_resolution.proofs.Bits.{bits_more}
use Rattle.dj_resolution.proofs.numbers.Numbers.add.Goals as goal

pub invariant_of-self-then-not-has_bit : goal.invariant_of-self-then-not-has_bit
invariant_of-self-then-not-has_bit c =
    let count : length c.put_bit.new.words ≡ vec_len c.args.self.now.bits = c.put_bit.ensures.count ∙ c.deref_mut.ensures.len in
    record {
      marked = subst (AreBits c.push.new.self.items) (sym (with_items_is c.args.self.now.bits c.put_bit.new.words count))
          (bits_more c.args.self.now.list.items c.push.new.self.items c.args.self.now.bits.items c.put_bit.new.words c.args.number c.args.self.now.marked
          (subst (λ (words : List ℕ). (z : ℕ) → in_bits c.put_bit.new.words z ≡ (if nat_eq c.args.number z then true else in_bits words z)) c.deref_mut.ensures.value c.put_bit.ensures.bits) c.in_ok-push.ensures.items);
    }
