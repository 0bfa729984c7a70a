use Rattle.std.proofs.Common.{◌≡◌, length, take}
use Rattle.dj_resolution.specs.Numbers.{with_all}
use Rattle.dj_resolution.proofs.numbers.Numbers.add_all.Given as goal

-- those so far are there
abbrev pub invariant-loop-number : goal.invariant-loop-number
invariant-loop-number l = (l.self.list.items ≡ with_all l.initial.self.list.items (take l.number-index l.numbers)) × (length l.self.bits.items ≡ length l.initial.self.bits.items)
