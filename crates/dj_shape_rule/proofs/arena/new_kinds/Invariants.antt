use Rattle.std.proofs.Common.{◌≡◌, ◌+◌, ◌++◌, List, Option, reverse}
use Rattle.dj_names.specs.declared.descriptor.Kind.{Kind}
use Rattle.dj_shape_rule.specs.Arena.{IsIn, slots_at}
use Rattle.dj_shape_rule.proofs.arena.new_kinds.Given as goal

-- the places below are those of first ones of the lists, and of the second list the others are these
abbrev pub invariant-loop-first : goal.invariant-loop-first
invariant-loop-first l = record {
  old : IsIn l.slots l.first;
  new : IsIn l.slots l.second;
  gone : (more : List (Option Kind)) × (slots_at l.slots l.fn.old.end ≡ slots_at l.slots l.first.end ++ more);
  kinds : slots_at l.slots l.fn.new.end ≡ slots_at l.slots l.second.end ++ reverse l.kinds.items;
}

abbrev pub decreases-loop-first : goal.decreases-loop-first
decreases-loop-first l = l.first.end + l.second.end
