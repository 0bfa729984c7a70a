use Rattle.std.proofs.Common.{◌≡◌, ◌∷◌, map, take, None}
use Rattle.dj_shape_rule.proofs.Keeping.{entry_call}
use Rattle.dj_shape_rule.proofs.pool.calls.Given as goal

-- what is kept so far
abbrev pub invariant-loop-entry : goal.invariant-loop-entry
invariant-loop-entry l = l.kept.items ≡ None ∷ map entry_call (take l.entry-index l.entries)
