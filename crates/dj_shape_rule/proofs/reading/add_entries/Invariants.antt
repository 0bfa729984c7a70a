use Rattle.std.proofs.Common.{ℕ, true, take}
use Rattle.dj_model.specs.trusted.Kinds.{entries_of}
use Rattle.dj_shape_rule.specs.Reading.{Gains, frame_code}
use Rattle.dj_shape_rule.proofs.reading.add_entries.Given as goal

abbrev pub invariant-loop-ty : goal.invariant-loop-ty
invariant-loop-ty l = (max_stack max_locals : ℕ) → Gains true (entries_of (frame_code max_stack max_locals l.made) (take l.ty-index l.types)) l.initial.entries.items l.entries.items
