use Rattle.std.proofs.Common.{◌≡◌, ◌<◌, ℕ, [], length, get_or}
use Rattle.dj_resolution.specs.Numbers.{lists_of}
use Rattle.dj_resolution.specs.Chained.{field_row}
use Rattle.dj_resolution.proofs.fields.field_rows.Given as goal

-- those so far
abbrev pub invariant-loop-class : goal.invariant-loop-class
invariant-loop-class l = record { count : length (lists_of l.rows.items) ≡ l.class; each : (k : ℕ) → k < l.class → get_or (lists_of l.rows.items) k [] ≡ field_row l.table k }
