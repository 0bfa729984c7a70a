-- Used by the code alone: one piece of a range.
use Rattle.std.specs.Prelude.{ℕ}
use Rattle.dj_labels.specs.declared.labelled.Protected.{Protected}

abbrev pub piece : Protected → ℕ × ℕ → Protected
piece range p = record range { start = p.0; end = p.1 }
