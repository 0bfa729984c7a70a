-- Used by the code alone: when kinds that are left may go on at a frame.
use Rattle.std.specs.Prelude.{◌≡◌, ℕ, ⊤, List, reverse, Option, Some, None}
use Rattle.dj_names.specs.declared.descriptor.Kind.{Kind}
use Rattle.dj_model.specs.trusted.Values.{local_at}
use Rattle.dj_model.specs.trusted.Kinds.{Kinds}
use Rattle.dj_shape_rule.specs.Reported.{Reported}

-- each local variable for which the second list has a kind has it in the first
abbrev pub LocalsFlow : List (Option Kind) → List (Option Kind) → Type 0
LocalsFlow locals reported = (slot : ℕ) (kind : Kind) → local_at reported slot ≡ Some kind → local_at locals slot ≡ Some kind

-- with this left, the run may go on at a frame with these kinds
abbrev pub Flows : Kinds → Reported → Type 0
Flows left reported = LocalsFlow left.locals reported.locals × (left.stack ≡ reverse reported.stack)

-- the same; where there is no frame, the run may go on
abbrev pub FlowsTo : Kinds → Option Reported → Type 0
FlowsTo left None = ⊤
FlowsTo left (Some reported) = Flows left reported

-- the same; where there is no frame, the run may not go on
abbrev pub FlowsToFrame : Kinds → Option Reported → Type 0
FlowsToFrame left None = ⊥
FlowsToFrame left (Some reported) = Flows left reported
