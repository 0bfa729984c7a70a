-- How many bytes the heap of a run takes for what was paid.
use Rattle.std.specs.Prelude.{ℕ, ◌+◌, ◌*◌, ◌≤◌, List, [], ◌∷◌, Option, Some, None, if◌then◌else◌}
use Rattle.dj_names.specs.declared.run.Charge.{Charge}
use Rattle.dj_names.specs.declared.run.Charge.TheVariants as charges
use Rattle.dj_names.specs.declared.run.Thresholds.{Thresholds}
use Rattle.dj_names.specs.trusted.Heaps.{text_size, object_size}
use Rattle.dj_model.specs.trusted.Types.{Declared}
use Rattle.dj_model.specs.trusted.Instructions.{Instruction}
use Rattle.dj_model.specs.trusted.Program.{Program}
use Rattle.dj_model.specs.trusted.State.{Frame, State, Literal, instruction_at}
use Rattle.dj_model.specs.trusted.Runs.{input_array}
use Rattle.dj_model.specs.Charging.{Amount}
use Rattle.dj_model.specs.Effects.{pays}
use Rattle.dj_bounds.specs.Acts.{arrived}

-- ---- bytes that are paid, and not taken yet

abbrev pub alloc_in : Charge → ℕ → ℕ
alloc_in charges.Alloc n = n
alloc_in charge n = 0

abbrev pub alloc_of : List Amount → ℕ
alloc_of [] = 0
alloc_of (a ∷ amounts) = alloc_in a.charge a.amount + alloc_of amounts

abbrev pub own_bytes : Program → Frame Declared → Option Instruction → ℕ
own_bytes program x None = 0
own_bytes program x (Some i) = if x.paid then alloc_of (pays program [] i x.operands) else 0

abbrev pub pending_bytes : Program → List (Frame Declared) → ℕ
pending_bytes program [] = 0
pending_bytes program (x ∷ below) = own_bytes program x (instruction_at program x) + pending_bytes program below

-- ---- the whole heap

abbrev pub literal_bytes : List Literal → ℕ
literal_bytes [] = 0
literal_bytes (l ∷ literals) = text_size l.units + literal_bytes literals

abbrev pub input_bytes : List ℕ → ℕ
input_bytes input = object_size (input_array input)

-- an exception of the machine's own takes 32 bytes, and pays by its arrival at a handler
abbrev pub HasRoom : Program → List ℕ → State → Type 0
HasRoom program input s =
    s.heap.used + pending_bytes program s.frames ≤ s.account.costs.alloc + 32 * (s.account.costs.throw + arrived program s.frames) + literal_bytes s.literals + input_bytes input

-- beside the literals: three exceptions more stand for an arrival that isn't charged, for one that ends the run and for the object that stops it
abbrev pub most_bytes : Thresholds → List ℕ → ℕ
most_bytes most input = most.alloc + 32 * (most.throw + 3) + input_bytes input
