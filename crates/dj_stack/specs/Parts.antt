-- Values in parts: what it is, its low 32 bits and its high 32 bits.
use Rattle.std.specs.Prelude.{◌≡◌, ◌≢◌, ℕ, suc, ◌+◌, ◌*◌, List, [], ◌∷◌, get_or, Option, Some, None}
use Rattle.std.specs.Int.{w32, w64, cast_signed}
use Rattle.dj_names.specs.declared.run.Value.{Value}
use Rattle.dj_names.specs.declared.run.Value.TheVariants as values
use Rattle.dj_stack.specs.declared.parts.Kind.{Kind}
use Rattle.dj_stack.specs.declared.parts.Kind.TheVariants as kinds
use Rattle.dj_stack.specs.declared.parts.Parts.{Parts}

-- an empty variable's parts give a value too, which nothing reads
abbrev pub value_by : Kind → ℕ → ℕ → Value
value_by kinds.Empty low high = values.Ref low
value_by kinds.Int low high = values.Int (cast_signed w32 low)
value_by kinds.Long low high = values.Long (cast_signed w64 (high * 4294967296 + low))
value_by kinds.Ref low high = values.Ref low

abbrev pub value_of : Parts → Value
value_of parts = value_by parts.kind parts.low parts.high

abbrev pub local_by : Kind → Value → Option Value
local_by kinds.Empty value = None
local_by kinds.Int value = Some value
local_by kinds.Long value = Some value
local_by kinds.Ref value = Some value

abbrev pub local_of : Parts → Option Value
local_of parts = local_by parts.kind (value_of parts)

-- ---- lists of parts that are kept apart

abbrev pub part : Kind → ℕ → ℕ → Parts
part kind low high = record { kind = kind; low = low; high = high }

-- the number at a place, and 0 past the end
abbrev pub at_zero : List ℕ → ℕ → ℕ
at_zero numbers at = get_or numbers at 0

abbrev pub parts_by : List Kind → (ℕ → ℕ) → (ℕ → ℕ) → List Parts
parts_by [] low high = []
parts_by (kind ∷ kinds) low high = part kind (low 0) (high 0) ∷ parts_by kinds (λ i. low (suc i)) (λ i. high (suc i))

abbrev pub parts_in : List Kind → List ℕ → List ℕ → List Parts
parts_in kinds lows highs = parts_by kinds (at_zero lows) (at_zero highs)

-- one number is written, where past the end all are 0
pub record Put (old new : List ℕ) (place number : ℕ) : Type 0 where
  pub here : get_or new place 0 ≡ number
  pub others : (i : ℕ) → i ≢ place → get_or new i 0 ≡ get_or old i 0
