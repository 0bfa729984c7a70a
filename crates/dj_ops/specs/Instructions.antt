-- Beside trusted/Instructions.antt: what no clause of the call `djvm` reaches.
use Rattle.std.specs.Prelude.{◌≡◌, ℕ, List, ◌++◌, Result, Ok, Err}
use Rattle.dj_ops.specs.declared.read.OpError.{OpError}
use Rattle.dj_ops.specs.declared.read.OpError.TheVariants as errors

-- ---- the bytes that djvm writes: the padding is zeros

-- the bytes were appended; or there was no memory, and nothing was
abbrev pub Appended : Result (Unit {0}) OpError → List ℕ → List ℕ → List ℕ → Type 0
Appended (Ok _) old new bytes = new ≡ old ++ bytes
Appended (Err e) old new bytes = (e ≡ errors.Memory) × (new ≡ old)
