-- What reading a stream within a bound answers, where the stream's bytes are known.
use Rattle.std.specs.Prelude.{◌≡◌, ℕ, ◌+◌, ◌-◌, ◌<◌, ◌≤◌, ⊤, List, [], ◌++◌, length, Option, IfSome, Result, Ok, Err}
use Rattle.std.specs.Io.KnownBytes.{Consumes, IsAtEnd}
use Rattle.dj_edge.specs.declared.files.ReadError.{ReadError}
use Rattle.dj_edge.specs.declared.files.ReadError.TheVariants as read_errors
use Rattle.dj_edge.specs.declared.streams.ReadFound.{ReadFound}
use Rattle.dj_edge.specs.declared.streams.ReadFound.TheVariants as founds

-- at most this many bytes were taken from the beginning of the stream
abbrev pub TakesAtMost : Option (List ℕ) → Option (List ℕ) → ℕ → Type 0
TakesAtMost old new most = (taken : List ℕ) × (length taken ≤ most) × Consumes old new taken

-- bytes of the stream were added to those before, up to one more than this many in all; or the stream is at its end
abbrev pub ReadsMore : Option (List ℕ) → Option (List ℕ) → List ℕ → List ℕ → ℕ → Result ReadFound ReadError → Type 0
ReadsMore old new before now most (Ok founds.Some) = (length now ≤ most + 1) × ((taken : List ℕ) × (now ≡ before ++ taken) × Consumes old new taken)
ReadsMore old new before now most (Ok founds.End) = (now ≡ before) × IsAtEnd new × Consumes old new []
ReadsMore old new before now most (Err read_errors.TooLong) = ⊥
ReadsMore old new before now most (Err read_errors.Absent) = ⊥
ReadsMore old new before now most (Err _) = TakesAtMost old new (most + 1 - length before)

-- all bytes, at most this many, or that there are more. A stream is never absent
abbrev pub ReadsWithin : {T : Type 0} → (T → List ℕ) → Option (List ℕ) → ℕ → Result T ReadError → Type 0
ReadsWithin bytes_of known most (Ok read) = (length (bytes_of read) ≤ most) × IfSome known (λ all. bytes_of read ≡ all)
ReadsWithin bytes_of known most (Err read_errors.TooLong) = IfSome known (λ all. most < length all)
ReadsWithin bytes_of known most (Err read_errors.Absent) = ⊥
ReadsWithin bytes_of known most (Err read_errors.Failed) = ⊤
ReadsWithin bytes_of known most (Err read_errors.Memory) = ⊤
