-- Beside trusted/Calls.antt: what no clause of the call `djvm` reaches.
use Rattle.std.specs.Prelude.{◌≡◌, ℕ, List, Option, Result, Ok, Err}
use Rattle.std.specs.Io.KnownBytes.{Appends}
use Rattle.dj_edge.specs.declared.files.ListError.{ListError}
use Rattle.dj_edge.specs.declared.files.ListError.TheVariants as list_errors
use Rattle.dj_edge.specs.declared.files.ReadError.{ReadError}
use Rattle.dj_edge.specs.declared.files.ReadError.TheVariants as read_errors
use Rattle.dj_edge.specs.declared.sink.SinkError.{SinkError}
use Rattle.dj_edge.specs.declared.sink.SinkError.TheVariants as sink_errors
use Rattle.dj_edge.specs.trusted.Counts.{IsPrefix}
use Rattle.dj_edge.specs.Counts.{one_more}

-- the count goes up by one exactly where a listing failed; at any other answer it doesn't change
abbrev pub CountsListing : {T : Type 0} → ℕ → ℕ → Result T ListError → Type 0
CountsListing before now (Err list_errors.Failed) = now ≡ one_more before
CountsListing before now _ = now ≡ before

-- the count goes up by one exactly where a read failed; at any other answer it doesn't change
abbrev pub CountsRead : {T : Type 0} → ℕ → ℕ → Result T ReadError → Type 0
CountsRead before now (Err read_errors.Failed) = now ≡ one_more before
CountsRead before now _ = now ≡ before

-- all of the bytes are written, or a prefix of them where a write failed
abbrev pub Puts : {T : Type 0} → Option (List ℕ) → Option (List ℕ) → List ℕ → Result T SinkError → Type 0
Puts old new bytes (Ok done) = Appends old new bytes
Puts old new bytes (Err e) = (prefix : List ℕ) × IsPrefix prefix bytes × Appends old new prefix

-- the count goes up by one exactly where a write failed; at any other answer it doesn't change
abbrev pub CountsWrite : {T : Type 0} → ℕ → ℕ → Result T SinkError → Type 0
CountsWrite before now (Err sink_errors.Failed) = now ≡ one_more before
CountsWrite before now _ = now ≡ before
