-- What a sink in memory takes.
use Rattle.std.specs.Prelude.{◌≡◌, ℕ, ◌-◌, ◌<◌, min, List, Result, Ok, Err}
use Rattle.dj_edge.specs.declared.sink.SinkError.{SinkError}
use Rattle.dj_edge.specs.declared.sink.SinkError.TheVariants as sink_errors
use Rattle.dj_edge.specs.declared.mem_sink.MemSink.{MemSink}
use Rattle.dj_edge.specs.Counts.{one_more}

-- the most bytes that one write takes
abbrev pub piece_of : MemSink → ℕ
piece_of m = m.piece

-- how many bytes it still takes
abbrev pub room_of : MemSink → ℕ
room_of m = m.room

-- the bytes written so far
abbrev pub bytes_of : MemSink → List ℕ
bytes_of m = m.bytes.items

-- how many writes failed
abbrev pub failed_writes : MemSink → ℕ
failed_writes m = m.faults

-- a write takes the first of the n bytes, as many as the piece and the room allow, and fails exactly where no room is left
abbrev pub Takes : MemSink → MemSink → ℕ → Result ℕ SinkError → Type 0
Takes old new n (Ok taken) = (0 < room_of old) × (taken ≡ min (piece_of old) (min n (room_of old))) × (room_of new ≡ room_of old - taken) × (failed_writes new ≡ failed_writes old)
Takes old new n (Err sink_errors.Failed) = (room_of old ≡ 0) × (room_of new ≡ room_of old) × (failed_writes new ≡ one_more (failed_writes old))
Takes old new n (Err sink_errors.Memory) = (0 < room_of old) × (room_of new ≡ room_of old) × (failed_writes new ≡ failed_writes old)
