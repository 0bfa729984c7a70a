-- What calls of the outside answer, at plain values.
use Rattle.std.proofs.Common.{◌≡◌, ℕ, ◌≤◌, ◌<◌, true, false, ℤ, pos, List, [], ◌∷◌, length, Option, Some, None, Result, Ok, Err, refl, sym, subst, arith}
use Rattle.std.specs.Prelude.{IsSomeAnd}
use Rattle.dj_edge.specs.declared.files.ListError.{ListError}
use Rattle.dj_edge.specs.declared.files.ListError.TheVariants as list_errors
use Rattle.dj_edge.specs.declared.files.ReadError.{ReadError}
use Rattle.dj_edge.specs.declared.files.ReadError.TheVariants as read_errors
use Rattle.dj_edge.specs.declared.sink.SinkError.{SinkError}
use Rattle.dj_edge.specs.declared.sink.SinkError.TheVariants as sink_errors
use Rattle.dj_edge.specs.declared.host.HostError.{HostError}
use Rattle.dj_edge.specs.declared.host.HostError.TheVariants as host_errors
use Rattle.dj_edge.specs.declared.host.HostAnswer.{HostAnswer}
use Rattle.dj_edge.specs.declared.mem_sink.MemSink.{MemSink}
use Rattle.dj_edge.specs.declared.mem_files.MemFiles.{MemFiles}
use Rattle.dj_edge.specs.trusted.Counts.{Rose}
use Rattle.dj_edge.specs.Counts.{one_more}
use Rattle.dj_edge.specs.trusted.Held.{Held, bytes_at}
use Rattle.dj_edge.specs.trusted.Calls.{ListAsks, ListCounts, ReadAsks, ReadCounts, AnswersRead, Gives, Writes, WriteCounts}
use Rattle.dj_edge.specs.Calls.{CountsListing, CountsRead, Puts, CountsWrite}
use Rattle.dj_edge.specs.Listings.{ListsFolder}
use Rattle.dj_edge.specs.Sinks.{piece_of, room_of, failed_writes, Takes}
use Rattle.dj_edge.specs.Stores.{fails_next, Reads}
use Rattle.dj_edge.specs.Walks.{Tree, Place, met_in, spread}

abbrev listed : Result (List ℕ) ListError → Result (List ℕ) ListError
listed r = r

abbrev read : Result (List ℕ) ReadError → Result (List ℕ) ReadError
read r = r

abbrev written : Result ℕ SinkError → Result ℕ SinkError
written r = r

-- ---- counts

-- the last value stands, and no other does
rose-last : Rose 18446744073709551615 18446744073709551615
rose-last = (omega arith, omega arith)

rose-last_but_one : Rose 18446744073709551614 18446744073709551614 → ⊥
rose-last_but_one h = omega (arith, h.1)

rose-32 : Rose 4294967295 4294967295 → ⊥
rose-32 h = omega (arith, h.1)

rose-falls : Rose 4 3 → ⊥
rose-falls h = omega (arith, h.0)

listing-failed : CountsListing 3 4 (listed (Err list_errors.Failed))
listing-failed = refl

listing-failed_not : (CountsListing 3 3 (listed (Err list_errors.Failed)) → ⊥) × (CountsListing 3 5 (listed (Err list_errors.Failed)) → ⊥) × (CountsListing 3 4 (listed (Err list_errors.Memory)) → ⊥) × (CountsListing 3 4 (listed (Ok [])) → ⊥)
listing-failed_not = (λ h. absurd cc, λ h. absurd cc, λ h. absurd cc, λ h. absurd cc)

read-failed_not : (CountsRead 3 5 (read (Err read_errors.Failed)) → ⊥) × (CountsRead 3 4 (read (Err read_errors.Memory)) → ⊥) × (CountsRead 3 4 (read (Err read_errors.TooLong)) → ⊥) × (CountsRead 3 4 (read (Ok [])) → ⊥)
read-failed_not = (λ h. absurd cc, λ h. absurd cc, λ h. absurd cc, λ h. absurd cc)

write-failed : CountsWrite 3 4 (written (Err sink_errors.Failed))
write-failed = refl

write-failed_not : (CountsWrite 3 3 (written (Err sink_errors.Failed)) → ⊥) × (CountsWrite 3 5 (written (Err sink_errors.Failed)) → ⊥) × (CountsWrite 3 4 (written (Err sink_errors.Memory)) → ⊥) × (CountsWrite 3 4 (written (Ok 1)) → ⊥)
write-failed_not = (λ h. absurd cc, λ h. absurd cc, λ h. absurd cc, λ h. absurd cc)

-- in general a count that stays says that no call failed, and it never falls
stands-not_failed : (ListCounts 3 3 (listed (Err list_errors.Failed)) → ⊥) × (ReadCounts 3 3 (read (Err read_errors.Failed)) → ⊥) × (WriteCounts 3 3 (written (Err sink_errors.Failed)) → ⊥)
stands-not_failed = (λ h. omega (arith, h.1), λ h. omega (arith, h.1), λ h. omega (arith, h.1))

falls-not : (ListCounts 3 2 (listed (Ok [])) → ⊥) × (ReadCounts 3 2 (read (Err read_errors.Memory)) → ⊥) × (WriteCounts 3 2 (written (Ok 1)) → ⊥)
falls-not = (λ h. omega (arith, h), λ h. omega (arith, h), λ h. omega (arith, h))

-- ---- what was asked for

abbrev folder : List ℕ
folder = 7 ∷ []

-- a call that failed asked too, and one without memory didn't
list-asks : ListAsks [] (folder ∷ []) folder (listed (Ok [])) × ListAsks [] (folder ∷ []) folder (listed (Err list_errors.Failed)) × ListAsks [] [] folder (listed (Err list_errors.Memory))
list-asks = (refl, refl, refl)

list-asks_not : (ListAsks [] [] folder (listed (Ok [])) → ⊥) × (ListAsks [] [] folder (listed (Err list_errors.Failed)) → ⊥) × (ListAsks [] (folder ∷ []) folder (listed (Err list_errors.Memory)) → ⊥)
list-asks_not = (λ h. absurd cc, λ h. absurd cc, λ h. absurd cc)

read-asks : ReadAsks [] (folder ∷ []) folder (read (Ok [])) × ReadAsks [] (folder ∷ []) folder (read (Err read_errors.Failed))
    × ReadAsks [] (folder ∷ []) folder (read (Err read_errors.Absent)) × ReadAsks [] (folder ∷ []) folder (read (Err read_errors.TooLong)) × ReadAsks [] [] folder (read (Err read_errors.Memory))
read-asks = (refl, refl, refl, refl, refl)

read-asks_not : (ReadAsks [] [] folder (read (Ok [])) → ⊥) × (ReadAsks [] [] folder (read (Err read_errors.Failed)) → ⊥) × (ReadAsks [] [] folder (read (Err read_errors.Absent)) → ⊥)
    × (ReadAsks [] [] folder (read (Err read_errors.TooLong)) → ⊥) × (ReadAsks [] (folder ∷ []) folder (read (Err read_errors.Memory)) → ⊥)
read-asks_not = (λ h. absurd cc, λ h. absurd cc, λ h. absurd cc, λ h. absurd cc, λ h. absurd cc)

-- ---- what calls report

-- Absent is reported only of a file that a store of known contents lacks; where they are unknown, of none
says-absent : (h : Held) (path : List ℕ) → bytes_at h path ≡ None → AnswersRead (λ (bytes : List ℕ). bytes) (Some h) path 5 (read (Err read_errors.Absent))
says-absent h path none = none

says-absent_not : (h : Held) (path : List ℕ) → bytes_at h path ≡ Some (1 ∷ 2 ∷ []) → AnswersRead (λ (bytes : List ℕ). bytes) (Some h) path 5 (read (Err read_errors.Absent)) → ⊥
says-absent_not h path two none = absurd cc

unreported-absent_not : (path : List ℕ) → AnswersRead (λ (bytes : List ℕ). bytes) None path 5 (read (Err read_errors.Absent)) → ⊥
unreported-absent_not path h = h

says-long : (h : Held) (path : List ℕ) → bytes_at h path ≡ Some (1 ∷ 2 ∷ []) → AnswersRead (λ (bytes : List ℕ). bytes) (Some h) path 1 (read (Err read_errors.TooLong))
says-long h path two = subst (λ (found : Option (List ℕ)). IsSomeAnd found (λ bytes. 1 < length bytes)) (sym two) (omega arith)

says-long_not : (h : Held) (path : List ℕ) → bytes_at h path ≡ Some (1 ∷ 2 ∷ []) → AnswersRead (λ (bytes : List ℕ). bytes) (Some h) path 2 (read (Err read_errors.TooLong)) → ⊥
says-long_not h path two long = let here = subst (λ (found : Option (List ℕ)). IsSomeAnd found (λ bytes. 2 < length bytes)) two long in omega (arith, here)

-- a host that refuses gives nothing
gives-none : (kind : ℤ → HostAnswer) (answer : HostAnswer) → Gives kind [] (answer ∷ []) (Err host_errors.Memory) → ⊥
gives-none kind answer h = absurd cc

gives-one : (kind : ℤ → HostAnswer) (n : ℤ) → Gives kind [] (kind n ∷ []) (Ok n)
gives-one kind n = refl

gives-one_not : (kind : ℤ → HostAnswer) (n : ℤ) → Gives kind [] [] (Ok n) → ⊥
gives-one_not kind n h = absurd cc

-- ---- listings and sinks

-- an empty folder's listing does not fail
empty-folder : (folder : List ℕ) (most : ℕ) → ListsFolder {T = List (List ℕ)} (λ found. found) (Some (λ _. Some [])) folder most (Err list_errors.Failed) → ⊥
unfolding met_in spread
empty-folder folder most h = omega (arith, h [] refl)

-- a sink whose writes take two bytes takes two of three where it has room, and fails where it has none
takes-two : (old new : MemSink) → piece_of old ≡ 2 → room_of old ≡ 5 → Takes old new 3 (Ok 1) → ⊥
takes-two old new piece room h = omega (arith, piece, room, h.1)

takes-room : (old new : MemSink) → piece_of old ≡ 2 → room_of old ≡ 1 → Takes old new 3 (Ok 2) → ⊥
takes-room old new piece room h = omega (arith, piece, room, h.1)

takes-failed : (old new : MemSink) → room_of old ≡ 5 → Takes old new 3 (Err sink_errors.Failed) → ⊥
takes-failed old new room h = omega (arith, room, h.0)

takes-none : (old new : MemSink) (n : ℕ) → room_of old ≡ 0 → Takes old new 3 (Ok n) → ⊥
takes-none old new n room h = omega (arith, room, h.0)

-- a read of a store in memory fails only at a call that is to fail
fails-not : (old new : MemFiles) → fails_next old ≡ false → Reads old new (read (Err read_errors.Failed)) → ⊥
fails-not old new next h = absurd (cc (next, h.0))

reads-not : (old new : MemFiles) → fails_next old ≡ true → Reads old new (read (Ok [])) → ⊥
reads-not old new next h = absurd (cc (next, h.0))
