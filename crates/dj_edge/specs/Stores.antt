-- What a store of files in memory holds, and exactly what its calls answer.
use Rattle.std.specs.Prelude.{◌≡◌, ℕ, Bool, true, false, List, map, take, string_bytes, Result, Ok, Err}
use Rattle.std.specs.Global.{Vec}
use Rattle.dj_edge.specs.declared.files.ListError.{ListError}
use Rattle.dj_edge.specs.declared.files.ListError.TheVariants as list_errors
use Rattle.dj_edge.specs.declared.files.ReadError.{ReadError}
use Rattle.dj_edge.specs.declared.files.ReadError.TheVariants as read_errors
use Rattle.dj_edge.specs.declared.order.Order.{Order}
use Rattle.dj_edge.specs.declared.mem_files.MemFiles.{MemFiles}
use Rattle.dj_edge.specs.trusted.Held.{File}
use Rattle.dj_edge.specs.Counts.{one_more}
use Rattle.dj_edge.specs.InMemory.{String, files_in, in_order, class_paths, is_failing}

-- the files, in the order in which they were given
abbrev pub files_of : MemFiles → List File
files_of m = files_in m.files.items

-- the order of listings
abbrev pub order_of : MemFiles → Order
order_of m = m.order

-- the numbers of the calls that fail
abbrev pub failing_of : MemFiles → List ℕ
failing_of m = m.failing.items

-- how many calls there were, up to 2 ^ 64 - 1. It is the next call's number
abbrev pub calls_of : MemFiles → ℕ
calls_of m = m.calls

-- how many calls failed
abbrev pub faults_of : MemFiles → ℕ
faults_of m = m.faults

-- the folders and paths that were asked for
abbrev pub asked_of : MemFiles → List (List ℕ)
asked_of m = map string_bytes m.asked.items

-- the next call is one of those that fail
abbrev pub fails_next : MemFiles → Bool
fails_next m = is_failing (failing_of m) (calls_of m)

-- a call is counted; the files, their order and the numbers of the calls that fail don't change
pub record IsOneCall (old new : MemFiles) : Type 0 where
  pub files : files_of new ≡ files_of old
  pub order : order_of new ≡ order_of old
  pub failing : failing_of new ≡ failing_of old
  pub calls : calls_of new ≡ one_more (calls_of old)

-- the first paths in the order of listings. A call fails exactly where its number is one of those that fail
abbrev pub Lists : MemFiles → MemFiles → List ℕ → ℕ → Result (Vec String) ListError → Type 0
Lists old new folder most (Ok paths) = (fails_next old ≡ false) × (faults_of new ≡ faults_of old)
    × (map string_bytes paths.items ≡ take most (in_order (order_of old) (class_paths folder (files_of old))))
Lists old new folder most (Err list_errors.Failed) = (fails_next old ≡ true) × (faults_of new ≡ one_more (faults_of old))
Lists old new folder most (Err list_errors.Memory) = faults_of new ≡ faults_of old

-- a read fails exactly where its number is one of those that fail
abbrev pub Reads : {T : Type 0} → MemFiles → MemFiles → Result T ReadError → Type 0
Reads old new (Err read_errors.Failed) = (fails_next old ≡ true) × (faults_of new ≡ one_more (faults_of old))
Reads old new (Err read_errors.Memory) = faults_of new ≡ faults_of old
Reads old new _ = (fails_next old ≡ false) × (faults_of new ≡ faults_of old)
