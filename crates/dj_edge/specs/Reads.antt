-- What opening and reading a file within a bound answers, where the files' bytes are known.
use Rattle.std.specs.Prelude.{◌≡◌, ℕ, ◌<◌, ◌≤◌, ⊤, List, length, Option, Some, None, IfSome, IsSomeAnd, Result, Ok, Err}
use Rattle.dj_edge.specs.declared.files.ReadError.{ReadError}
use Rattle.dj_edge.specs.declared.files.ReadError.TheVariants as read_errors

-- the bytes of the file under a path; none where it can't be read
abbrev pub Contents : Type 0
Contents = List ℕ → Option (List ℕ)

-- all of the file's bytes are still to be read, or the file can't be opened
abbrev pub IsFileOpened : {F : Type 0} → (F → Option (List ℕ)) → Option Contents → List ℕ → Result (F × ℕ) ReadError → Type 0
IsFileOpened remaining contents path (Ok file) = IfSome contents (λ c. IsSomeAnd (remaining file.0) (λ bytes. c path ≡ Some bytes))
IsFileOpened remaining contents path (Err read_errors.Failed) = IfSome contents (λ c. c path ≡ None)
IsFileOpened remaining contents path (Err read_errors.Memory) = ⊤
IsFileOpened remaining contents path (Err _) = ⊥

-- all bytes of the file, at most this many, or that there are more. A file is never absent, and reading it can fail after it was opened
abbrev pub ReadsFile : {T : Type 0} → (T → List ℕ) → Option Contents → List ℕ → ℕ → Result T ReadError → Type 0
ReadsFile bytes_of contents path most (Ok read) = (length (bytes_of read) ≤ most) × IfSome contents (λ c. c path ≡ Some (bytes_of read))
ReadsFile bytes_of contents path most (Err read_errors.TooLong) = IfSome contents (λ c. IfSome (c path) (λ bytes. most < length bytes))
ReadsFile bytes_of contents path most (Err read_errors.Absent) = ⊥
ReadsFile bytes_of contents path most (Err read_errors.Failed) = ⊤
ReadsFile bytes_of contents path most (Err read_errors.Memory) = ⊤
