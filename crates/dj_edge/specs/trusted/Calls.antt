-- What one call of the outside answers: the paths of a listing, the bytes of a read, and how the counts and lists of a store, a host and a sink change.
use Rattle.std.specs.Prelude.{◌≡◌, ℕ, ◌<◌, ◌≤◌, List, [], ◌∷◌, ◌++◌, length, map, take, All, IsTrue, IsSome, Option, Some, None, Result, Ok, Err, IsSomeAnd, IfSome, ⊤}
use Rattle.std.specs.List.Sorted.{IsPermutation}
use Rattle.std.specs.Io.KnownBytes.{Appends}
use Rattle.dj_edge.specs.declared.files.ListError.{ListError}
use Rattle.dj_edge.specs.declared.files.ListError.TheVariants as list_errors
use Rattle.dj_edge.specs.declared.files.ReadError.{ReadError}
use Rattle.dj_edge.specs.declared.files.ReadError.TheVariants as read_errors
use Rattle.dj_edge.specs.declared.sink.SinkError.{SinkError}
use Rattle.dj_edge.specs.declared.sink.SinkError.TheVariants as sink_errors
use Rattle.dj_edge.specs.declared.host.HostError.{HostError}
use Rattle.dj_edge.specs.declared.host.HostAnswer.{HostAnswer}
use Rattle.dj_edge.specs.trusted.Held.{Held, File, bytes_at, is_class_path, class_files}
use Rattle.dj_edge.specs.trusted.Counts.{Rose, AllDiffer}

-- the paths are those of the class files, in any order; where there are more than `most`, there are `most` paths
abbrev pub AreAmong : List (List ℕ) → ℕ → List File → Type 0
AreAmong paths most files =
    (length files ≤ most → IsPermutation paths (map (λ file. file.0) files))
    × (most < length files → length paths ≡ most)

-- the paths of a listing of the folder, where the store's contents may be known
pub record IsListing (held : Option Held) (folder : List ℕ) (most : ℕ) (paths : List (List ℕ)) : Type 0 where
  pub differ : AllDiffer paths
  pub bounded : length paths ≤ most
  pub class_paths : All (λ path. IsTrue (is_class_path folder path)) paths
  pub reported : IfSome held (λ h. AreAmong paths most (class_files folder h))
  pub held_paths : IfSome held (λ h. All (λ path. IsSome (bytes_at h path)) paths)

-- the folder is added to what was asked for, unless memory ran out
abbrev pub ListAsks : {T : Type 0} → List (List ℕ) → List (List ℕ) → List ℕ → Result T ListError → Type 0
ListAsks old new folder (Ok paths) = new ≡ old ++ folder ∷ []
ListAsks old new folder (Err list_errors.Failed) = new ≡ old ++ folder ∷ []
ListAsks old new folder (Err list_errors.Memory) = new ≡ old

-- where the call failed the count rose; else it didn't fall
abbrev pub ListCounts : {T : Type 0} → ℕ → ℕ → Result T ListError → Type 0
ListCounts before now (Err list_errors.Failed) = Rose before now
ListCounts before now _ = before ≤ now

-- the path is added to what was asked for, unless memory ran out
abbrev pub ReadAsks : {T : Type 0} → List (List ℕ) → List (List ℕ) → List ℕ → Result T ReadError → Type 0
ReadAsks old new path (Err read_errors.Memory) = new ≡ old
ReadAsks old new path _ = new ≡ old ++ path ∷ []

abbrev pub ReadCounts : {T : Type 0} → ℕ → ℕ → Result T ReadError → Type 0
ReadCounts before now (Err read_errors.Failed) = Rose before now
ReadCounts before now _ = before ≤ now

-- what a read answers, where the store's contents are known; bytes_of gives the bytes of what was read
abbrev pub AnswersRead : {T : Type 0} → (T → List ℕ) → Option Held → List ℕ → ℕ → Result T ReadError → Type 0
AnswersRead bytes_of held path most (Ok read) = (length (bytes_of read) ≤ most) × IfSome held (λ h. bytes_at h path ≡ Some (bytes_of read))
AnswersRead bytes_of held path most (Err read_errors.Failed) = ⊤
AnswersRead bytes_of held path most (Err read_errors.Absent) = IsSomeAnd held (λ h. bytes_at h path ≡ None)
AnswersRead bytes_of held path most (Err read_errors.TooLong) = IfSome held (λ h. IsSomeAnd (bytes_at h path) (λ bytes. most < length bytes))
AnswersRead bytes_of held path most (Err read_errors.Memory) = ⊤

-- the host's answer is added to those given; an error adds none
abbrev pub Gives : {T : Type 0} → (T → HostAnswer) → List HostAnswer → List HostAnswer → Result T HostError → Type 0
Gives kind old new (Ok value) = new ≡ old ++ kind value ∷ []
Gives kind old new (Err e) = new ≡ old

-- a write takes the first n bytes of the piece, at least one; an error takes none
abbrev pub Writes : Option (List ℕ) → Option (List ℕ) → List ℕ → Result ℕ SinkError → Type 0
Writes old new piece (Ok n) = (1 ≤ n) × (n ≤ length piece) × Appends old new (take n piece)
Writes old new piece (Err e) = Appends old new []

abbrev pub WriteCounts : {T : Type 0} → ℕ → ℕ → Result T SinkError → Type 0
WriteCounts before now (Err sink_errors.Failed) = Rose before now
WriteCounts before now _ = before ≤ now
