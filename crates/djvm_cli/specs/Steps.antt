-- What the steps of a job answer, where the store's contents are known.
use Rattle.std.specs.Prelude.{◌≡◌, ℕ, ◌<◌, ◌≤◌, ⊤, List, length, map, unwrap_or, [], Result, Err, string_bytes, vec_len, All, IsTrue}
use Rattle.dj_edge.specs.trusted.Held.{File, Held, bytes_at, class_files, is_class_path}
use Rattle.dj_edge.specs.trusted.Counts.{Rose}
use Rattle.djvm_cli.specs.declared.load.Stop.{Stop}
use Rattle.djvm_cli.specs.declared.load.Stop.TheVariants as stops
use Rattle.djvm_cli.specs.declared.load.Listing.{Listing}
use Rattle.djvm_cli.specs.declared.load.Listing.TheVariants as listings
use Rattle.djvm_cli.specs.declared.load.Loaded.{Loaded}
use Rattle.djvm_cli.specs.declared.load.Loaded.TheVariants as loads
use Rattle.dj_report.specs.declared.report.Limit.TheVariants as limits
use Rattle.dj_class_set.specs.ClassSets.{TextsRise}
use Rattle.dj_class_set.specs.trusted.Limits.{most_files, AreWithin, IsFirstPast, IsTooLong, IsTooMuch}
use Rattle.djvm_cli.specs.trusted.Report.{class_paths}
use Rattle.djvm_cli.specs.Views.{source_view}
use Rattle.dj_edge.specs.InMemory.{String}

-- the store's count of faults didn't fall, and it rose where a fault stopped the step
abbrev pub Counted : {T : Type 0} → ℕ → ℕ → Result T Stop → Type 0
Counted before now (Err stops.Fault) = Rose before now
Counted before now _ = before ≤ now

-- the files of these paths
abbrev pub files_at : Held → List (List ℕ) → List File
files_at held paths = map (λ path. (path, unwrap_or (bytes_at held path) [])) paths

-- the paths are those of the folder's class files, in order
abbrev pub ArePathsOf : List ℕ → List String → Held → Type 0
ArePathsOf folder paths held = map string_bytes paths ≡ class_paths folder held

-- the paths of the folder's class files in order, or that there are too many of them
abbrev pub IsListed : List ℕ → Held → Listing → Type 0
IsListed folder held (listings.Paths paths) = map string_bytes paths.items ≡ map (λ file. file.0) (class_files folder held)
IsListed folder held listings.TooMany = most_files < length (class_files folder held)

-- the listed paths are those of class files of the folder, and not too many
abbrev pub AreClassPaths : List ℕ → Listing → Type 0
AreClassPaths folder (listings.Paths paths) =
    (vec_len paths ≤ most_files) × All (λ path. IsTrue (is_class_path folder (string_bytes path))) paths.items
AreClassPaths folder listings.TooMany = ⊤

-- the listed paths are in the order of their bytes, each once
abbrev pub AreRising : Listing → Type 0
AreRising (listings.Paths paths) = TextsRise (map string_bytes paths.items)
AreRising listings.TooMany = ⊤

-- the files that were read have these paths and are within the limits
abbrev pub AreRead : List (List ℕ) → Loaded → Type 0
AreRead paths (loads.Files read) = (map (λ file. string_bytes file.path) read.items ≡ paths) × AreWithin (map source_view read.items)
AreRead paths (loads.Passed limit) = ⊤

-- all files, within the limits, or the limit that is passed first
abbrev pub IsLoaded : List File → Loaded → Type 0
IsLoaded files (loads.Files read) = map source_view read.items ≡ files
IsLoaded files (loads.Passed limits.File) = IsFirstPast IsTooLong files
IsLoaded files (loads.Passed limits.Total) = IsFirstPast IsTooMuch files
IsLoaded files (loads.Passed _) = ⊥
