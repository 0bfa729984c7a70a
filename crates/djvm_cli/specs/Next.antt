-- What reading one more file answers, after other files were read. Only the reading loop cites this.
use Rattle.std.specs.Prelude.{◌≡◌, ℕ, ◌+◌, ◌<◌, ◌≤◌, ⊤, List, length, string_bytes}
use Rattle.dj_edge.specs.trusted.Held.{File}
use Rattle.djvm_cli.specs.declared.load.NextFile.{NextFile}
use Rattle.djvm_cli.specs.declared.load.NextFile.TheVariants as next_files
use Rattle.dj_report.specs.declared.report.Limit.TheVariants as limits
use Rattle.dj_class_set.specs.trusted.Limits.{most_file_bytes, most_total_bytes}
use Rattle.djvm_cli.specs.Views.{source_view}

-- the file has the path and is within the limits, after files of n bytes together
abbrev pub IsNextRead : List ℕ → ℕ → NextFile → Type 0
IsNextRead path total (next_files.Read file) =
    (string_bytes file.path ≡ path) × (length file.bytes.items ≤ most_file_bytes) × (total + length file.bytes.items ≤ most_total_bytes)
IsNextRead path total (next_files.Passed limit) = ⊤

-- the file itself, or the limit that it passes, after files of n bytes together
abbrev pub IsNext : File → ℕ → NextFile → Type 0
IsNext file total (next_files.Read read) = source_view read ≡ file
IsNext file total (next_files.Passed limits.File) = most_file_bytes < length file.1
IsNext file total (next_files.Passed limits.Total) = (length file.1 ≤ most_file_bytes) × (most_total_bytes < total + length file.1)
IsNext file total (next_files.Passed _) = ⊥
