-- The limits on the files and the input of a job, and which limit is passed first.
use Rattle.std.specs.Prelude.{◌≡◌, ℕ, ◌+◌, ◌<◌, ◌≤◌, List, ◌∷◌, ◌++◌, length, sum_by}
use Rattle.std.specs.List.{AllByRecursion}
use Rattle.dj_edge.specs.trusted.Held.{File}

abbrev pub most_files : ℕ
most_files = 4096

abbrev pub most_file_bytes : ℕ
most_file_bytes = 4194304

abbrev pub most_total_bytes : ℕ
most_total_bytes = 67108864

abbrev pub most_input_bytes : ℕ
most_input_bytes = 1048576

-- the most bytes that the objects of a run of `raw` take together
abbrev pub most_heap_bytes : ℕ
most_heap_bytes = 67108864

-- the bytes of all files together
abbrev pub total_bytes : List File → ℕ
total_bytes files = sum_by (λ file. length file.1) files

-- each file is within the limit on one file, and all together are within the limit on their sum
pub record AreWithin (files : List File) : Type 0 where
  pub each : AllByRecursion (λ file. length file.1 ≤ most_file_bytes) files
  pub together : total_bytes files ≤ most_total_bytes

-- the files before this one are within the limits, and at this file Past holds
pub record IsFirstPast (Past : List File → File → Type 0) (files : List File) : Type 0 where
  pub prefix : List File
  pub file : File
  pub rest : List File
  pub parts : files ≡ prefix ++ file ∷ rest
  pub before : AreWithin prefix
  pub past : Past prefix file

-- the file is too long
abbrev pub IsTooLong : List File → File → Type 0
IsTooLong prefix file = most_file_bytes < length file.1

-- the file is within the limit on one file, but with those before it passes the limit on their sum
abbrev pub IsTooMuch : List File → File → Type 0
IsTooMuch prefix file = (length file.1 ≤ most_file_bytes) × (most_total_bytes < total_bytes prefix + length file.1)
