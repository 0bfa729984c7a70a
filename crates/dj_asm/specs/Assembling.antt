-- What the assembler's passes make of a source; used by the code alone. No public clause cites these.
use Rattle.std.specs.Prelude.{◌≡◌, ℕ, ◌<◌, List, [], map, Option, Some, None}
use Rattle.dj_class.specs.trusted.ClassFile.{ClassFile, class_bytes}
use Rattle.dj_asm_source.specs.trusted.Lines.{Line}
use Rattle.dj_asm_source.specs.trusted.Sources.{Source, lines_of, IsSizedSource}
use Rattle.dj_asm_source.specs.trusted.Labels.{IsMislabelled}
use Rattle.dj_asm_pool.specs.trusted.Entries.{Entry}
use Rattle.dj_asm_pool.specs.trusted.Needs.{needs_of, needed_entry, entries_of}
use Rattle.dj_asm.specs.trusted.Files.{IsFileOf}
use Rattle.dj_asm_pool.specs.trusted.Room.{IsPastPool, NoLine}
use Rattle.dj_asm.specs.trusted.Large.{IsTooLarge}
use Rattle.dj_asm_pool.specs.Pooling.{all_kept}

-- ---- what is too large

-- a source with these lines, whose labels are right, and its pool
pub record IsJudged (s : Source) (lines : List Line) (kept : List Entry) : Type 0 where
  pub allowed : IsSizedSource s
  pub labelled : NoLine (IsMislabelled s)
  pub lines_are : lines ≡ lines_of s
  pub kept_is : kept ≡ all_kept [] (map needed_entry (needs_of s))

-- the first line that is too large, lines whose entries have no room not counted
abbrev pub IsFirstBeside : Source → Option ℕ → Type 0
IsFirstBeside s (Some place) = IsTooLarge s place × ((earlier : ℕ) → earlier < place → IsTooLarge s earlier → IsPastPool s earlier)
IsFirstBeside s None = (place : ℕ) → IsTooLarge s place → IsPastPool s place

-- ---- files

-- a source with these lines that means a file, and its pool
pub record IsFitting (s : Source) (lines : List Line) (kept : List Entry) : Type 0 where
  pub allowed : IsSizedSource s
  pub labelled : NoLine (IsMislabelled s)
  pub fits : NoLine (IsTooLarge s)
  pub lines_are : lines ≡ lines_of s
  pub kept_is : kept ≡ entries_of s

-- the source's class file
pub record AreFileBytes (s : Source) (bytes : List ℕ) : Type 0 where
  pub file : ClassFile
  pub is_file : IsFileOf s file
  pub spelled : bytes ≡ class_bytes file
