-- Sets of class files: each file under its path within the folder, in the order of the paths' bytes.
use Rattle.std.specs.Prelude.{◌≡◌, ℕ, ◌≤◌, ◌↔◌, List, length, map, AllPairs, Contains}
use Rattle.std.specs.Ordering.{nat_cmp}
use Rattle.std.specs.declared.cmp.Ordering.TheVariants.{Less}
use Rattle.std.specs.Cmp.Lexicographic.{slice_cmp}
use Rattle.dj_edge.specs.trusted.Held.{File}
use Rattle.dj_class_set.specs.trusted.Limits.{most_files, AreWithin}

-- each text is before all later ones in the order of bytes
abbrev pub TextsRise : List (List ℕ) → Type 0
TextsRise texts = AllPairs (λ a b. slice_cmp nat_cmp a b ≡ Less) texts

-- the files are in the order of their paths, and no path appears twice
abbrev pub PathsRise : List File → Type 0
PathsRise files = TextsRise (map (λ file. file.0) files)

-- the files may be judged together
pub record IsClassSet (files : List File) : Type 0 where
  pub few : length files ≤ most_files
  pub within : AreWithin files
  pub rise : PathsRise files

-- the set has exactly these files, in order
pub record AreByPath (files set : List File) : Type 0 where
  pub same : (file : File) → Contains set file ↔ Contains files file
  pub rise : PathsRise set
