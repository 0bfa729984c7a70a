-- The paths that a listing of a folder answers, of those that a walk found.
use Rattle.std.specs.Prelude.{◌≡◌, ℕ, ⊤, List, filter, take, All, Option, IfSome, Result, Ok, Err}
use Rattle.std.specs.List.{Contains}
use Rattle.dj_edge.specs.declared.files.ListError.{ListError}
use Rattle.dj_edge.specs.declared.files.ListError.TheVariants as list_errors
use Rattle.dj_edge.specs.trusted.Held.{is_class_path}
use Rattle.dj_edge.specs.trusted.Counts.{AllDiffer}
use Rattle.dj_edge.specs.Walks.{Tree, IsWalk, IsUnmet, met_below}

-- these are the first of the texts, each once and in some order, and at most this many
pub record AreOnce (texts : List (List ℕ)) (most : ℕ) (listed : List (List ℕ)) : Type 0 where
  pub all : List (List ℕ)
  pub differ : AllDiffer all
  pub among : All (Contains texts) all
  pub whole : All (Contains all) texts
  pub first : listed ≡ take most all

-- the paths are those found that begin with the folder and a slash and end with .class, each once; where there are more than `most`, any
-- `most` of them
abbrev pub IsListingOf : List ℕ → List (List ℕ) → ℕ → List (List ℕ) → Type 0
IsListingOf folder found most paths = AreOnce (filter (is_class_path folder) found) most paths

-- the folder was walked, and the paths are its listing
pub record IsFolderListing (tree : Option Tree) (folder : List ℕ) (most : ℕ) (paths : List (List ℕ)) : Type 0 where
  pub found : List (List ℕ)
  pub walk : IsWalk tree folder found
  pub listing : IsListingOf folder found most paths

-- a folder is listed, or the walk failed
abbrev pub ListsFolder : {T : Type 0} → (T → List (List ℕ)) → Option Tree → List ℕ → ℕ → Result T ListError → Type 0
ListsFolder paths_of tree folder most (Ok paths) = IsFolderListing tree folder most (paths_of paths)
ListsFolder paths_of tree folder most (Err list_errors.Failed) = IfSome tree (λ t. IsUnmet (met_below t folder) 0)
ListsFolder paths_of tree folder most (Err list_errors.Memory) = ⊤
