-- What a walk through folders meets, where their contents are known.
use Rattle.std.specs.Prelude.{◌≡◌, ℕ, zero, suc, ◌+◌, ◌<◌, ◌≤◌, ⊤, Bool, true, false, ◌&&◌, ◌||◌, cond, List, [], ◌∷◌, ◌++◌, length, map, filter, codes, nat_eq, string_bytes, Option, Some, None, IfSome, option_map, option_and_then, Result, Ok, Err}
use Rattle.std.specs.List.{ends_with}
use Rattle.dj_edge.specs.declared.files.ListError.{ListError}
use Rattle.dj_edge.specs.declared.files.ListError.TheVariants as list_errors
use Rattle.dj_edge.specs.declared.walk.FolderEntry.{FolderEntry}
use Rattle.dj_edge.specs.declared.walk.EntryKind.{EntryKind}
use Rattle.dj_edge.specs.declared.walk.EntryKind.TheVariants as kinds
use Rattle.dj_edge.specs.declared.walk.FolderEntries.{FolderEntries}
use Rattle.dj_edge.specs.declared.walk.Walk.{Walk}

-- a path, and whether a file, a folder or something else is there
abbrev pub Place : Type 0
Place = List ℕ × EntryKind

abbrev pub place_of : FolderEntry → Place
place_of entry = (string_bytes entry.path, entry.kind)

-- the entries of the folder under a path. None where it can't be read to its end: it isn't there, or one of its entries can't be looked at
-- or has a name that is not UTF-8
abbrev pub Tree : Type 0
Tree = List ℕ → Option (List Place)

abbrev pub has_class_name : List ℕ → Bool
has_class_name path = ends_with nat_eq path (codes ".class")

-- what is met inside an entry of this kind: in a folder its contents, in a file nothing. What is neither fails the walk where it has a class
-- file's name
abbrev pub inside_of : EntryKind → Bool → Option (List Place) → Option (List Place)
inside_of kinds.Folder is_class inside = inside
inside_of kinds.File is_class inside = Some []
inside_of kinds.Other is_class inside = cond is_class None (Some [])

-- an entry, and then what is met inside it
abbrev pub with_inside : Tree → Place → Option (List Place)
with_inside inside place = option_map (λ places. place ∷ places) (inside_of place.1 (has_class_name place.0) (inside place.0))

-- entries one after the other, each followed by what is met inside it
unfoldable pub spread : Tree → List Place → Option (List Place)
spread inside [] = Some []
spread inside (place ∷ places) = option_and_then (λ prefix. option_map (λ rest. prefix ++ rest) (spread inside places)) (with_inside inside place)

-- what is met in a folder and in this many levels of folders, of which it is the first. None where one of them can't be read, or where there is a
-- deeper folder
unfoldable pub met_in : Tree → ℕ → Tree
met_in tree zero folder = None
met_in tree (suc levels) folder = option_and_then (spread (met_in tree levels)) (tree folder)

abbrev pub is_folder : EntryKind → Bool
is_folder kinds.Folder = true
is_folder _ = false

-- the entry is a folder, or has a class file's name. No other entry matters to a walk
abbrev pub is_kept : Place → Bool
is_kept place = is_folder place.1 || has_class_name place.0

-- ---- reading one folder

-- all entries of the folder are still to be read, or the folder can't be read
abbrev pub IsOpened : {T : Type 0} → Option Tree → Option (List Place) → List ℕ → Result T ListError → Type 0
IsOpened tree left folder (Ok done) = IfSome tree (λ t. t folder ≡ left)
IsOpened tree left folder (Err list_errors.Failed) = IfSome tree (λ t. t folder ≡ None)
IsOpened tree left folder (Err list_errors.Memory) = ⊤

-- the first of the entries that were left; or that none was left; or that the folder can't be read to its end
abbrev pub IsNextEntry : Option Tree → Option (List Place) → Option (List Place) → Result (Option FolderEntry) ListError → Type 0
IsNextEntry tree old new (Ok (Some entry)) = IfSome tree (λ t. old ≡ option_map (λ places. place_of entry ∷ places) new)
IsNextEntry tree old new (Ok None) = IfSome tree (λ t. old ≡ Some [])
IsNextEntry tree old new (Err list_errors.Failed) = IfSome tree (λ t. old ≡ None)
IsNextEntry tree old new (Err list_errors.Memory) = ⊤

-- the entries that matter were kept, and all were counted, at most this many
pub record AreEntries (tree : Option Tree) (folder : List ℕ) (most : ℕ) (entries : FolderEntries) : Type 0 where
  pub places : List Place
  pub reported : IfSome tree (λ t. t folder ≡ Some places)
  pub kept : map place_of entries.kept.items ≡ filter is_kept places
  pub count : entries.count ≡ length places
  pub few : entries.count ≤ most

-- a folder's entries; or that it can't be read, or has more than this many
abbrev pub IsFolderRead : Option Tree → List ℕ → ℕ → Result FolderEntries ListError → Type 0
IsFolderRead tree folder most (Ok entries) = AreEntries tree folder most entries
IsFolderRead tree folder most (Err list_errors.Failed) = IfSome tree (λ t. (places : List Place) → t folder ≡ Some places → most < length places)
IsFolderRead tree folder most (Err list_errors.Memory) = ⊤

-- ---- the walk

abbrev pub is_file : EntryKind → Bool
is_file kinds.File = true
is_file _ = false

-- the paths of the class files among the entries
abbrev pub class_files_in : List Place → List (List ℕ)
class_files_in places = map (λ place. place.0) (filter (λ place. is_file place.1 && has_class_name place.0) places)

abbrev pub texts_found : Walk → List (List ℕ)
texts_found walk = map string_bytes walk.found.items

-- whether the entry is a folder; if it isn't, nothing is met inside it; and where it is a class file, it was found
pub record IsEntryTaken (entry : FolderEntry) (before now : Walk) (is_folder : Bool) : Type 0 where
  pub folder : is_folder ≡ true → entry.kind ≡ kinds.Folder
  pub other : is_folder ≡ false → (inside : Option (List Place)) → inside_of entry.kind (has_class_name (string_bytes entry.path)) inside ≡ Some []
  pub found : texts_found now ≡ texts_found before ++ class_files_in (place_of entry ∷ [])
  pub entries : now.entries ≡ before.entries

-- the entry was taken; or it has a class file's name and is neither a file nor a folder
abbrev pub IsTaken : FolderEntry → Walk → Walk → Result Bool ListError → Type 0
IsTaken entry before now (Ok is_folder) = IsEntryTaken entry before now is_folder
IsTaken entry before now (Err list_errors.Failed) = (inside : Option (List Place)) → inside_of entry.kind (has_class_name (string_bytes entry.path)) inside ≡ None
IsTaken entry before now (Err list_errors.Memory) = ⊤

-- everything in the folder was met, down to this many levels
pub record IsWalked (tree : Option Tree) (levels : ℕ) (folder : List ℕ) (before now : Walk) : Type 0 where
  pub places : List Place
  pub reported : IfSome tree (λ t. met_in t levels folder ≡ Some places)
  pub found : texts_found now ≡ texts_found before ++ class_files_in places
  pub entries : now.entries ≡ before.entries + length places

-- the most entries that a walk may meet
abbrev pub most_entries : ℕ
most_entries = 1048576

-- the walk fails: these can't all be met, or with those before them they are more than a walk may meet
abbrev pub IsUnmet : Option (List Place) → ℕ → Type 0
IsUnmet met before = (places : List Place) → met ≡ Some places → most_entries < before + length places

-- the folder was walked, or it can't be
abbrev pub WalksFolder : {T : Type 0} → Option Tree → ℕ → List ℕ → Walk → Walk → Result T ListError → Type 0
WalksFolder tree levels folder before now (Ok done) = IsWalked tree levels folder before now
WalksFolder tree levels folder before now (Err list_errors.Failed) = IfSome tree (λ t. IsUnmet (met_in t levels folder) before.entries)
WalksFolder tree levels folder before now (Err list_errors.Memory) = ⊤

-- what is met in the folder with a slash after it, and in 64 levels of folders below it
abbrev pub met_below : Tree → List ℕ → Option (List Place)
met_below tree folder = met_in tree 65 (folder ++ codes "/")

-- the folder with a slash after it, and 64 levels of folders below it, were walked: each folder could be read, there is no deeper folder, there are at most
-- 1,048,576 entries, and the class files among them were found
pub record IsWalk (tree : Option Tree) (folder : List ℕ) (found : List (List ℕ)) : Type 0 where
  pub places : List Place
  pub reported : IfSome tree (λ t. met_below t folder ≡ Some places)
  pub few : length places ≤ most_entries
  pub class_files : found ≡ class_files_in places

-- a walk. It fails only where a folder can't be read, there is a deeper folder or there are more entries, or something that is neither a file nor a
-- folder has a class file's name
abbrev pub Walks : {T : Type 0} → (T → List (List ℕ)) → Option Tree → List ℕ → Result T ListError → Type 0
Walks paths_of tree folder (Ok found) = IsWalk tree folder (paths_of found)
Walks paths_of tree folder (Err list_errors.Failed) = IfSome tree (λ t. IsUnmet (met_below t folder) 0)
Walks paths_of tree folder (Err list_errors.Memory) = ⊤
