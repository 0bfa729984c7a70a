-- Used by the code alone: files with the names of their classes, and the names that several of them have.
use Rattle.std.specs.Prelude.{◌≡◌, ℕ, ◌<◌, List, map, length, Contains, Option, Some, None, IsSomeAnd, slice_get}
use Rattle.std.specs.Borrow.{Bor}
use Rattle.std.specs.BTreeSet.{BTreeSet}
use Rattle.dj_report.specs.declared.report.Violation.{Violation}
use Rattle.dj_report.specs.declared.report.PathFile.{PathFile}
use Rattle.dj_report.specs.trusted.Lines.{file_line}
use Rattle.dj_early_rules.specs.declared.doubles.NamedFile.{NamedFile}
use Rattle.dj_early_rules.specs.Passes.{SaysName}

-- the texts of the set
abbrev pub texts_in : BTreeSet (Bor (List ℕ)) → List (List ℕ)
texts_in names = map (λ name. name.now) names.keys

-- there is a name, and it is this text
abbrev pub IsText : Option (Bor (List ℕ)) → List ℕ → Type 0
IsText None text = ⊥
IsText (Some name) text = text ≡ name.now

-- one of the first n places is such
abbrev pub IsBelow : ℕ → (ℕ → Type 0) → Type 0
IsBelow count IsSuch = (place : ℕ) × (place < count) × IsSuch place

-- the file at the place has this name
abbrev pub IsNameAt : List NamedFile → List ℕ → ℕ → Type 0
IsNameAt files text place = IsSomeAnd (slice_get files place) (λ file. IsText file.name text)

-- and one before it has it too
abbrev pub IsAgainAt : List NamedFile → List ℕ → ℕ → Type 0
IsAgainAt files text place = IsNameAt files text place × IsBelow place (IsNameAt files text)

-- two of the files have this name
abbrev pub IsRepeated : List NamedFile → List ℕ → Type 0
IsRepeated files text = (place : ℕ) × IsAgainAt files text place

-- the name of the file is among these
pub record IsNamedAmong (names : List (List ℕ)) (file : NamedFile) : Type 0 where
  pub text : List ℕ
  pub is : IsText file.name text
  pub among : Contains names text

-- rule 5, of a file whose name is among these
abbrev pub IsLineAmongNames : List (List ℕ) → NamedFile → Violation → Type 0
IsLineAmongNames names file v = IsNamedAmong names file × (v ≡ file_line file.path.now 5)

-- rule 5, for a file whose class has the name of another file's
abbrev pub IsRepeatedLine : List NamedFile → NamedFile → Violation → Type 0
IsRepeatedLine files file v = ((text : List ℕ) × IsText file.name text × IsRepeated files text) × (v ≡ file_line file.path.now 5)

-- the file has this path, and its class's name is kept where it has one
pub record IsNamedAs (file : PathFile) (named : NamedFile) : Type 0 where
  pub path : named.path.now ≡ file.path.now
  pub name : SaysName file named.name

-- the same for all, place by place
pub record AreNamed (files : List PathFile) (named : List NamedFile) : Type 0 where
  pub all : length named ≡ length files
  pub each : (place : ℕ) (file : PathFile) (own : NamedFile) → slice_get files place ≡ Some file → slice_get named place ≡ Some own → IsNamedAs file own
