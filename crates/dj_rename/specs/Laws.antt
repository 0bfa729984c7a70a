-- Laws of renamed texts, and of pools that they don't fit.
use Rattle.std.specs.Prelude.{◌≡◌, ℕ, List, Some, None}
use Rattle.std.specs.List.{AllByRecursion}
use Rattle.dj_names.specs.trusted.Types.{Name}
use Rattle.dj_names.specs.Types.{type_map, desc_map, in_sandbox}
use Rattle.dj_pool.specs.trusted.Pool.{Constant, IsClassText, IsPool}
use Rattle.dj_declarations.specs.trusted.Files.{type_in, desc_in}
use Rattle.dj_rename.specs.Names.{renamed_class, renamed_desc, plain_text}
use Rattle.dj_rename.specs.declared.error.RenameError.TheVariants as errors
use Rattle.dj_rename.specs.Pools.{IsFull, IsLongText}
use Rattle.dj_rename.specs.Refusals.{IsDescriptor, IsDescIndex, refusal}

-- a class's renamed text is that of a class, and names the type in the package
pub record NamesInSandbox (text : Name) : Type 0 where
  pub valid : IsClassText (renamed_class text)
  pub named : type_in (renamed_class text) ≡ type_map in_sandbox (type_in text)

abbrev pub ClassesInSandbox : Type 0
ClassesInSandbox = (text : Name) → IsClassText text → NamesInSandbox text

-- a renamed descriptor is one, of the types in the package
pub record DescribesInSandbox (text : Name) : Type 0 where
  pub valid : IsDescriptor (renamed_desc text)
  pub described : desc_in (renamed_desc text) ≡ desc_map in_sandbox (desc_in text)

abbrev pub DescsInSandbox : Type 0
DescsInSandbox = (text : Name) → IsDescriptor text → DescribesInSandbox text

-- a renamed text without the package's name is the text
abbrev pub PlainUndoes : Type 0
PlainUndoes = (text : Name) → IsClassText text → plain_text (renamed_class text) ≡ text

-- why a text can't be appended is why the rewritten class doesn't fit; where all can, none is too long
pub record JudgesTexts (pool : List Constant) (descs : List ℕ) : Type 0 where
  pub full : refusal pool descs ≡ Some errors.Full → IsFull pool descs
  pub long : (of : ℕ) → refusal pool descs ≡ Some (errors.Long of) → IsLongText pool descs
  pub short : refusal pool descs ≡ None → IsLongText pool descs → ⊥

abbrev pub TextsAreJudged : Type 0
TextsAreJudged = (pool : List Constant) (descs : List ℕ) → IsPool pool → AllByRecursion (IsDescIndex pool) descs → JudgesTexts pool descs
