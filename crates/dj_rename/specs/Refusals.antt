-- What renaming answers: the renamed texts, or why there are none.
use Rattle.std.specs.Prelude.{◌≡◌, ℕ, ◌+◌, ◌≤◌, ◌<◌, ⊤, List, [], ◌∷◌, ◌++◌, length, Option, Some, None, Result, Ok, Err, not, ◌&&◌, nat_lt, if◌then◌else◌}
use Rattle.std.specs.List.{list_any}
use Rattle.dj_names.specs.declared.descriptor.Desc.{Desc}
use Rattle.dj_names.specs.trusted.Types.{Name, same_name}
use Rattle.dj_names.specs.trusted.Descriptors.{Describes}
use Rattle.dj_pool.specs.trusted.Pool.{Constant, NamesText, IsPool}
use Rattle.dj_pool.specs.Answers.{last_index}
use Rattle.dj_rename.specs.declared.error.RenameError.{RenameError}
use Rattle.dj_rename.specs.declared.error.RenameError.TheVariants as errors
use Rattle.dj_rename.specs.Pools.{Need, needs, is_changed, appended_texts, accounter_constants, IsFull}

-- the greatest length of a text (JVMS 4.4.7)
abbrev pub most_bytes : ℕ
most_bytes = 65535

-- ---- one text

-- it is this text, or the text is too long; of a lack of memory nothing is said
abbrev pub Renames : Name → Result Name RenameError → Type 0
Renames text (Ok renamed) = (renamed ≡ text) × (length text ≤ most_bytes)
Renames text (Err (errors.Long index)) = (index ≡ 0) × (most_bytes < length text)
Renames text (Err errors.Full) = ⊥
Renames text (Err errors.Memory) = ⊤

-- the text is the descriptor of a field or a method
abbrev pub IsDescriptor : Name → Type 0
IsDescriptor text = (desc : Desc) × Describes text desc

-- ---- a pool

-- the index is that of a text that is a descriptor
abbrev pub IsDescIndex : List Constant → ℕ → Type 0
IsDescIndex pool index = NamesText IsDescriptor pool index

-- why the need's text can't be appended after these texts, where it can't; `index` is what it would get
abbrev pub refusal_at : ℕ → Need → Option RenameError
refusal_at index need =
    if nat_lt last_index index then Some errors.Full else (if nat_lt most_bytes (length need.text) then Some (errors.Long need.of) else None)

abbrev pub first_error : Option RenameError → Option RenameError → Option RenameError
first_error None later = later
first_error (Some e) later = Some e

-- that of the first need whose text is to be appended and can't be; `before` has the texts that are appended already
unfoldable pub refusal_from : List Constant → List Name → List Need → Option RenameError
refusal_from pool before [] = None
refusal_from pool before (need ∷ more) =
    if is_changed pool need && not (list_any (same_name need.text) before)
    then first_error (refusal_at (length pool + length before + 1) need) (refusal_from pool (before ++ need.text ∷ []) more)
    else refusal_from pool before more

unfoldable pub refusal : List Constant → List ℕ → Option RenameError
refusal pool descs = refusal_from pool [] (needs pool descs)

-- these are the appended texts, each of them fits and has an index
pub record AreAppended (pool : List Constant) (descs : List ℕ) (texts : List Name) : Type 0 where
  pub same : texts ≡ appended_texts pool descs
  pub fit : refusal pool descs ≡ None

-- the error is that of the first text that can't be appended; of a lack of memory nothing is said
abbrev pub RefusesTexts : List Constant → List ℕ → RenameError → Type 0
RefusesTexts pool descs errors.Memory = ⊤
RefusesTexts pool descs e = refusal pool descs ≡ Some e

-- ---- the accounter's constants

-- the pool has them at its end, and this is the index of the first; or the last would pass the greatest index, and the pool stays; of a lack of memory nothing is said
abbrev pub AppendsAccounter : (before now : List Constant) → Result ℕ RenameError → Type 0
AppendsAccounter before now (Ok first) = (first ≡ length before + 1) × (now ≡ before ++ accounter_constants first) × IsPool now
AppendsAccounter before now (Err errors.Full) = (now ≡ before) × (last_index < length (before ++ accounter_constants (length before + 1)))
AppendsAccounter before now (Err (errors.Long index)) = ⊥
AppendsAccounter before now (Err errors.Memory) = ⊤

-- why the accounter's constants aren't there: the rewritten pool passes the greatest index; of a lack of memory nothing is said
abbrev pub RefusesAccounter : List Constant → List ℕ → RenameError → Type 0
RefusesAccounter pool descs errors.Full = IsFull pool descs
RefusesAccounter pool descs (errors.Long index) = ⊥
RefusesAccounter pool descs errors.Memory = ⊤
