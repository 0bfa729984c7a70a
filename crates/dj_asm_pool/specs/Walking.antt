-- What the pool is after some needs of lines, one after the other: the code's own words. No public clause cites them.
use Rattle.std.specs.Prelude.{◌≡◌, ℕ, ◌+◌, ◌≤◌, ◌⊎◌, Bool, true, false, nat_lt, if◌then◌else◌, List, [], ◌∷◌, ◌++◌, length, map, Contains, Option, Some, None}
use Rattle.std.specs.List.{enumerate_from}
use Rattle.dj_asm_source.specs.trusted.Lines.{Line}
use Rattle.dj_asm_pool.specs.declared.walk.Kind.{Kind}
use Rattle.dj_asm_pool.specs.declared.walk.Kind.TheVariants as kinds
use Rattle.dj_asm_pool.specs.trusted.Entries.{Entry}
use Rattle.dj_asm_pool.specs.trusted.Needs.{head_entries, instruction_entries, catch_entries, stack_map_entries, frame_entries, Need, needs, method_needs, needed_entry}
use Rattle.dj_asm_pool.specs.Pooling.{all_kept}
use Rattle.dj_asm_pool.specs.PoolNeeds.{HasPlace, LacksPlace}

abbrev pub kind_entries : Kind → Line → List Entry
kind_entries kinds.Head = head_entries
kind_entries kinds.Instruction = instruction_entries
kind_entries kinds.Catch = catch_entries
kind_entries kinds.StackMap = stack_map_entries
kind_entries kinds.Frame = frame_entries

-- the needs of a method's lines but for those of its frames
abbrev pub code_needs : List (ℕ × Line) → List Need
code_needs placed = needs head_entries placed ++ needs instruction_entries placed ++ needs catch_entries placed

-- the first place of a need without room, after one more line
abbrev pub noted : Option ℕ → ℕ → Bool → Option ℕ
noted first place true = first
noted None place false = Some place
noted (Some first) place false = if nat_lt place first then Some place else Some first

abbrev pub IsUpTo : Option ℕ → ℕ → Type 0
IsUpTo None place = ⊥
IsUpTo (Some first) place = first ≤ place

-- a need at this place lacks its own
pub record OneLacks (now : List Entry) (needed : List Need) (first : ℕ) : Type 0 where
  pub need : Need
  pub among : Contains needed need
  pub place_is : need.place ≡ first
  pub lacks : LacksPlace now need.entry

abbrev pub IsOfOne : List Entry → List Need → Option ℕ → Type 0
IsOfOne now needed None = Unit {0}
IsOfOne now needed (Some first) = OneLacks now needed first

-- the pool after these needs, and the first place of one without room
pub record AreWalked (needed : List Need) (now : List Entry) (first : Option ℕ) : Type 0 where
  pub now_is : now ≡ all_kept [] (map needed_entry needed)
  pub earlier : (need : Need) → Contains needed need → HasPlace now need.entry ⊎ IsUpTo first need.place
  pub one : IsOfOne now needed first

-- these needs are walked after others
pub record Walks (before : List Entry) (lacking : Option ℕ) (needed : List Need) (now : List Entry) (first : Option ℕ) : Type 0 where
  pub after : (done : List Need) → AreWalked done before lacking → AreWalked (done ++ needed) now first

-- the needs of sections of lines, from a place on
unfoldable pub section_needs : ℕ → List (List Line) → List Need
section_needs place [] = []
section_needs place (section ∷ sections) = method_needs (enumerate_from place section) ++ section_needs (place + length section) sections
