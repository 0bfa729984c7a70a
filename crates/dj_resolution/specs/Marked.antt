-- Classes that declare a member, as bits by their numbers.
use Rattle.std.specs.Prelude.{◌≡◌, ◌⊎◌, ℕ, ◌<◌, Bool, true, false, List, Contains, Option, Some, None, is_some, slice_get}
use Rattle.dj_model.specs.trusted.Program.{Program, Method}
use Rattle.dj_model.specs.trusted.Linking.{is_plain}
use Rattle.dj_class_table.specs.Tables.{methods_at}
use Rattle.dj_member_index.specs.declared.rows.MemberRow.{MemberRow}
use Rattle.dj_resolution.specs.Bits.{in_bits}

abbrev pub is_plain_one : Option Method → Bool
is_plain_one None = false
is_plain_one (Some m) = is_plain m

-- the method at this place of a class is there, and is neither private nor static
abbrev pub is_plain_at : Program → ℕ → ℕ → Bool
is_plain_at program class member = is_plain_one (slice_get (methods_at program class) member)

-- nothing is found for a class below the bound whose bit isn't set
abbrev pub IsCovered : {A : Type 0} → (ℕ → Option A) → ℕ → List ℕ → Type 0
IsCovered f bound marks = (k : ℕ) → k < bound → in_bits marks k ≡ false → f k ≡ None

-- the bit of a class below the bound is set exactly where something is found for it
abbrev pub AreMarks : {A : Type 0} → (ℕ → Option A) → ℕ → List ℕ → Type 0
AreMarks f bound marks = (k : ℕ) → k < bound → in_bits marks k ≡ is_some (f k)

-- ---- marks that come from rows

-- one of the rows passes the test and has this number
pub record IsOfRow (test : MemberRow → Bool) (number : MemberRow → ℕ) (rows : List MemberRow) (z : ℕ) : Type 0 where
  pub row : MemberRow
  pub within : Contains rows row
  pub passes : test row ≡ true
  pub number_is : number row ≡ z

-- the bits that were set and those of the numbers of the rows that pass the test are set, and no others
pub record AddsMarks (test : MemberRow → Bool) (number : MemberRow → ℕ) (rows : List MemberRow) (old new : List ℕ) : Type 0 where
  pub kept : (z : ℕ) → in_bits old z ≡ true → in_bits new z ≡ true
  pub marked : (row : MemberRow) → Contains rows row → test row ≡ true → in_bits new (number row) ≡ true
  pub only : (z : ℕ) → in_bits new z ≡ true → (in_bits old z ≡ true) ⊎ IsOfRow test number rows z
