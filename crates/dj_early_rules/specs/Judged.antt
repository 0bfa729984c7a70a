-- Used by the code alone: what is kept beside the texts of a pool.
use Rattle.std.specs.Prelude.{◌≡◌, ◌↔◌, ℕ, ◌+◌, ◌<◌, ◌⊎◌, Bool, true, nat_eq, ◌||◌, List, [], ◌∷◌, length, Contains, Option, Some, None, IsTrue, slice_get, unwrap_or}
use Rattle.std.specs.Borrow.{Bor}
use Rattle.std.specs.Ordering.{nat_cmp}
use Rattle.std.specs.Cmp.Lexicographic.{slice_cmp}
use Rattle.std.specs.BTreeMap.{BTreeMap, get_by}
use Rattle.dj_pool.specs.trusted.Pool.{Constant, text_at}
use Rattle.dj_class.specs.trusted.ClassFile.{MemberInfo, ClassFile}
use Rattle.dj_early_rules.specs.declared.judged.JudgedText.{JudgedText}
use Rattle.dj_early_rules.specs.trusted.Floats.{HasFloat, NamesFloat}
use Rattle.dj_early_rules.specs.trusted.Classes.{IsReflectiveText, NamesReflectiveText}

-- the letter of a float or of a double
abbrev pub is_float_letter : ℕ → Bool
is_float_letter b = nat_eq b 70 || nat_eq b 68

-- this is kept of the text at the index
pub record IsTextAt (pool : List Constant) (index : ℕ) (text : JudgedText) : Type 0 where
  pub float : IsTrue text.float ↔ NamesFloat pool index
  pub reflective : IsTrue text.reflective ↔ NamesReflectiveText pool index
  pub first : text_at pool text.first ≡ text_at pool index

-- for each index from 0 on that the pool has
pub record AreTexts (pool : List Constant) (texts : List JudgedText) : Type 0 where
  pub all : length pool < length texts
  pub each : (index : ℕ) (text : JudgedText) → slice_get texts index ≡ Some text → IsTextAt pool index text

-- the index itself where nothing is kept
abbrev pub first_of : ℕ → Option JudgedText → ℕ
first_of index None = index
first_of index (Some text) = text.first

-- the index that stands for all of the same text
abbrev pub first_in : List JudgedText → ℕ → ℕ
first_in texts index = first_of index (slice_get texts index)

-- the text begins as the descriptor of a method, of an array, of a float or of a double does
abbrev pub BeginsFloat : List ℕ → Type 0
BeginsFloat [] = ⊥
BeginsFloat (byte ∷ more) = (byte ≡ 40) ⊎ ((byte ≡ 91) ⊎ ((byte ≡ 70) ⊎ (byte ≡ 68)))

-- ---- names of members

abbrev pub IsMemberOf : ClassFile → MemberInfo → Type 0
IsMemberOf c m = Contains c.fields m ⊎ Contains c.methods m

-- of the texts that are names and descriptors of members, one index stands for all indexes of one text
pub record AreNumbered (c : ClassFile) (texts : List JudgedText) : Type 0 where
  pub numbers : List ℕ → ℕ
  pub name : (m : MemberInfo) (t : List ℕ) → IsMemberOf c m → text_at c.pool m.name ≡ Some t → first_in texts m.name ≡ numbers t
  pub desc : (m : MemberInfo) (t : List ℕ) → IsMemberOf c m → text_at c.pool m.desc ≡ Some t → first_in texts m.desc ≡ numbers t

-- the index is marked
abbrev pub IsMarked : List Bool → ℕ → Type 0
IsMarked marks index = slice_get marks index ≡ Some true

-- marks stay, and there are as many
pub record StayMarked (old new : List Bool) : Type 0 where
  pub same : length new ≡ length old
  pub kept : (index : ℕ) → IsMarked old index → IsMarked new index

-- the indexes of the member's names are marked, where they have a place
pub record AreNamesMarked (marks : List Bool) (m : MemberInfo) : Type 0 where
  pub name : m.name < length marks → IsMarked marks m.name
  pub desc : m.desc < length marks → IsMarked marks m.desc

-- those of all members are
pub record AreMembersMarked (c : ClassFile) (marks : List Bool) : Type 0 where
  pub count : length marks ≡ length c.pool + 1
  pub each : (m : MemberInfo) → IsMemberOf c m → AreNamesMarked marks m

-- ---- texts that are noted

-- the indexes of texts
abbrev pub Indexes : Type 0
Indexes = BTreeMap (Bor (List ℕ)) ℕ

-- the index that was noted of a text
abbrev pub noted_at : Indexes → List ℕ → Option ℕ
noted_at indexes text = get_by (λ key. slice_cmp nat_cmp text key.now) indexes

-- the same, as a number of the text
abbrev pub number_in : Indexes → List ℕ → ℕ
number_in indexes text = unwrap_or (noted_at indexes text) 0

-- what is noted of a text is an index of it
abbrev pub AreRight : List Constant → Indexes → Type 0
AreRight pool indexes = (text : List ℕ) (index : ℕ) → noted_at indexes text ≡ Some index → text_at pool index ≡ Some text

-- an index is noted of a text where it is marked and none was noted yet; the first is the one that is noted then
pub record Notes (old new : Indexes) (key : List ℕ) (index : ℕ) (marked : Bool) (first : ℕ) : Type 0 where
  pub own : IsTrue marked → noted_at new key ≡ Some first
  pub same : (first ≡ index) ⊎ (noted_at old key ≡ Some first)
  pub kept : (text : List ℕ) (n : ℕ) → noted_at old text ≡ Some n → noted_at new text ≡ Some n
  pub known : (text : List ℕ) (n : ℕ) → noted_at new text ≡ Some n → (noted_at old text ≡ Some n) ⊎ ((text ≡ key) × (n ≡ index))

-- what is kept of a text, which is that at the index
pub record IsReportedText (old new : Indexes) (key : List ℕ) (index : ℕ) (marked : Bool) (text : JudgedText) : Type 0 where
  pub float : IsTrue text.float ↔ HasFloat key
  pub reflective : IsTrue text.reflective ↔ IsReflectiveText key
  pub notes : Notes old new key index marked text.first

-- where the index is marked, the first index of its text is the one that is noted for the text
abbrev pub IsNumberedBy : Indexes → List Constant → ℕ → Bool → JudgedText → Type 0
IsNumberedBy indexes pool index marked text = (key : List ℕ) → IsTrue marked → text_at pool index ≡ Some key → noted_at indexes key ≡ Some text.first

-- what is kept of the text at the index, with what was noted before and is noted then
pub record IsJudgedText (pool : List Constant) (old new : Indexes) (index : ℕ) (marked : Bool) (text : JudgedText) : Type 0 where
  pub means : IsTextAt pool index text
  pub number : IsNumberedBy new pool index marked text
  pub kept : (key : List ℕ) (n : ℕ) → noted_at old key ≡ Some n → noted_at new key ≡ Some n
  pub right : AreRight pool new

-- the first n indexes have what is kept of them
pub record AreFirstTexts (indexes : Indexes) (marks : List Bool) (count : ℕ) (pool : List Constant) (texts : List JudgedText) : Type 0 where
  pub all : length texts ≡ count
  pub means : (index : ℕ) (text : JudgedText) → slice_get texts index ≡ Some text → IsTextAt pool index text
  pub number : (index : ℕ) (text : JudgedText) (marked : Bool) → slice_get texts index ≡ Some text → slice_get marks index ≡ Some marked → IsNumberedBy indexes pool index marked text
  pub right : AreRight pool indexes

-- ---- texts that stand for themselves

-- this is kept of the text at the index, which represents its own text
pub record IsOwnText (pool : List Constant) (index : ℕ) (text : JudgedText) : Type 0 where
  pub means : IsTextAt pool index text
  pub own : text.first ≡ index

-- for each of this many indexes
pub record AreOwnTexts (pool : List Constant) (count : ℕ) (texts : List JudgedText) : Type 0 where
  pub all : length texts ≡ count
  pub each : (index : ℕ) (text : JudgedText) → slice_get texts index ≡ Some text → IsOwnText pool index text
