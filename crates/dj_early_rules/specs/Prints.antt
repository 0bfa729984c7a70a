-- Used by the code alone: numbers of texts, by which most texts are seen to differ.
use Rattle.std.specs.Prelude.{◌≡◌, ℕ, ◌+◌, ◌*◌, ◌%◌, ◌<◌, List, [], ◌∷◌, Bool, true, Some, IsTrue}
use Rattle.std.specs.Ordering.{nat_cmp}
use Rattle.std.specs.BTreeSet.{BTreeSet, contains}
use Rattle.dj_pool.specs.trusted.Pool.{Constant, text_at}
use Rattle.dj_early_rules.specs.Judged.{IsMarked}

-- the number of a text, after the number of what comes before it
abbrev pub print_of : ℕ → List ℕ → ℕ
print_of print [] = print
print_of print (byte ∷ text) = print_of (((print * 31) % 4294967296 + byte) % 4294967296) text

-- the number is noted
abbrev pub HasPrint : BTreeSet ℕ → ℕ → Type 0
HasPrint prints print = contains nat_cmp prints print ≡ true

-- the number of the text at the index is noted where the index is marked, and the answer is whether it wasn't noted before
pub record NotesPrint (old new : BTreeSet ℕ) (pool : List Constant) (index : ℕ) (marked new_one : Bool) : Type 0 where
  pub kept : (print : ℕ) → HasPrint old print → HasPrint new print
  pub own : IsTrue marked → (text : List ℕ) → text_at pool index ≡ Some text → HasPrint new (print_of 0 text)
  pub first : IsTrue new_one → IsTrue marked → (text : List ℕ) → text_at pool index ≡ Some text → HasPrint old (print_of 0 text) → ⊥

-- no two marked indexes have one text
abbrev pub AreDistinct : List Constant → List Bool → Type 0
AreDistinct pool marks = (i j : ℕ) (text : List ℕ) → IsMarked marks i → IsMarked marks j → text_at pool i ≡ Some text → text_at pool j ≡ Some text → i ≡ j

-- the numbers of the marked indexes, this many, are noted, and no two of these indexes have one text
pub record AreNoted (prints : BTreeSet ℕ) (pool : List Constant) (marks : List Bool) (count : ℕ) : Type 0 where
  pub all : (i : ℕ) (text : List ℕ) → i < count → IsMarked marks i → text_at pool i ≡ Some text → HasPrint prints (print_of 0 text)
  pub distinct : (i j : ℕ) (text : List ℕ) → i < count → j < count → IsMarked marks i → IsMarked marks j → text_at pool i ≡ Some text → text_at pool j ≡ Some text → i ≡ j
