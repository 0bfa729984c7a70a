-- Used by the code alone: the texts of a class, each once and in ascending order, so that the number of a text is its place.
use Rattle.std.specs.Prelude.{◌≡◌, ℕ, zero, suc, ◌+◌, ◌-◌, ◌<◌, ◌≤◌, List, [], ◌∷◌, Option, Some, None, get_or, length, take, drop, if◌then◌else◌}
use Rattle.std.specs.Option.{option_map}
use Rattle.std.specs.Ordering.{nat_cmp}
use Rattle.std.specs.declared.cmp.Ordering.TheVariants.{Less}
use Rattle.std.specs.Cmp.Lexicographic.{slice_cmp}
use Rattle.dj_names.specs.trusted.Types.{Name, same_name}

abbrev pub Numbers : Type 0
Numbers = List Name

-- the number of a text
abbrev pub number_in : Numbers → Name → Option ℕ
number_in [] text = None
number_in (first ∷ texts) text = if same_name first text then Some 0 else option_map (λ number. number + 1) (number_in texts text)

-- the text of a number
abbrev pub text_in : Numbers → ℕ → Name
text_in texts number = get_or texts number []

-- a text's number leads back to the text
abbrev pub LeadBack : Numbers → Type 0
LeadBack numbers = (text : Name) (number : ℕ) → number_in numbers text ≡ Some number → text_in numbers number ≡ text

-- each text keeps its number
abbrev pub NumbersKeep : Numbers → Numbers → Type 0
NumbersKeep old new = (text : Name) (number : ℕ) → number_in old text ≡ Some number → number_in new text ≡ Some number

-- ---- in one list of bytes

-- each text is before those after it
abbrev pub AreAscending : Numbers → Type 0
AreAscending texts = (i j : ℕ) → i < j → j < length texts → slice_cmp nat_cmp (text_in texts i) (text_in texts j) ≡ Less

-- all texts are before this one
abbrev pub AreBefore : Numbers → Name → Type 0
AreBefore texts text = (place : ℕ) → place < length texts → slice_cmp nat_cmp (text_in texts place) text ≡ Less

-- the texts that end at these places: the first begins at `start`, and each other one where the text before it ends
abbrev pub texts_from : ℕ → List ℕ → List ℕ → List Name
texts_from start [] bytes = []
texts_from start (end ∷ ends) bytes = take (end - start) (drop start bytes) ∷ texts_from end ends bytes

-- where the text at a place begins
abbrev pub start_at : ℕ → List ℕ → ℕ → ℕ
start_at start ends zero = start
start_at start ends (suc place) = get_or ends place 0

-- each text ends where it begins or later, and the last one at the end of all bytes
pub record AreEnds (ends : List ℕ) (long : ℕ) : Type 0 where
  pub rise : (place : ℕ) → place < length ends → start_at 0 ends place ≤ get_or ends place 0
  pub last : start_at 0 ends (length ends) ≡ long
