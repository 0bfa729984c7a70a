-- Lines of members, by the indexes of their names and descriptors.
use Rattle.std.specs.Prelude.{◌≡◌, ℕ, ◌↔◌, List, [], ◌++◌, map, Contains, Option, unwrap_or}
use Rattle.dj_pool.specs.trusted.Pool.{Constant, text_at}
use Rattle.dj_class.specs.trusted.ClassFile.{MemberInfo}
use Rattle.dj_report.specs.declared.report.Violation.{Violation}
use Rattle.dj_report.specs.trusted.Lines.{member_line}

-- the indexes of a member's name and descriptor
abbrev pub pair_of : MemberInfo → ℕ × ℕ
pair_of m = (m.name, m.desc)

-- the name and the descriptor at these indexes, as `member_text` of a member that has them
abbrev pub pair_text : List Constant → ℕ × ℕ → List ℕ
pair_text pool pair = unwrap_or (text_at pool pair.0) [] ++ unwrap_or (text_at pool pair.1) []

-- the texts at these indexes
abbrev pub texts_of : List Constant → ℕ × ℕ → Option (List ℕ) × Option (List ℕ)
texts_of pool pair = (text_at pool pair.0, text_at pool pair.1)

-- the texts of the pair in reverse order
abbrev pub turned_texts_of : List Constant → ℕ × ℕ → Option (List ℕ) × Option (List ℕ)
turned_texts_of pool pair = (text_at pool pair.1, text_at pool pair.0)

-- both lists of pairs have the same texts
abbrev pub HaveSameTexts : List Constant → List (ℕ × ℕ) → List (ℕ × ℕ) → Type 0
HaveSameTexts pool a b = (texts : Option (List ℕ) × Option (List ℕ)) → Contains (map (texts_of pool) a) texts ↔ Contains (map (texts_of pool) b) texts

-- the line of the members that have these indexes
abbrev pub IsPairLine : List ℕ → ℕ → List Constant → ℕ × ℕ → Violation → Type 0
IsPairLine path rule pool pair v = v ≡ member_line path (pair_text pool pair) rule
