-- Used by the code alone: the head of a class, and the names of members, as they are gathered from a class file.
use Rattle.std.specs.Prelude.{◌≡◌, ◌↔◌, ℕ, ◌<◌, List, map, Contains, Some, IsSomeAnd, slice_get, option_and_then}
use Rattle.std.specs.Option.{option_copied}
use Rattle.std.specs.Borrow.{Bor}
use Rattle.dj_pool.specs.trusted.Pool.{Constant, class_text_of, constant_at, text_at, class_name_at}
use Rattle.dj_class.specs.trusted.ClassFile.{MemberInfo, ClassFile}
use Rattle.dj_file_rules.specs.trusted.Violations.{this_name}
use Rattle.dj_hierarchy_rule.specs.declared.head.ClassHead.{ClassHead}
use Rattle.dj_early_rules.specs.declared.judged.JudgedText.{JudgedText}
use Rattle.dj_early_rules.specs.trusted.Heads.{interface_names}
use Rattle.dj_early_rules.specs.Judged.{first_in}
use Rattle.dj_early_rules.specs.Marks.{names_in}

-- ---- the names of interfaces

abbrev pub texts_of : List (Bor (List ℕ)) → List (List ℕ)
texts_of names = map (λ name. name.now) names

-- it is one of one of the parts
abbrev pub IsOfOne : {X L : Type 0} → (X → L → Type 0) → List X → L → Type 0
IsOfOne {X} IsOwn parts l = (part : X) × Contains parts part × IsOwn part l

-- this index stands for the text of the class of the index
abbrev pub IsClassText : List Constant → List JudgedText → ℕ → ℕ → Type 0
IsClassText pool texts index first = IsSomeAnd (option_and_then class_text_of (constant_at pool index)) (λ name. first ≡ first_in texts name)

-- these indexes stand for those of these classes
abbrev pub AreClassTexts : List Constant → List JudgedText → List ℕ → List ℕ → Type 0
AreClassTexts pool texts indexes firsts = (first : ℕ) → Contains firsts first ↔ IsOfOne (IsClassText pool texts) indexes first

-- this is the text of the index
abbrev pub HasText : List Constant → ℕ → List ℕ → Type 0
HasText pool index text = text_at pool index ≡ Some text

-- these are the texts of the indexes
abbrev pub AreTextsAt : List Constant → List ℕ → List (List ℕ) → Type 0
AreTextsAt pool indexes names = (text : List ℕ) → Contains names text ↔ IsOfOne (HasText pool) indexes text

-- ---- members

-- the indexes that stand for the names of members
abbrev pub names_of : List JudgedText → List MemberInfo → List (ℕ × ℕ)
names_of texts members = map (names_in texts) members

-- two of the members have the same
pub record HasAgain (names : List (ℕ × ℕ)) : Type 0 where
  pub first : ℕ
  pub other : ℕ
  pub apart : first < other
  pub pair : ℕ × ℕ
  pub here : slice_get names first ≡ Some pair
  pub there : slice_get names other ≡ Some pair

-- ---- the head of a class

-- the class's name, flags and superclass, and the interfaces that it lists
pub record IsHeadOf (c : ClassFile) (head : ClassHead) : Type 0 where
  pub name : head.name.now ≡ this_name c
  pub flags : head.flags ≡ c.flags
  pub superclass : option_copied head.superclass ≡ class_name_at c.pool c.super_class
  pub interfaces : (name : List ℕ) → Contains (texts_of head.interfaces.items) name ↔ Contains (interface_names c) name
