-- Used by the code alone: how a constant's class is read from its text, and how its member is looked up by a number.
use Rattle.std.specs.Prelude.{◌≡◌, ⊤, ℕ, suc, ◌+◌, Bool, List, [], ◌∷◌, length, Option, Some, None, nat_eq, if◌then◌else◌, option_and_then, slice_get}
use Rattle.std.specs.Option.{option_map}
use Rattle.std.specs.Borrow.{Bor}
use Rattle.dj_names.specs.trusted.Types.{Name}
use Rattle.dj_pool.specs.trusted.Pool.{Constant, Field, Method, InterfaceMethod, text_at}
use Rattle.dj_model.specs.trusted.Program.{Program}
use Rattle.dj_declarations.specs.trusted.Files.{type_in}
use Rattle.dj_declarations.specs.Members.{IsDescriptor}
use Rattle.dj_member_index.specs.Numberings.{Numbering, number_of}
use Rattle.dj_resolution.specs.Linked.{Linked, resolved_method, resolved_field}
use Rattle.dj_resolution.specs.Numbered.{AreNumbersOf}
use Rattle.dj_link_rules.specs.declared.name_numbers.NumberedName.{NumberedName}
use Rattle.dj_link_rules.specs.trusted.Named.{is_static_field, is_static_method}
use Rattle.dj_link_rules.specs.Judged.{judged_class}
use Rattle.dj_link_rules.specs.declared.named.NamedClass.{NamedClass}

-- how many brackets a text begins with
abbrev pub brackets : List ℕ → ℕ
brackets [] = 0
brackets (b ∷ more) = if nat_eq b 91 then suc (brackets more) else 0

-- what is kept of the class that a text names
abbrev pub text_class : Program → List ℕ → NamedClass
text_class program text = judged_class program (type_in text)

-- what was kept of texts, by their indexes: each index has a place, and what is kept there is that of its text
pub record AreSeen (program : Program) (pool : List Constant) (seen : List (Option NamedClass)) : Type 0 where
  pub all : length seen ≡ length pool + 1
  pub each : (index : ℕ) (class : NamedClass) → slice_get seen index ≡ Some (Some class) → Some class ≡ option_map (text_class program) (text_at pool index)

-- the number of the text at an index, where there is such a text and it has a number
abbrev pub number_at : Numbering → List Constant → ℕ → Option ℕ
number_at directory pool index = option_and_then (number_of directory) (text_at pool index)

-- the numbers that were looked up for texts, by their indexes: what is kept there is the number of the text
pub record AreNumbersSeen (directory : Numbering) (pool : List Constant) (seen : List (Option (Option ℕ))) : Type 0 where
  pub each : (index : ℕ) (number : Option ℕ) → slice_get seen index ≡ Some (Some number) → number ≡ number_at directory pool index

-- the same, where there is a directory
abbrev pub AreNumbersSeenBy : Option (Bor Numbering) → List Constant → List (Option (Option ℕ)) → Type 0
AreNumbersSeenBy None pool seen = ⊤
AreNumbersSeenBy (Some directory) pool seen = AreNumbersSeen directory.now pool seen

-- the numbers are those of the texts, the second of which is a descriptor; without a directory texts have no numbers
abbrev pub IsNumbered : Option (Bor Numbering) → NumberedName → Type 0
IsNumbered None named = IsDescriptor named.desc.now
IsNumbered (Some directory) named = AreNumbersOf directory.now named.name_number named.desc_number named.name.now named.desc.now

-- the directory, where there is one, is that of these classes
abbrev pub IsDirectoryOf : Program → Option (Bor Numbering) → Type 0
IsDirectoryOf program None = ⊤
IsDirectoryOf program (Some directory) = directory.now.program ≡ program

-- whether the member that a constant names is static, in the class of this number
abbrev pub static_at : Linked → Constant → ℕ → Name → List ℕ → Option Bool
static_at linked (Field class names) number name desc = option_map is_static_field (resolved_field linked number name desc)
static_at linked (Method class names) number name desc = option_map is_static_method (resolved_method linked number name desc)
static_at linked (InterfaceMethod class names) number name desc = option_map is_static_method (resolved_method linked number name desc)
static_at linked k number name desc = None

-- the same, where there is such a class
abbrev pub static_in : Linked → Constant → Option ℕ → Name → List ℕ → Option Bool
static_in linked k None name desc = None
static_in linked k (Some number) name desc = static_at linked k number name desc
