-- Used by the code alone: the steps of rewriting a class file and a set of them.
use Rattle.std.specs.Prelude.{◌≡◌, ◌↔◌, ◌⊎◌, ℕ, Bool, true, false, List, [], ◌∷◌, take, drop, length, zip, Option, Some, None, Contains, IsTrue, IsFalse, if◌then◌else◌}
use Rattle.std.specs.Ordering.{nat_cmp, is_gt, is_lt}
use Rattle.std.specs.Cmp.Lexicographic.{slice_cmp}
use Rattle.dj_names.specs.trusted.Types.{Name}
use Rattle.dj_pool.specs.trusted.Pool.{Constant, IsPool}
use Rattle.dj_class.specs.trusted.ClassFile.{MemberInfo, ClassFile}
use Rattle.dj_model.specs.trusted.Program.{Program}
use Rattle.dj_program.specs.trusted.Programs.{AreSideBySide}
use Rattle.dj_rename.specs.Pools.{appended_texts, renamed_descs, rewritten_pool}
use Rattle.dj_rewritten.specs.Files.{desc_indexes}
use Rattle.dj_rewritten.specs.TooLarge.{HasLargePool, IsTooLargeMethod, HasLargeMethod, IsTooLargeClass}
use Rattle.dj_rewrite.specs.declared.answers.MethodAnswer.{MethodAnswer}
use Rattle.dj_rewrite.specs.declared.answers.MethodAnswer.TheVariants as answers
use Rattle.dj_rewrite.specs.declared.least.Part.{Part}
use Rattle.dj_rewrite.specs.declared.set.Progress.{Progress}
use Rattle.dj_rewrite.specs.Answers.{AreTooLarge}
use Rattle.dj_rewrite.specs.Rule.{member_text}
use Rattle.dj_rewrite.specs.Members.{fields_with, methods_with}
use Rattle.dj_rewrite.specs.Sets.{IsFileOf, part_cmp, IsTooLargePart, IsLeastTooLarge}

-- ---- the parts of a rewritten file

-- the constants fit, and these are they, with the new indexes of the members' descriptors
pub record IsNewPool (c : ClassFile) (pool : List Constant) (descs : List ℕ) : Type 0 where
  pub is : pool ≡ rewritten_pool c.pool (desc_indexes c)
  pub valid : IsPool pool
  pub descs_are : descs ≡ renamed_descs c.pool (appended_texts c.pool (desc_indexes c)) (desc_indexes c)
  pub fits : HasLargePool c → ⊥

abbrev pub new_file : ClassFile → List Constant → List ℕ → List MethodAnswer → ClassFile
new_file c pool descs made = record {
  minor = c.minor;
  major = c.major;
  pool = pool;
  flags = c.flags;
  this_class = c.this_class;
  super_class = c.super_class;
  interfaces = c.interfaces;
  fields = fields_with c.pool c.fields (take (length c.fields) descs);
  methods = methods_with c.methods made (drop (length c.fields) descs);
  attributes = [];
}

-- ---- what of a class doesn't fit

-- of each method it is told whether it is too large
abbrev pub TellsMethod : Program → ClassFile → MemberInfo → MethodAnswer → Type 0
TellsMethod program c m answer = (answer ≡ answers.TooLarge) ↔ IsTooLargeMethod program c m

-- the class or a method is too large
pub record TellsFile (program : Program) (c : ClassFile) (class : Bool) (made : List MethodAnswer) : Type 0 where
  pub class_is : IsTrue class ↔ IsTooLargeClass program c
  pub methods_are : AreSideBySide (TellsMethod program c) c.methods made
  pub some : IsTooLargeClass program c ⊎ HasLargeMethod program c

-- the text of a method of which it is told that it is too large
abbrev pub IsLargeText : List Constant → MemberInfo × MethodAnswer → Name → Type 0
IsLargeText pool method text = (method.1 ≡ answers.TooLarge) × (text ≡ member_text pool method.0)

abbrev pub AreLargeTexts : ClassFile → List MethodAnswer → Name → Type 0
AreLargeTexts c made text = (method : MemberInfo × MethodAnswer) × Contains (zip c.methods made) method × IsLargeText c.pool method text

abbrev pub is_large : MethodAnswer → Bool
is_large answers.TooLarge = true
is_large answer = false

-- the empty text of the class itself
abbrev pub class_texts : Bool → List Name
class_texts true = [] ∷ []
class_texts false = []

-- these texts tell it
abbrev pub AreTexts : ClassFile → Bool → List MethodAnswer → List Name → Type 0
AreTexts c class made texts = (program : Program) → TellsFile program c class made → AreTooLarge program c texts

-- ---- the least of what doesn't fit

abbrev pub part_of : Part → Name × Name
part_of part = (part.class, part.member)

abbrev pub lesser_text : Name → Name → Name
lesser_text a b = if is_lt (slice_cmp nat_cmp b a) then b else a

-- one of the texts, and none of those before the place is less
pub record IsLeastUpTo (texts : List Name) (place : ℕ) (text : Name) : Type 0 where
  pub there : Contains texts text
  pub least : (other : Name) → Contains (take place texts) other → IsFalse (is_gt (slice_cmp nat_cmp text other))

pub record IsLeastText (texts : List Name) (text : Name) : Type 0 where
  pub there : Contains texts text
  pub least : (other : Name) → Contains texts other → IsFalse (is_gt (slice_cmp nat_cmp text other))

pub record IsLeastPart (class : Name) (texts : List Name) (part : Part) : Type 0 where
  pub class_is : part.class ≡ class
  pub member_is : IsLeastText texts part.member

abbrev pub lesser_of : Option Part → Part → Part
lesser_of None part = part
lesser_of (Some least) part = if is_lt (part_cmp (part_of least) (part_of part)) then least else part

-- all of it fits, or this is the least that doesn't
abbrev pub IsLeastSoFar : Program → List ClassFile → Option Part → Type 0
IsLeastSoFar program files None = (part : Name × Name) → IsTooLargePart program files part → ⊥
IsLeastSoFar program files (Some part) = IsLeastTooLarge program files (part_of part)

pub record IsProgress (program : Program) (done : List ClassFile) (now : Progress) : Type 0 where
  pub least : IsLeastSoFar program done now.least
  pub files : now.least ≡ None → AreSideBySide (IsFileOf program) done now.files.items
