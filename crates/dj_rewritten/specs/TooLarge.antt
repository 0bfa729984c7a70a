-- What doesn't fit a class file once it is rewritten: methods and classes.
use Rattle.std.specs.Prelude.{ℕ, ◌+◌, ◌<◌, ◌⊎◌, List, length, Contains}
use Rattle.dj_labels.specs.declared.labelled.Labelled.{Labelled}
use Rattle.dj_layout.specs.declared.errors.LayError.{LayError}
use Rattle.dj_layout.specs.Faults.{Refuses}
use Rattle.dj_class.specs.trusted.ClassFile.{MemberInfo, ClassFile, class_bytes}
use Rattle.dj_model.specs.trusted.Program.{Program}
use Rattle.dj_program.specs.trusted.Codes.{CodeParts, code_in, IsMethodCode}
use Rattle.dj_groups.specs.Groups.{Inserted, ObjectBytes, Group, inserted, groups_of}
use Rattle.dj_groups.specs.Grouped.{labels_in_groups}
use Rattle.dj_rename.specs.Pools.{appended_texts, first_index, IsFull, IsLongText}
use Rattle.dj_rewritten.specs.Files.{desc_indexes, IsRewrittenFile}

-- ---- methods

-- sipush pushes at most 32,767
abbrev pub IsBigObject : Inserted → Type 0
IsBigObject (ObjectBytes n) = 32767 < n
IsBigObject x = ⊥

-- an object is made that takes more bytes
abbrev pub HasBigObject : List Group → Type 0
HasBigObject groups = (g : Group) × Contains groups g × (x : Inserted) × Contains (inserted g) x × IsBigObject x

-- the code passes 65,535 bytes, or a jump of 16 bits doesn't reach its target
abbrev pub LacksRoom : Labelled → Type 0
LacksRoom labelled = (e : LayError) × Refuses labelled e

-- what can be wrong with code in groups: max_stack and the number of rows have two bytes each
abbrev pub DoesNotFit : ℕ → List Group → CodeParts → Type 0
DoesNotFit first groups parts =
    HasBigObject groups
    ⊎ ((65535 < parts.max_stack + 2)
    ⊎ ((65535 < length (labels_in_groups first groups parts.labelled).ranges)
    ⊎ LacksRoom (labels_in_groups first groups parts.labelled)))

-- the index of the accounter's first constant
abbrev pub first_of_class : ClassFile → ℕ
first_of_class c = first_index c.pool (appended_texts c.pool (desc_indexes c))

pub record IsTooLargeMethod (program : Program) (c : ClassFile) (m : MemberInfo) : Type 0 where
  pub parts : CodeParts
  pub code : IsMethodCode c.pool m parts
  pub such : DoesNotFit (first_of_class c) (groups_of program (code_in c.pool parts)) parts

-- ---- classes

-- the pool passes its greatest index, or a renamed text is too long
abbrev pub HasLargePool : ClassFile → Type 0
HasLargePool c = IsFull c.pool (desc_indexes c) ⊎ IsLongText c.pool (desc_indexes c)

abbrev pub HasLargeMethod : Program → ClassFile → Type 0
HasLargeMethod program c = (m : MemberInfo) × Contains c.methods m × IsTooLargeMethod program c m

-- all of it fits, but the file has more than 64 MiB
pub record IsLargeFile (program : Program) (c : ClassFile) : Type 0 where
  pub pool : HasLargePool c → ⊥
  pub methods : HasLargeMethod program c → ⊥
  pub file : ClassFile
  pub rewritten : IsRewrittenFile program c file
  pub past : 67108864 < length (class_bytes file)

abbrev pub IsTooLargeClass : Program → ClassFile → Type 0
IsTooLargeClass program c = HasLargePool c ⊎ IsLargeFile program c
