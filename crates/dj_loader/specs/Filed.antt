-- Used by the code alone: the parts of a class that a file defines and of one that none does, and which file defines which class.
use Rattle.std.specs.Prelude.{◌≡◌, ℕ, true, false, List, [], map, replicate, length, get_or, Option, Some, None, slice_get}
use Rattle.std.specs.Option.{option_map}
use Rattle.dj_pool.specs.trusted.Pool.{Constant}
use Rattle.dj_class.specs.trusted.ClassFile.{MemberInfo, ClassFile}
use Rattle.dj_file_rules.specs.trusted.Violations.{this_name}
use Rattle.dj_model.specs.trusted.Program as programs
use Rattle.dj_model.specs.trusted.Program.{Program}
use Rattle.dj_declarations.specs.trusted.Files.{is_bodiless}
use Rattle.dj_class_table.specs.Tables.{class_number, methods_at, fields_at}
use Rattle.dj_program.specs.declared.code.MethodCode.{MethodCode}
use Rattle.dj_program.specs.trusted.Codes.{IsMethodCode}
use Rattle.dj_program.specs.trusted.Naming.{constant_in}
use Rattle.dj_program.specs.trusted.Programs.{AreSideBySide}
use Rattle.dj_program.specs.Views.{parts_of}
use Rattle.dj_shape_rule.specs.Pools.{ArePoolKinds}
use Rattle.dj_image.specs.declared.parts.ClassParts.{ClassParts}
use Rattle.dj_image.specs.declared.parts.FieldValue.{FieldValue}
use Rattle.dj_image.specs.Parts.{constant_of_value}

-- ---- the parts of a class

-- a method that is native or abstract has no code, and every other one has that of its Code attribute
abbrev pub IsCodeFor : List Constant → MemberInfo → Option MethodCode → Type 0
IsCodeFor pool m None = is_bodiless m.flags ≡ true
IsCodeFor pool m (Some code) = (is_bodiless m.flags ≡ false) × IsMethodCode pool m (parts_of code)

abbrev pub desc_index : MemberInfo → ℕ
desc_index m = m.desc

abbrev pub reported_value : List Constant → Option FieldValue → Option programs.Constant
reported_value pool value = option_map (constant_of_value pool) value

-- the parts of the class that a file defines
pub record AreFileParts (c : ClassFile) (parts : ClassParts) : Type 0 where
  pub pool : parts.pool ≡ c.pool
  pub kinds : ArePoolKinds c.pool parts.kinds
  pub codes : AreSideBySide (IsCodeFor c.pool) c.methods parts.codes.items
  pub descs : parts.descs.items ≡ map desc_index c.methods
  pub values : map (reported_value c.pool) parts.values.items ≡ map (constant_in c.pool) c.fields

-- the parts of a class that no file defines, with this many members
pub record AreBareParts (methods fields : ℕ) (parts : ClassParts) : Type 0 where
  pub pool : parts.pool ≡ []
  pub kinds : ArePoolKinds [] parts.kinds
  pub codes : parts.codes.items ≡ replicate methods None
  pub values : parts.values.items ≡ replicate fields None

-- ---- the parts of the classes of a table

-- for each class the place of the file that defines it, where one does
pub record AreOwners (table : Program) (files : List ClassFile) (owners : List (Option ℕ)) : Type 0 where
  pub count : length owners ≡ length table
  pub named : (k place : ℕ) → get_or owners k None ≡ Some place → (c : ClassFile) × (slice_get files place ≡ Some c) × (class_number table (this_name c) ≡ Some k)
  pub each : (k place : ℕ) (c : ClassFile) → slice_get files place ≡ Some c → class_number table (this_name c) ≡ Some k → get_or owners k None ≡ None → ⊥

-- the parts of the class of a number, which the file at a place defines
abbrev pub ArePartsFor : Program → List ClassFile → ℕ → Option ℕ → ClassParts → Type 0
ArePartsFor table files k None parts = AreBareParts (length (methods_at table k)) (length (fields_at table k)) parts
ArePartsFor table files k (Some place) parts = (c : ClassFile) × (slice_get files place ≡ Some c) × AreFileParts c parts

-- the parts of the classes up to a number
pub record AreFirstParts (table : Program) (files : List ClassFile) (owners : List (Option ℕ)) (count : ℕ) (parts : List ClassParts) : Type 0 where
  pub many : length parts ≡ count
  pub each : (k : ℕ) (p : ClassParts) → slice_get parts k ≡ Some p → ArePartsFor table files k (get_or owners k None) p
