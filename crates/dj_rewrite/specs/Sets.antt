-- What becomes of the class files of a set that are rewritten.
use Rattle.std.specs.Prelude.{◌≡◌, ⊤, List, Result, Ok, Err, Contains, IsFalse, IsPermutation, IsSorted}
use Rattle.std.specs.declared.cmp.Ordering.{Ordering}
use Rattle.std.specs.Ordering.{nat_cmp, ordering_then, is_gt}
use Rattle.std.specs.Cmp.Lexicographic.{slice_cmp}
use Rattle.dj_names.specs.trusted.Types.{Name}
use Rattle.dj_class.specs.trusted.ClassFile.{ClassFile}
use Rattle.dj_class.specs.trusted.Names.{this_name}
use Rattle.dj_model.specs.trusted.Program.{Program}
use Rattle.dj_program.specs.trusted.Programs.{AreSideBySide}
use Rattle.dj_rewrite.specs.declared.error.RewriteError.{RewriteError}
use Rattle.dj_rewrite.specs.declared.error.RewriteError.TheVariants as errors
use Rattle.dj_rewrite.specs.declared.rewritten.RewrittenFile.{RewrittenFile}
use Rattle.dj_rewrite.specs.Answers.{WritesFile}
use Rattle.dj_rewrite.specs.Rule.{IsTooLargeIn}

-- ---- files

-- by the bytes of the names
abbrev pub file_cmp : RewrittenFile → RewrittenFile → Ordering
file_cmp a b = slice_cmp nat_cmp a.name b.name

-- the rewritten file of a class file, under the class's plain name
pub record IsFileOf (program : Program) (c : ClassFile) (f : RewrittenFile) : Type 0 where
  pub name : f.name ≡ this_name c
  pub written : WritesFile program c f.bytes

-- one of each class file, in the order of the names
pub record AreRewritten (program : Program) (files : List ClassFile) (made : List RewrittenFile) : Type 0 where
  pub set : List RewrittenFile
  pub each : AreSideBySide (IsFileOf program) files set
  pub moved : IsPermutation set made
  pub in_order : IsSorted file_cmp made

-- ---- what doesn't fit

-- a class's name, and the text of a member, or none: by the bytes of the name, and then of the text
abbrev pub part_cmp : Name × Name → Name × Name → Ordering
part_cmp a b = ordering_then (slice_cmp nat_cmp a.0 b.0) (slice_cmp nat_cmp a.1 b.1)

pub record IsTooLargePart (program : Program) (files : List ClassFile) (part : Name × Name) : Type 0 where
  pub file : ClassFile
  pub there : Contains files file
  pub class : part.0 ≡ this_name file
  pub member : IsTooLargeIn program file part.1

pub record IsLeastTooLarge (program : Program) (files : List ClassFile) (part : Name × Name) : Type 0 where
  pub such : IsTooLargePart program files part
  pub least : (other : Name × Name) → IsTooLargePart program files other → IsFalse (is_gt (part_cmp part other))

-- ---- the set

-- all files, of which everything fits, or the least class and member that doesn't; of a lack of memory nothing is said
abbrev pub AnswersSet : Program → List ClassFile → Result (List RewrittenFile) RewriteError → Type 0
AnswersSet program files (Ok made) = AreRewritten program files made
AnswersSet program files (Err (errors.TooLarge class member)) = IsLeastTooLarge program files (class, member)
AnswersSet program files (Err errors.Memory) = ⊤
