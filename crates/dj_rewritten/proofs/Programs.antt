-- Rewritten files, read again, are the rewritten program.
use Rattle.std.proofs.Common.{List, [], ◌∷◌, map, sym, ap, ◌∙◌, inl}
use Rattle.std.specs.List.{AllByRecursion}
use Rattle.dj_names.specs.Types.{in_sandbox}
use Rattle.dj_names.specs.trusted.Library.{deterministic_library}
use Rattle.dj_names.specs.Library.{sandbox_library}
use Rattle.dj_class.specs.trusted.ClassFile.{ClassFile}
use Rattle.dj_frames.specs.Laws.{WrittenIsStackMap, StackMapIsWellFormed}
use Rattle.dj_model.specs.trusted.Program.{Program, Class}
use Rattle.dj_model.specs.trusted.Libraries.{joined, library_program}
use Rattle.dj_model.specs.Program.{class_map}
use Rattle.dj_program.specs.trusted.Programs.{AreSideBySide, IsClassIn, IsProgramIn}
use Rattle.dj_groups.specs.Rewritten.{rewritten_code, rewritten}
use Rattle.dj_groups.proofs.Programs.{program_rewritten}
use Rattle.dj_rewritten.specs.Files.{IsRewrittenFile}
use Rattle.dj_rewritten.specs.Rewritable.{IsRewritable}
use Rattle.dj_early_rules.specs.trusted.Malformed.{HasFaultyMethod}
use Rattle.dj_rewritten.proofs.ReadBack.{linked, read_back}
use Rattle.dj_rewritten.proofs.Sound.{file_good}

module _ (written : WrittenIsStackMap) (formed : StackMapIsWellFormed) (program : Program) where
  abbrev other : Class → Class
  other class = class_map in_sandbox (rewritten_code program) class

  classes_read : (cs ds : List ClassFile) (classes : List Class) → AllByRecursion IsRewritable cs → AreSideBySide (IsRewrittenFile program) cs ds → AreSideBySide IsClassIn cs classes
      → AreSideBySide IsClassIn ds (map other classes)
  classes_read [] [] [] good r h = tt
  classes_read [] [] (x ∷ classes) good r h = absurd h
  classes_read [] (d ∷ ds) classes good r h = absurd r
  classes_read (c ∷ cs) [] classes good r h = absurd r
  classes_read (c ∷ cs) (d ∷ ds) [] good r h = absurd h
  classes_read (c ∷ cs) (d ∷ ds) (x ∷ classes) good r h =
      (read_back written formed program c good.0 d x r.0 h.0, classes_read cs ds classes good.1 r.1 h.1)

  -- The rewritten files of a program's files are, with the library of rewritten classes, the rewritten program.
  pub program_read : (cs ds : List ClassFile) → AllByRecursion IsRewritable cs → AreSideBySide (IsRewrittenFile program) cs ds → IsProgramIn deterministic_library cs program
      → IsProgramIn sandbox_library ds (rewritten program)
  program_read cs ds good r h = record {
    classes = map other h.classes;
    each = classes_read cs ds h.classes good r h.each;
    is = ap rewritten h.is ∙ sym (program_rewritten h.classes)
        ∙ ap (λ (p : Program). joined (map (class_map in_sandbox (rewritten_code p)) h.classes) (library_program sandbox_library)) (sym h.is);
  }

-- no method of a rewritten file is faulty
pub files_good : (program : Program) (cs ds : List ClassFile) → AllByRecursion IsRewritable cs → AreSideBySide (IsRewrittenFile program) cs ds → AllByRecursion (λ d. HasFaultyMethod d → ⊥) ds
files_good program [] [] good r = tt
files_good program [] (d ∷ ds) good r = absurd r
files_good program (c ∷ cs) [] good r = absurd r
files_good program (c ∷ cs) (d ∷ ds) good r =
    (file_good program c d (linked c.pool good.0.valid.pool) (λ fault. good.0.whole (inl fault)) r.0, files_good program cs ds good.1 r.1)
