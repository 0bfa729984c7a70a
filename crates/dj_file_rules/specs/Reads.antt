-- What was read of files, and what was found in them.
use Rattle.std.specs.Prelude.{ℕ, ⊤, List, [], ◌∷◌, Option, Some, None}
use Rattle.dj_edge.specs.trusted.Held.{File}
use Rattle.dj_class.specs.trusted.ClassFile.{IsClassFile, IsMalformed}
use Rattle.dj_class.specs.Views.{class_of}
use Rattle.dj_file_rules.specs.declared.view.FileView.{FileView}
use Rattle.dj_file_rules.specs.declared.view.FileView.TheVariants as views
use Rattle.dj_file_rules.specs.declared.judge.Judged.{Judged}
use Rattle.dj_file_rules.specs.trusted.Violations.{AreViolations}

-- the view shows the class file that the bytes are
abbrev pub IsViewOf : List ℕ → FileView → Type 0
IsViewOf bytes (views.Class view) = IsClassFile bytes (class_of view)
IsViewOf bytes views.Malformed = IsMalformed bytes

-- the view is kept where the set has one file
abbrev pub IsOnlyView : List File → Option FileView → Type 0
IsOnlyView (file ∷ []) (Some view) = IsViewOf file.1 view
IsOnlyView (file ∷ []) None = ⊥
IsOnlyView files (Some view) = ⊥
IsOnlyView files None = ⊤

-- these are the violations of the files
pub record AreJudgedAs (files : List File) (judged : Judged) : Type 0 where
  pub violations : AreViolations files judged.violations
  pub only : IsOnlyView files judged.only
