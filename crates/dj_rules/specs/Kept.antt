-- Used by the code alone: what is kept of files, for the rules that look at all of them.
use Rattle.std.specs.Prelude.{◌≡◌, ℕ, List, [], ◌∷◌, ◌++◌, Option, Some, None}
use Rattle.std.specs.Borrow.{Bor}
use Rattle.dj_report.specs.declared.report.PathFile.{PathFile}
use Rattle.dj_hierarchy_rule.specs.declared.head.ClassHead.{ClassHead}
use Rattle.dj_early_rules.specs.declared.doubles.NamedFile.{NamedFile}
use Rattle.dj_early_rules.specs.declared.good.GoodFile.{GoodFile}
use Rattle.dj_early_rules.specs.declared.hierarchy.Owner.{Owner}
use Rattle.dj_early_rules.specs.Doubles.{AreNamed}
use Rattle.dj_early_rules.specs.Kept.{AreOwned}
use Rattle.dj_rules.specs.declared.kept.Kept.{Kept}

abbrev pub name_in : Option GoodFile → Option (Bor (List ℕ))
name_in None = None
name_in (Some part) = Some part.head.name

abbrev pub heads_in : Option GoodFile → List ClassHead
heads_in None = []
heads_in (Some part) = part.head ∷ []

abbrev pub owners_in : Bor (List ℕ) → Option GoodFile → List Owner
owners_in path None = []
owners_in path (Some part) = record { path = path; repeats = part.repeats } ∷ []

abbrev pub named_as : Bor (List ℕ) → Option GoodFile → NamedFile
named_as path part = record { path = path; name = name_in part }

-- a file of this path was added, of which this is known
pub record Keeps (path : Bor (List ℕ)) (part : Option GoodFile) (old new : Kept) : Type 0 where
  pub named : new.named.items ≡ old.named.items ++ named_as path part ∷ []
  pub heads : new.heads.items ≡ old.heads.items ++ heads_in part
  pub owners : new.owners.items ≡ old.owners.items ++ owners_in path part

-- these files were added, each with its path, its class file's head and what else is known
pub record AreKept (files : List PathFile) (kept : Kept) : Type 0 where
  pub named : AreNamed files kept.named.items
  pub owned : AreOwned files kept.heads.items kept.owners.items
