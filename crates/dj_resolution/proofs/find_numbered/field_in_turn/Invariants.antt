use Rattle.std.proofs.Common.{ℕ, List}
use Rattle.dj_declarations.specs.trusted.Files.{desc_in}
use Rattle.dj_resolution.specs.Numbered.{AreTexts}
use Rattle.dj_resolution.specs.Numbers.{field_found}
use Rattle.dj_resolution.proofs.Finding.{IsSearched}
use Rattle.dj_resolution.proofs.find_numbered.field_in_turn.Given as goal

-- nothing so far
abbrev pub invariant-loop-class : goal.invariant-loop-class
invariant-loop-class l = (n d : List ℕ) → AreTexts l.directory l.name l.desc n d → IsSearched (field_found l.directory.program n (desc_in d)) l.classes l.class-index
