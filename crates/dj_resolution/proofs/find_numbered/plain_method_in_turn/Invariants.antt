use Rattle.std.proofs.Common.{ℕ, List}
use Rattle.dj_model.specs.trusted.Linking.{is_plain}
use Rattle.dj_declarations.specs.trusted.Files.{desc_in}
use Rattle.dj_resolution.specs.Numbered.{AreTexts}
use Rattle.dj_resolution.specs.Numbers.{method_found}
use Rattle.dj_resolution.proofs.Finding.{IsSearched}
use Rattle.dj_resolution.proofs.find_numbered.plain_method_in_turn.Given as goal

-- nothing so far
abbrev pub invariant-loop-class : goal.invariant-loop-class
invariant-loop-class l = (n d : List ℕ) → AreTexts l.directory l.name l.desc n d → IsSearched (method_found l.directory.program is_plain n (desc_in d)) l.classes l.class-index
