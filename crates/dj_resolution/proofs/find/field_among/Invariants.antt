use Rattle.dj_declarations.specs.trusted.Files.{desc_in}
use Rattle.dj_resolution.specs.Numbers.{field_found}
use Rattle.dj_resolution.proofs.Finding.{IsSearched}
use Rattle.dj_resolution.proofs.find.field_among.Given as goal

-- nothing so far
abbrev pub invariant-loop-class : goal.invariant-loop-class
invariant-loop-class l = IsSearched (field_found l.table l.name (desc_in l.desc)) l.classes l.class-index
