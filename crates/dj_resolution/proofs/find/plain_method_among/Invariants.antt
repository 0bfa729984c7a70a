use Rattle.dj_model.specs.trusted.Linking.{is_plain}
use Rattle.dj_declarations.specs.trusted.Files.{desc_in}
use Rattle.dj_resolution.specs.Numbers.{method_found}
use Rattle.dj_resolution.proofs.Finding.{IsSearched}
use Rattle.dj_resolution.proofs.find.plain_method_among.Given as goal

-- nothing so far
abbrev pub invariant-loop-class : goal.invariant-loop-class
invariant-loop-class l = IsSearched (method_found l.table is_plain l.name (desc_in l.desc)) l.classes l.class-index
