use Rattle.dj_model.specs.trusted.Linking.{is_plain, most_classes}
use Rattle.dj_declarations.specs.trusted.Files.{desc_in}
use Rattle.dj_resolution.specs.Numbers.{method_found}
use Rattle.dj_resolution.proofs.Climbs.{IsClimbed}
use Rattle.dj_resolution.proofs.select.plain_method_from.Given as goal

-- nothing so far
abbrev pub invariant-loop : goal.invariant-loop
invariant-loop l = IsClimbed (method_found l.table is_plain l.name (desc_in l.desc)) l.table most_classes l.fn.class l.counter l.next
