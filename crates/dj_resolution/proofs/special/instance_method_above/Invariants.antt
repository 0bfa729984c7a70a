use Rattle.dj_model.specs.trusted.Linking.{is_not_static}
use Rattle.dj_declarations.specs.trusted.Files.{desc_in}
use Rattle.dj_class_table.specs.Tables.{super_number}
use Rattle.dj_resolution.specs.Numbers.{method_found, most_above}
use Rattle.dj_resolution.proofs.Climbs.{IsClimbed}
use Rattle.dj_resolution.proofs.special.instance_method_above.Given as goal

-- nothing so far
abbrev pub invariant-loop : goal.invariant-loop
invariant-loop l = IsClimbed (method_found l.table is_not_static l.name (desc_in l.desc)) l.table most_above (super_number l.table l.class) l.counter l.next
