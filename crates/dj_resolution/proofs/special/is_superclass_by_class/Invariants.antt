use Rattle.std.proofs.Common.{nat_eq}
use Rattle.dj_class_table.specs.Tables.{super_number}
use Rattle.dj_resolution.specs.Numbers.{most_above}
use Rattle.dj_resolution.proofs.Climbs.{IsClimbed}
use Rattle.dj_resolution.proofs.Subclasses.{where_so}
use Rattle.dj_resolution.proofs.special.is_superclass_by_class.Given as goal

-- it is none so far
abbrev pub invariant-loop : goal.invariant-loop
invariant-loop l = IsClimbed (λ k. where_so l.other (nat_eq k l.other)) l.table most_above (super_number l.table l.class) l.counter l.next
