use Rattle.std.proofs.Common.{◌∷◌}
use Rattle.dj_declarations.specs.trusted.Files.{desc_in}
use Rattle.dj_resolution.specs.Numbers.{field_found, first_some, numbers_above}
use Rattle.dj_resolution.proofs.Finding.{IsWalked}
use Rattle.dj_resolution.proofs.find.field_by_class.Given as goal

-- nothing so far
abbrev pub invariant-loop : goal.invariant-loop
invariant-loop l = IsWalked (λ k. first_some (field_found l.table l.name (desc_in l.desc)) (k ∷ numbers_above l.table k)) l.table l.class l.counter l.next
