use Rattle.dj_model.specs.trusted.Linking.{is_plain}
use Rattle.dj_declarations.specs.trusted.Files.{desc_in}
use Rattle.dj_resolution.specs.Numbers.{method_found, first_some, numbers_above}
use Rattle.dj_resolution.proofs.Finding.{IsWalked}
use Rattle.dj_resolution.proofs.find.plain_method_by_class.Given as goal

-- nothing so far
abbrev pub invariant-loop : goal.invariant-loop
invariant-loop l = IsWalked (λ k. first_some (method_found l.table is_plain l.name (desc_in l.desc)) (numbers_above l.table k)) l.table l.class l.counter l.next
