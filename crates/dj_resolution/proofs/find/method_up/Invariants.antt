use Rattle.dj_model.specs.trusted.Linking.{any_method}
use Rattle.dj_declarations.specs.trusted.Files.{desc_in}
use Rattle.dj_resolution.specs.Numbers.{method_found}
use Rattle.dj_resolution.proofs.Finding.{IsWalked}
use Rattle.dj_resolution.proofs.find.method_up.Given as goal

-- nothing so far
abbrev pub invariant-loop : goal.invariant-loop
invariant-loop l = IsWalked (method_found l.table any_method l.name (desc_in l.desc)) l.table l.class l.counter l.next
