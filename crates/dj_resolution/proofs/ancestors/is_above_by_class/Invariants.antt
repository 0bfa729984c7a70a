use Rattle.std.proofs.Common.{◌∷◌}
use Rattle.dj_resolution.specs.Numbers.{has, numbers_above}
use Rattle.dj_resolution.proofs.Finding.{IsWalked}
use Rattle.dj_resolution.proofs.Subclasses.{where_so}
use Rattle.dj_resolution.proofs.ancestors.is_above_by_class.Given as goal

-- it is none so far
abbrev pub invariant-loop : goal.invariant-loop
invariant-loop l = IsWalked (λ k. where_so l.other (has (k ∷ numbers_above l.table k) l.other)) l.table l.class l.counter l.next
