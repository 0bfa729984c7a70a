use Rattle.std.proofs.Common.{ℕ, List, ◌<◌, IfSome, length}
use Rattle.dj_model.specs.trusted.Linking.{any_method}
use Rattle.dj_declarations.specs.trusted.Files.{desc_in}
use Rattle.dj_resolution.specs.Numbered.{AreTexts}
use Rattle.dj_resolution.specs.Numbers.{method_found}
use Rattle.dj_resolution.proofs.Finding.{IsWalked}
use Rattle.dj_resolution.proofs.find_numbered.method_up_by_class.Given as goal

-- nothing so far
abbrev pub invariant-loop : goal.invariant-loop
invariant-loop l = (IfSome l.next (λ k. k < length l.directory.program)) × ((n d : List ℕ) → AreTexts l.directory l.name l.desc n d → IsWalked (method_found l.directory.program any_method n (desc_in d)) l.directory.program l.class l.counter l.next)
