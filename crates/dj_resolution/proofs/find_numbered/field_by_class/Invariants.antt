use Rattle.std.proofs.Common.{◌∷◌, ℕ, List, ◌<◌, IfSome, length}
use Rattle.dj_declarations.specs.trusted.Files.{desc_in}
use Rattle.dj_resolution.specs.Numbered.{AreTexts}
use Rattle.dj_resolution.specs.Numbers.{field_found, first_some, numbers_above}
use Rattle.dj_resolution.proofs.Finding.{IsWalked}
use Rattle.dj_resolution.proofs.find_numbered.field_by_class.Given as goal

-- nothing so far
abbrev pub invariant-loop : goal.invariant-loop
invariant-loop l = (IfSome l.next (λ k. k < length l.directory.program)) × ((n d : List ℕ) → AreTexts l.directory l.name l.desc n d → IsWalked (λ k. first_some (field_found l.directory.program n (desc_in d)) (k ∷ numbers_above l.directory.program k)) l.directory.program l.class l.counter l.next)
