-- Flags of classes, bit by bit (JVMS table 4.1-A): 0x0010 alone makes a class final, and 0x0200 alone an interface.
use Rattle.std.proofs.Common.{ℕ, [], Some, refl, codes}
use Rattle.dj_library.specs.trusted.Heads.{Head}
use Rattle.dj_hierarchy_rule.specs.trusted.Hierarchy.{IsFinal, IsInterface}

abbrev flagged : ℕ → Head
flagged flags = record { name = codes "A"; flags = flags; superclass = Some (codes "java/lang/Object"); interfaces = [] }

final : IsFinal (flagged 16) × IsFinal (flagged 65535)
final = (λ e. absurd cc, λ e. absurd cc)

-- without flags, with all others, and with the flag of either side
final_not : (IsFinal (flagged 0) → ⊥) × (IsFinal (flagged 65519) → ⊥) × (IsFinal (flagged 8) → ⊥) × (IsFinal (flagged 32) → ⊥)
final_not = (λ is. is refl, λ is. is refl, λ is. is refl, λ is. is refl)

interface : IsInterface (flagged 512) × IsInterface (flagged 65535)
interface = (λ e. absurd cc, λ e. absurd cc)

-- an abstract class is none
interface_not : (IsInterface (flagged 0) → ⊥) × (IsInterface (flagged 65023) → ⊥) × (IsInterface (flagged 256) → ⊥) × (IsInterface (flagged 1024) → ⊥)
interface_not = (λ is. is refl, λ is. is refl, λ is. is refl, λ is. is refl)
