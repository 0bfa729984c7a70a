-- Lines of the rules 17 and 18 by plain values: where they stand, and what silences them.
use Rattle.std.proofs.Common.{◌≡◌, ℕ, ◌⊎◌, List, [], ◌∷◌, length, refl, ap, inl, inr, arith, codes, Contains}
use Rattle.dj_ops.specs.declared.instruction.Instr.TheVariants as instrs
use Rattle.dj_ops.specs.Mnemonics.{nop, ldc, return, checkcast}
use Rattle.dj_pool.specs.trusted.Pool.{Constant, Utf8, Class}
use Rattle.dj_labels.specs.declared.labelled.Protected.{Protected}
use Rattle.dj_labels.specs.declared.labelled.Labelled.{Labelled}
use Rattle.dj_report.proofs.Sorted.{contains_none, contains_cases}
use Rattle.dj_names.specs.trusted.Types.{Name}
use Rattle.dj_model.specs.trusted.Program.{Program}
use Rattle.dj_declarations.specs.trusted.Files.{type_in}
use Rattle.dj_early_rules.specs.trusted.Classes.{BeginsWith, IsReserved}
use Rattle.dj_early_rules.specs.trusted.Methods.{CatchesError}
use Rattle.dj_link_rules.specs.trusted.Foreign.{IsOfLibrary}
use Rattle.dj_link_rules.specs.trusted.Lines.{IsFirstOf, LinkViolates, HandlerLinkViolates}
use Rattle.dj_link_rules.proofs.RuleNumbers.{catch_reported}

-- ---- the packages of rule 17: of all names, those that rule 4 reserves, other than the sandbox's

library_reserved : (name : Name) → IsOfLibrary name → IsReserved name
library_reserved name is = inr is

reserved_library : (name : Name) → IsReserved name → BeginsWith name (codes "sandbox/") ⊎ IsOfLibrary name
reserved_library name is = is

-- ---- what silences

-- rule 17 silences rule 18
silenced : (Foreign Unlinked : Type 0) → Foreign → IsFirstOf Foreign Unlinked 18 → ⊥
silenced Foreign Unlinked is (inl first) = (let e = first.1 in absurd (omega (arith, e)))
silenced Foreign Unlinked is (inr other) = other.0 is

no_other : (Foreign Unlinked : Type 0) (rule : ℕ) → IsFirstOf Foreign Unlinked rule → (rule ≡ 17) ⊎ (rule ≡ 18)
no_other Foreign Unlinked rule (inl first) = inl first.1
no_other Foreign Unlinked rule (inr other) = inr other.2

-- 2 is the class E, which isn't there
pool : List Constant
pool = Utf8 (codes "E") ∷ Class 1 ∷ []

-- ldc of a class is reported by rule 10 alone
reflected : (program : Program) (own : Name) (rule : ℕ) → LinkViolates program own pool (instrs.Literal ldc 2) rule → ⊥
unfolding pool
reflected program own rule v = v.0 10 (inr (inl (inl (refl, tt), refl)))

-- checkcast isn't
cast_unreported : (rule : ℕ) → LinkViolates [] (codes "D") pool (instrs.Class checkcast 2) rule → (rule ≡ 17) ⊎ (rule ≡ 18)
cast_unreported rule v = no_other _ _ rule v.1

-- ---- where a handler's line stands

range : Protected
range = record { start = 0; end = 1; handler = 1; catch_type = 2 }

labelled : Labelled
labelled = record { code = instrs.Simple nop ∷ instrs.Simple return ∷ []; ranges = range ∷ [] }

no_error : CatchesError pool 2 → ⊥
unfolding pool
no_error (inl e) = (let few : 1 ≡ 21 = ap (λ (t : List ℕ). length t) e in absurd (omega (arith, few)))
no_error (inr (inl e)) = (let few : 1 ≡ 29 = ap (λ (t : List ℕ). length t) e in absurd (omega (arith, few)))
no_error (inr (inr (inl e))) = (let few : 1 ≡ 28 = ap (λ (t : List ℕ). length t) e in absurd (omega (arith, few)))
no_error (inr (inr (inr e))) = (let few : 1 ≡ 26 = ap (λ (t : List ℕ). length t) e in absurd (omega (arith, few)))

handler_line : HandlerLinkViolates [] pool labelled 1 18
unfolding pool range labelled type_in
handler_line = record { range = range; own = (0, omega arith, refl); begins = refl; such = (no_error, catch_reported [] pool 2 18 refl (λ e. absurd (omega (arith, e)))) }

only_range : (r : Protected) → Contains (range ∷ []) r → range ≡ r
only_range r m = elim (contains_cases range [] r m) [ inl is ↦ is | inr none ↦ absurd (contains_none r none) ]

-- not at the start of its range
start_not : (program : Program) (rule : ℕ) → HandlerLinkViolates program pool labelled 0 rule → ⊥
unfolding range labelled
start_not program rule v =
    let handler : 1 ≡ v.range.handler = ap (λ (r : Protected). r.handler) (only_range v.range v.own) in
    let begins = v.begins in
    absurd (omega (arith, handler, begins))
