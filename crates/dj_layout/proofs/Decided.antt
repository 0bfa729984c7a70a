-- Well-formed code has a layout, or a first fault: one of them is always there.
use Rattle.std.proofs.Common.{◌≡◌, ℕ, zero, suc, ◌+◌, ◌<◌, ◌≤◌, ◌⊎◌, inl, inr, ℤ, pos, negsuc, List, [], ◌∷◌, length, take, FitsSigned, refl, subst, arith}
use Rattle.std.specs.List.{flat_map, AllByRecursion}
use Rattle.std.specs.Int.{w16, w32}
use Rattle.std.proofs.lemmas.Bool.{cases_lt}
use Rattle.std.proofs.lemmas.Int.{ints}
use Rattle.dj_ops.specs.declared.instruction.Instr.{Instr}
use Rattle.dj_ops.specs.declared.instruction.Instr.TheVariants as instrs
use Rattle.dj_ops.specs.trusted.Forms.{OperandForm, ShortOffset, LongOffset, form_of}
use Rattle.dj_ops.specs.trusted.Instructions.{IsOffset, IsFar, AreOffsets, offset, length_at}
use Rattle.dj_labels.specs.declared.labelled.Labelled.{Labelled}
use Rattle.dj_labels.specs.Labels.{IsWellFormed}
use Rattle.dj_labels.specs.Faults.{IsFirstWithout}
use Rattle.dj_layout.specs.declared.errors.LayError.TheVariants as errors
use Rattle.dj_layout.specs.trusted.Places.{starts_from, end_from}
use Rattle.dj_layout.specs.trusted.Layouts.{placed, placed_bytes, most_bytes}
use Rattle.dj_layout.specs.trusted.Faults.{Reaches}
use Rattle.dj_layout.specs.Laws.{HasLayout, HasFault, LayoutOrFault}
use Rattle.dj_layout.proofs.Laying.{rows_with, laid_out}

abbrev Is : Type 0 → Type 0
Is P = P ⊎ (P → ⊥)

-- ---- which offsets fit

fits_short : (z : ℤ) → Is (FitsSigned w16 z)
fits_short (pos n) = elim (cases_lt n 32768) [ inl lt ↦ inl (omega (arith, ints, lt)) | inr ge ↦ inr (λ h. omega (arith, ints, ge, h)) ]
fits_short (negsuc n) = elim (cases_lt n 32768) [ inl lt ↦ inl (omega (arith, ints, lt)) | inr ge ↦ inr (λ h. omega (arith, ints, ge, h)) ]

fits_long : (z : ℤ) → Is (FitsSigned w32 z)
fits_long (pos n) = elim (cases_lt n 2147483648) [ inl lt ↦ inl (omega (arith, ints, lt)) | inr ge ↦ inr (λ h. omega (arith, ints, ge, h)) ]
fits_long (negsuc n) = elim (cases_lt n 2147483648) [ inl lt ↦ inl (omega (arith, ints, lt)) | inr ge ↦ inr (λ h. omega (arith, ints, ge, h)) ]

fits_form : (form : OperandForm) (z : ℤ) → Is (IsOffset form z)
fits_form ShortOffset z = fits_short z
fits_form LongOffset z = fits_long z
fits_form _ z = inr (λ h. absurd h)

each : {X : Type 0} (P : X → Type 0) → ((x : X) → Is (P x)) → (xs : List X) → Is (AllByRecursion P xs)
each P is [] = inl tt
each P is (x ∷ xs) = elim (is x) [
  | inl here ↦ elim (each P is xs) [ inl rest ↦ inl (here, rest) | inr none ↦ inr (λ all. none all.1) ]
  | inr none ↦ inr (λ all. none all.0)
]

both : {P Q : Type 0} → Is P → Is Q → Is (P × Q)
both (inl p) (inl q) = inl (p, q)
both (inl p) (inr none) = inr (λ h. none h.1)
both (inr none) q = inr (λ h. none h.0)

reaches : (at : ℕ) (instr : Instr) → Is (AreOffsets at instr)
reaches at (instrs.Branch op target) = fits_form (form_of op) (offset at target)
reaches at (instrs.Table low default targets) = both (fits_long (offset at default)) (each (IsFar at) (λ target. fits_long (offset at target)) targets)
reaches at (instrs.Lookup default pairs) = both (fits_long (offset at default)) (each (λ pair. IsFar at pair.1) (λ pair. fits_long (offset at pair.1)) pairs)
reaches at _ = inl tt

-- ---- the first of a list

record Without {X : Type 0} (P : X → Type 0) (xs : List X) : Type 0 where
  pub number : ℕ
  pub item : X
  pub first : IsFirstWithout P xs number item

first_without : {X : Type 0} (P : X → Type 0) → ((x : X) → Is (P x)) → (xs : List X) → AllByRecursion P xs ⊎ Without P xs
first_without P is [] = inl tt
first_without P is (x ∷ xs) = elim (is x) [
  | inl here ↦ elim (first_without P is xs) [
    | inl rest ↦ inl (here, rest)
    | inr w ↦ inr (record { number = suc w.number; item = w.item; first = record { found = w.first.found; lacks = w.first.lacks; before = (here, w.first.before) } })
  ]
  | inr lacks ↦ inr (record { number = 0; item = x; first = record { found = refl; lacks = lacks; before = tt } })
]

record Past (at : ℕ) (instrs : List Instr) : Type 0 where
  pub number : ℕ
  pub within : number < length instrs
  pub before : end_from at (take number instrs) ≤ most_bytes
  pub past : most_bytes < end_from at (take (suc number) instrs)

first_past : (at : ℕ) (instrs : List Instr) → at ≤ most_bytes → (end_from at instrs ≤ most_bytes) ⊎ Past at instrs
first_past at [] le = inl le
first_past at (i ∷ is) le = elim (cases_lt most_bytes (at + length_at at i)) [
  | inl past ↦ inr (record { number = zero; within = omega arith; before = le; past = past })
  | inr short ↦ elim (first_past (at + length_at at i) is short) [
    | inl all ↦ inl all
    | inr p ↦ inr (record { number = suc p.number; within = omega (arith, p.within); before = p.before; past = p.past })
  ]
]

-- ---- all of it

after_places : (labelled : Labelled) → IsWellFormed labelled → end_from 0 labelled.code ≤ most_bytes → HasLayout labelled ⊎ HasFault labelled
after_places labelled formed short =
    let starts : List ℕ = starts_from 0 labelled.code in
    let size : ℕ = end_from 0 labelled.code in
    let bytes : List ℕ = flat_map placed_bytes (placed starts labelled.code) in
    elim (first_without Reaches (λ p. reaches p.0 p.1) (placed starts labelled.code)) [
      | inr w ↦ inr (record { error = errors.Far w.number; cause = record { short = short; jump = w.item; first = w.first } })
      | inl reach ↦ inl (record {
        laid = record { code = bytes; starts = starts; table = rows_with starts size labelled };
        is = laid_out labelled starts size bytes (rows_with starts size labelled) formed (record { starts_are = refl; end_is = refl; short = short }) (record { bytes_are = refl; reach = reach }) refl;
      })
    ]

pub layout_or_fault_is : LayoutOrFault
layout_or_fault_is labelled formed =
    elim (first_past 0 labelled.code (omega arith)) [
      | inl short ↦ after_places labelled formed short
      | inr p ↦
          let more : suc p.number ≡ p.number + 1 = omega arith in
          inr (record {
            error = errors.TooLong p.number;
            cause = record { within = p.within; before = p.before; past = subst (λ (n : ℕ). most_bytes < end_from 0 (take n labelled.code)) more p.past };
          })
    ]
