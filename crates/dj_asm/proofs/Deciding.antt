-- What can be decided, and that it can be decided whether an instruction is proper.
use Rattle.std.proofs.Common.{◌≡◌, ℕ, ◌^◌, ◌<◌, ◌≤◌, ◌⊎◌, inl, inr, Bool, true, false, ℤ, pos, negsuc, ◌+ℤ◌, ◌-ℤ◌, FitsSigned, List, [], ◌∷◌, length, refl, arith}
use Rattle.std.specs.List.{AllByRecursion}
use Rattle.std.specs.Int.{w8, w16, w32}
use Rattle.std.proofs.lemmas.Bool.{cases_lt, false≢true}
use Rattle.std.proofs.lemmas.Int.{ints}
use Rattle.dj_ops.specs.declared.instruction.Instr.{Instr}
use Rattle.dj_ops.specs.declared.instruction.Instr.TheVariants as instrs
use Rattle.dj_ops.specs.trusted.Forms.{OperandForm, Bare, SignedByte, SignedShort, ShortLiteral, LongLiteral, Slot, ShortOffset, LongOffset, MemberIndex, ClassIndex, form_of}
use Rattle.dj_ops.specs.trusted.Instructions.{IsPushed, IsOffset, IsLiteral, IsLocal, IsIncrement, IsTable, IsLookup, IsProper, IsFar, AreOffsets, offset}
use Rattle.dj_ops.specs.trusted.Lookups.{rises}
use Rattle.dj_ops.proofs.Rising.{rising_from, rises_if}

abbrev pub Is : Type 0 → Type 0
Is P = P ⊎ (P → ⊥)

-- what is decided holds where it isn't refused
pub stable : {P : Type 0} → Is P → ((P → ⊥) → ⊥) → P
stable (inl p) h = p
stable (inr none) h = absurd (h none)

pub both : {P Q : Type 0} → Is P → Is Q → Is (P × Q)
both (inl p) (inl q) = inl (p, q)
both (inl p) (inr none) = inr (λ h. none h.1)
both (inr none) q = inr (λ h. none h.0)

pub either : {P Q : Type 0} → Is P → Is Q → Is (P ⊎ Q)
either (inl p) q = inl (inl p)
either (inr none) (inl q) = inl (inr q)
either {P = P} {Q = Q} (inr none) (inr nor) = inr (λ h. neither h) where
  neither : P ⊎ Q → ⊥
  neither (inl p) = none p
  neither (inr q) = nor q

pub not_so : {P : Type 0} → Is P → Is (P → ⊥)
not_so (inl p) = inr (λ none. none p)
not_so (inr none) = inl none

pub either_way : {P Q : Type 0} → (P → Q) → (Q → P) → Is P → Is Q
either_way to from (inl p) = inl (to p)
either_way to from (inr none) = inr (λ q. none (from q))

pub each : {X : Type 0} (P : X → Type 0) → ((x : X) → Is (P x)) → (xs : List X) → Is (AllByRecursion P xs)
each P is [] = inl tt
each P is (x ∷ xs) = both (is x) (each P is xs)

pub below : (m n : ℕ) → Is (m < n)
below m n = elim (cases_lt m n) [ inl lt ↦ inl lt | inr ge ↦ inr (λ lt. omega (arith, ge, lt)) ]

pub at_most : (m n : ℕ) → Is (m ≤ n)
at_most m n = elim (cases_lt n m) [ inl lt ↦ inr (λ le. omega (arith, le, lt)) | inr le ↦ inl le ]

pub so : (b : Bool) → Is (b ≡ true)
so true = inl refl
so false = inr (λ e. false≢true e)

-- ---- numbers

fits_byte : (z : ℤ) → Is (FitsSigned w8 z)
fits_byte (pos n) = elim (cases_lt n 128) [ inl lt ↦ inl (omega (arith, ints, lt)) | inr ge ↦ inr (λ h. omega (arith, ints, ge, h)) ]
fits_byte (negsuc n) = elim (cases_lt n 128) [ inl lt ↦ inl (omega (arith, ints, lt)) | inr ge ↦ inr (λ h. omega (arith, ints, ge, h)) ]

fits_short : (z : ℤ) → Is (FitsSigned w16 z)
fits_short (pos n) = elim (cases_lt n 32768) [ inl lt ↦ inl (omega (arith, ints, lt)) | inr ge ↦ inr (λ h. omega (arith, ints, ge, h)) ]
fits_short (negsuc n) = elim (cases_lt n 32768) [ inl lt ↦ inl (omega (arith, ints, lt)) | inr ge ↦ inr (λ h. omega (arith, ints, ge, h)) ]

fits_int : (z : ℤ) → Is (FitsSigned w32 z)
fits_int (pos n) = elim (cases_lt n 2147483648) [ inl lt ↦ inl (omega (arith, ints, lt)) | inr ge ↦ inr (λ h. omega (arith, ints, ge, h)) ]
fits_int (negsuc n) = elim (cases_lt n 2147483648) [ inl lt ↦ inl (omega (arith, ints, lt)) | inr ge ↦ inr (λ h. omega (arith, ints, ge, h)) ]

below_byte : (n : ℕ) → Is (n < 2 ^ 8)
below_byte n = elim (cases_lt n 256) [ inl lt ↦ inl (omega (arith, lt)) | inr ge ↦ inr (λ lt. omega (arith, ge, lt)) ]

pub below_short : (n : ℕ) → Is (n < 2 ^ 16)
below_short n = elim (cases_lt n 65536) [ inl lt ↦ inl (omega (arith, lt)) | inr ge ↦ inr (λ lt. omega (arith, ge, lt)) ]

below_half : (n : ℕ) → Is (n < 2 ^ 31)
below_half n = elim (cases_lt n 2147483648) [ inl lt ↦ inl (omega (arith, lt)) | inr ge ↦ inr (λ lt. omega (arith, ge, lt)) ]

-- ---- forms

is_bare : (form : OperandForm) → Is (form ≡ Bare)
is_bare Bare = inl refl
is_bare form = inr (λ e. absurd cc)

is_slot : (form : OperandForm) → Is (form ≡ Slot)
is_slot Slot = inl refl
is_slot form = inr (λ e. absurd cc)

is_short_offset : (form : OperandForm) → Is (form ≡ ShortOffset)
is_short_offset ShortOffset = inl refl
is_short_offset form = inr (λ e. absurd cc)

is_long_offset : (form : OperandForm) → Is (form ≡ LongOffset)
is_long_offset LongOffset = inl refl
is_long_offset form = inr (λ e. absurd cc)

is_member : (form : OperandForm) → Is (form ≡ MemberIndex)
is_member MemberIndex = inl refl
is_member form = inr (λ e. absurd cc)

is_class : (form : OperandForm) → Is (form ≡ ClassIndex)
is_class ClassIndex = inl refl
is_class form = inr (λ e. absurd cc)

pushed : (form : OperandForm) (z : ℤ) → Is (IsPushed form z)
pushed SignedByte z = fits_byte z
pushed SignedShort z = fits_short z
pushed form z = inr (λ h. absurd h)

literal : (form : OperandForm) (index : ℕ) → Is (IsLiteral form index)
literal ShortLiteral index = below_byte index
literal LongLiteral index = below_short index
literal form index = inr (λ h. absurd h)

offset_fits : (form : OperandForm) (z : ℤ) → Is (IsOffset form z)
offset_fits ShortOffset z = fits_short z
offset_fits LongOffset z = fits_int z
offset_fits form z = inr (λ h. absurd h)

-- ---- instructions

local : (slot : ℕ) (wide : Bool) → Is (IsLocal slot wide)
local slot false = below_byte slot
local slot true = below_short slot

increment : (by : ℤ) (wide : Bool) → Is (IsIncrement by wide)
increment by false = fits_byte by
increment by true = fits_short by

table : (low : ℤ) (targets : List ℤ) → Is (IsTable low targets)
table low targets =
    either_way (λ (h : (0 < length targets) × (FitsSigned w32 low × FitsSigned w32 (low +ℤ pos (length targets) -ℤ pos 1))). record { some = h.0; low_fits = h.1.0; high_fits = h.1.1 })
    (λ t. (t.some, (t.low_fits, t.high_fits)))
    (both (below 0 (length targets)) (both (fits_int low) (fits_int (low +ℤ pos (length targets) -ℤ pos 1))))

lookup : (pairs : List (ℤ × ℤ)) → Is (IsLookup pairs)
lookup pairs =
    either_way (λ (h : (length pairs < 2 ^ 31) × (AllByRecursion (λ (pair : ℤ × ℤ). FitsSigned w32 pair.0) pairs × (rises pairs ≡ true))). record { count = h.0; matches = h.1.0; rising = rising_from pairs h.1.1 })
    (λ t. (t.count, (t.matches, rises_if pairs t.rising)))
    (both (below_half (length pairs)) (both (each (λ (pair : ℤ × ℤ). FitsSigned w32 pair.0) (λ pair. fits_int pair.0) pairs) (so (rises pairs))))

-- an instruction is proper or it isn't
pub proper_or_not : (instr : Instr) → Is (IsProper instr)
proper_or_not (instrs.Simple op) = is_bare (form_of op)
proper_or_not (instrs.Push op value) = pushed (form_of op) value
proper_or_not (instrs.Literal op index) = literal (form_of op) index
proper_or_not (instrs.Local op slot wide) = both (is_slot (form_of op)) (local slot wide)
proper_or_not (instrs.Inc slot by wide) = both (local slot wide) (increment by wide)
proper_or_not (instrs.Branch op target) = either (is_short_offset (form_of op)) (is_long_offset (form_of op))
proper_or_not (instrs.Table low default targets) = table low targets
proper_or_not (instrs.Lookup default pairs) = lookup pairs
proper_or_not (instrs.Member op index) = both (is_member (form_of op)) (below_short index)
proper_or_not (instrs.Interface index count) = elim (both (below_short index) (both (below 0 count) (below_byte count))) [
  | inl h ↦ inl (h.0, h.1.0, h.1.1)
  | inr none ↦ inr (λ h. none (h.0, (h.1, h.2)))
]
proper_or_not (instrs.Dynamic index) = below_short index
proper_or_not (instrs.Class op index) = both (is_class (form_of op)) (below_short index)
proper_or_not (instrs.Array base) = both (at_most 4 base) (at_most base 11)
proper_or_not (instrs.Multi index dims) = elim (both (below_short index) (both (below 0 dims) (below_byte dims))) [
  | inl h ↦ inl (h.0, h.1.0, h.1.1)
  | inr none ↦ inr (λ h. none (h.0, (h.1, h.2)))
]

-- the offsets of an instruction fit or they don't
pub offsets_or_not : (at : ℕ) (instr : Instr) → Is (AreOffsets at instr)
offsets_or_not at (instrs.Branch op target) = offset_fits (form_of op) (offset at target)
offsets_or_not at (instrs.Table low default targets) = both (fits_int (offset at default)) (each (IsFar at) (λ target. fits_int (offset at target)) targets)
offsets_or_not at (instrs.Lookup default pairs) = both (fits_int (offset at default)) (each (λ (pair : ℤ × ℤ). IsFar at pair.1) (λ pair. fits_int (offset at pair.1)) pairs)
offsets_or_not at instr = inl tt
