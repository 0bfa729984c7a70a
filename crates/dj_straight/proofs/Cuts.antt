-- Code is cut into straight instructions in one way at most, and the instructions from its begin say whether it is.
use Rattle.std.proofs.Common.{◌≡◌, ℕ, ◌<◌, List, [], ◌∷◌, ◌++◌, length, All, Result, Ok, Err, IsErrOf, refl, sym, ap₂, subst, ◌∙◌, arith, inl, inr}
use Rattle.std.specs.List.{AllByRecursion}
use Rattle.std.proofs.lemmas.List.Elements.{All-from_recursion}
use Rattle.dj_ops.specs.declared.instruction.Instr.{Instr}
use Rattle.dj_ops.specs.declared.read.OpError.{OpError}
use Rattle.dj_ops.specs.declared.read.OpError.TheVariants as errors
use Rattle.dj_ops.specs.trusted.Instructions.{IsProper, Stands}
use Rattle.dj_ops.specs.Refusals.{Yields}
use Rattle.dj_straight.specs.trusted.StraightInstrs.{IsStraight, IsStraightAt}
use Rattle.dj_straight.specs.trusted.Cuts.{AreInstructions}
use Rattle.dj_ops.proofs.Whole.{one_at}

-- ---- one way at most

-- at an address stands one straight instruction at most
one_straight : (code : List ℕ) (at m n : ℕ) (a b : Instr) → IsStraightAt code at a m → IsStraightAt code at b n → (a ≡ b) × (m ≡ n)
one_straight code at m n a b s t = one_at code at m n a b s.stands t.stands

-- nothing stands at the end
pub none_past : {P : Type 0} {code : List ℕ} {at next : ℕ} {instr : Instr} → at ≡ length code → IsStraightAt code at instr next → P
none_past e s = absurd (omega (arith, e, s.stands.later, s.stands.within))

pub one_cut_from : (code : List ℕ) (at : ℕ) (a b : List Instr) → AreInstructions code at a → AreInstructions code at b → a ≡ b
one_cut_from code at [] [] p q = refl
one_cut_from code at [] (b ∷ more) p q = none_past p q.1
one_cut_from code at (a ∷ others) [] p q = none_past q p.1
one_cut_from code at (a ∷ others) (b ∷ more) p q =
    let same = one_straight code at p.0 q.0 a b p.1 q.1 in
    let rest : AreInstructions code p.0 more = subst (λ (n : ℕ). AreInstructions code n more) (sym same.1) q.2 in
    ap₂ (λ (x : Instr) (xs : List Instr). x ∷ xs) same.0 (one_cut_from code p.0 others more p.2 rest)

-- ---- each of them is straight

pub all_straight : (code : List ℕ) (at : ℕ) (instrs : List Instr) → AreInstructions code at instrs → AllByRecursion (λ i. IsStraight i × IsProper i) instrs
all_straight code at [] p = tt
all_straight code at (instr ∷ instrs) p = ((p.1.straight, p.1.stands.proper), all_straight code p.0 instrs p.2)

pub cut_is_straight : (code : List ℕ) (at : ℕ) (instrs : List Instr) → AreInstructions code at instrs → All (λ i. IsStraight i × IsProper i) instrs
cut_is_straight code at instrs p = All-from_recursion (λ i. IsStraight i × IsProper i) instrs (all_straight code at instrs p)

-- ---- a part of the code

-- from this address on the code is these instructions, up to the other address
abbrev pub AreUpTo : List ℕ → ℕ → List Instr → ℕ → Type 0
AreUpTo code at [] end = at ≡ end
AreUpTo code at (instr ∷ instrs) end = (next : ℕ) × IsStraightAt code at instr next × AreUpTo code next instrs end

pub up_to_next : (code : List ℕ) (at : ℕ) (instrs : List Instr) (end : ℕ) (instr : Instr) (next : ℕ) → AreUpTo code at instrs end → IsStraightAt code end instr next → AreUpTo code at (instrs ++ instr ∷ []) next
up_to_next code at [] end instr next p s = (next, subst (λ (n : ℕ). IsStraightAt code n instr next) (sym p) s, refl)
up_to_next code at (i ∷ instrs) end instr next p s = (p.0, p.1, up_to_next code p.0 instrs end instr next p.2 s)

pub up_to_end : (code : List ℕ) (at : ℕ) (instrs : List Instr) (end : ℕ) → AreUpTo code at instrs end → end ≡ length code → AreInstructions code at instrs
up_to_end code at [] end p e = p ∙ e
up_to_end code at (i ∷ instrs) end p e = (p.0, p.1, up_to_end code p.0 instrs end p.2 e)

abbrev refused : OpError → Result (Instr × ℕ) OpError
refused e = Err e

-- no straight instruction stands at the address
abbrev pub IsNoneAt : List ℕ → ℕ → Type 0
IsNoneAt code at = (instr : Instr) (next : ℕ) → IsStraightAt code at instr next → ⊥

-- code in which they stop before its end is not cut into instructions
pub up_to_none : (code : List ℕ) (at : ℕ) (instrs : List Instr) (end : ℕ) → AreUpTo code at instrs end → end < length code → IsNoneAt code end → (others : List Instr) → AreInstructions code at others → ⊥
up_to_none code at [] end p lt none [] q = omega (arith, p, q, lt)
up_to_none code at [] end p lt none (o ∷ others) q = none o q.0 (subst (λ (n : ℕ). IsStraightAt code n o q.0) p q.1)
up_to_none code at (i ∷ instrs) end p lt none [] q = none_past q p.1
up_to_none code at (i ∷ instrs) end p lt none (o ∷ others) q =
    let same = one_straight code at p.0 q.0 i o p.1 q.1 in
    up_to_none code p.0 instrs end p.2 lt none others (subst (λ (n : ℕ). AreInstructions code n others) (sym same.1) q.2)

memory_is : (e : OpError) → IsErrOf (refused e) errors.Memory → e ≡ errors.Memory
memory_is e h = cc

-- where another instruction stands, no straight one does
pub other_says : (code : List ℕ) (at : ℕ) (instr : Instr) (next : ℕ) → Stands code at instr next → (IsStraight instr → ⊥) → IsNoneAt code at
other_says code at instr next s other i n t = other (subst IsStraight (one_at code at n next i instr t.stands s).0 t.straight)

-- where the reader refuses for another reason than memory, nothing stands
pub refusal_says : (code : List ℕ) (at : ℕ) (e : OpError) → (e ≡ errors.Memory → ⊥) → ((instr : Instr) (next : ℕ) → Stands code at instr next → Yields (Err e) (Ok (instr, next))) → IsNoneAt code at
refusal_says code at e other all instr next s =
    elim (all instr next s.stands) [
      | inl same ↦ absurd cc
      | inr memory ↦ other (memory_is e memory)
    ]
