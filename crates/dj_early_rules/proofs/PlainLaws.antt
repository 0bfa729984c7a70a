-- Plain instructions violate no rule.
use Rattle.std.proofs.Common.{◌≡◌, ℕ, Bool, true, false, not, ◌&&◌, nat_eq, ℤ, List, refl, inl, inr, IsTrue, ◌↔◌}
use Rattle.std.proofs.lemmas.Bool.{eq-eqb}
use Rattle.dj_ops.specs.declared.instruction.Instr.{Instr}
use Rattle.dj_ops.specs.declared.instruction.Instr.TheVariants as instrs
use Rattle.dj_pool.specs.trusted.Pool.{Constant}
use Rattle.dj_report.specs.Lines.{Gains}
use Rattle.dj_report.proofs.Adding.{adds_nothing}
use Rattle.dj_early_rules.specs.declared.marks.MarkPlace.{MarkPlace}
use Rattle.dj_early_rules.specs.declared.marks.Mark.{Mark}
use Rattle.dj_early_rules.specs.trusted.Opcodes.{is_float_op, is_subroutine_jump}
use Rattle.dj_early_rules.specs.Instructions.{is_plain}
use Rattle.dj_early_rules.specs.trusted.Methods.{InstrViolates}
use Rattle.dj_early_rules.specs.Marks.{MarksAt}

-- neither of the two is so
neither : (a b : Bool) → (not a && not b) ≡ true → (a ≡ false) × (b ≡ false)
neither true b e = absurd cc
neither false true e = absurd cc
neither false false e = (refl, refl)

never : (b : Bool) → b ≡ true → b ≡ false → ⊥
never true t f = absurd cc
never false t f = absurd cc

not_other : (op n : ℕ) → op ≡ n → nat_eq op n ≡ false → ⊥
not_other op n is other = never (nat_eq op n) (eq-eqb op n is) other

-- an instruction that names no constant is not of REFLECTION
simple : (pool : List Constant) (op rule : ℕ) → is_float_op op ≡ false → nat_eq op 202 ≡ false → InstrViolates pool (instrs.Simple op) rule → ⊥
simple pool op rule float break (inl is) = is.0
simple pool op rule float break (inr (inl (inl pushes, e))) = pushes
simple pool op rule float break (inr (inl (inr (inl names), e))) = names
simple pool op rule float break (inr (inl (inr (inr names), e))) = names
simple pool op rule float break (inr (inr (inl is))) = never (is_float_op op) is.0 float
simple pool op rule float break (inr (inr (inr (inl is)))) = is.0
simple pool op rule float break (inr (inr (inr (inr (inl is))))) = not_other op 202 is.0 break
simple pool op rule float break (inr (inr (inr (inr (inr is))))) = is.0

push : (pool : List Constant) (op : ℕ) (value : ℤ) (rule : ℕ) → InstrViolates pool (instrs.Push op value) rule → ⊥
push pool op value rule (inl is) = is.0
push pool op value rule (inr (inl (inl pushes, e))) = pushes
push pool op value rule (inr (inl (inr (inl names), e))) = names
push pool op value rule (inr (inl (inr (inr names), e))) = names
push pool op value rule (inr (inr (inl is))) = is.0
push pool op value rule (inr (inr (inr (inl is)))) = is.0
push pool op value rule (inr (inr (inr (inr (inl is))))) = is.0
push pool op value rule (inr (inr (inr (inr (inr is))))) = is.0

local : (pool : List Constant) (op slot : ℕ) (wide : Bool) (rule : ℕ) → is_float_op op ≡ false → nat_eq op 169 ≡ false → InstrViolates pool (instrs.Local op slot wide) rule → ⊥
local pool op slot wide rule float ret (inl is) = is.0
local pool op slot wide rule float ret (inr (inl (inl pushes, e))) = pushes
local pool op slot wide rule float ret (inr (inl (inr (inl names), e))) = names
local pool op slot wide rule float ret (inr (inl (inr (inr names), e))) = names
local pool op slot wide rule float ret (inr (inr (inl is))) = never (is_float_op op) is.0 float
local pool op slot wide rule float ret (inr (inr (inr (inl is)))) = not_other op 169 is.0 ret
local pool op slot wide rule float ret (inr (inr (inr (inr (inl is))))) = is.0
local pool op slot wide rule float ret (inr (inr (inr (inr (inr is))))) = is.0

increment : (pool : List Constant) (slot : ℕ) (by : ℤ) (wide : Bool) (rule : ℕ) → InstrViolates pool (instrs.Inc slot by wide) rule → ⊥
increment pool slot by wide rule (inl is) = is.0
increment pool slot by wide rule (inr (inl (inl pushes, e))) = pushes
increment pool slot by wide rule (inr (inl (inr (inl names), e))) = names
increment pool slot by wide rule (inr (inl (inr (inr names), e))) = names
increment pool slot by wide rule (inr (inr (inl is))) = is.0
increment pool slot by wide rule (inr (inr (inr (inl is)))) = is.0
increment pool slot by wide rule (inr (inr (inr (inr (inl is))))) = is.0
increment pool slot by wide rule (inr (inr (inr (inr (inr is))))) = is.0

branch : (pool : List Constant) (op : ℕ) (target : ℤ) (rule : ℕ) → is_subroutine_jump op ≡ false → InstrViolates pool (instrs.Branch op target) rule → ⊥
branch pool op target rule plain (inl is) = is.0
branch pool op target rule plain (inr (inl (inl pushes, e))) = pushes
branch pool op target rule plain (inr (inl (inr (inl names), e))) = names
branch pool op target rule plain (inr (inl (inr (inr names), e))) = names
branch pool op target rule plain (inr (inr (inl is))) = is.0
branch pool op target rule plain (inr (inr (inr (inl is)))) = never (is_subroutine_jump op) is.0 plain
branch pool op target rule plain (inr (inr (inr (inr (inl is))))) = is.0
branch pool op target rule plain (inr (inr (inr (inr (inr is))))) = is.0

is_not : (b : Bool) → not b ≡ true → b ≡ false
is_not true e = absurd cc
is_not false e = refl

violates_none : (pool : List Constant) (instr : Instr) (rule : ℕ) → is_plain instr ≡ true → InstrViolates pool instr rule → ⊥
violates_none pool (instrs.Simple op) rule plain v =
    let both = neither (is_float_op op) (nat_eq op 202) plain in simple pool op rule both.0 both.1 v
violates_none pool (instrs.Push op value) rule plain v = push pool op value rule v
violates_none pool (instrs.Literal op index) rule plain v = absurd cc
violates_none pool (instrs.Local op slot wide) rule plain v =
    let both = neither (is_float_op op) (nat_eq op 169) plain in local pool op slot wide rule both.0 both.1 v
violates_none pool (instrs.Inc slot by wide) rule plain v = increment pool slot by wide rule v
violates_none pool (instrs.Branch op target) rule plain v = branch pool op target rule (is_not (is_subroutine_jump op) plain) v
violates_none pool (instrs.Table low default targets) rule plain v = absurd cc
violates_none pool (instrs.Lookup default pairs) rule plain v = absurd cc
violates_none pool (instrs.Member op index) rule plain v = absurd cc
violates_none pool (instrs.Interface index count) rule plain v = absurd cc
violates_none pool (instrs.Dynamic index) rule plain v = absurd cc
violates_none pool (instrs.Class op index) rule plain v = absurd cc
violates_none pool (instrs.Array base) rule plain v = absurd cc
violates_none pool (instrs.Multi index dims) rule plain v = absurd cc

-- so they have no marks
pub plain_marks : (place : MarkPlace) (pool : List Constant) (instr : Instr) (marks : List Mark) → is_plain instr ≡ true → Gains (MarksAt place (InstrViolates pool instr)) marks marks
plain_marks place pool instr marks plain = adds_nothing (MarksAt place (InstrViolates pool instr)) marks (λ mark is. violates_none pool instr mark.rule plain is.1)

-- nor has an instruction that violates no rule
pub unreported_marks : (place : MarkPlace) (pool : List Constant) (instr : Instr) (marks : List Mark) (reported : Bool) → (IsTrue reported ↔ ((rule : ℕ) × InstrViolates pool instr rule)) → reported ≡ false → Gains (MarksAt place (InstrViolates pool instr)) marks marks
unreported_marks place pool instr marks reported says none = adds_nothing (MarksAt place (InstrViolates pool instr)) marks (λ mark is. never reported (says.1 (mark.rule, is.1)) none)
