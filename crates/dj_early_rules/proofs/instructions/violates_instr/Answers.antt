use Rattle.std.proofs.Common.{ℕ, ◌⊎◌, List, refl, inl, inr}
use Rattle.dj_ops.specs.declared.instruction.Instr.{Instr}
use Rattle.dj_pool.specs.trusted.Pool.{Constant}
use Rattle.dj_report.proofs.Adding.{not_both}
use Rattle.dj_early_rules.specs.trusted.Instructions.{IsDynamic, IsReflection, IsFloat, IsSubroutine, IsBreakpoint, IsMultiArray}
use Rattle.dj_early_rules.specs.trusted.Methods.{InstrViolates}
use Rattle.dj_early_rules.proofs.instructions.violates_instr.Goals as goal

abbrev OfConstants : List Constant → Instr → Type 0
OfConstants pool instr = IsDynamic pool instr ⊎ (IsReflection pool instr ⊎ IsFloat pool instr)

abbrev OfOpcodes : List Constant → Instr → Type 0
OfOpcodes pool instr = IsSubroutine pool instr ⊎ (IsBreakpoint pool instr ⊎ IsMultiArray pool instr)

by_constants : (pool : List Constant) (instr : Instr) → OfConstants pool instr → (rule : ℕ) × InstrViolates pool instr rule
by_constants pool instr (inl is) = (9, inl (is, refl))
by_constants pool instr (inr (inl is)) = (10, inr (inl (is, refl)))
by_constants pool instr (inr (inr is)) = (12, inr (inr (inl (is, refl))))

by_opcodes : (pool : List Constant) (instr : Instr) → OfOpcodes pool instr → (rule : ℕ) × InstrViolates pool instr rule
by_opcodes pool instr (inl is) = (13, inr (inr (inr (inl (is, refl)))))
by_opcodes pool instr (inr (inl is)) = (14, inr (inr (inr (inr (inl (is, refl))))))
by_opcodes pool instr (inr (inr is)) = (15, inr (inr (inr (inr (inr (is, refl))))))

of_either : (pool : List Constant) (instr : Instr) (rule : ℕ) → InstrViolates pool instr rule → OfConstants pool instr ⊎ OfOpcodes pool instr
of_either pool instr rule (inl is) = inl (inl is.0)
of_either pool instr rule (inr (inl is)) = inl (inr (inl is.0))
of_either pool instr rule (inr (inr (inl is))) = inl (inr (inr is.0))
of_either pool instr rule (inr (inr (inr (inl is)))) = inr (inl is.0)
of_either pool instr rule (inr (inr (inr (inr (inl is))))) = inr (inr (inl is.0))
of_either pool instr rule (inr (inr (inr (inr (inr is))))) = inr (inr (inr is.0))

pub returns-then-is_of_constants : goal.returns-then-is_of_constants
returns-then-is_of_constants c = (
  λ is. by_constants c.args.pool.now c.args.instr.now (c.is_of_constants.ensures.0 is),
  λ any. c.if-is_of_constants.true,
)

pub returns-else-is_of_constants : goal.returns-else-is_of_constants
returns-else-is_of_constants c = (
  λ is. by_opcodes c.args.pool.now c.args.instr.now (c.is_of_opcodes.ensures.0 is),
  λ any. elim (of_either c.args.pool.now c.args.instr.now any.0 any.1) [
    | inl is ↦ absurd (not_both c.is_of_constants.result (c.is_of_constants.ensures.1 is) c.if-is_of_constants.false)
    | inr is ↦ c.is_of_opcodes.ensures.1 is
  ],
)
