-- The passes over the code, a step at a time.
use Rattle.std.proofs.Common.{◌≡◌, ℕ, ◌<◌, ◌≤◌, inl, inr, List, [], ◌∷◌, ◌++◌, length, Result, Ok, Err, IfErr, MatchResult, IsErrAnd, refl, sym, subst, arith}
use Rattle.dj_ops.specs.declared.instruction.Instr.{Instr}
use Rattle.dj_ops.specs.declared.read.OpError.{OpError}
use Rattle.dj_ops.specs.declared.read.OpError.TheVariants as op_errors
use Rattle.dj_ops.specs.trusted.Instructions.{Stands}
use Rattle.dj_ops.specs.Refusals.{Yields}
use Rattle.dj_labels.specs.declared.errors.CodeError.{CodeError}
use Rattle.dj_labels.specs.declared.errors.CodeError.TheVariants as errors
use Rattle.dj_labels.specs.trusted.Labels.{IsCut}
use Rattle.dj_labels.specs.Faults.{IsOpFault}
use Rattle.dj_labels.specs.Passes.{step_error, IsStep, IsStartsFault}
use Rattle.dj_labels.proofs.Cuts.{IsEnd, one_more}

-- ---- what is read

-- where reading was refused, and not for want of memory, nothing stands
none_yields : {code : List ℕ} {at : ℕ} {e : OpError} → (◌≡◌ {A = Result (Instr × ℕ) OpError} (Err e) (Err op_errors.Memory) → ⊥) → ((instr : Instr) (next : ℕ) → Stands code at instr next → Yields (Err e) (Ok (instr, next))) → IsEnd code at
none_yields other all instr next s = elim (all instr next s) [ inl same ↦ absurd cc | inr memory ↦ other memory ]

pub stops : (code : List ℕ) (at : ℕ) (e : OpError) → ((instr : Instr) (next : ℕ) → Stands code at instr next → Yields (Err e) (Ok (instr, next))) → IsStep code at (step_error at e)
stops code at op_errors.Memory all = tt
stops code at (op_errors.Reserved op) all = (refl, none_yields (λ same. absurd cc) all)
stops code at op_errors.Cut all = (refl, none_yields (λ same. absurd cc) all)
stops code at op_errors.BadOperand all = (refl, none_yields (λ same. absurd cc) all)

-- what holds of each renamed error holds of the error that is answered
pub renamed : {X E D : Type 0} {Q : E → D → Type 0} (one : Result X E) (two : Result X D) (P : D → Type 0) (f : E → D)
    → MatchResult one (λ x. two ≡ Ok x) (λ e. IsErrAnd two (Q e)) → ((e : E) (d : D) → Q e d → d ≡ f e) → ((e : E) → one ≡ Err e → P (f e)) → IfErr two P
renamed {X} {D = D} (Ok x) two P f is same holds = subst (λ (r : Result X D). IfErr r P) (sym is) tt
renamed (Err e) (Ok x) P f is same holds = absurd is
renamed (Err e) (Err d) P f is same holds = subst P (sym (same e d is)) (holds e refl)

-- the instructions up to an address of the code
pub record ReadUpTo (code starts : List ℕ) (instrs : List Instr) (at : ℕ) : Type 0 where
  pub cut : IsCut code starts instrs at
  pub within : at ≤ length code

pub read_none : (code : List ℕ) → ReadUpTo code [] [] 0
read_none code = record { cut = record { first = refl; each = tt }; within = omega arith }

pub read_more : (code starts : List ℕ) (instrs : List Instr) (at next : ℕ) (instr : Instr) → ReadUpTo code starts instrs at → Stands code at instr next → ReadUpTo code (starts ++ at ∷ []) (instrs ++ instr ∷ []) next
read_more code starts instrs at next instr h s = record { cut = one_more code starts instrs at next instr h.cut s; within = s.within }

pub read_all : (code starts : List ℕ) (instrs : List Instr) (at : ℕ) → ReadUpTo code starts instrs at → length code ≤ at → IsCut code starts instrs (length code)
read_all code starts instrs at h past = let same : at ≡ length code = omega (arith, h.within, past) in subst (λ (n : ℕ). IsCut code starts instrs n) same h.cut

pub read_fault : (code starts : List ℕ) (instrs : List Instr) (at : ℕ) (e : CodeError) → ReadUpTo code starts instrs at → at < length code → IsStep code at e → IsStartsFault code e
read_fault code starts instrs at (errors.Op address) h lt step =
    subst (IsOpFault code) (sym step.0) (record { starts = starts; instrs = instrs; cut = h.cut; within = lt; none = step.1 })
read_fault code starts instrs at (errors.Target address) h lt step = step
read_fault code starts instrs at (errors.Range number) h lt step = step
read_fault code starts instrs at errors.Memory h lt step = tt
