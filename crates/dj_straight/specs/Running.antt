-- Runs of straight methods.
use Rattle.std.specs.Prelude.{◌≡◌, suc, ◌<◌, ◌^◌, ⊤, false, Option, Some, None, Contains, All, vec_len}
use Rattle.dj_names.specs.declared.run.Value.TheVariants as values
use Rattle.dj_names.specs.declared.run.Outcome.{Outcome}
use Rattle.dj_names.specs.declared.run.Outcome.TheVariants as outcomes
use Rattle.dj_straight.specs.trusted.Instructions.{Instruction, Push}
use Rattle.dj_straight.specs.trusted.Program.{Name, Program, MethodName, Code, code_of, chain, has_initialiser, is_initialiser}
use Rattle.dj_straight.specs.Program.{HasNoFields}
use Rattle.dj_straight.specs.Methods.{action_view}
use Rattle.dj_straight.specs.declared.program.StraightMethod.{StraightMethod}
use Rattle.dj_straight.specs.declared.program.StraightClass.{StraightClass}

-- the method has this code, no class that its call initialises has an initialiser, and none of the program has fields
pub record IsPlainEntry (program : Program) (entry : MethodName) (code : Code) : Type 0 where
  pub code_is : code_of program entry ≡ Some code
  pub no_fields : HasNoFields program
  pub no_initialiser : is_initialiser entry ≡ false
  pub none_above : (class : Name) → Contains (chain program entry.class) class → has_initialiser program class ≡ false

-- how a run of a straight method may end
abbrev pub IsStraightEnd : Outcome → Type 0
IsStraightEnd outcomes.OkNull = ⊤
IsStraightEnd (outcomes.OkBytes bytes) = ⊤
IsStraightEnd (outcomes.Threw class message) = ⊤
IsStraightEnd (outcomes.Stopped charge) = ⊤
IsStraightEnd outcomes.Link = ⊤
IsStraightEnd _ = ⊥

-- no reference but null is pushed
abbrev pub PushesNull : Instruction → Type 0
PushesNull (Push (values.Ref (suc n))) = ⊥
PushesNull _ = ⊤

-- the method has instructions, no more than a method may have, and they push no other reference than null
pub record IsRunnable (m : StraightMethod) : Type 0 where
  pub some : 0 < vec_len m.actions
  pub few : vec_len m.actions < 2 ^ 16
  pub nulls : All (λ action. PushesNull (action_view action)) m.actions.items

abbrev pub AreRunnable : Option StraightClass → Type 0
AreRunnable None = ⊤
AreRunnable (Some c) = All IsRunnable c.methods.items
