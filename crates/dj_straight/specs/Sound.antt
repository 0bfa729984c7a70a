-- Values of the kinds that shape says, and effects that keep them.
use Rattle.std.specs.Prelude.{◌≡◌, List, [], ◌∷◌, length, map, Option, Some, None, Contains, IsTrue, IsFalse, ⊤}
use Rattle.std.specs.Option.{option_map}
use Rattle.dj_names.specs.declared.descriptor.Kind.{Kind}
use Rattle.dj_names.specs.declared.run.Value.{Value}
use Rattle.dj_names.specs.trusted.Values.{value_kind}
use Rattle.dj_straight.specs.trusted.Program.{Program, Code}
use Rattle.dj_straight.specs.trusted.Instructions.{Instruction, ends, targets}
use Rattle.dj_straight.specs.Instructions.{throws}
use Rattle.dj_straight.specs.trusted.Effects.{Terms, StraightPart, Flow, Next, To, Raise, Throw, Back, Broken, Full, Effect, effect}
use Rattle.dj_straight.specs.trusted.FrameKinds.{Signature, Kinds}

-- as many local variables, and each that has a kind has a value of it
abbrev pub LocalsHave : List (Option Value) → List (Option Kind) → Type 0
LocalsHave [] [] = ⊤
LocalsHave (v ∷ vs) (None ∷ ks) = LocalsHave vs ks
LocalsHave (Some v ∷ vs) (Some k ∷ ks) = (value_kind v ≡ k) × LocalsHave vs ks
LocalsHave _ _ = ⊥

-- local variables and operands are of these kinds
pub record HasKinds (variables : List (Option Value)) (stack : List Value) (k : Kinds) : Type 0 where
  pub locals : LocalsHave variables k.locals
  pub operands : map value_kind stack ≡ k.stack

-- these kinds are left
abbrev pub LeavesKinds : Code → Kinds → StraightPart → Type 0
LeavesKinds code left p = HasKinds p.locals p.operands left × (length p.locals ≡ code.max_locals)

-- what may follow an instruction after which these kinds are left: the next instruction finds them, or one to which it may jump; only one that
-- doesn't go on returns, with a value of the result's kind, and only one that throws throws an object
abbrev pub IsSoundFlow : Signature → Code → Instruction → Kinds → StraightPart → Flow → Type 0
IsSoundFlow signature code i left p Next = LeavesKinds code left p × IsFalse (ends i)
IsSoundFlow signature code i left p (To number) = LeavesKinds code left p × Contains (targets i) number
IsSoundFlow signature code i left p (Raise raised) = ⊤
IsSoundFlow signature code i left p (Throw exception) = IsTrue (throws i)
IsSoundFlow signature code i left p (Back result) = IsTrue (ends i) × (option_map value_kind result ≡ signature.result)
IsSoundFlow signature code i left p Broken = ⊤
IsSoundFlow signature code i left p (Full used size) = ⊤

-- the instruction has an effect, and it keeps the kinds
abbrev pub HasSoundEffect : Program → Terms → Signature → Code → Instruction → Kinds → StraightPart → Type 0
HasSoundEffect program terms signature code i left p = (e : Effect) × (effect program terms i p ≡ Some e) × IsSoundFlow signature code i left e.part e.flow
