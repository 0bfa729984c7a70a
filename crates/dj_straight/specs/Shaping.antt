-- The checker of shape's own: what it knows before an instruction, and what its steps answer.
use Rattle.std.specs.Prelude.{◌≡◌, ℕ, suc, Bool, true, false, List, [], ◌∷◌, Option, Some, None, IsFalse}
use Rattle.dj_names.specs.declared.descriptor.Kind.{Kind}
use Rattle.dj_straight.specs.trusted.Program.{Code}
use Rattle.dj_straight.specs.trusted.Instructions.{Instruction, ends}
use Rattle.dj_straight.specs.trusted.FrameKinds.{Kinds}
use Rattle.dj_straight.specs.trusted.Shape.{taken, StateBefore, Holds}
use Rattle.dj_straight.specs.declared.program.StraightMethod.{StraightMethod}
use Rattle.dj_straight.specs.trusted.Methods.{straight_signature}
use Rattle.dj_straight.specs.Methods.{straight_code}

-- the kinds of the local variables and of the operands, with the room that the code has for them
pub record Standing : Type 0 where
  pub max_stack : ℕ
  pub max_locals : ℕ
  pub kinds : Kinds

-- as much of the code as the kinds after an instruction depend on
abbrev pub room : Standing → Code
room s = straight_code s.max_stack s.max_locals []

abbrev pub HasRoomOf : Standing → StraightMethod → Type 0
HasRoomOf s method = (s.max_stack ≡ method.max_stack) × (s.max_locals ≡ method.max_locals)

abbrev pub SameRoom : Standing → Standing → Type 0
SameRoom old new = (new.max_stack ≡ old.max_stack) × (new.max_locals ≡ old.max_locals)

-- nothing but the operands changed
abbrev pub SameLocals : Standing → Standing → Type 0
SameLocals old new = (new.kinds.locals ≡ old.kinds.locals) × SameRoom old new

-- the answer says whether something is left, and what
abbrev pub Leaves : {A : Type 0} → Bool → Option A → A → Type 0
Leaves true left now = left ≡ Some now
Leaves false left now = left ≡ None

-- the answer says whether the top operand has the kind, and these are the operands below it
abbrev pub Takes : Bool → Kind → List Kind → List Kind → Type 0
Takes true kind old new = (wanted : List Kind) → taken (kind ∷ wanted) old ≡ taken wanted new
Takes false kind old new = (wanted : List Kind) → taken (kind ∷ wanted) old ≡ None

-- the answer says whether the instruction of this number holds, and these are the kinds after it
abbrev pub Answers : Bool → Code → ℕ → Instruction → Kinds → Type 0
Answers true code number i k =
    Holds straight_signature code [] number × (IsFalse (ends i) → StateBefore straight_signature code [] (suc number) k)
Answers false code number i k = Holds straight_signature code [] number → ⊥

-- where the run has ended before the instruction of this number no kinds come before it, and else these
abbrev pub StandsBefore : Bool → Code → ℕ → Kinds → Type 0
StandsBefore true code number k = (other : Kinds) → StateBefore straight_signature code [] number other → ⊥
StandsBefore false code number k = StateBefore straight_signature code [] number k
