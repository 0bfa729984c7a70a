-- Laws of the model.
use Rattle.std.specs.Prelude.{◌≡◌, ℕ, Option, List, ◌*◌, ◌<◌, [], ◌∷◌, length, Some, Contains, IsTrue, IsFalse}
use Rattle.dj_names.specs.declared.descriptor.Kind.TheVariants as kinds
use Rattle.dj_names.specs.declared.run.Costs.{Costs}
use Rattle.dj_names.specs.declared.run.Thresholds.{Thresholds}
use Rattle.dj_names.specs.declared.run.Outcome.{Outcome}
use Rattle.dj_straight.specs.trusted.Program.{Name, Program, MethodName, Code, code_of, chain, is_initialiser, has_initialiser}
use Rattle.dj_straight.specs.Program.{HasNoFields}
use Rattle.dj_straight.specs.trusted.Instructions.{Instruction}
use Rattle.dj_straight.specs.Instructions.{is_straight, asks_program}
use Rattle.dj_straight.specs.trusted.Effects.{Terms, StraightPart, effect}
use Rattle.dj_straight.specs.trusted.Charges.{own_amounts}
use Rattle.dj_straight.specs.trusted.Metered.{RunsTo, run, Ends}
use Rattle.dj_straight.specs.trusted.FrameKinds.{Signature, Kinds}
use Rattle.dj_straight.specs.trusted.Shape.{after, IsShapeFault}
use Rattle.dj_straight.specs.Shape.{HasShape}
use Rattle.dj_straight.specs.Sound.{HasKinds, HasSoundEffect}

-- a run ends in one way, at one cost
abbrev pub HasOneEnd : Type 0
HasOneEnd = (program : Program) (entry : MethodName) (input : List ℕ) (most : Thresholds) (a b : Outcome) (c d : Costs)
    → RunsTo program entry input most a c → RunsTo program entry input most b d → (a ≡ b) × (c ≡ d)

-- an instruction that needs nothing of the program and finds values of the kinds that it takes has an effect, and leaves values of the
-- kinds that it leaves
abbrev pub KeepsKinds : Type 0
KeepsKinds = (program : Program) (terms : Terms) (signature : Signature) (code : Code) (i : Instruction) (k left : Kinds) (p : StraightPart)
    → IsFalse (asks_program i) → HasKinds p.locals p.operands k → length p.locals ≡ code.max_locals → after signature code i k ≡ Some left
    → HasSoundEffect program terms signature code i left p

-- what an instruction that needs nothing of the program does and is charged is the same in every program, on all terms of one limit
abbrev pub IsSameInEveryProgram : Type 0
IsSameInEveryProgram = (a b : Program) (m n : Terms) (i : Instruction) (p : StraightPart) → IsFalse (asks_program i) → m.limit ≡ n.limit
    → (effect a m i p ≡ effect b n i p) × (own_amounts a (Some i) p.operands ≡ own_amounts b (Some i) p.operands)

-- code without shape is reported in one way
abbrev pub HasOneShapeFault : Type 0
HasOneShapeFault = (signature : Signature) (code : Code) (a b : Option ℕ) → IsShapeFault signature code a → IsShapeFault signature code b → a ≡ b

-- and code with shape in none
abbrev pub HasNoFaultWithShape : Type 0
HasNoFaultWithShape = (signature : Signature) (code : Code) (n : Option ℕ) → HasShape signature code → IsShapeFault signature code n → ⊥

-- no code is without shape and without a fault
abbrev pub HasShapeOrFault : Type 0
HasShapeOrFault = (signature : Signature) (code : Code) → (HasShape signature code → ⊥) → ((n : Option ℕ) → IsShapeFault signature code n → ⊥) → ⊥

-- a method that takes an array, whose code has shape, with no initialiser before it, no handlers and no stack map, in a program without fields;
-- its instructions need nothing of the program, and neither jump nor throw an object
pub record IsStraightEntry (program : Program) (entry : MethodName) (signature : Signature) (code : Code) : Type 0 where
  pub code_is : code_of program entry ≡ Some code
  pub parameters : signature.parameters ≡ kinds.Ref ∷ []
  pub shape : HasShape signature code
  pub some : 0 < length code.instructions
  pub no_handlers : code.ranges ≡ []
  pub no_frames : code.frames ≡ Some []
  pub straight : (i : Instruction) → Contains code.instructions i → IsTrue (is_straight i) × IsFalse (asks_program i)
  pub no_initialiser : IsFalse (is_initialiser entry)
  pub no_fields : HasNoFields program
  pub no_initialisers : (class : Name) → Contains (chain program entry.class) class → IsFalse (has_initialiser program class)

-- its run ends, in two turns for each instruction at most
abbrev pub StraightCodeEnds : Type 0
StraightCodeEnds = (program : Program) (entry : MethodName) (signature : Signature) (code : Code) (input : List ℕ) (most : Thresholds)
    → IsStraightEntry program entry signature code
    → (outcome : Outcome) × (costs : Costs) × (run program entry input most (2 * length code.instructions) ≡ Ends outcome costs)
