-- Values of the kinds that shape says, and effects that keep them.
use Rattle.std.specs.Prelude.{◌≡◌, ℕ, ◌<◌, false, List, [], ◌∷◌, length, map, Option, Some, None, IsTrue, IsFalse, ⊤, ◌⊎◌, Contains, slice_get}
use Rattle.std.specs.Option.{option_map}
use Rattle.dj_names.specs.declared.descriptor.Kind.{Kind}
use Rattle.dj_names.specs.declared.descriptor.Kind.TheVariants as kinds
use Rattle.dj_names.specs.declared.run.Value.{Value}
use Rattle.dj_names.specs.trusted.Values.{value_kind}
use Rattle.dj_names.specs.trusted.Types.{Name}
use Rattle.dj_names.specs.declared.native.NativeId.{NativeId}
use Rattle.dj_edge.specs.declared.host.HostAnswer.{HostAnswer}
use Rattle.dj_model.specs.trusted.Types.{Prefix, Declared}
use Rattle.dj_model.specs.trusted.Natives.{Question, asks, answered, Answer, Returns, Raises, MakesText, KeepsText, MakesChars, SetsFields, SetsElements, Adds, Rethrows}
use Rattle.dj_model.specs.trusted.Performing.{native}
use Rattle.dj_model.specs.trusted.Program.{Program, Class, Method, Native, Runs, Code, method_at, is_static, is_initialiser}
use Rattle.dj_model.specs.trusted.Instructions.{Instruction, ends, targets}
use Rattle.dj_model.specs.Instructions.{calls}
use Rattle.dj_model.specs.trusted.State.{Terms, Frame, State, instruction_at, Part, Next, To, Raise, Back, Flow, Goes, Catch, Stop, Call, End, Effect}
use Rattle.dj_model.specs.trusted.Effects.{effect, used_class}
use Rattle.dj_model.specs.trusted.Initialisation.{Ready}
use Rattle.dj_model.specs.trusted.Step.{StepAnswer, Went, Ended, IllFormed, part_of, prepared}
use Rattle.dj_model.specs.Runs as run
use Rattle.dj_model.specs.trusted.Runs.{begin, Going, from_start, steps}
use Rattle.dj_model.specs.Runs.{Run}
use Rattle.dj_model.specs.trusted.Kinds.{Signature, Kinds, call_signature, signature_of, Placed, Read, map_of}
use Rattle.dj_model.specs.trusted.Shape.{after, state_before}

-- as many local variables, and each that has a kind has a value of it
abbrev pub LocalsHave : List (Option Value) → List (Option Kind) → Type 0
LocalsHave [] [] = ⊤
LocalsHave (v ∷ vs) (None ∷ ks) = LocalsHave vs ks
LocalsHave (Some v ∷ vs) (Some k ∷ ks) = (value_kind v ≡ k) × LocalsHave vs ks
LocalsHave _ _ = ⊥

-- local variables and operands are of these kinds
pub record HasKinds (variables : List (Option Value)) (stack : List Value) (k : Kinds) : Type 0 where
  pub locals : LocalsHave variables k.locals
  pub operands : map value_kind stack ≡ k.stack

-- these kinds are left
pub record Leaves (code : Code) (left : Kinds) (variables : List (Option Value)) (operands : List Value) : Type 0 where
  pub kinds : HasKinds variables operands left
  pub room : length variables ≡ code.max_locals

-- the local variables are of the kinds that stood before, as a handler finds them
pub record Keeps (code : Code) (before : Kinds) (variables : List (Option Value)) : Type 0 where
  pub kinds : LocalsHave variables before.locals
  pub room : length variables ≡ code.max_locals

abbrev pub IsAmong : List ℕ → ℕ → Type 0
IsAmong [] n = ⊥
IsAmong (m ∷ others) n = (n ≡ m) ⊎ IsAmong others n

-- what is left of kinds, with a result pushed where there is one
abbrev pub with_given : Option Kind → List Kind → List Kind
with_given None rest = rest
with_given (Some kind) rest = kind ∷ rest

-- a method of the program with code is called, on arguments of its kinds; what its result is pushed on is what is left
pub record CallFits (program : Program) (code : Code) (i : Instruction) (before left : Kinds) (p : Part) (m : Declared) (arguments : List Value) : Type 0 where
  pub calls : IsTrue (calls i)
  pub method : Method
  pub at : method_at program m ≡ Some method
  pub callee : Code
  pub body : method.body ≡ Runs callee
  pub signature : Signature
  pub described : signature_of (is_static method.flags) method.desc ≡ Some signature
  pub takes : map value_kind arguments ≡ signature.parameters
  pub no_initialiser : is_initialiser m ≡ false
  pub keeps : Keeps code before p.locals
  pub locals : before.locals ≡ left.locals
  pub gives : with_given signature.result (map value_kind p.operands) ≡ left.stack

-- what may follow an instruction before which these kinds stand and after which those are left: the next instruction finds them, or one to which it may jump; only one that
-- never goes on returns, with a value of the result's kind; an exception leaves the local variables to the handler; and only a call calls
abbrev pub IsSoundFlow : Program → Signature → Code → Instruction → Kinds → Kinds → Part → Flow → Type 0
IsSoundFlow program signature code i before left p (Goes Next) = Leaves code left p.locals p.operands × IsFalse (ends i)
IsSoundFlow program signature code i before left p (Goes (To number)) = Leaves code left p.locals p.operands × IsAmong (targets i) number
IsSoundFlow program signature code i before left p (Goes (Raise raised)) = Keeps code before p.locals
IsSoundFlow program signature code i before left p (Goes (Back result)) = IsTrue (ends i) × (option_map value_kind result ≡ signature.result)
IsSoundFlow program signature code i before left p (Catch exception) = Keeps code before p.locals
IsSoundFlow program signature code i before left p Stop = Keeps code before p.locals
IsSoundFlow program signature code i before left p (Call m arguments) = CallFits program code i before left p m arguments
IsSoundFlow program signature code i before left p (End outcome) = ⊤

-- the instruction has an effect, and it keeps the kinds
pub record HasSoundEffect (program : Program) (prefix : Prefix) (terms : Terms) (own : Name) (signature : Signature) (code : Code) (i : Instruction) (before left : Kinds)
    (p : Part) : Type 0 where
  pub does : Effect
  pub has : effect program prefix terms own i p ≡ Some does
  pub sound : IsSoundFlow program signature code i before left does.part does.flow

-- the next answer is missing or of another kind
abbrev pub IsUnanswered : Question → List HostAnswer → Type 0
IsUnanswered question [] = ⊤
IsUnanswered question (first ∷ rest) = answered question first ≡ None

-- the instruction calls a native method of the program that asks the host, whatever the host's answers are, and the next answer is missing or of another kind
pub record IsStarved (program : Program) (prefix : Prefix) (terms : Terms) (own : Name) (i : Instruction) (p : Part) : Type 0 where
  pub calls : IsTrue (calls i)
  pub class : Class
  pub method : Method
  pub id : NativeId
  pub there : Contains program class × Contains class.methods method
  pub body : method.body ≡ Native id
  pub arguments : List Value
  -- the operands below the arguments
  pub rest : List Value
  pub question : Question
  pub asks : asks id arguments ≡ Some question
  pub does : (answers : List HostAnswer)
      → effect program prefix terms own i (record p { answers = answers }) ≡ native program prefix terms (record p { operands = rest; answers = answers }) id arguments
  pub unanswered : IsUnanswered question p.answers

-- an answer gives such a result, or none
abbrev pub AnswerKind : Option Kind → Answer → Type 0
AnswerKind result (Returns v) = option_map value_kind v ≡ result
AnswerKind result (Raises raised) = ⊤
AnswerKind result (MakesText units) = Some kinds.Ref ≡ result
AnswerKind result (KeepsText object units) = Some kinds.Ref ≡ result
AnswerKind result (MakesChars units) = Some kinds.Ref ≡ result
AnswerKind result (SetsFields object vs) = None ≡ result
AnswerKind result (SetsElements array contents raised) = None ≡ result
AnswerKind result (Adds charge n) = None ≡ result
AnswerKind result (Rethrows object) = None ≡ result

-- there is such a step, or the run has ended
abbrev pub IsFormed : StepAnswer → Type 0
IsFormed (Went s) = ⊤
IsFormed (Ended outcome s) = ⊤
IsFormed IllFormed = ⊥

-- the next step, whose initialisers have run, is such a call
pub record IsStarvedAt (program : Program) (prefix : Prefix) (terms : Terms) (s : State) : Type 0 where
  pub top : Frame Declared
  pub below : List (Frame Declared)
  pub frames : s.frames ≡ top ∷ below
  pub instruction : Instruction
  pub at : instruction_at program top ≡ Some instruction
  pub ready : State
  pub prepared : prepared program prefix terms (used_class program prefix instruction) s ≡ Ready ready
  pub starved : IsStarved program prefix terms top.method.class instruction (part_of top ready)

-- no native method of the program asks the host
abbrev pub AsksNothing : Program → Type 0
AsksNothing program = (class : Class) (method : Method) (id : NativeId) → Contains program class → Contains class.methods method → method.body ≡ Native id
    → (arguments : List Value) → asks id arguments ≡ None

-- ---- frames that have the kinds that shape says

-- the frame is at an instruction of a method with code, and its local variables are of the kinds that come before it
pub record IsAt (program : Program) (f : Frame Declared) : Type 0 where
  pub method : Method
  pub there : method_at program f.method ≡ Some method
  pub code : Code
  pub body : method.body ≡ Runs code
  pub signature : Signature
  pub described : signature_of (is_static method.flags) method.desc ≡ Some signature
  pub placed : List Placed
  pub map : map_of signature code ≡ Read placed
  pub instruction : Instruction
  pub at : slice_get code.instructions f.number ≡ Some instruction
  pub before : Kinds
  pub state : state_before signature code placed f.number ≡ Some before
  pub locals : LocalsHave f.locals before.locals
  pub room : length f.locals ≡ code.max_locals

-- the instruction is next: its operands are there
pub record IsReady (program : Program) (f : Frame Declared) : Type 0 where
  pub at : IsAt program f
  pub operands : map value_kind f.operands ≡ at.before.stack

-- the instruction is a call under way: once a result of this kind is pushed, where there is one, the kinds are those that shape says after it
pub record IsWaiting (program : Program) (result : Option Kind) (f : Frame Declared) : Type 0 where
  pub at : IsAt program f
  pub calls : IsTrue (calls at.instruction)
  pub left : Kinds
  pub found : after at.signature at.code at.instruction at.before ≡ Some left
  pub locals : at.before.locals ≡ left.locals
  pub gives : with_given result (map value_kind f.operands) ≡ left.stack

-- the kind of a method's result, where it has one
abbrev pub result_of : Option Signature → Option Kind
result_of None = None
result_of (Some signature) = signature.result

-- below a frame of the method: an initialiser's caller has its instruction still to do, any other caller waits for the result
abbrev pub IsCaller : Program → Declared → Frame Declared → Type 0
IsCaller program m f = (IsTrue (is_initialiser m) × IsReady program f) ⊎ (IsFalse (is_initialiser m) × IsWaiting program (result_of (call_signature m.desc)) f)

abbrev pub AreCallers : Program → Declared → List (Frame Declared) → Type 0
AreCallers program m [] = ⊤
AreCallers program m (f ∷ below) = IsCaller program m f × AreCallers program f.method below

-- the top first, of which there is one
abbrev pub AreStanding : Program → List (Frame Declared) → Type 0
AreStanding program [] = ⊥
AreStanding program (f ∷ below) = IsReady program f × AreCallers program f.method below

-- the run goes on in a state whose frames stand so, or it has ended
abbrev pub AnswerStands : Program → StepAnswer → Type 0
AnswerStands program (Went s) = AreStanding program s.frames
AnswerStands program (Ended outcome s) = ⊤
AnswerStands program IllFormed = ⊥

abbrev pub RunStands : Program → Run → Type 0
RunStands program (run.Underway s) = AreStanding program s.frames
RunStands program (run.RunEnds outcome costs) = ⊤
RunStands program run.Stuck = ⊥

-- the entry of a run is a static method with code that takes one reference
pub record IsEntry (program : Program) (entry : Declared) : Type 0 where
  pub method : Method
  pub there : method_at program entry ≡ Some method
  pub code : Code
  pub body : method.body ≡ Runs code
  pub signature : Signature
  pub described : signature_of (is_static method.flags) method.desc ≡ Some signature
  pub takes : signature.parameters ≡ kinds.Ref ∷ []

-- a plain run comes within this many steps to one at which the host's answer is missing or of another kind
pub record Starves (program : Program) (prefix : Prefix) (terms : Terms) (entry : Declared) (input : List ℕ) (answers : List HostAnswer) (most : ℕ) : Type 0 where
  pub count : ℕ
  pub within : count < most
  pub state : State
  pub reached : from_start (steps program prefix terms count) (begin program prefix terms entry input answers) ≡ Going state
  pub starved : IsStarvedAt program prefix terms state
