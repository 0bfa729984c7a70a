-- Used by the code alone: what is known before an instruction, and what its steps answer.
use Rattle.std.specs.Prelude.{◌≡◌, ◌≤◌, ℕ, Bool, true, false, ◌&&◌, List, [], ◌∷◌, ◌++◌, length, reverse, Option, Some, None, replicate, slice_get, nat_le, if◌then◌else◌}
use Rattle.dj_names.specs.declared.descriptor.Kind.{Kind}
use Rattle.dj_model.specs.trusted.Program.{Code}
use Rattle.dj_model.specs.trusted.Initialisation.{padded}
use Rattle.dj_model.specs.trusted.Kinds.{Kinds, Signature, depth}
use Rattle.dj_model.specs.trusted.Shape.{taken}
use Rattle.dj_model.specs.trusted.Values.{Cut}
use Rattle.dj_shape_rule.specs.declared.state.KindPiece.{KindPiece}
use Rattle.dj_shape_rule.specs.declared.state.KindPiece.TheVariants as pieces

-- the kinds of the local variables and of the operands, with the room that there is for them
pub record Standing : Type 0 where
  pub max_stack : ℕ
  pub max_locals : ℕ
  pub kinds : Kinds
  -- none, and then the local variables of frames, all of them counted
  pub frames : List (List (Option Kind))
  -- those that stood before the instructions so far
  pub states : List (List (Option Kind))

-- there is room as in the code
abbrev pub HasRoomOf : Standing → Code → Type 0
HasRoomOf s code = (s.max_stack ≡ code.max_stack) × (s.max_locals ≡ code.max_locals)

abbrev pub SameRoom : Standing → Standing → Type 0
SameRoom old new = (new.max_stack ≡ old.max_stack) × (new.max_locals ≡ old.max_locals) × (new.frames ≡ old.frames) × (new.states ≡ old.states)

-- nothing but frames' local variables changed
abbrev pub SameButLists : Standing → Standing → Type 0
SameButLists old new = (new.max_stack ≡ old.max_stack) × (new.max_locals ≡ old.max_locals) × (new.kinds ≡ old.kinds) × (new.states ≡ old.states)

-- at most the kinds and those that are kept before instructions changed
abbrev pub SameButStates : Standing → Standing → Type 0
SameButStates old new = (new.max_stack ≡ old.max_stack) × (new.max_locals ≡ old.max_locals) × (new.frames ≡ old.frames)

-- the local variables are kept before the next instruction
pub record IsNoted (old new : Standing) : Type 0 where
  pub max_stack : new.max_stack ≡ old.max_stack
  pub max_locals : new.max_locals ≡ old.max_locals
  pub kinds : new.kinds ≡ old.kinds
  pub frames : new.frames ≡ old.frames
  pub states : new.states ≡ old.states ++ old.kinds.locals ∷ []

-- the local variables of a frame fit, and are kept in a list of this number
pub record IsListed (s : Standing) (place : ℕ) (locals : List (Option Kind)) : Type 0 where
  pub few : length locals ≤ s.max_locals
  pub at : slice_get s.frames place ≡ Some (padded s.max_locals locals)

-- these local variables fit, and stand, without operands
pub record IsBegun (max_stack max_locals : ℕ) (locals : List (Option Kind)) (s : Standing) : Type 0 where
  pub few : length locals ≤ max_locals
  pub stack_room : s.max_stack ≡ max_stack
  pub locals_room : s.max_locals ≡ max_locals
  pub kinds : s.kinds ≡ record { locals = padded max_locals locals; stack = [] }
  pub frames : s.frames ≡ replicate max_locals None ∷ []
  pub states : s.states ≡ []

-- the method gives this
abbrev pub GivesResult : Signature → Option Kind → Type 0
GivesResult signature result = result ≡ signature.result

-- the answer says whether something is left, and what
abbrev pub Leaves : {A : Type 0} → Bool → Option A → A → Type 0
Leaves true left now = left ≡ Some now
Leaves false left now = left ≡ None

-- the operands take this many slots
abbrev pub IsDepth : ℕ → List Kind → Type 0
IsDepth count stack = count ≡ depth stack

-- local variables in their slots and operands, the top last, where there is room for them
abbrev pub standing_in : Standing → List (Option Kind) → List Kind → Option Kinds
standing_in s locals stack =
    if nat_le (length locals) s.max_locals && nat_le (depth stack) s.max_stack
    then Some (record { locals = padded s.max_locals locals; stack = reverse stack }) else None

-- as much of the code as the kinds after an instruction depend on
abbrev pub room : Standing → Code
room s = record { max_stack = s.max_stack; max_locals = s.max_locals; instructions = []; ranges = []; frames = None }

-- nothing but the operands changed
abbrev pub SameLocals : Standing → Standing → Type 0
SameLocals old new = (new.kinds.locals ≡ old.kinds.locals) × SameRoom old new

-- the answer says whether the top operand has the kind, and these are the operands below it
abbrev pub Takes : Bool → Kind → List Kind → List Kind → Type 0
Takes true kind old new = (wanted : List Kind) → taken (kind ∷ wanted) old ≡ taken wanted new
Takes false kind old new = (wanted : List Kind) → taken (kind ∷ wanted) old ≡ None

-- ---- the upper operands

-- the top first
abbrev pub piece_kinds : KindPiece → List Kind
piece_kinds (pieces.One kind) = kind ∷ []
piece_kinds (pieces.Two top under) = top ∷ under ∷ []

-- the answer says whether they were cut, and which operands are left
abbrev pub IsCut : Option KindPiece → Option (Cut Kind) → List Kind → Type 0
IsCut None cut rest = cut ≡ None
IsCut (Some piece) cut rest = cut ≡ Some (record { top = piece_kinds piece; rest = rest })
