-- The order of lines as states: what the lines before leave to come.
use Rattle.std.specs.Prelude.{Bool, true, false, List, [], ◌∷◌, Option, Some, None}
use Rattle.dj_asm_source.specs.trusted.Lines.{Line, Class, Version, Super, Implements, Field, Abstract, Method, Stack, Locals, Beside, Framed, Does, End}

-- what may come next
pub data State : Type 0 where
  AtClass : State
  -- the version or the superclass
  AtVersion : State
  AtSuper : State
  -- interfaces, fields or methods
  AtInterfaces : State
  -- fields or methods
  AtFields : State
  AtMethods : State
  AtStack : State
  AtLocals : State
  -- the lines of a body
  InBody : State
  -- those between a frame and its instruction, and that
  InFrame : State

abbrev pub after : State → Line → Option State
after AtClass (Class flags name) = Some AtVersion
after AtVersion (Version major minor) = Some AtSuper
after AtVersion (Super name) = Some AtInterfaces
after AtSuper (Super name) = Some AtInterfaces
after AtInterfaces (Implements name) = Some AtInterfaces
after AtInterfaces (Field flags name desc value) = Some AtFields
after AtInterfaces (Abstract flags name desc) = Some AtMethods
after AtInterfaces (Method flags name desc) = Some AtStack
after AtFields (Field flags name desc value) = Some AtFields
after AtFields (Abstract flags name desc) = Some AtMethods
after AtFields (Method flags name desc) = Some AtStack
after AtMethods (Abstract flags name desc) = Some AtMethods
after AtMethods (Method flags name desc) = Some AtStack
after AtStack (Stack n) = Some AtLocals
after AtLocals (Locals n) = Some InBody
after InBody (Beside aside) = Some InBody
after InBody (Framed frame) = Some InFrame
after InBody (Does operation) = Some InBody
after InBody End = Some AtMethods
after InFrame (Beside aside) = Some InFrame
after InFrame (Does operation) = Some InBody
after _ _ = None

-- after all of these lines
unfoldable pub run : Option State → List Line → Option State
run state [] = state
run None (line ∷ lines) = None
run (Some state) (line ∷ lines) = run (after state line) lines

-- the text may end here
abbrev pub is_final : Option State → Bool
is_final (Some AtInterfaces) = true
is_final (Some AtFields) = true
is_final (Some AtMethods) = true
is_final _ = false
