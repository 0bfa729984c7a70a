-- What the code's states show.
use Rattle.dj_asm_source.specs.declared.state.State as the_state
use Rattle.dj_asm_source.specs.declared.state.State.TheVariants as states
use Rattle.dj_asm_source.specs.Order.{State, AtClass, AtVersion, AtSuper, AtInterfaces, AtFields, AtMethods, AtStack, AtLocals, InBody, InFrame}

abbrev pub state_view : the_state.State → State
state_view states.Class = AtClass
state_view states.Version = AtVersion
state_view states.Super = AtSuper
state_view states.Interfaces = AtInterfaces
state_view states.Fields = AtFields
state_view states.Methods = AtMethods
state_view states.Stack = AtStack
state_view states.Locals = AtLocals
state_view states.Body = InBody
state_view states.Frame = InFrame
