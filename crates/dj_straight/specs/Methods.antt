-- The program's classes, methods and instructions as the model has them.
use Rattle.std.specs.Prelude.{ℕ, List, [], ◌∷◌, map, Option, Some, None}
use Rattle.dj_names.specs.declared.descriptor.Kind.TheVariants as kinds
use Rattle.dj_names.specs.declared.run.Element.TheVariants as elements
use Rattle.dj_straight.specs.trusted.Instructions as model
use Rattle.dj_straight.specs.trusted.Program.{Program, Class, Method, Code, Runs}
use Rattle.dj_straight.specs.declared.program.IntOperation.{IntOperation}
use Rattle.dj_straight.specs.declared.program.IntOperation.TheVariants as operations
use Rattle.dj_straight.specs.declared.program.Action.{Action}
use Rattle.dj_straight.specs.declared.program.Action.TheVariants as actions
use Rattle.dj_straight.specs.declared.program.StraightMethod.{StraightMethod}
use Rattle.dj_straight.specs.declared.program.StraightClass.{StraightClass}
use Rattle.dj_straight.specs.trusted.Methods.{straight_descriptor, object_name}

abbrev pub operation_view : IntOperation → model.IntOperation
operation_view operations.Add = model.Add
operation_view operations.Subtract = model.Subtract
operation_view operations.Multiply = model.Multiply
operation_view operations.And = model.And
operation_view operations.Or = model.Or
operation_view operations.Xor = model.Xor

abbrev pub action_view : Action → model.Instruction
action_view actions.Nop = model.Nop
action_view (actions.Push v) = model.Push v
action_view (actions.Load kind slot) = model.Load kind slot
action_view (actions.Store kind slot) = model.Store kind slot
action_view actions.LoadByte = model.LoadElement model.Bytes
action_view actions.StoreByte = model.StoreElement model.Bytes
action_view actions.Pop = model.Move model.Pop
action_view actions.Dup = model.Move model.Dup
action_view (actions.Compute operation) = model.Compute (operation_view operation)
action_view actions.ReturnReference = model.Return (Some kinds.Ref)
action_view actions.ArrayLength = model.ArrayLength
action_view actions.NewByteArray = model.NewArray model.byte_array_class elements.Byte
action_view (actions.Other op) = model.Other op

-- the code of straight instructions, without handlers and without a stack map
abbrev pub straight_code : ℕ → ℕ → List Action → Code
straight_code max_stack max_locals actions = record {
  max_stack = max_stack;
  max_locals = max_locals;
  instructions = map action_view actions;
  ranges = [];
  frames = Some [];
}

abbrev pub code_view : StraightMethod → Code
code_view m = straight_code m.max_stack m.max_locals m.actions.items

abbrev pub method_view : StraightMethod → Method
method_view m = record { flags = m.flags; name = m.name; desc = straight_descriptor; body = Runs (code_view m) }

abbrev pub class_view : StraightClass → Class
class_view c = record {
  name = c.name;
  flags = c.flags;
  superclass = Some object_name;
  interfaces = [];
  fields = [];
  methods = map method_view c.methods.items;
}

abbrev pub program_view : Option StraightClass → Program
program_view None = []
program_view (Some c) = class_view c ∷ []
