-- Beside trusted/Instructions.antt: what no clause of the call `djvm` reaches.
use Rattle.std.specs.Prelude.{Bool, true, false}
use Rattle.dj_names.specs.trusted.Types.{Name}
use Rattle.dj_names.specs.Types.{type_map}
use Rattle.dj_model.specs.Types.{member_map}
use Rattle.dj_model.specs.trusted.Instructions.{Named, AClass, AField, AMethod, AnInterfaceMethod, Instruction, GetStatic, PutStatic, GetField, PutField, Invoke, New, NewArray, CheckCast, InstanceOf, Other}

-- ---- where the run goes on

-- the run may go on in another method
abbrev pub calls : Instruction → Bool
calls (Invoke mode m) = true
calls _ = false

-- ---- other names of classes

abbrev pub named_map : (Name → Name) → Named → Named
named_map f (AClass class) = AClass (type_map f class)
named_map f (AField m) = AField (member_map f m)
named_map f (AMethod m) = AMethod (member_map f m)
named_map f (AnInterfaceMethod m) = AnInterfaceMethod (member_map f m)
named_map f named = named

abbrev pub instruction_map : (Name → Name) → Instruction → Instruction
instruction_map f (GetStatic m) = GetStatic (member_map f m)
instruction_map f (PutStatic m) = PutStatic (member_map f m)
instruction_map f (GetField m) = GetField (member_map f m)
instruction_map f (PutField m) = PutField (member_map f m)
instruction_map f (Invoke mode m) = Invoke mode (member_map f m)
instruction_map f (New class) = New (type_map f class)
instruction_map f (NewArray class element) = NewArray (type_map f class) element
instruction_map f (CheckCast class) = CheckCast (type_map f class)
instruction_map f (InstanceOf class) = InstanceOf (type_map f class)
instruction_map f (Other op named) = Other op (named_map f named)
instruction_map f i = i
