-- Beside trusted/State.antt: what no clause of the call `djvm` reaches.
use Rattle.std.specs.Prelude.{List, map}
use Rattle.dj_names.specs.declared.run.Value.{Value}
use Rattle.dj_names.specs.Heaps.{heap_map}
use Rattle.dj_names.specs.trusted.Types.{Name}
use Rattle.dj_names.specs.Types.{type_map}
use Rattle.dj_model.specs.Types.{declared_map}
use Rattle.dj_model.specs.trusted.State.{Frame, State, Part, Flow, Goes, Catch, Stop, Call, End, Effect}

-- ---- frames

abbrev pub frame_map : {M N : Type 0} → (M → N) → Frame M → Frame N
frame_map f x = record { method = f x.method; number = x.number; locals = x.locals; operands = x.operands; paid = x.paid }

-- ---- what an instruction changes, and how the run goes on after it

-- the run goes on in this way, and these operands are left
abbrev pub leaves : Part → List Value → Flow → Effect
leaves p operands flow = record { part = record p { operands = operands }; flow = flow }

-- ---- other names of classes

abbrev pub state_map : (Name → Name) → State → State
state_map f s = record {
  heap = heap_map (type_map f) s.heap;
  statics = s.statics;
  initialised = s.initialised;
  literals = s.literals;
  frames = map (frame_map (declared_map f)) s.frames;
  account = s.account;
  answers = s.answers;
}

abbrev pub part_map : (Name → Name) → Part → Part
part_map f p = record p { heap = heap_map (type_map f) p.heap }

abbrev pub flow_map : (Name → Name) → Flow → Flow
flow_map f (Goes way) = Goes way
flow_map f (Catch exception) = Catch exception
flow_map f Stop = Stop
flow_map f (Call m arguments) = Call (declared_map f m) arguments
flow_map f (End outcome) = End outcome

abbrev pub effect_map : (Name → Name) → Effect → Effect
effect_map f e = record { part = part_map f e.part; flow = flow_map f e.flow }
