-- The machine's parts as the model has them.
use Rattle.std.specs.Prelude.{◌≡◌, ◌^◌, ◌<◌, ⊤, [], length, Option, Some, None, codes}
use Rattle.dj_names.specs.declared.run.Element.TheVariants as elements
use Rattle.dj_names.specs.declared.run.Value.TheVariants as values
use Rattle.dj_names.specs.trusted.Values.{raised_class}
use Rattle.dj_straight.specs.trusted.Instructions.{Instruction}
use Rattle.dj_straight.specs.trusted.Effects as model
use Rattle.dj_straight.specs.trusted.Effects.{Terms, StraightPart, Effect, effect, goes}
use Rattle.dj_straight.specs.declared.machine.heap.Referent.{Referent}
use Rattle.dj_straight.specs.declared.machine.heap.Referent.TheVariants as referents
use Rattle.dj_straight.specs.declared.machine.parts.StraightMachine.{StraightMachine}
use Rattle.dj_straight.specs.declared.machine.parts.Progress.{Progress}
use Rattle.dj_straight.specs.declared.machine.parts.Progress.TheVariants as ways

abbrev pub referent_view : Referent → model.Found
referent_view referents.Null = model.Null
referent_view referents.NoArray = model.NoArray
referent_view (referents.Bytes bytes) = model.IsArray (codes "[B") elements.Byte bytes.now

abbrev pub IsShort : Referent → Type 0
IsShort (referents.Bytes bytes) = length bytes.now < 2 ^ 31
IsShort _ = ⊤

abbrev pub machine_view : StraightMachine → StraightPart
machine_view m = record { locals = m.locals.items; operands = m.operands; heap = m.heap; statics = []; literals = [] }

-- without a limit on the heap
abbrev pub straight_terms : Terms
straight_terms = record { limit = None; raised = raised_class; thresholds = None; stop = None }

-- the effect of a straight instruction: it needs no class, so it is the same in every program and in every metered run
abbrev pub straight_effect : Instruction → StraightPart → Option Effect
straight_effect i p = effect [] straight_terms i p

-- the effect of an instruction that goes on in this way, from the first part to the second
abbrev pub reported : StraightPart → StraightPart → Progress → Option Effect
reported before after ways.Next = Some (goes after model.Next)
reported before after (ways.Raises raised) = Some (goes before (model.Raise raised))
reported before after (ways.Returns reference) = Some (goes after (model.Back (Some (values.Ref reference))))
reported before after ways.Broken = Some (goes before model.Broken)
reported before after ways.IllFormed = None

-- the instruction has this effect
abbrev pub Does : Instruction → StraightPart → StraightPart → Progress → Type 0
Does i before after way = straight_effect i before ≡ reported before after way
