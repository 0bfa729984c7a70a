-- What a call of a native method does to a heap whose objects have classes by numbers, and to the accounter.
use Rattle.std.specs.Prelude.{◌≡◌, ℕ, ⊤, true, false, ℤ, pos, List, [], ◌∷◌, ◌++◌, map, length, Option, Some, None, set}
use Rattle.dj_names.specs.declared.descriptor.Ty.{Ty}
use Rattle.dj_names.specs.declared.run.Value.{Value}
use Rattle.dj_names.specs.declared.run.Element.TheVariants as elements
use Rattle.dj_names.specs.declared.run.Outcome.TheVariants as outcomes
use Rattle.dj_names.specs.declared.native.NativeId.{NativeId}
use Rattle.dj_names.specs.declared.native.NativeId.TheVariants as natives
use Rattle.dj_names.specs.trusted.Heaps.{Object, Instance, Array, Heap, with_object}
use Rattle.dj_names.specs.Heaps.{heap_map}
use Rattle.dj_heap.specs.Heaps.{LimitedHeap, object_in}
use Rattle.dj_heap.specs.declared.errors.HeapError.{HeapError}
use Rattle.dj_heap.specs.declared.errors.HeapError.TheVariants as errors
use Rattle.dj_model.specs.trusted.Types.{Prefix, is_stop}
use Rattle.dj_model.specs.trusted.Program.{Program}
use Rattle.dj_model.specs.trusted.State.{Terms, Counting, Uncounted, Accounted, Part, Flow, Next, Raise, Goes, Catch, Stop, End, Effect, goes}
use Rattle.dj_model.specs.trusted.Natives as model
use Rattle.dj_model.specs.trusted.Natives.{Seen, reference}
use Rattle.dj_model.specs.trusted.Performing.{class_at_number, seen, perform, native, with_fields}
use Rattle.dj_natives.specs.declared.answer.Answer.{Answer}
use Rattle.dj_natives.specs.declared.answer.NativeAnswer.{NativeAnswer}
use Rattle.dj_natives.specs.declared.answer.NativeAnswer.TheVariants as reported
use Rattle.dj_natives.specs.Counting.{Counter}
use Rattle.dj_library_types.specs.Numbered.{type_at}
use Rattle.dj_natives.specs.Known.{AreKnown}
use Rattle.dj_natives.specs.Answers.{answer_view}

-- ---- what the model of a run has in the place of the heap and the accounter

-- the heap, with types in place of the numbers of classes
abbrev pub typed_heap : List Ty → LimitedHeap → Heap Ty
typed_heap types h = heap_map (type_at types) h.heap

abbrev pub seen_of : Program → Prefix → List Ty → LimitedHeap → Seen
seen_of program prefix types h = seen program prefix (typed_heap types h)

abbrev pub counting_of : Option Counter → Counting
counting_of None = Uncounted
counting_of (Some c) = Accounted c.limits

abbrev pub terms_of : LimitedHeap → Option Counter → Terms
terms_of h counter = record { limit = Some h.limit; counting = counting_of counter }

-- without an accounter no charges are counted
abbrev pub with_counter : Option Counter → Part → Part
with_counter None p = p
with_counter (Some c) p = record p { account = c.account }

abbrev pub part_with : List Ty → LimitedHeap → Option Counter → Part → Part
part_with types h counter p = with_counter counter (record p { heap = typed_heap types h })

-- ---- what a call answers

abbrev pub given : NativeAnswer → List Value
given (reported.Gives v) = v ∷ []
given _ = []

-- the object that is thrown again is the argument; a charge that passes its threshold has none yet
abbrev pub stop_reported : NativeId → List Value → Flow
stop_reported natives.CheckCatch args = Catch (reference 0 args)
stop_reported id args = Stop

abbrev pub flow_reported : NativeId → List Value → NativeAnswer → Option Flow
flow_reported id args reported.Nothing = Some (Goes Next)
flow_reported id args (reported.Gives v) = Some (Goes Next)
flow_reported id args (reported.Raise raised) = Some (Goes (Raise raised))
flow_reported id args reported.Stop = Some (stop_reported id args)
flow_reported id args (reported.Full used size) = Some (End (outcomes.HeapFull used size))
flow_reported id args reported.Memory = None

abbrev pub effect_with : List Ty → LimitedHeap → Option Counter → NativeAnswer → Part → Flow → Effect
effect_with types h counter result p flow =
    record { part = record (part_with types h counter p) { operands = given result ++ p.operands }; flow = flow }

-- the model's native method has this effect, whatever the rest of the run is; nothing is said where there was no memory
abbrev pub Does : Program → Prefix → List Ty → LimitedHeap → LimitedHeap → Option Counter → Option Counter → NativeId → List Value → NativeAnswer → Option Flow → Type 0
Does program prefix types old new before after id args result None = ⊤
Does program prefix types old new before after id args result (Some flow) =
    (p : Part) → native program prefix (terms_of old before) (part_with types old before p) id args ≡ Some (effect_with types new after result p flow)

-- a run that doesn't go on leaves the heap
abbrev pub KeepsHeap : LimitedHeap → LimitedHeap → NativeAnswer → Type 0
KeepsHeap old new reported.Stop = new ≡ old
KeepsHeap old new (reported.Full used size) = new ≡ old
KeepsHeap old new reported.Memory = new ≡ old
KeepsHeap old new _ = new.limit ≡ old.limit

-- the accounter stays what it is, but for its sums
abbrev pub KeepsCounter : Option Counter → Option Counter → Type 0
KeepsCounter None None = ⊤
KeepsCounter (Some old) (Some new) = new.limits ≡ old.limits
KeepsCounter _ _ = ⊥

pub record Calls (program : Program) (prefix : Prefix) (types : List Ty) (old new : LimitedHeap) (before after : Option Counter) (id : NativeId) (args : List Value)
    (result : NativeAnswer) : Type 0 where
  pub does : Does program prefix types old new before after id args result (flow_reported id args result)
  pub heap : KeepsHeap old new result
  pub known : AreKnown types new
  pub counter : KeepsCounter before after

-- ---- parts of a call

-- how the run goes on after what was done of an answer
abbrev pub flow_of : NativeAnswer → Flow
flow_of reported.Nothing = Goes Next
flow_of (reported.Gives v) = Goes Next
flow_of (reported.Raise raised) = Goes (Raise raised)
flow_of reported.Stop = Stop
flow_of (reported.Full used size) = End (outcomes.HeapFull used size)
flow_of reported.Memory = Goes Next

-- where nobody counts charges, such an answer of the model has this effect; nothing is said where there was no memory
abbrev pub Performs : Prefix → List Ty → LimitedHeap → LimitedHeap → model.Answer → NativeAnswer → Type 0
Performs prefix types old new answer reported.Memory = ⊤
Performs prefix types old new answer reported.Stop = ⊥
Performs prefix types old new answer result =
    (p : Part) → perform prefix (terms_of old None) (part_with types old None p) answer ≡ effect_with types new None result p (flow_of result)

-- the result of an answer of the model, with all that a call says of the heap
pub record Done (prefix : Prefix) (types : List Ty) (old new : LimitedHeap) (answer : model.Answer) (result : NativeAnswer) : Type 0 where
  pub does : Performs prefix types old new answer result
  pub heap : KeepsHeap old new result
  pub known : AreKnown types new

abbrev pub Finished : Prefix → List Ty → LimitedHeap → LimitedHeap → Option model.Answer → NativeAnswer → Type 0
Finished prefix types old new None result = (result ≡ reported.Memory) × (new ≡ old)
Finished prefix types old new (Some answer) result = Done prefix types old new answer result

abbrev pub returned : Option Value → NativeAnswer
returned None = reported.Nothing
returned (Some v) = reported.Gives v

abbrev pub refused_as : HeapError → NativeAnswer
refused_as (errors.Full used size) = reported.Full used size
refused_as errors.Memory = reported.Memory

-- an array of as many chars
pub record IsFillable (h : LimitedHeap) (r n : ℕ) : Type 0 where
  pub class : ℕ
  pub contents : List ℤ
  pub is : object_in h r ≡ Some (Array class elements.Char contents)
  pub long : length contents ≡ n

-- the elements of the array are these now
abbrev pub Fills : LimitedHeap → LimitedHeap → ℕ → List ℕ → Type 0
Fills old new r units = (class : ℕ) (contents : List ℤ) → object_in old r ≡ Some (Array class elements.Char contents)
    → new ≡ record old { heap = with_object old.heap r (Array class elements.Char (map pos units)) }

-- whether the object is the one that stops the run
abbrev pub Rethrows : Prefix → List Ty → LimitedHeap → ℕ → NativeAnswer → Type 0
Rethrows prefix types h r reported.Stop = is_stop prefix (class_at_number (typed_heap types h) r) ≡ true
Rethrows prefix types h r reported.Nothing = is_stop prefix (class_at_number (typed_heap types h) r) ≡ false
Rethrows prefix types h r _ = ⊥

-- a field of an instance that has it is this reference now
abbrev pub with_reference : Option (Object ℕ) → ℕ → ℕ → Option (Object ℕ)
with_reference (Some (Instance class fields)) at r = Some (Instance class (set fields at r))
with_reference _ at r = None

abbrev pub set_in : LimitedHeap → ℕ → Option (Object ℕ) → LimitedHeap
set_in h object None = h
set_in h object (Some changed) = record h { heap = with_object h.heap object changed }

abbrev pub with_values : Option (Object ℕ) → List Value → Option (Object ℕ)
with_values (Some (Instance class fields)) vs = Some (Instance class (with_fields fields vs))
with_values _ vs = None

abbrev pub SetsField : LimitedHeap → LimitedHeap → ℕ → ℕ → ℕ → Type 0
SetsField old new object at r = new ≡ set_in old object (with_reference (object_in old object) at r)

-- ---- the whole of it

-- what the two methods that have no answer of this kind do, and charge nothing for, whoever counts
pub record Acts (program : Program) (prefix : Prefix) (types : List Ty) (old new : LimitedHeap) (id : NativeId) (args : List Value) (result : NativeAnswer) : Type 0 where
  pub does : (counter : Option Counter) → Does program prefix types old new counter counter id args result (flow_reported id args result)
  pub heap : KeepsHeap old new result
  pub known : AreKnown types new

abbrev pub Finishes : Program → Prefix → List Ty → LimitedHeap → LimitedHeap → NativeId → List Value → Option Answer → NativeAnswer → Type 0
Finishes program prefix types old new id args None result = Acts program prefix types old new id args result
Finishes program prefix types old new id args (Some reported) result = Finished prefix types old new (answer_view reported) result
