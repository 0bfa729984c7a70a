-- Literals, whose texts are numbers (JVMS 5.1).
use Rattle.std.specs.Prelude.{◌≡◌, ◌<◌, ⊤, ℕ, ◌+◌, length, List, [], ◌∷◌, ◌++◌, map, Option, Some, None, unwrap_or, slice_get, nat_eq, Result, Ok, Err, if◌then◌else◌}
use Rattle.dj_names.specs.declared.descriptor.Ty.{Ty}
use Rattle.dj_names.specs.trusted.Types.{same_name}
use Rattle.dj_names.specs.declared.run.Value.{Value}
use Rattle.dj_names.specs.declared.run.Value.TheVariants as values
use Rattle.dj_names.specs.declared.run.Outcome.{Outcome}
use Rattle.dj_names.specs.declared.run.Outcome.TheVariants as outcomes
use Rattle.dj_names.specs.trusted.Heaps.{Heap, Text, next_number, text_size, with_new}
use Rattle.dj_names.specs.Heaps.{heap_map}
use Rattle.dj_model.specs.trusted.State as model
use Rattle.dj_model.specs.trusted.Members as members
use Rattle.dj_model.specs.trusted.State.{Literal, Next, Part, Effect}
use Rattle.dj_model.specs.trusted.Effects.{flow_of}
use Rattle.dj_library_types.specs.Numbered.{type_at}
use Rattle.dj_model.specs.trusted.Arrays.{passes_limit}
use Rattle.dj_heap.specs.Heaps.{LimitedHeap}
use Rattle.dj_stack.specs.Frames.{StackFrame, SameButOperands, top_operands}
use Rattle.dj_member_effects.specs.declared.literals.Kept as kept
use Rattle.dj_member_effects.specs.declared.literals.Kept.TheVariants as variants
use Rattle.dj_effects.specs.declared.way.Flow.{Flow}
use Rattle.dj_effects.specs.DoesOnHeap.{flow_view, reported_beside}

-- each literal's text and object, by their numbers, in the order in which they were made; and how many texts there are
pub record LiteralTable : Type 0 where
  pub count : ℕ
  pub made : List (ℕ × ℕ)

-- the object of a text's literal, where there is one
abbrev pub object_of : List (ℕ × ℕ) → ℕ → Option ℕ
object_of [] text = None
object_of (l ∷ literals) text = if nat_eq l.0 text then Some l.1 else object_of literals text

-- the number of an object; 0 means none
abbrev pub object_reported : ℕ → Option ℕ
object_reported object = if nat_eq object 0 then None else Some object

abbrev pub text_at : List (List ℕ) → ℕ → List ℕ
text_at texts text = unwrap_or (slice_get texts text) []

-- the same, with the texts themselves
abbrev pub literals_map : List (List ℕ) → List (ℕ × ℕ) → List Literal
literals_map texts literals = map (λ (l : ℕ × ℕ). record { units = text_at texts l.0; object = l.1 }) literals

-- each literal is of one of this many texts
abbrev pub AreTexts : ℕ → List (ℕ × ℕ) → Type 0
AreTexts count [] = ⊤
AreTexts count (l ∷ literals) = (l.0 < count) × AreTexts count literals

-- each text has one number
abbrev pub Differ : List (List ℕ) → Type 0
Differ texts = (a b : ℕ) → a < length texts → b < length texts → same_name (text_at texts a) (text_at texts b) ≡ nat_eq a b

-- what an instruction on a literal leaves, and how the run goes on
pub record OnLiterals : Type 0 where
  pub heap : Heap ℕ
  pub literals : List (ℕ × ℕ)
  -- the top first
  pub operands : List Value
  pub result : Result model.Way Outcome

abbrev pub literal_flows : Heap ℕ → List (ℕ × ℕ) → List Value → Result model.Way Outcome → OnLiterals
literal_flows heap literals operands result = record { heap = heap; literals = literals; operands = operands; result = result }

abbrev pub pushed : Option ℕ → ℕ → ℕ → List ℕ → Heap ℕ → List (ℕ × ℕ) → List Value → Option ℕ → OnLiterals
pushed limit class text units heap literals operands (Some r) = literal_flows heap literals (values.Ref r ∷ operands) (Ok Next)
pushed limit class text units heap literals operands None =
    if passes_limit limit (heap.used + text_size units) then literal_flows heap literals operands (Err (outcomes.HeapFull heap.used (text_size units)))
    else literal_flows (with_new heap (Text class units)) (literals ++ (text, next_number heap) ∷ []) (values.Ref (next_number heap) ∷ operands) (Ok Next)

-- a literal has one text object, of the class, which is made when it is first used
abbrev pub push_text_by : Option ℕ → ℕ → ℕ → List ℕ → Heap ℕ → List (ℕ × ℕ) → List Value → OnLiterals
push_text_by limit class text units heap literals operands = pushed limit class text units heap literals operands (object_of literals text)

-- in the model
abbrev pub literals_effect : List Ty → List (List ℕ) → Part → OnLiterals → Effect
literals_effect types texts p e =
    record { part = record p { operands = e.operands; heap = heap_map (type_at types) e.heap; literals = literals_map texts e.literals }; flow = flow_of e.result }

-- the top frame's operands, the heap and the literals are as the effect has them, and the answer is how the run goes on
pub record DoesOnLiterals (effect_of : Heap ℕ → List (ℕ × ℕ) → List Value → OnLiterals) (old new : List StackFrame) (before after : LimitedHeap) (literals now : LiteralTable) (flow : Flow) : Type 0 where
  pub effect : effect_of before.heap literals.made (top_operands old) ≡ literal_flows after.heap now.made (reported_beside old new flow) (flow_view flow)
  pub limit : after.limit ≡ before.limit
  pub count : now.count ≡ literals.count
  pub frames : SameButOperands old new

-- ---- a literal's object by itself

-- the object of a literal, and the heap and the literals with it
pub record KeptBy : Type 0 where
  pub object : ℕ
  pub heap : Heap ℕ
  pub literals : List (ℕ × ℕ)

abbrev pub kept_or_made_by : Option ℕ → ℕ → ℕ → List ℕ → Heap ℕ → List (ℕ × ℕ) → Option ℕ → Option KeptBy
kept_or_made_by limit class text units heap literals (Some r) = Some (record { object = r; heap = heap; literals = literals })
kept_or_made_by limit class text units heap literals None =
    if passes_limit limit (heap.used + text_size units) then None
    else Some (record {
      object = next_number heap;
      heap = with_new heap (Text class units);
      literals = literals ++ (text, next_number heap) ∷ [];
    })

-- a literal has one text object, of the class, which is made at its first use; none where it doesn't fit
abbrev pub kept_by : Option ℕ → ℕ → ℕ → List ℕ → Heap ℕ → List (ℕ × ℕ) → Option KeptBy
kept_by limit class text units heap literals = kept_or_made_by limit class text units heap literals (object_of literals text)

-- in the model
abbrev pub kept_map : List Ty → List (List ℕ) → KeptBy → members.Kept
kept_map types texts k = record { object = k.object; heap = heap_map (type_at types) k.heap; literals = literals_map texts k.literals }

abbrev pub kept_reported : LimitedHeap → LiteralTable → kept.Kept → Option KeptBy
kept_reported after now (variants.Object r) = Some (record { object = r; heap = after.heap; literals = now.made })
kept_reported after now (variants.HeapFull used size) = None

-- where it doesn't fit, the answer has the bytes that it needs, and nothing has changed
abbrev pub IsFull : List ℕ → LimitedHeap → LimitedHeap → LiteralTable → LiteralTable → kept.Kept → Type 0
IsFull units before after literals now (variants.Object r) = ⊤
IsFull units before after literals now (variants.HeapFull used size) = (used ≡ before.heap.used) × (size ≡ text_size units) × (after ≡ before) × (now ≡ literals)

-- the heap and the literals are as they are with the object, where there is one
pub record Keeps (class text : ℕ) (units : List ℕ) (before after : LimitedHeap) (literals now : LiteralTable) (reported : kept.Kept) : Type 0 where
  pub effect : kept_by (Some before.limit) class text units before.heap literals.made ≡ kept_reported after now reported
  pub full : IsFull units before after literals now reported
  pub limit : after.limit ≡ before.limit
  pub count : now.count ≡ literals.count
