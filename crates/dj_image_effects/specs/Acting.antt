-- What an instruction of an image does, by what a machine keeps.
use Rattle.std.specs.Prelude.{◌≡◌, ◌≤◌, ◌<◌, ⊤, ℕ, ℤ, true, length, List, [], ◌∷◌, Option, Some, None, IsTrue, slice_get}
use Rattle.std.specs.Option.{option_map}
use Rattle.dj_names.specs.declared.run.Value.{Value}
use Rattle.dj_names.specs.declared.run.Value.TheVariants as values
use Rattle.dj_names.specs.declared.run.Element.TheVariants as elements
use Rattle.dj_names.specs.declared.run.Outcome.TheVariants as outcomes
use Rattle.dj_names.specs.trusted.Heaps.{Heap, Instance, Array, object_at}
use Rattle.dj_names.specs.Heaps.{heap_map}
use Rattle.dj_names.specs.declared.descriptor.Ty.{Ty}
use Rattle.dj_names.specs.trusted.Types.{Name, class_type, base_array}
use Rattle.dj_edge.specs.declared.host.HostAnswer.{HostAnswer}
use Rattle.dj_library_types.specs.Numbered.{type_at, holds_references}
use Rattle.dj_model.specs.trusted.Instructions.{Instruction, PushText, GetStatic, New}
use Rattle.dj_model.specs.Instructions.{calls}
use Rattle.dj_model.specs.trusted.Types.{Member, throwable_name}
use Rattle.dj_model.specs.trusted.Linking.{FoundField, resolve_field}
use Rattle.dj_model.specs.Sound.{IsSound}
use Rattle.dj_heap.specs.Heaps.{LimitedHeap}
use Rattle.dj_model.specs.trusted.State as model
use Rattle.dj_model.specs.trusted.State.{Terms, Part, Account, Effect}
use Rattle.dj_model.specs.trusted.Effects as effects
use Rattle.dj_stack.specs.Frames.{StackFrame, SameFrames, top_locals, top_number, top_operands, top_room}
use Rattle.dj_effects.specs.declared.actions.PlainAction.{PlainAction}
use Rattle.dj_effects.specs.declared.actions.PlainAction.TheVariants as actions
use Rattle.dj_effects.specs.Does.{Fits, reported_operands, way_view}
use Rattle.dj_member_effects.specs.Literals.{LiteralTable, literals_map}
use Rattle.dj_natives.specs.Known.{AreKnown}
use Rattle.dj_member_effects.specs.Numbering.{AreNumbered}
use Rattle.dj_numbering.specs.Typed.{types_of}
use Rattle.dj_numbering.specs.Members.{all_fields, all_methods}
use Rattle.dj_image.specs.Imaged.{Imaged, program_of, typed_of}
pub use Rattle.dj_current_method.specs.Instructions.{instruction_of_number, HasInstruction}
use Rattle.dj_initialisation.specs.Places.{Places, ArePlaces}
use Rattle.dj_initialisation.specs.Store.{AreTexts, Store, IsStore, store}
use Rattle.dj_image_effects.specs.declared.acted.Acted.{Acted}
use Rattle.dj_image_effects.specs.declared.acted.Acted.TheVariants as acts

-- what of a machine an instruction may change
pub record Machine : Type 0 where
  pub frames : List StackFrame
  pub store : Store

abbrev pub machine : List StackFrame → Store → Machine
machine frames store = record { frames = frames; store = store }

-- in the model, with these operands
abbrev pub part_with : Imaged → Machine → List Value → Account → List HostAnswer → Part
part_with imaged m operands account answers = record {
  locals = top_locals m.frames;
  operands = operands;
  heap = heap_map (type_at (types_of (typed_of imaged))) m.store.heap.heap;
  statics = m.store.statics;
  literals = literals_map imaged.texts m.store.literals.made;
  account = account;
  answers = answers;
}

abbrev pub part_of : Imaged → Machine → Account → List HostAnswer → Part
part_of imaged m account answers = part_with imaged m (top_operands m.frames) account answers

-- ---- what is answered

abbrev pub flow_reported : Acted → Option model.Flow
flow_reported (acts.Goes way) = Some (model.Goes (way_view way))
flow_reported (acts.Catch exception) = Some (model.Catch exception)
flow_reported acts.Link = Some (model.End outcomes.Link)
flow_reported (acts.HeapFull used size) = Some (model.End (outcomes.HeapFull used size))
flow_reported acts.Call = None
flow_reported acts.Stuck = None

-- the operands after an effect; where the run doesn't simply go on, those before the effect
abbrev pub acted_operands : List StackFrame → List StackFrame → Acted → List Value
acted_operands old new (acts.Goes way) = reported_operands old new way
acted_operands old new acted = top_operands old

abbrev pub effect_reported : Imaged → Machine → Machine → Account → List HostAnswer → Acted → Option Effect
effect_reported imaged before after account answers acted =
    option_map (λ flow. record { part = part_with imaged after (acted_operands before.frames after.frames acted) account answers; flow = flow }) (flow_reported acted)

-- the static fields and literals are the image's still, where there is such a step; and what was done is no call
abbrev pub IsKept : Imaged → Store → Acted → Type 0
IsKept imaged st acts.Stuck = ⊤
IsKept imaged st acts.Call = ⊥
IsKept imaged st acted = IsStore imaged st

-- the model's effect of the instruction, and what it leaves, are these; none where no step can be made
pub record Acts (imaged : Imaged) (i : Instruction) (before after : Machine) (acted : Acted) : Type 0 where
  pub effect : (terms : Terms) (own : Name) (account : Account) (answers : List HostAnswer) → terms.limit ≡ Some before.store.heap.limit
      → effects.effect (program_of imaged) imaged.prefix terms own i (part_of imaged before account answers) ≡ effect_reported imaged before after account answers acted
  pub limit : after.store.heap.limit ≡ before.store.heap.limit
  pub frames : SameFrames before.frames after.frames
  pub number : top_number after.frames ≡ top_number before.frames
  pub are : IsKept imaged after.store acted

-- a call isn't done
abbrev pub IsActed : Imaged → Instruction → Machine → Machine → Acted → Type 0
IsActed imaged i before after acts.Call = IsTrue (calls i) × (after ≡ before)
IsActed imaged i before after acted = Acts imaged i before after acted

-- ---- what has to hold before

-- what the instruction pushes has room
abbrev pub HasRoom : Instruction → List StackFrame → Type 0
HasRoom (GetStatic m) frames = length (top_operands frames) < top_room frames
HasRoom (PushText units) frames = length (top_operands frames) < top_room frames
HasRoom (New class) frames = length (top_operands frames) < top_room frames
HasRoom i frames = Fits i frames × (length (top_operands frames) ≤ top_room frames)

-- a reference is null or that of an object
abbrev pub IsThere : Heap ℕ → Value → Type 0
IsThere heap (values.Ref r) = r ≤ length heap.objects
IsThere heap v = ⊤

-- where the top operand is a reference, it is null or that of an object
abbrev pub IsTopThere : Heap ℕ → List Value → Type 0
IsTopThere heap [] = ⊤
IsTopThere heap (v ∷ operands) = IsThere heap v

-- the top operand is a reference past all objects
abbrev pub IsAbsent : Heap ℕ → Value → Type 0
IsAbsent heap (values.Ref r) = length heap.objects < r
IsAbsent heap v = ⊥

abbrev pub IsTopAbsent : Heap ℕ → List Value → Type 0
IsTopAbsent heap [] = ⊥
IsTopAbsent heap (v ∷ operands) = IsAbsent heap v

-- a heap over the image: its objects are known, so that their classes have numbers, and an instance's is no array
pub record IsHeap (imaged : Imaged) (heap : LimitedHeap) : Type 0 where
  pub known : AreKnown (types_of (typed_of imaged)) heap
  pub numbered : AreNumbered (length (types_of (typed_of imaged))) heap.heap
  pub instances : (r class : ℕ) (fields : List ℕ) → object_at heap.heap.objects r ≡ Some (Instance class fields)
      → (name : Name) × (type_at (types_of (typed_of imaged)) class ≡ class_type name)
  -- an array of references is of a class of such arrays
  pub arrays : (r class : ℕ) (contents : List ℤ) → object_at heap.heap.objects r ≡ Some (Array class elements.Ref contents)
      → holds_references (type_at (types_of (typed_of imaged)) class) ≡ true

-- a machine over the image, and what is kept of the image beside it, can do the instruction of a number in a method of a number
pub record IsReady (imaged : Imaged) (table : Places) (thrown method number : ℕ) (m : Machine) : Type 0 where
  pub sound : IsSound (program_of imaged) imaged.prefix
  pub texts : AreTexts imaged
  pub places : ArePlaces (program_of imaged) table
  -- the class Throwable
  pub throwable : slice_get (types_of (typed_of imaged)) thrown ≡ Some (class_type (throwable_name imaged.prefix))
  pub known : AreKnown (types_of (typed_of imaged)) m.store.heap
  pub are : IsStore imaged m.store
  pub there : method < length (all_methods (program_of imaged))
  pub stands : HasInstruction imaged method number

-- the instruction of the number was done, or is a call
abbrev pub IsDone : Imaged → ℕ → ℕ → Machine → Machine → Acted → Type 0
IsDone imaged method number before after acted = (i : Instruction) → instruction_of_number imaged method number ≡ Some i → IsActed imaged i before after acted

-- ---- used by the code alone: what changes nothing but frames and heap

abbrev pub ActsOnHeap : Imaged → Instruction → List StackFrame → List StackFrame → LimitedHeap → LimitedHeap → Acted → Type 0
ActsOnHeap imaged i old new before after acted =
    (statics : List ℕ) (literals : LiteralTable) → IsStore imaged (store before statics literals)
    → Acts imaged i (machine old (store before statics literals)) (machine new (store after statics literals)) acted

-- the same for static fields
abbrev pub ActsOnStatics : Imaged → Instruction → List StackFrame → List StackFrame → List ℕ → List ℕ → Acted → Type 0
ActsOnStatics imaged i old new before after acted =
    (heap : LimitedHeap) (literals : LiteralTable) → IsStore imaged (store heap before literals)
    → Acts imaged i (machine old (store heap before literals)) (machine new (store heap after literals)) acted

-- and of the heap and literals
abbrev pub ActsOnLiterals : Imaged → Instruction → List StackFrame → List StackFrame → LimitedHeap → LimitedHeap → LiteralTable → LiteralTable → Acted → Type 0
ActsOnLiterals imaged i old new before after literals now acted =
    (statics : List ℕ) → IsStore imaged (store before statics literals)
    → Acts imaged i (machine old (store before statics literals)) (machine new (store after statics now)) acted

-- the number is that of a class
pub record IsClassAt (imaged : Imaged) (class : Ty) (k : ℕ) : Type 0 where
  pub within : k < length (types_of (typed_of imaged))
  pub is : type_at (types_of (typed_of imaged)) k ≡ class

-- the class of the array that an action makes
abbrev pub IsMadeBy : Imaged → PlainAction → ℕ → Type 0
IsMadeBy imaged (actions.NewArray base element) k = IsClassAt imaged (base_array base) k
IsMadeBy imaged action k = ⊤

-- the field with this number is the one to which a member resolves, or has the same class, name and descriptor
pub record IsMember (imaged : Imaged) (member : Member) (found : FoundField) (n : ℕ) : Type 0 where
  pub resolves : resolve_field (program_of imaged) imaged.prefix member ≡ Some found
  pub other : FoundField
  pub there : slice_get (all_fields (program_of imaged)) n ≡ Some other
  pub class : other.class ≡ found.class
  pub name : other.field.name ≡ found.field.name
  pub desc : other.field.desc ≡ found.field.desc
  pub same : found.field.desc ≡ member.desc
