-- What a family does to the heap is what the instruction does.
use Rattle.std.proofs.Common.{◌≡◌, ◌<◌, ℕ, List, length, Option, Some, sym, ap, subst, ◌∙◌}
use Rattle.std.specs.Prelude.{unwrap_or}
use Rattle.std.specs.Option.{option_map}
use Rattle.dj_names.specs.declared.run.Value.{Value}
use Rattle.dj_names.specs.trusted.Heaps.{Heap}
use Rattle.dj_names.specs.trusted.Types.{Name, class_type}
use Rattle.dj_library_types.specs.Numbered.{type_at}
use Rattle.dj_model.specs.trusted.Types.{throwable_name}
use Rattle.dj_model.specs.trusted.Instructions as model
use Rattle.dj_model.specs.trusted.Instructions.{Instruction}
use Rattle.dj_model.specs.trusted.Arrays.{OnHeap}
use Rattle.dj_model.specs.trusted.Linking.{field_count}
use Rattle.dj_heap.specs.Heaps.{LimitedHeap}
use Rattle.dj_stack.specs.Frames.{StackFrame, SameButOperands, top_operands}
use Rattle.dj_effects.specs.DoesOnHeap.{DoesOnHeap}
use Rattle.dj_effects.specs.declared.way.Flow.{Flow}
use Rattle.dj_member_effects.specs.Literals.{LiteralTable}
use Rattle.dj_member_effects.specs.Numbering.{below_of}
use Rattle.dj_member_effects.specs.Objects.{new_by, throw_by}
use Rattle.dj_member_effects.specs.declared.objects.Thrown.{Thrown}
use Rattle.dj_natives.specs.Known.{AreKnown}
use Rattle.dj_class_table.specs.Tables.{name_at}
use Rattle.dj_numbering.specs.Typed.{types_of}
use Rattle.dj_numbering.specs.Members.{field_count_at}
use Rattle.dj_image.specs.Imaged.{Imaged, program_of, typed_of}
use Rattle.dj_initialisation.specs.Store.{store}
use Rattle.dj_image_effects.specs.declared.acted.Acted.{Acted}
use Rattle.dj_image_effects.specs.Acting.{Acts, ActsOnHeap, IsTopThere, machine}
use Rattle.dj_image_effects.specs.Flows.{flow_acted, thrown_acted}
use Rattle.dj_image_effects.proofs.Reported.{IsOnHeap, heap_acted, throw_acted}
use Rattle.dj_image_effects.proofs.Effects.{new_object_is, throw_is}
use Rattle.dj_image_effects.proofs.KnownHeaps.{new_known}
use Rattle.dj_image_effects.proofs.Standing.{class_there, type_is}

pub acted_on_heap : (imaged : Imaged) (i : Instruction) (old new : List StackFrame) (before after : LimitedHeap) (flow : Option Flow) (acted : Acted)
    (effect_of : Heap ℕ → List Value → Option (OnHeap ℕ)) → acted ≡ flow_acted flow
    → ((statics : List ℕ) (literals : LiteralTable) → IsOnHeap imaged i (machine old (store before statics literals)) effect_of)
    → DoesOnHeap effect_of old new before after flow → ActsOnHeap imaged i old new before after acted
acted_on_heap imaged i old new before after flow acted effect_of is on does statics literals are =
    subst (Acts imaged i (machine old (store before statics literals)) (machine new (store after statics literals))) (sym is)
    (heap_acted imaged i old new before after statics literals flow effect_of (on statics literals) does are)

pub thrown_on_heap : (imaged : Imaged) (old new : List StackFrame) (heap : LimitedHeap) (k : ℕ) (t : Option Thrown) (acted : Acted) → acted ≡ thrown_acted t
    → IsTopThere heap.heap (top_operands old) → type_at (types_of (typed_of imaged)) k ≡ class_type (throwable_name imaged.prefix)
    → t ≡ throw_by (below_of (program_of imaged) imaged.prefix (types_of (typed_of imaged)) k) heap.heap (top_operands old) → SameButOperands old new
    → ActsOnHeap imaged model.Throw old new heap heap acted
thrown_on_heap imaged old new heap k t acted is there at reported same statics literals are =
    subst (Acts imaged model.Throw (machine old (store heap statics literals)) (machine new (store heap statics literals))) (sym (is ∙ ap thrown_acted reported))
    (throw_acted imaged model.Throw old new (store heap statics literals) (throw_by (below_of (program_of imaged) imaged.prefix (types_of (typed_of imaged)) k) heap.heap (top_operands old))
    (throw_is imaged (machine old (store heap statics literals)) there k at) same are)

pub new_on_heap : (imaged : Imaged) (old new : List StackFrame) (before after : LimitedHeap) (class fields : ℕ) (name : Name) (flow : Flow) (acted : Acted) → acted ≡ flow_acted (Some flow)
    → name_at (program_of imaged) class ≡ Some name → fields ≡ field_count_at (typed_of imaged) class
    → DoesOnHeap (new_by (Some before.limit) class fields) old new before after (Some flow) → ActsOnHeap imaged (model.New (class_type name)) old new before after acted
new_on_heap imaged old new before after class fields name flow acted is at many does =
    acted_on_heap imaged (model.New (class_type name)) old new before after (Some flow) acted (new_by (Some before.limit) class fields) is
    (λ statics literals. new_object_is imaged (machine old (store before statics literals)) (class_type name) class fields
    (type_is (typed_of imaged) class (class_type name) (class_there (program_of imaged) imaged.arrays class name at))
    (many ∙ ap (λ (o : Option Name). unwrap_or (option_map (field_count (program_of imaged)) o) 0) at)) does

pub new_keeps : (imaged : Imaged) (old new : List StackFrame) (before after : LimitedHeap) (limit : Option ℕ) (class fields : ℕ) (name : Name) (flow : Flow) → AreKnown (types_of (typed_of imaged)) before
    → class < length (types_of (typed_of imaged)) → name_at (program_of imaged) class ≡ Some name → DoesOnHeap (new_by limit class fields) old new before after (Some flow)
    → AreKnown (types_of (typed_of imaged)) after
new_keeps imaged old new before after limit class fields name flow known within at does =
    new_known (types_of (typed_of imaged)) limit class fields old new before after flow known within
    (name, type_is (typed_of imaged) class (class_type name) (class_there (program_of imaged) imaged.arrays class name at)) does
