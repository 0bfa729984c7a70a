-- Texts that are pushed.
use Rattle.std.proofs.Common.{◌≡◌, ◌+◌, ◌<◌, ◌++◌, ℕ, Bool, true, false, List, [], ◌∷◌, length, Option, Some, None, Ok, Err, if◌then◌else◌, sym, ap, subst, ◌∙◌}
use Rattle.std.specs.Prelude.{slice_get, unwrap_or}
use Rattle.std.proofs.lemmas.Option.{same_Some, slice_get_within}
use Rattle.dj_names.specs.declared.run.Value.{Value}
use Rattle.dj_names.specs.declared.run.Value.TheVariants as values
use Rattle.dj_names.specs.declared.run.Outcome.TheVariants as outcomes
use Rattle.dj_names.specs.trusted.Heaps.{Heap, Text, next_number, text_size, with_new}
use Rattle.dj_names.specs.trusted.Types.{class_type}
use Rattle.dj_library_types.specs.Numbered.{type_at}
use Rattle.dj_model.specs.trusted.Types.{string_name}
use Rattle.dj_model.specs.trusted.Instructions as model
use Rattle.dj_model.specs.trusted.State.{Next}
use Rattle.dj_model.specs.trusted.Arrays.{passes_limit}
use Rattle.dj_heap.specs.Heaps.{LimitedHeap}
use Rattle.dj_stack.specs.Frames.{StackFrame, top_operands}
use Rattle.dj_effects.specs.declared.way.Flow.{Flow}
use Rattle.dj_member_effects.specs.Literals as literals
use Rattle.dj_member_effects.specs.Literals.{DoesOnLiterals, LiteralTable, OnLiterals, object_of, push_text_by, pushed, text_at}
use Rattle.dj_member_effects.proofs.LiteralLaws.{texts_more}
use Rattle.dj_class_table.proofs.Numbered.{name_at-number}
use Rattle.dj_numbering.specs.Typed.{types_of, string_at}
use Rattle.dj_image.specs.Imaged.{Imaged, program_of, typed_of}
use Rattle.dj_initialisation.specs.Store.{AreTexts, store}
use Rattle.dj_image_effects.specs.declared.acted.Acted.{Acted}
use Rattle.dj_image_effects.specs.Acting.{Acts, ActsOnLiterals, machine}
use Rattle.dj_image_effects.specs.Flows.{flow_acted}
use Rattle.dj_image_effects.proofs.Reported.{literals_acted}
use Rattle.dj_image_effects.proofs.Effects.{push_is}
use Rattle.dj_image_effects.proofs.Standing.{class_there, type_is}

-- the literals are of the image's texts still
texts_pushed : (limit : Option ℕ) (class text count : ℕ) (units : List ℕ) (heap : Heap ℕ) (made : List (ℕ × ℕ)) (operands : List Value) (o : Option ℕ)
    → literals.AreTexts count made → text < count → literals.AreTexts count (pushed limit class text units heap made operands o).literals
texts_pushed limit class text count units heap made operands (Some r) known less = known
texts_pushed limit class text count units heap made operands None known less = by (passes_limit limit (heap.used + text_size units)) where
  by : (b : Bool) → literals.AreTexts count
      (if b then literals.literal_flows heap made operands (Err (outcomes.HeapFull heap.used (text_size units)))
      else literals.literal_flows (with_new heap (Text class units)) (made ++ (text, next_number heap) ∷ []) (values.Ref (next_number heap) ∷ operands) (Ok Next)).literals
  by true = known
  by false = texts_more count text _ made known less

string_there : (imaged : Imaged) (string : ℕ) → Some string ≡ string_at (typed_of imaged) → slice_get (types_of (typed_of imaged)) string ≡ Some (class_type (string_name imaged.prefix))
string_there imaged string is =
    class_there (program_of imaged) imaged.arrays string (string_name imaged.prefix) (name_at-number (program_of imaged) (string_name imaged.prefix) string (sym is))

pub string_within : (imaged : Imaged) (string : ℕ) → Some string ≡ string_at (typed_of imaged) → string < length (types_of (typed_of imaged))
string_within imaged string is =
    slice_get_within (types_of (typed_of imaged)) string (class_type (string_name imaged.prefix)) (string_there imaged string is)

pub text_on_literals : (imaged : Imaged) (old new : List StackFrame) (before after : LimitedHeap) (table now : LiteralTable) (string text : ℕ) (units reported : List ℕ) (flow : Flow) (acted : Acted)
    → acted ≡ flow_acted (Some flow) → AreTexts imaged → text < length imaged.texts → Some string ≡ string_at (typed_of imaged)
    → slice_get imaged.texts text ≡ Some reported → slice_get imaged.texts text ≡ Some units
    → DoesOnLiterals (push_text_by (Some before.limit) string text reported) old new before after table now flow
    → ActsOnLiterals imaged (model.PushText units) old new before after table now acted
text_on_literals imaged old new before after table now string text units reported flow acted is texts known string_is at spells does statics store_is =
    let same : reported ≡ units = same_Some reported units (sym at ∙ spells) in
    let type : type_at (types_of (typed_of imaged)) string ≡ class_type (string_name imaged.prefix) =
    type_is (typed_of imaged) string (class_type (string_name imaged.prefix)) (string_there imaged string string_is) in
    let kept : literals.AreTexts (length imaged.texts) now.made =
    subst (literals.AreTexts (length imaged.texts)) (ap (λ (e : OnLiterals). e.literals) does.effect)
    (texts_pushed (Some before.limit) string text (length imaged.texts) reported before.heap table.made (top_operands old) (object_of table.made text) store_is.texts known) in
    subst (Acts imaged (model.PushText units) (machine old (store before statics table)) (machine new (store after statics now))) (sym is)
    (literals_acted imaged (model.PushText units) old new before after statics table now flow (push_text_by (Some before.limit) string text units)
    (push_is imaged (machine old (store before statics table)) store_is texts string text units type known (ap (λ (o : Option (List ℕ)). unwrap_or o []) spells))
    (subst (λ (us : List ℕ). DoesOnLiterals (push_text_by (Some before.limit) string text us) old new before after table now flow) same does)
    (record { statics = store_is.statics; count = does.count ∙ store_is.count; texts = kept }))
