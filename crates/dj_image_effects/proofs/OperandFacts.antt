-- What an instruction is by its operand, and what it asks.
use Rattle.std.proofs.Common.{◌≡◌, ◌<◌, ℕ, true, List, length, Option, Some, None, Result, Ok, Err, IfOk, refl, sym, ap, subst, ◌∙◌, IsTrue}
use Rattle.std.specs.Prelude.{slice_get}
use Rattle.std.proofs.lemmas.Bool.{false≢true}
use Rattle.std.proofs.lemmas.Option.{none-some, same_Some, slice_get_within}
use Rattle.dj_names.specs.declared.run.Value.{Value}
use Rattle.dj_names.specs.declared.run.Value.TheVariants as values
use Rattle.dj_ops.specs.declared.instruction.Instr.{Instr}
use Rattle.dj_names.specs.trusted.Types.{class_type}
use Rattle.dj_library_types.specs.Numbered.{ArePlain}
use Rattle.dj_pool.specs.trusted.Pool.{Constant}
use Rattle.dj_model.specs.trusted.Types.{throwable_name}
use Rattle.dj_model.specs.trusted.Instructions as model
use Rattle.dj_model.specs.trusted.Instructions.{Instruction, Named, Nothing, NewArray}
use Rattle.dj_model.specs.Instructions.{calls}
use Rattle.dj_model.specs.trusted.Opcodes.{instruction_of}
use Rattle.dj_model.specs.Sound.{is_linked}
use Rattle.dj_stack.specs.Frames.{StackFrame}
use Rattle.dj_heap.specs.Heaps.{LimitedHeap}
use Rattle.dj_effects.specs.Does.{Does}
use Rattle.dj_effects.specs.declared.way.Way.{Way}
use Rattle.dj_member_effects.specs.Literals.{LiteralTable}
use Rattle.dj_natives.specs.Known.{AreKnown}
use Rattle.dj_early_rules.specs.trusted.Instructions.{index_of}
use Rattle.dj_program.specs.trusted.Naming.{named_if}
use Rattle.dj_numbering.specs.Typed.{types_of}
use Rattle.dj_numbering.specs.Members.{all_fields}
use Rattle.dj_image.specs.Imaged.{Imaged, program_of, typed_of}
use Rattle.dj_image.specs.Numbering.{AreSettled}
use Rattle.dj_image.specs.Codes.{HasInstr, IsOperandAt}
use Rattle.dj_image.specs.declared.operand.Operand.{Operand}
use Rattle.dj_image.specs.declared.operand.Operand.TheVariants as operands
use Rattle.dj_image.specs.Operands.{made_operand, operand_by, operand_of}
use Rattle.dj_initialisation.specs.Places.{Places}
use Rattle.dj_initialisation.specs.Store.{IsStore, store}
use Rattle.dj_initialisation.proofs.StoreLaws.{units_at}
use Rattle.dj_image_effects.specs.declared.acted.Acted.{Acted}
use Rattle.dj_image_effects.specs.Acting.{Acts, IsActed, IsDone, IsHeap, IsReady, Machine, machine}
use Rattle.dj_image_effects.specs.Flows.{way_acted}
use Rattle.dj_image_effects.specs.Numbers.{literal_push, literal_value, push_of}
use Rattle.dj_image_effects.specs.Operands.{IsInstrAt}
use Rattle.dj_image_effects.specs.Used.{IsBeside, IsClassUsed, IsFieldUsed, IsMade, IsOperandUsed}
use Rattle.dj_image_effects.proofs.Reported.{acted_so, values_acted}
use Rattle.dj_image_effects.proofs.Effects.{push_on_values}
use Rattle.dj_image_effects.proofs.KnownHeaps.{array_holds, classes_numbered, instance_named}
use Rattle.dj_image_effects.proofs.Finding.{Pushes, calls_method, is_call_or_other, no_class, names_nothing, pushes_int, pushes_long, pushes_text, uses_class, uses_field}
use Rattle.dj_image_effects.proofs.Standing.{has_instr, linked_at, operand_is, type_is}
use Rattle.dj_image_effects.proofs.Using.{no_index}

-- ---- operands

module _ (imaged : Imaged) (instr : Instr) (operand : Operand) (named : Named) (used : IsOperandUsed imaged instr operand named) where
  abbrev i : Instruction
  i = instruction_of instr named

  so : (x : Operand) → operand ≡ x → x ≡ operand_of imaged instr named
  so x e = sym e ∙ used.is

  -- none
  pub nothing_is : operand ≡ operands.Nothing → i ≡ instruction_of instr Nothing
  nothing_is e = ap (instruction_of instr) (names_nothing imaged instr named (so operands.Nothing e))

  unmade_nothing : (j : Instruction) (other : Operand) → made_operand imaged j other ≡ operands.Nothing → IsMade imaged j 0
  unmade_nothing (NewArray class element) other e = absurd (no_class operands.Nothing refl _ e)
  unmade_nothing j other e = tt

  pub nothing_made : operand ≡ operands.Nothing → IsMade imaged (instruction_of instr Nothing) 0
  unfolding operand_of
  nothing_made e =
      subst (λ (j : Instruction). IsMade imaged j 0) (nothing_is e) (unmade_nothing i (operand_by imaged instr named) (sym (so operands.Nothing e)))

  -- numbers
  literal_by : (x : Operand) → operand ≡ x → (v : Value) → literal_value x ≡ Some v → i ≡ model.Push v
  literal_by (operands.Int z) e v reported = pushes_int imaged instr named z (so (operands.Int z) e) ∙ ap model.Push (same_Some (values.Int z) v reported)
  literal_by (operands.Long z) e v reported = pushes_long imaged instr named z (so (operands.Long z) e) ∙ ap model.Push (same_Some (values.Long z) v reported)
  literal_by x e v reported = absurd (none-some v reported)

  pub literal_is : (v : Value) → literal_value operand ≡ Some v → i ≡ model.Push v
  literal_is v reported = literal_by operand refl v reported

  -- texts
  pushes : (text : ℕ) → operand ≡ operands.Text text → Pushes imaged i text
  pushes text e = pushes_text imaged instr named text (so (operands.Text text) e)

  pub text_there : (text : ℕ) → operand ≡ operands.Text text → (units : List ℕ) × (i ≡ model.PushText units) × (slice_get imaged.texts text ≡ Some units)
  text_there text e = let p = pushes text e in (p.units, p.is, units_at imaged.texts p.units text p.number)

  pub text_within : (text : ℕ) → operand ≡ operands.Text text → text < length imaged.texts
  text_within text e = let t = text_there text e in slice_get_within imaged.texts text t.0 t.2

  -- classes
  pub class_used : (k : ℕ) → operand ≡ operands.Class k → IsClassUsed imaged instr k named
  class_used k e = record { plainly = used.plainly; uses = uses_class imaged instr named k (so (operands.Class k) e); linked = used.linked }

  -- fields
  pub field_used : (n : ℕ) → operand ≡ operands.Field (record { number = n }) → IsFieldUsed imaged instr n named
  field_used n e =
      let u = uses_field imaged instr named n (so (operands.Field (record { number = n })) e) in
      record { member = u.member; names = u.names; takes = u.takes; found = u.found; is = u.is; linked = used.linked }

  pub field_within : (n : ℕ) → operand ≡ operands.Field (record { number = n }) → n < length (all_fields (program_of imaged))
  field_within n e =
      let u = uses_field imaged instr named n (so (operands.Field (record { number = n })) e) in
      slice_get_within (all_fields (program_of imaged)) n u.is.other u.is.there

  -- methods
  linked_call : (j : Instruction) → is_call_or_other j ≡ true → is_linked (program_of imaged) imaged.prefix j ≡ true → IsTrue (calls j)
  unfolding is_linked
  linked_call (model.Invoke mode m) e linked = refl
  linked_call (model.Other op x) e linked = absurd (false≢true linked)
  linked_call j e linked = absurd (false≢true e)

  pub method_calls : (n : ℕ) → operand ≡ operands.Method (record { number = n }) → IsTrue (calls i)
  method_calls n e = linked_call i (calls_method imaged instr named n (so (operands.Method (record { number = n })) e)) used.linked

pub literal_acted : (imaged : Imaged) (operand : Operand) (v : Value) → literal_value operand ≡ Some v → (old new : List StackFrame) (heap : LimitedHeap) (statics : List ℕ) (literals : LiteralTable)
    (way : Option Way) → Does (literal_push operand) old new way → IsStore imaged (store heap statics literals)
    → Acts imaged (model.Push v) (machine old (store heap statics literals)) (machine new (store heap statics literals)) (way_acted way)
literal_acted imaged operand v reported old new heap statics literals way does are =
    values_acted imaged (model.Push v) old new (store heap statics literals) way (push_on_values imaged v)
    (subst (λ (o : Option Value). Does (push_of o) old new way) reported does) are

-- ---- the heap

pub heap_is : (imaged : Imaged) (heap : LimitedHeap) → AreKnown (types_of (typed_of imaged)) heap → IsHeap imaged heap
heap_is imaged heap known = record {
  known = known;
  numbered = classes_numbered (types_of (typed_of imaged)) heap known;
  instances = instance_named (types_of (typed_of imaged)) heap known;
  arrays = array_holds (types_of (typed_of imaged)) heap known;
}

-- ---- the whole

pub if_ok_so : {A E : Type 0} (r : Result A E) (P Q : A → Type 0) → ((x : A) → P x → Q x) → IfOk r P → IfOk r Q
if_ok_so (Ok x) P Q f p = f x p
if_ok_so (Err e) P Q f p = tt

pub done_as : (imaged : Imaged) (i j : Instruction) (before after : Machine) (acted : Acted) → i ≡ j → Acts imaged j before after acted → IsActed imaged i before after acted
done_as imaged i j before after acted e a = acted_so imaged i before after acted (subst (λ (i : Instruction). Acts imaged i before after acted) (sym e) a)

nothing_named : (pool : List Constant) (o : Option ℕ) (named : Named) → named ≡ named_if pool o → o ≡ None → named ≡ Nothing
nothing_named pool o named is none = is ∙ ap (named_if pool) none

module _ (imaged : Imaged) (table : Places) (thrown method number : ℕ) (m : Machine) (ready : IsReady imaged table thrown method number m) (instr : Instr) (named : Named)
    (at : IsInstrAt imaged method number instr named) where
  pub instr_there : HasInstr imaged method number
  instr_there = has_instr imaged method number instr named at.stands

  pub operand_used : (operand : Operand) → IsOperandAt imaged method number operand → IsOperandUsed imaged instr operand named
  operand_used operand reported = record {
    plainly = λ e. nothing_named at.stands.code.pool (index_of instr) named at.stands.names (no_index instr e);
    is = operand_is imaged method number instr named operand at.stands reported;
    linked = linked_at imaged ready.sound method number (instruction_of instr named) at.is;
  }

  pub all_done : (after : Machine) (acted : Acted) → IsActed imaged (instruction_of instr named) m after acted → IsDone imaged method number m after acted
  all_done after acted done i reported = subst (λ (i : Instruction). IsActed imaged i m after acted) (same_Some (instruction_of instr named) i (sym at.is ∙ reported)) done

pub beside : (imaged : Imaged) (table : Places) (thrown method number : ℕ) (m : Machine) → AreSettled (typed_of imaged) → ArePlain (types_of (typed_of imaged))
    → IsReady imaged table thrown method number m → IsBeside imaged table thrown
beside imaged table thrown method number m settled plain ready = record {
  settled = settled;
  plain = plain;
  texts = ready.texts;
  places = ready.places;
  throwable = record {
    within = slice_get_within (types_of (typed_of imaged)) thrown (class_type (throwable_name imaged.prefix)) ready.throwable;
    is = type_is (typed_of imaged) thrown (class_type (throwable_name imaged.prefix)) ready.throwable;
  };
}
