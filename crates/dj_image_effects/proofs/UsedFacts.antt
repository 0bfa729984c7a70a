-- What an instruction is that uses a field or a class of a number, and what it asks.
use Rattle.std.proofs.Common.{◌≡◌, ◌<◌, ◌&&◌, ℕ, Bool, true, false, List, length, Option, Some, None, refl, sym, ap, subst, ◌∙◌}
use Rattle.std.specs.Prelude.{not}
use Rattle.std.proofs.lemmas.Bool.{false≢true}
use Rattle.std.proofs.lemmas.Option.{same_Some}
use Rattle.dj_names.specs.declared.descriptor.Ty.{Ty}
use Rattle.dj_names.specs.declared.run.Element.TheVariants as elements
use Rattle.dj_names.specs.trusted.Types.{Name, class_type, same_name}
use Rattle.dj_ops.specs.declared.instruction.Instr.{Instr}
use Rattle.dj_library_types.specs.Numbered.{ArePlain}
use Rattle.dj_model.specs.trusted.Types.{initialiser_name}
use Rattle.dj_model.specs.trusted.Instructions as model
use Rattle.dj_model.specs.trusted.Instructions.{Instruction, Named, Nothing, AField, NewArray}
use Rattle.dj_model.specs.trusted.Numbers.{agrees}
use Rattle.dj_model.specs.trusted.Opcodes.{instruction_of}
use Rattle.dj_model.specs.trusted.Program.{is_static}
use Rattle.dj_model.specs.trusted.Linking.{FoundField, resolve_field}
use Rattle.dj_model.specs.Sound.{is_class_of, is_field_found, is_linked}
use Rattle.dj_stack.specs.Frames.{StackFrame}
use Rattle.dj_effects.specs.Actions.{action_view, is_other}
use Rattle.dj_effects.specs.declared.actions.PlainAction.{PlainAction}
use Rattle.dj_effects.specs.declared.actions.PlainAction.TheVariants as actions
use Rattle.dj_heap.specs.Heaps.{LimitedHeap}
use Rattle.dj_class_table.specs.Tables.{name_at}
use Rattle.dj_numbering.specs.Typed.{types_of}
use Rattle.dj_image.specs.Imaged.{Imaged, program_of, typed_of}
use Rattle.dj_initialisation.specs.Store.{store}
use Rattle.dj_image_effects.specs.declared.acted.Acted.TheVariants as acts
use Rattle.dj_image_effects.specs.declared.uses.FieldUse.{FieldUse}
use Rattle.dj_image_effects.specs.declared.uses.FieldUse.TheVariants as fields
use Rattle.dj_image_effects.specs.declared.uses.ClassUse.{ClassUse}
use Rattle.dj_image_effects.specs.declared.uses.ClassUse.TheVariants as classes
use Rattle.dj_image_effects.specs.Accesses.{IsStaticAt}
use Rattle.dj_image_effects.specs.Acting.{ActsOnHeap, IsClassAt, IsMadeBy, machine}
use Rattle.dj_image_effects.specs.Operands.{UsesClass, Makes, Names}
use Rattle.dj_image_effects.specs.Used.{IsClassUsed, IsFieldUsed, IsMade}
use Rattle.dj_image_effects.specs.Uses.{class_use, field_use}
use Rattle.dj_image_effects.proofs.Reported.{stuck_acted}
use Rattle.dj_image_effects.proofs.Effects.{other_stuck}
use Rattle.dj_image_effects.proofs.Standing.{number_within}
use Rattle.dj_image_effects.proofs.Using.{IsClassInstruction, IsFieldInstruction, class_at_number, class_instruction, field_instruction, new_class}

-- ---- actions

made_of : (imaged : Imaged) (action : PlainAction) (k : ℕ) → IsMade imaged (action_view action) k → IsMadeBy imaged action k
made_of imaged (actions.NewArray base element) k made = made
made_of imaged action k made = tt

pub made_by_action : (imaged : Imaged) (action : PlainAction) (i : Instruction) (k : ℕ) → i ≡ action_view action → IsMade imaged i k → IsMadeBy imaged action k
made_by_action imaged action i k is made = made_of imaged action k (subst (λ (i : Instruction). IsMade imaged i k) is made)

pub other_on_heap : (imaged : Imaged) (i : Instruction) (frames : List StackFrame) (heap : LimitedHeap) → is_other i ≡ true → ActsOnHeap imaged i frames frames heap heap acts.Stuck
other_on_heap imaged i frames heap is statics literals are = stuck_acted imaged i (machine frames (store heap statics literals)) (other_stuck imaged i is)

-- ---- classes

first_part : (a b c : Bool) → (a && b && c) ≡ true → a ≡ true
first_part true b c e = refl
first_part false b c e = absurd cc

used_number : (imaged : Imaged) (instr : Instr) (named : Named) (k : ℕ) → UsesClass imaged instr named k → k < length (types_of (typed_of imaged))
used_number imaged instr named k (Makes class element is number) = number_within (typed_of imaged) class k number
used_number imaged instr named k (Names class is takes unmade number) = number_within (typed_of imaged) class k number

module _ (imaged : Imaged) (instr : Instr) (k : ℕ) (named : Named) (used : IsClassUsed imaged instr k named) where
  pub class_within : k < length (types_of (typed_of imaged))
  class_within = used_number imaged instr named k used.uses

  reported : (how : ClassUse) → class_use instr ≡ how → IsClassInstruction imaged k how (instruction_of instr named)
  reported how e = subst (λ (u : ClassUse). IsClassInstruction imaged k u (instruction_of instr named)) e (class_instruction imaged instr named k used.uses)

  linked_so : (i : Instruction) → instruction_of instr named ≡ i → is_linked (program_of imaged) imaged.prefix i ≡ true
  linked_so i is = ap (is_linked (program_of imaged) imaged.prefix) (sym is) ∙ used.linked

  -- new
  pub new_named : class_use instr ≡ classes.New → (name : Name) × (instruction_of instr named ≡ model.New (class_type name)) × (name_at (program_of imaged) k ≡ Some name)
  unfolding is_linked
  new_named e =
      let t = reported classes.New e in
      let named_so = new_class imaged t.0.dims t.0.of k (linked_so (model.New t.0) t.1) t.2 in
      (named_so.name, t.1 ∙ ap model.New named_so.is, named_so.at)

  -- anewarray
  pub array_class : ArePlain (types_of (typed_of imaged)) → class_use instr ≡ classes.NewArray → (class : Ty) × (instruction_of instr named ≡ NewArray class elements.Ref) × IsClassAt imaged class k
  unfolding is_linked
  array_class plain e =
      let t = reported classes.NewArray e in
      let known = first_part (is_class_of (program_of imaged) t.0) _ _ (linked_so (NewArray t.0 elements.Ref) t.1) in
      (t.0, t.1, class_at_number imaged plain t.0 k known t.2)

  -- checkcast
  pub cast_class : ArePlain (types_of (typed_of imaged)) → class_use instr ≡ classes.Cast → (class : Ty) × (instruction_of instr named ≡ model.CheckCast class) × IsClassAt imaged class k
  unfolding is_linked
  cast_class plain e =
      let t = reported classes.Cast e in
      (t.0, t.1, class_at_number imaged plain t.0 k (linked_so (model.CheckCast t.0) t.1) t.2)

  -- instanceof
  pub instance_class : ArePlain (types_of (typed_of imaged)) → class_use instr ≡ classes.Instance → (class : Ty) × (instruction_of instr named ≡ model.InstanceOf class) × IsClassAt imaged class k
  unfolding is_linked
  instance_class plain e =
      let t = reported classes.Instance e in
      (t.0, t.1, class_at_number imaged plain t.0 k (linked_so (model.InstanceOf t.0) t.1) t.2)

  -- those without an index
  plain_named : class_use instr ≡ classes.Plain → instruction_of instr named ≡ instruction_of instr Nothing
  plain_named e = ap (instruction_of instr) (used.plainly e)

  pub plain_made : ArePlain (types_of (typed_of imaged)) → class_use instr ≡ classes.Plain → IsMade imaged (instruction_of instr Nothing) k
  unfolding is_linked
  plain_made plain e =
      let t = reported classes.Plain e in
      let known = first_part (is_class_of (program_of imaged) t.0) _ _ (linked_so (NewArray t.0 t.1) t.2) in
      subst (λ (i : Instruction). IsMade imaged i k) (sym t.2 ∙ plain_named e) (class_at_number imaged plain t.0 k known t.3)

  pub plain_is : class_use instr ≡ classes.Plain → instruction_of instr named ≡ instruction_of instr Nothing
  plain_is e = plain_named e

  pub other_is : class_use instr ≡ classes.Other → is_other (instruction_of instr named) ≡ true
  other_is e = reported classes.Other e

-- ---- fields

module _ (imaged : Imaged) (instr : Instr) (n : ℕ) (named : Named) (used : IsFieldUsed imaged instr n named) where
  field_reported : (how : FieldUse) → field_use instr ≡ how → IsFieldInstruction how used.member (instruction_of instr named)
  field_reported how e =
      subst (λ (named : Named). IsFieldInstruction how used.member (instruction_of instr named)) (sym used.names)
      (subst (λ (u : FieldUse). IsFieldInstruction u used.member (instruction_of instr (AField used.member))) e (field_instruction instr used.member used.takes))

  static_so : (found : Option FoundField) → found ≡ Some used.found → is_field_found true found ≡ true → is_static used.found.field.flags ≡ true
  static_so None e is = absurd (false≢true is)
  static_so (Some f) e is = agrees_true (is_static used.found.field.flags) (ap (λ (x : FoundField). agrees true (is_static x.field.flags)) (sym (same_Some f used.found e)) ∙ is) where
    agrees_true : (b : Bool) → agrees true b ≡ true → b ≡ true
    agrees_true true e = refl
    agrees_true false e = absurd cc

  linked_static : (i : Instruction) → instruction_of instr named ≡ i → is_linked (program_of imaged) imaged.prefix i ≡ true
  linked_static i is = ap (is_linked (program_of imaged) imaged.prefix) (sym is) ∙ used.linked

  last_part : (a b c : Bool) → (a && b && c) ≡ true → c ≡ true
  last_part true true c e = e
  last_part true false c e = absurd cc
  last_part false b c e = absurd cc

  pub get_static_found : field_use instr ≡ fields.GetStatic → IsStaticAt imaged n
  unfolding is_linked
  get_static_found e = record {
    member = used.member;
    found = used.found;
    is = used.is;
    static = static_so (resolve_field (program_of imaged) imaged.prefix used.member) used.is.resolves
        (last_part (is_class_of (program_of imaged) used.member.class) (not (same_name used.member.name initialiser_name)) (is_field_found true (resolve_field (program_of imaged) imaged.prefix used.member)) (linked_static (model.GetStatic used.member) (field_reported fields.GetStatic e)));
  }

  pub put_static_found : field_use instr ≡ fields.PutStatic → IsStaticAt imaged n
  unfolding is_linked
  put_static_found e = record {
    member = used.member;
    found = used.found;
    is = used.is;
    static = static_so (resolve_field (program_of imaged) imaged.prefix used.member) used.is.resolves
        (last_part (is_class_of (program_of imaged) used.member.class) (not (same_name used.member.name initialiser_name)) (is_field_found true (resolve_field (program_of imaged) imaged.prefix used.member)) (linked_static (model.PutStatic used.member) (field_reported fields.PutStatic e)));
  }

  pub is_get_static : field_use instr ≡ fields.GetStatic → instruction_of instr named ≡ model.GetStatic used.member
  is_get_static e = field_reported fields.GetStatic e

  pub is_put_static : field_use instr ≡ fields.PutStatic → instruction_of instr named ≡ model.PutStatic used.member
  is_put_static e = field_reported fields.PutStatic e

  pub is_get : field_use instr ≡ fields.Get → instruction_of instr named ≡ model.GetField used.member
  is_get e = field_reported fields.Get e

  pub is_put : field_use instr ≡ fields.Put → instruction_of instr named ≡ model.PutField used.member
  is_put e = field_reported fields.Put e

  pub is_neither : field_use instr ≡ fields.Neither → is_other (instruction_of instr named) ≡ true
  is_neither e = field_reported fields.Neither e
