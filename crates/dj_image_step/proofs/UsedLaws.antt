-- Which class an instruction uses, by its number.
use Rattle.std.proofs.Common.{◌≡◌, ◌<◌, ℕ, Bool, true, false, List, [], ◌∷◌, length, Option, Some, None, refl, sym, ap, subst, ◌∙◌, if◌then◌else◌, nat_eq, nat_le, nat_lt, ◌&&◌, ◌-◌}
use Rattle.std.specs.Prelude.{⊤, unwrap_or, slice_get, Result, IfOk}
use Rattle.std.specs.Option.{option_map}
use Rattle.std.proofs.lemmas.Bool.{false≢true}
use Rattle.std.proofs.lemmas.Option.{none-some, same_Some, slice_get_within}
use Rattle.dj_names.specs.declared.descriptor.Base.{Base}
use Rattle.dj_names.specs.declared.descriptor.Ty.{Ty}
use Rattle.dj_names.specs.declared.run.Element.{Element}
use Rattle.std.specs.declared.alloc.AllocError.{AllocError}
use Rattle.dj_names.specs.trusted.Types.{Name, base_array}
use Rattle.dj_ops.specs.declared.instruction.Instr.{Instr}
use Rattle.dj_ops.specs.declared.instruction.Instr.TheVariants as instrs
use Rattle.dj_model.specs.trusted.Types.{Member}
use Rattle.dj_model.specs.trusted.Instructions as model
use Rattle.dj_model.specs.trusted.Instructions.{Instruction, Named, Nothing, AField}
use Rattle.dj_model.specs.trusted.Opcodes.{Row, row_does, constant_rows, store_rows, stack_rows, number_rows, bit_rows, last_rows, rows_of, simple, local_rows, operand_does, jump_rows, array_rows, new_array, instruction_of}
use Rattle.dj_model.specs.trusted.Program.{Program, Class}
use Rattle.dj_model.specs.trusted.Linking.{FoundField, FoundMethod, member_class, resolve_field, resolve_method}
use Rattle.dj_model.specs.trusted.Effects.{field_class, method_class, used_class}
use Rattle.dj_model.specs.Sound.{IsSound, is_linked}
use Rattle.dj_effects.specs.Actions.{is_other}
use Rattle.dj_class_table.specs.Tables.{name_at, name_of}
use Rattle.dj_resolution.specs.Linked.{class_name}
use Rattle.dj_numbering.specs.Members.{IsFieldThere, IsMethodThere, all_fields, all_methods}
use Rattle.dj_numbering.specs.Typed.{type_number}
use Rattle.dj_numbering.specs.declared.types.MethodId.{MethodId}
use Rattle.dj_numbering.specs.declared.types.MemberOf.{MemberOf}
use Rattle.dj_image.specs.Codes.{IsOperandAt}
use Rattle.dj_image.specs.Imaged.{Imaged, program_of, typed_of}
use Rattle.dj_current_method.specs.Instructions.{IsInstrAt, instruction_of_number}
use Rattle.dj_current_method.proofs.InstructionFacts.{operand_is}
use Rattle.dj_image.specs.declared.operand.Operand.{Operand}
use Rattle.dj_image.specs.declared.operand.Operand.TheVariants as operands
use Rattle.dj_invocation.specs.declared.choosing.Mode.{Mode}
use Rattle.dj_invocation.specs.declared.choosing.Mode.TheVariants as modes
use Rattle.dj_invocation.specs.Choosing.{IsMethod, reported_mode}
use Rattle.dj_invocation.specs.declared.site.CallSite.{CallSite}
use Rattle.dj_invocation.specs.Sites.{IsCallAt}
use Rattle.dj_invocation.proofs.Bodies.{static_mode}
use Rattle.dj_image_effects.specs.declared.uses.ClassUse.{ClassUse}
use Rattle.dj_image_effects.specs.declared.uses.ClassUse.TheVariants as classes
use Rattle.dj_image_effects.specs.declared.uses.FieldUse.{FieldUse}
use Rattle.dj_image_effects.specs.declared.uses.FieldUse.TheVariants as fields
use Rattle.dj_image_effects.specs.Uses.{class_use, field_use}
use Rattle.dj_image_effects.proofs.Standing.{linked_at}
use Rattle.dj_image_effects.proofs.Finding.{names_nothing, pushes_int, pushes_long, pushes_text, uses_class, uses_field}
use Rattle.dj_image_effects.proofs.Using.{IsClassInstruction, IsFieldInstruction, class_instruction, field_instruction, new_class}
use Rattle.dj_image_step.specs.Doing.{IsUsed}
use Rattle.dj_image_step.specs.Uses.{IsOperandNamed}

-- ---- instructions that use none

abbrev uses : Instruction → Bool
uses (model.New class) = true
uses (model.GetStatic m) = true
uses (model.PutStatic m) = true
uses (model.Invoke mode m) = true
uses i = false

unused : (imaged : Imaged) (i : Instruction) → uses i ≡ false → IsUsed imaged i None
unfolding used_class
unused imaged (model.New class) e = absurd (false≢true (sym e))
unused imaged (model.GetStatic m) e = absurd (false≢true (sym e))
unused imaged (model.PutStatic m) e = absurd (false≢true (sym e))
unused imaged (model.Invoke mode m) e = absurd (false≢true (sym e))
unused imaged i e = refl

other_uses : (i : Instruction) → is_other i ≡ true → uses i ≡ false
other_uses (model.Other op named) e = refl
other_uses i e = absurd (false≢true e)

if_uses : (b : Bool) (i j : Instruction) → uses i ≡ false → uses j ≡ false → uses (if b then i else j) ≡ false
if_uses true i j first second = first
if_uses false i j first second = second

abbrev AllUnused : List Row → Type 0
AllUnused [] = ⊤
AllUnused (row ∷ rest) = ((n : ℕ) → uses (row.does n) ≡ false) × AllUnused rest

row_uses : (rows : List Row) (op : ℕ) → AllUnused rows → uses (row_does rows Nothing op) ≡ false
row_uses [] op all = refl
row_uses (row ∷ rest) op all = if_uses (nat_le row.first op && nat_le op row.last) (row.does (op - row.first)) (row_does rest Nothing op) (all.0 (op - row.first)) (row_uses rest op all.1)

if_rows : (b : Bool) (a c : List Row) → AllUnused a → AllUnused c → AllUnused (if b then a else c)
if_rows true a c first second = first
if_rows false a c first second = second

simple_uses : (op : ℕ) → uses (simple Nothing op) ≡ false
unfolding simple
simple_uses op =
    row_uses (rows_of op) op
    (if_rows (nat_lt op 46) constant_rows _ (λ n. refl, (λ n. refl, (λ n. refl, (λ n. refl, (λ n. refl, (λ n. refl, (λ n. refl, tt)))))))
    (if_rows (nat_lt op 87) store_rows _ (λ n. refl, (λ n. refl, (λ n. refl, (λ n. refl, (λ n. refl, (λ n. refl, (λ n. refl, (λ n. refl, (λ n. refl, (λ n. refl, (λ n. refl, (λ n. refl, (λ n. refl, (λ n. refl, (λ n. refl, tt)))))))))))))))
    (if_rows (nat_lt op 96) stack_rows _ (λ n. refl, (λ n. refl, (λ n. refl, (λ n. refl, (λ n. refl, (λ n. refl, (λ n. refl, (λ n. refl, (λ n. refl, tt)))))))))
    (if_rows (nat_lt op 120) number_rows _ (λ n. refl, (λ n. refl, (λ n. refl, (λ n. refl, (λ n. refl, (λ n. refl, (λ n. refl, (λ n. refl, (λ n. refl, (λ n. refl, (λ n. refl, (λ n. refl, tt))))))))))))
    (if_rows (nat_lt op 133) bit_rows last_rows (λ n. refl, (λ n. refl, (λ n. refl, (λ n. refl, (λ n. refl, (λ n. refl, (λ n. refl, (λ n. refl, (λ n. refl, (λ n. refl, (λ n. refl, (λ n. refl, tt)))))))))))) (λ n. refl, (λ n. refl, (λ n. refl, (λ n. refl, (λ n. refl, (λ n. refl, (λ n. refl, (λ n. refl, (λ n. refl, (λ n. refl, (λ n. refl, (λ n. refl, (λ n. refl, tt))))))))))))))))))

abbrev AllOperandsUnused : List (ℕ × (ℕ → Instruction)) → Type 0
AllOperandsUnused [] = ⊤
AllOperandsUnused (row ∷ rest) = ((n : ℕ) → uses (row.1 n) ≡ false) × AllOperandsUnused rest

operand_uses : (rows : List (ℕ × (ℕ → Instruction))) (op n : ℕ) → AllOperandsUnused rows → uses (operand_does rows Nothing op n) ≡ false
operand_uses [] op n all = refl
operand_uses (row ∷ rest) op n all = if_uses (nat_eq op row.0) (row.1 n) (operand_does rest Nothing op n) (all.0 n) (operand_uses rest op n all.1)

array_uses : (rows : List (ℕ × Base × Element)) (base : ℕ) → uses (new_array rows base) ≡ false
array_uses [] base = refl
array_uses (row ∷ rest) base = if_uses (nat_eq base row.0) (model.NewArray (base_array row.1) row.2) (new_array rest base) refl (array_uses rest base)

nothing_uses : (instr : Instr) → uses (instruction_of instr Nothing) ≡ false
unfolding instruction_of
nothing_uses (instrs.Simple op) = simple_uses op
nothing_uses (instrs.Local op slot wide) = operand_uses local_rows op slot (λ n. refl, (λ n. refl, (λ n. refl, (λ n. refl, (λ n. refl, (λ n. refl, tt))))))
nothing_uses (instrs.Branch op target) = operand_uses jump_rows op _ (λ n. refl, (λ n. refl, (λ n. refl, (λ n. refl, (λ n. refl, (λ n. refl, (λ n. refl, (λ n. refl, (λ n. refl, (λ n. refl, (λ n. refl, (λ n. refl, (λ n. refl, (λ n. refl, (λ n. refl, (λ n. refl, (λ n. refl, (λ n. refl, tt))))))))))))))))))
nothing_uses (instrs.Array base) = array_uses array_rows base
nothing_uses instr = refl

-- none is a class, a field or a method
abbrev pub is_plain : Operand → Bool
is_plain operands.Nothing = true
is_plain (operands.Int z) = true
is_plain (operands.Long z) = true
is_plain (operands.Text n) = true
is_plain operand = false

pub plain_used : (imaged : Imaged) (instr : Instr) (operand : Operand) (named : Named) → IsOperandNamed imaged instr operand named → is_plain operand ≡ true
    → IsUsed imaged (instruction_of instr named) None
plain_used imaged instr operands.Nothing named is e =
    unused imaged (instruction_of instr named) (ap (λ (x : Named). uses (instruction_of instr x)) (names_nothing imaged instr named is.is) ∙ nothing_uses instr)
plain_used imaged instr (operands.Int z) named is e = unused imaged (instruction_of instr named) (ap uses (pushes_int imaged instr named z is.is))
plain_used imaged instr (operands.Long z) named is e = unused imaged (instruction_of instr named) (ap uses (pushes_long imaged instr named z is.is))
plain_used imaged instr (operands.Text n) named is e = unused imaged (instruction_of instr named) (ap uses (pushes_text imaged instr named n is.is).is)
plain_used imaged instr (operands.Class n) named is e = absurd (false≢true e)
plain_used imaged instr (operands.Field field) named is e = absurd (false≢true e)
plain_used imaged instr (operands.Method method) named is e = absurd (false≢true e)
plain_used imaged instr operands.Unresolved named is e = absurd (false≢true e)

-- ---- classes by their numbers

pub class_named : (program : Program) (k : ℕ) (name : Name) → name_at program k ≡ Some name → (k < length program) × (class_name program k ≡ name)
class_named program k name e = (by (slice_get program k) refl e, ap (λ (o : Option Name). unwrap_or o []) e) where
  by : (o : Option Class) → slice_get program k ≡ o → option_map name_of o ≡ Some name → k < length program
  by None is f = absurd (none-some name f)
  by (Some c) is f = slice_get_within program k c is

used_named : (imaged : Imaged) (i : Instruction) (k : ℕ) (name : Name) → used_class (program_of imaged) imaged.prefix i ≡ Some name → name_at (program_of imaged) k ≡ Some name → IsUsed imaged i (Some k)
used_named imaged i k name used at =
    let n = class_named (program_of imaged) k name at in
    (n.0, used ∙ ap Some (sym n.1))

-- ---- calls

pub static_used : (imaged : Imaged) (called : model.Mode) (m : Member) (resolved : FoundMethod) (method : MethodId) (reported : MemberOf) → reported_mode called ≡ modes.Static
    → resolve_method (program_of imaged) imaged.prefix m ≡ Some resolved → IsMethod (program_of imaged) method resolved → IsMethodThere (typed_of imaged) method.number reported
    → IsUsed imaged (model.Invoke called m) (Some reported.class)
unfolding used_class
static_used imaged called m resolved method reported mode resolves is there =
    let same : there.found ≡ resolved = same_Some there.found resolved (sym there.there ∙ is) in
    let used : used_class (program_of imaged) imaged.prefix (model.Invoke called m) ≡ Some resolved.class =
    ap (λ (x : model.Mode). used_class (program_of imaged) imaged.prefix (model.Invoke x m)) (static_mode called mode) ∙ ap method_class resolves in
    used_named imaged (model.Invoke called m) reported.class resolved.class used (there.class ∙ ap (λ (f : FoundMethod). Some f.class) same)

pub called_plainly : (imaged : Imaged) (called : model.Mode) (m : Member) (mode : Mode) → reported_mode called ≡ mode → (mode ≡ modes.Static → ⊥) → IsUsed imaged (model.Invoke called m) None
unfolding used_class
called_plainly imaged model.Static m mode e other = absurd (other (sym e))
called_plainly imaged model.Virtual m mode e other = refl
called_plainly imaged model.Special m mode e other = refl
called_plainly imaged (model.Interface count) m mode e other = refl

-- ---- instructions on classes

abbrev pub new_only : ClassUse → ℕ → Option ℕ
new_only classes.New k = Some k
new_only how k = None

new_used : (imaged : Imaged) (class : Ty) (k : ℕ) → is_linked (program_of imaged) imaged.prefix (model.New class) ≡ true → type_number (typed_of imaged) class ≡ Some k
    → IsUsed imaged (model.New class) (Some k)
unfolding used_class is_linked
new_used imaged class k linked number =
    let named = new_class imaged class.dims class.of k linked number in
    used_named imaged (model.New class) k named.name (ap (λ (ty : Ty). Some (member_class imaged.prefix ty)) named.is) named.at

class_use_reported : (imaged : Imaged) (k : ℕ) (how : ClassUse) (i : Instruction) → is_linked (program_of imaged) imaged.prefix i ≡ true → IsClassInstruction imaged k how i
    → IsUsed imaged i (new_only how k)
class_use_reported imaged k classes.New i linked is =
    subst (λ (j : Instruction). IsUsed imaged j (Some k)) (sym is.1) (new_used imaged is.0 k (sym (ap (is_linked (program_of imaged) imaged.prefix) is.1) ∙ linked) is.2)
class_use_reported imaged k classes.NewArray i linked is = unused imaged i (ap uses is.1)
class_use_reported imaged k classes.Cast i linked is = unused imaged i (ap uses is.1)
class_use_reported imaged k classes.Instance i linked is = unused imaged i (ap uses is.1)
class_use_reported imaged k classes.Other i linked is = unused imaged i (other_uses i is)
class_use_reported imaged k classes.Plain i linked is = unused imaged i (ap uses is.2)

pub class_used : (imaged : Imaged) (instr : Instr) (k : ℕ) (named : Named) → IsOperandNamed imaged instr (operands.Class k) named
    → IsUsed imaged (instruction_of instr named) (new_only (class_use instr) k)
class_used imaged instr k named is =
    class_use_reported imaged k (class_use instr) (instruction_of instr named) is.linked (class_instruction imaged instr named k (uses_class imaged instr named k is.is))

-- ---- instructions on fields

pub field_there : (imaged : Imaged) (instr : Instr) (n : ℕ) (named : Named) → IsOperandNamed imaged instr (operands.Field (record { number = n })) named → n < length (all_fields (program_of imaged))
field_there imaged instr n named is =
    let u = uses_field imaged instr named n is.is in
    slice_get_within (all_fields (program_of imaged)) n u.is.other u.is.there

abbrev pub static_only : FieldUse → ℕ → Option ℕ
static_only fields.GetStatic k = Some k
static_only fields.PutStatic k = Some k
static_only how k = None

field_use_reported : (imaged : Imaged) (m : Member) (found : FoundField) (k : ℕ) (how : FieldUse) (i : Instruction) → IsFieldInstruction how m i
    → resolve_field (program_of imaged) imaged.prefix m ≡ Some found → name_at (program_of imaged) k ≡ Some found.class → IsUsed imaged i (static_only how k)
unfolding used_class
field_use_reported imaged m found k fields.GetStatic i is resolves at =
    used_named imaged i k found.class (ap (used_class (program_of imaged) imaged.prefix) is ∙ ap field_class resolves) at
field_use_reported imaged m found k fields.PutStatic i is resolves at =
    used_named imaged i k found.class (ap (used_class (program_of imaged) imaged.prefix) is ∙ ap field_class resolves) at
field_use_reported imaged m found k fields.Get i is resolves at = unused imaged i (ap uses is)
field_use_reported imaged m found k fields.Put i is resolves at = unused imaged i (ap uses is)
field_use_reported imaged m found k fields.Neither i is resolves at = unused imaged i (other_uses i is)

pub field_used : (imaged : Imaged) (instr : Instr) (n : ℕ) (reported : MemberOf) (named : Named) → IsOperandNamed imaged instr (operands.Field (record { number = n })) named
    → IsFieldThere (typed_of imaged) n reported → IsUsed imaged (instruction_of instr named) (static_only (field_use instr) reported.class)
field_used imaged instr n reported named is there =
    let u = uses_field imaged instr named n is.is in
    let i : instruction_of instr (AField u.member) ≡ instruction_of instr named = ap (instruction_of instr) (sym u.names) in
    let same : there.found ≡ u.is.other = same_Some there.found u.is.other (sym there.there ∙ u.is.there) in
    let at : name_at (program_of imaged) reported.class ≡ Some u.found.class = there.class ∙ ap Some (ap (λ (f : FoundField). f.class) same ∙ u.is.class) in
    subst (λ (j : Instruction). IsUsed imaged j (static_only (field_use instr) reported.class)) i
    (field_use_reported imaged u.member u.found reported.class (field_use instr) (instruction_of instr (AField u.member)) (field_instruction instr u.member u.takes) u.is.resolves at)

-- the field isn't used as a static one
pub no_field_used : (imaged : Imaged) (instr : Instr) (n : ℕ) (named : Named) (how : FieldUse) → how ≡ field_use instr → IsOperandNamed imaged instr (operands.Field (record { number = n })) named
    → static_only how 0 ≡ None → IsUsed imaged (instruction_of instr named) None
no_field_used imaged instr n named how e is none =
    let u = uses_field imaged instr named n is.is in
    subst (λ (j : Instruction). IsUsed imaged j None) (ap (instruction_of instr) (sym u.names))
    (by u.member how none (instruction_of instr (AField u.member))
    (subst (λ (x : FieldUse). IsFieldInstruction x u.member (instruction_of instr (AField u.member))) (sym e) (field_instruction instr u.member u.takes))) where
      by : (m : Member) (x : FieldUse) → static_only x 0 ≡ None → (i : Instruction) → IsFieldInstruction x m i → IsUsed imaged i None
      by m fields.GetStatic none i is = absurd (none-some 0 (sym none))
      by m fields.PutStatic none i is = absurd (none-some 0 (sym none))
      by m fields.Get none i is = unused imaged i (ap uses is)
      by m fields.Put none i is = unused imaged i (ap uses is)
      by m fields.Neither none i is = unused imaged i (other_uses i is)

pub field_used_by : (imaged : Imaged) (instr : Instr) (n : ℕ) (reported : MemberOf) (named : Named) (how : FieldUse) → how ≡ field_use instr
    → IsOperandNamed imaged instr (operands.Field (record { number = n })) named → IsFieldThere (typed_of imaged) n reported → IsUsed imaged (instruction_of instr named) (static_only how reported.class)
field_used_by imaged instr n reported named how e is there =
    subst (λ (x : FieldUse). IsUsed imaged (instruction_of instr named) (static_only x reported.class)) (sym e) (field_used imaged instr n reported named is there)

pub class_used_by : (imaged : Imaged) (instr : Instr) (k : ℕ) (named : Named) (how : ClassUse) → how ≡ class_use instr → IsOperandNamed imaged instr (operands.Class k) named
    → IsUsed imaged (instruction_of instr named) (new_only how k)
class_used_by imaged instr k named how e is = subst (λ (x : ClassUse). IsUsed imaged (instruction_of instr named) (new_only x k)) (sym e) (class_used imaged instr k named is)

-- ---- the instruction of a number

pub site_within : (imaged : Imaged) (caller number : ℕ) (call : CallSite) → IsCallAt imaged caller number call → call.method.number < length (all_methods (program_of imaged))
site_within imaged caller number call at = slice_get_within (all_methods (program_of imaged)) call.method.number at.resolved at.method

pub call_used : (imaged : Imaged) (caller number : ℕ) (call : CallSite) (k : Option ℕ) → IsCallAt imaged caller number call
    → ((called : model.Mode) (m : Member) (resolved : FoundMethod) → reported_mode called ≡ call.mode → resolve_method (program_of imaged) imaged.prefix m ≡ Some resolved
    → IsMethod (program_of imaged) call.method resolved → IsUsed imaged (model.Invoke called m) k)
    → (i : Instruction) → instruction_of_number imaged caller number ≡ Some i → IsUsed imaged i k
call_used imaged caller number call k at used i reported =
    subst (λ (j : Instruction). IsUsed imaged j k) (same_Some (model.Invoke at.called at.member) i (sym at.is ∙ reported)) (used at.called at.member at.resolved at.mode at.resolves at.method)

pub operand_named : (imaged : Imaged) (method number : ℕ) (instr : Instr) (named : Named) (operand : Operand) → IsSound (program_of imaged) imaged.prefix → IsInstrAt imaged method number instr named
    → IsOperandAt imaged method number operand → IsOperandNamed imaged instr operand named
operand_named imaged method number instr named operand sound at o = record {
  is = operand_is imaged method number instr named operand at.stands o;
  linked = linked_at imaged sound method number (instruction_of instr named) at.is;
}

pub named_then : (imaged : Imaged) (method number : ℕ) (instr : Instr) (named : Named) (result : Result (Option ℕ) AllocError) → IsInstrAt imaged method number instr named
    → IfOk result (IsUsed imaged (instruction_of instr named)) → (i : Instruction) → instruction_of_number imaged method number ≡ Some i → IfOk result (IsUsed imaged i)
named_then imaged method number instr named result at used i reported =
    subst (λ (j : Instruction). IfOk result (IsUsed imaged j)) (same_Some (instruction_of instr named) i (sym at.is ∙ reported)) used
