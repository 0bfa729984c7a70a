-- What a call instruction of an image names: by its opcode how it calls, by its operand what it resolves to, and by what is kept of its constant the kinds.
use Rattle.std.proofs.Common.{◌≡◌, ℕ, Bool, true, false, List, Option, Some, None, nat_eq, if◌then◌else◌, Bor, refl, sym, ap, subst, ◌∙◌, inl, inr, ◌⊎◌}
use Rattle.std.specs.Prelude.{IfSome, option_and_then, slice_get}
use Rattle.std.specs.Option.{option_map}
use Rattle.std.proofs.lemmas.Bool.{eqb-true}
use Rattle.std.proofs.lemmas.Option.{none-some, same_Some, slice_get-map}
use Rattle.dj_names.specs.declared.descriptor.Kind.{Kind}
use Rattle.dj_names.specs.trusted.Types.{parameters_of}
use Rattle.dj_ops.specs.declared.instruction.Instr.{Instr}
use Rattle.dj_ops.specs.declared.instruction.Instr.TheVariants as instrs
use Rattle.dj_model.specs.trusted.Types.{Prefix, Member}
use Rattle.dj_model.specs.trusted.Instructions as model
use Rattle.dj_model.specs.trusted.Instructions.{Named, AMethod, AnInterfaceMethod, Instruction, Invoke, Other, Virtual, Special, Static, Interface}
use Rattle.dj_model.specs.trusted.Opcodes.{instruction_of}
use Rattle.dj_model.specs.trusted.Program.{Program, Code, body_code}
use Rattle.dj_model.specs.Sound.{IsProgram}
use Rattle.dj_model.specs.trusted.State.{instruction_in}
use Rattle.dj_model.specs.trusted.Kinds.{Signature, call_signature}
use Rattle.dj_model.specs.trusted.Members.{kinds_of}
use Rattle.dj_model.specs.trusted.Linking.{FoundMethod, resolve_method}
use Rattle.dj_early_rules.specs.trusted.Instructions.{index_of}
use Rattle.dj_program.specs.trusted.Codes.{code_in}
use Rattle.dj_program.specs.trusted.Naming.{named_at, named_if}
use Rattle.dj_program.specs.trusted.Naming as naming
use Rattle.dj_program.specs.declared.code.MethodCode.{MethodCode}
use Rattle.dj_shape_rule.specs.Kept.{KeptKinds}
use Rattle.dj_shape_rule.specs.Pools.{SaysKind, call_at}
use Rattle.dj_shape_rule.specs.declared.pool.ConstantKind.{ConstantKind}
use Rattle.dj_shape_rule.specs.declared.pool.ConstantKind.TheVariants as constants
use Rattle.dj_numbering.specs.Members.{found_method_number}
use Rattle.dj_numbering.specs.declared.types.MethodId.{MethodId}
use Rattle.dj_image.specs.declared.operand.Operand.{Operand}
use Rattle.dj_image.specs.declared.operand.Operand.TheVariants as operands
use Rattle.dj_image.specs.declared.shaped.ShapeParts.{ShapeParts}
use Rattle.dj_image.specs.Imaged.{Imaged, program_of}
use Rattle.dj_image.specs.Operands.{method_operand, operand_of, resolved_method_number}
use Rattle.dj_image.specs.Codes.{IsOperandAt}
use Rattle.dj_image.specs.Shaped.{AreShapeParts}
use Rattle.dj_current_method.specs.Instructions.{IsInstrAt, instruction_of_number}
use Rattle.dj_current_method.proofs.Numbers.{code_of_number}
use Rattle.dj_current_method.proofs.InstructionFacts.{operand_is}
use Rattle.dj_invocation.specs.declared.choosing.Mode.{Mode}
use Rattle.dj_invocation.specs.declared.choosing.Mode.TheVariants as modes
use Rattle.dj_invocation.specs.declared.site.CallSite.{CallSite}
use Rattle.dj_invocation.specs.Choosing.{IsMethod, reported_mode}
use Rattle.dj_invocation.specs.Operands.{parameters_in}
use Rattle.dj_invocation.specs.Sites.{AreParametersAt, IsCallAt, call_index, call_mode, call_named, desc_index, opcode_mode}
use Rattle.dj_invocation.proofs.Found.{found_numbered, resolved_own}
use Rattle.dj_invocation.proofs.SignatureFacts.{kinds_there}

-- ---- by the opcode and the operand

abbrev number_in : Operand → Option ℕ
number_in (operands.Method method) = Some method.number
number_in x = None

method_number_is : (o : Option ℕ) (method : MethodId) → method_operand o ≡ operands.Method method → o ≡ Some method.number
method_number_is None method e = absurd cc
method_number_is (Some n) method e = ap number_in e

-- the instruction calls by the mode what resolves to the method
record IsCalled (imaged : Imaged) (instr : Instr) (named : Named) (mode : Mode) (method : MethodId) : Type 0 where
  called : model.Mode
  member : Member
  is : instruction_of instr named ≡ Invoke called member
  mode_is : reported_mode called ≡ mode
  number : resolved_method_number imaged member ≡ Some method.number

virtual_called : (imaged : Imaged) (index : ℕ) (named : Named) (method : MethodId) → operand_of imaged (instrs.Member 182 index) named ≡ operands.Method method
    → IsCalled imaged (instrs.Member 182 index) named modes.Virtual method
unfolding operand_of instruction_of
virtual_called imaged index (AMethod m) method e =
    record { called = Virtual; member = m; is = refl; mode_is = refl; number = method_number_is (resolved_method_number imaged m) method e }
virtual_called imaged index named method e = absurd cc

special_called : (imaged : Imaged) (index : ℕ) (named : Named) (method : MethodId) → operand_of imaged (instrs.Member 183 index) named ≡ operands.Method method
    → IsCalled imaged (instrs.Member 183 index) named modes.Special method
unfolding operand_of instruction_of
special_called imaged index (AMethod m) method e =
    record { called = Special; member = m; is = refl; mode_is = refl; number = method_number_is (resolved_method_number imaged m) method e }
special_called imaged index (AnInterfaceMethod m) method e =
    record { called = Special; member = m; is = refl; mode_is = refl; number = method_number_is (resolved_method_number imaged m) method e }
special_called imaged index named method e = absurd cc

static_called : (imaged : Imaged) (index : ℕ) (named : Named) (method : MethodId) → operand_of imaged (instrs.Member 184 index) named ≡ operands.Method method
    → IsCalled imaged (instrs.Member 184 index) named modes.Static method
unfolding operand_of instruction_of
static_called imaged index (AMethod m) method e =
    record { called = Static; member = m; is = refl; mode_is = refl; number = method_number_is (resolved_method_number imaged m) method e }
static_called imaged index (AnInterfaceMethod m) method e =
    record { called = Static; member = m; is = refl; mode_is = refl; number = method_number_is (resolved_method_number imaged m) method e }
static_called imaged index named method e = absurd cc

interface_called : (imaged : Imaged) (index count : ℕ) (named : Named) (method : MethodId) → operand_of imaged (instrs.Interface index count) named ≡ operands.Method method
    → IsCalled imaged (instrs.Interface index count) named modes.Interface method
unfolding operand_of instruction_of
interface_called imaged index count (AnInterfaceMethod m) method e =
    record { called = Interface count; member = m; is = refl; mode_is = refl; number = method_number_is (resolved_method_number imaged m) method e }
interface_called imaged index count named method e = absurd cc

module _ (imaged : Imaged) (op index : ℕ) (named : Named) (mode : Mode) (method : MethodId) (e : operand_of imaged (instrs.Member op index) named ≡ operands.Method method) where
  abbrev At : ℕ → Mode → Type 0
  At o x = IsCalled imaged (instrs.Member o index) named x method

  at_opcode : (o : ℕ) (x : Mode) → (operand_of imaged (instrs.Member o index) named ≡ operands.Method method → At o x) → nat_eq op o ≡ true → Some x ≡ Some mode → At op mode
  at_opcode o x called same reported =
      let is : op ≡ o = eqb-true op o same in
      subst (λ (p : ℕ). At p mode) (sym is)
      (subst (λ (y : Mode). At o y) (same_Some x mode reported) (called (subst (λ (p : ℕ). operand_of imaged (instrs.Member p index) named ≡ operands.Method method) is e)))

  by_opcode : (a b c : Bool) → nat_eq op 182 ≡ a → nat_eq op 183 ≡ b → nat_eq op 184 ≡ c
      → (if a then Some modes.Virtual else if b then Some modes.Special else if c then Some modes.Static else None) ≡ Some mode → At op mode
  by_opcode true b c p q r reported = at_opcode 182 modes.Virtual (virtual_called imaged index named method) p reported
  by_opcode false true c p q r reported = at_opcode 183 modes.Special (special_called imaged index named method) q reported
  by_opcode false false true p q r reported = at_opcode 184 modes.Static (static_called imaged index named method) r reported
  by_opcode false false false p q r reported = absurd (none-some mode reported)

  member_called : opcode_mode op ≡ Some mode → At op mode
  member_called reported = by_opcode (nat_eq op 182) (nat_eq op 183) (nat_eq op 184) refl refl refl reported

called_as : (imaged : Imaged) (instr : Instr) (named : Named) (mode : Mode) (method : MethodId) → call_mode instr ≡ Some mode → operand_of imaged instr named ≡ operands.Method method
    → IsCalled imaged instr named mode method
called_as imaged (instrs.Member op index) named mode method reported e = member_called imaged op index named mode method e reported
called_as imaged (instrs.Interface index count) named mode method reported e =
    subst (λ (x : Mode). IsCalled imaged (instrs.Interface index count) named x method) (same_Some modes.Interface mode reported) (interface_called imaged index count named method e)
called_as imaged instr named mode method reported e = absurd (none-some mode reported)

-- ---- by what is kept of the constant

-- whatever calls a method, by what its index names, calls that
abbrev CallsThat : Member → Instruction → Type 0
CallsThat m i = (called : model.Mode) (other : Member) → i ≡ Invoke called other → m ≡ other

abbrev called_member : Instruction → Option Member
called_member (Invoke called m) = Some m
called_member i = None

call_that : (called : model.Mode) (m : Member) → CallsThat m (Invoke called m)
call_that called m mode other e = same_Some m other (ap called_member e)

other_that : (op : ℕ) (named : Named) (m : Member) → CallsThat m (Other op named)
other_that op named m mode other e = absurd (none-some other (ap called_member e))

if_that : (b : Bool) (i j : Instruction) (m : Member) → CallsThat m i → CallsThat m j → CallsThat m (if b then i else j)
if_that true i j m a c = a
if_that false i j m a c = c

method_that : (instr : Instr) (index : ℕ) (m : Member) → call_index instr ≡ Some index → CallsThat m (instruction_of instr (AMethod m))
unfolding instruction_of
method_that (instrs.Member op i) index m e =
    if_that (nat_eq op 182) (Invoke Virtual m) _ m (call_that Virtual m)
    (if_that (nat_eq op 183) (Invoke Special m) _ m (call_that Special m)
    (if_that (nat_eq op 184) (Invoke Static m) (Other op (AMethod m)) m (call_that Static m) (other_that op (AMethod m) m)))
method_that (instrs.Interface i count) index m e = other_that 185 (AMethod m) m
method_that instr index m e = absurd (none-some index e)

interface_method_that : (instr : Instr) (index : ℕ) (m : Member) → call_index instr ≡ Some index → CallsThat m (instruction_of instr (AnInterfaceMethod m))
unfolding instruction_of
interface_method_that (instrs.Member op i) index m e =
    if_that (nat_eq op 183) (Invoke Special m) _ m (call_that Special m)
    (if_that (nat_eq op 184) (Invoke Static m) (Other op (AnInterfaceMethod m)) m (call_that Static m) (other_that op (AnInterfaceMethod m) m))
interface_method_that (instrs.Interface i count) index m e = call_that (Interface count) m
interface_method_that instr index m e = absurd (none-some index e)

index_reported : (instr : Instr) (index : ℕ) → call_index instr ≡ Some index → index_of instr ≡ Some index
index_reported (instrs.Member op i) index e = e
index_reported (instrs.Interface i count) index e = e
index_reported instr index e = absurd (none-some index e)

-- a method whose call is of the signature
record IsNamedCall (named : Named) (signature : Signature) : Type 0 where
  member : Member
  names : (named ≡ AMethod member) ⊎ (named ≡ AnInterfaceMethod member)
  is : call_signature member.desc ≡ Some signature

named_method : (calls : List (Option Signature)) (named : Named) (desc : ℕ) (signature : Signature) → SaysKind calls named (constants.Method desc) → call_at calls desc ≡ Some signature
    → IsNamedCall named signature
named_method calls (AMethod m) desc signature says e = record { member = m; names = inl refl; is = says ∙ e }
named_method calls named desc signature says e = absurd says

named_interface_method : (calls : List (Option Signature)) (named : Named) (desc : ℕ) (signature : Signature) → SaysKind calls named (constants.InterfaceMethod desc)
    → call_at calls desc ≡ Some signature → IsNamedCall named signature
named_interface_method calls (AnInterfaceMethod m) desc signature says e = record { member = m; names = inr refl; is = says ∙ e }
named_interface_method calls named desc signature says e = absurd says

named_call : (calls : List (Option Signature)) (named : Named) (kind : ConstantKind) (signature : Signature) → SaysKind calls named kind
    → option_and_then (call_at calls) (desc_index kind) ≡ Some signature → IsNamedCall named signature
named_call calls named (constants.Method desc) signature says e = named_method calls named desc signature says e
named_call calls named (constants.InterfaceMethod desc) signature says e = named_interface_method calls named desc signature says e
named_call calls named kind signature says e = absurd (none-some signature e)

signature_there : (o : Option Signature) (reported : List Kind) → parameters_in o ≡ Some reported → (signature : Signature) × (o ≡ Some signature) × (signature.parameters ≡ reported)
signature_there None reported e = absurd (none-some reported e)
signature_there (Some signature) reported e = (signature, refl, same_Some signature.parameters reported e)

-- the instruction in the parts by which shape is judged is that of the model
instruction_by : (imaged : Imaged) → IsProgram (program_of imaged) → (caller number : ℕ) (parts : ShapeParts) (are : AreShapeParts imaged caller parts) (instr : Instr)
    → slice_get parts.code.now.code.code number ≡ Some instr → instruction_of_number imaged caller number ≡ Some (instruction_of instr (named_if are.pool (index_of instr)))
unfolding code_in
instruction_by imaged formed caller number parts are instr at =
    ap (λ (o : Option Code). instruction_in o number) (code_of_number (program_of imaged) formed caller are.found are.there ∙ ap body_code are.runs)
    ∙ (slice_get-map (naming.instruction_in are.pool) parts.code.now.code.code number ∙ ap (option_map (naming.instruction_in are.pool)) at)

-- the kinds are those of what the instruction calls
parameters_called : (imaged : Imaged) → IsProgram (program_of imaged) → (caller number : ℕ) (parts : ShapeParts) → AreShapeParts imaged caller parts → (called : model.Mode) (m : Member)
    → instruction_of_number imaged caller number ≡ Some (Invoke called m) → (reported : List Kind) → AreParametersAt parts.code.now parts.kinds.now number reported
    → kinds_of (parameters_of m.desc) ≡ Some reported
parameters_called imaged formed caller number parts are called m is reported at =
    let s = signature_there (call_named parts.kinds.now at.index) reported at.reported_is in
    let n = named_call parts.kinds.now.calls (named_at are.pool at.index) _ s.0 (are.kinds.each at.index) s.1 in
    let names : named_if are.pool (index_of at.instr) ≡ named_at are.pool at.index = ap (named_if are.pool) (index_reported at.instr at.index at.index_is) in
    let calls : instruction_of at.instr (named_at are.pool at.index) ≡ Invoke called m =
    ap (instruction_of at.instr) (sym names)
    ∙ same_Some (instruction_of at.instr (named_if are.pool (index_of at.instr))) (Invoke called m) (sym (instruction_by imaged formed caller number parts are at.instr at.stands) ∙ is) in
    let same : n.member ≡ m = elim n.names [
      | inl e ↦ method_that at.instr at.index n.member at.index_is called m (ap (instruction_of at.instr) (sym e) ∙ calls)
      | inr e ↦ interface_method_that at.instr at.index n.member at.index_is called m (ap (instruction_of at.instr) (sym e) ∙ calls)
    ] in
    ap (λ (x : Member). kinds_of (parameters_of x.desc)) (sym same) ∙ (kinds_there n.member.desc s.0 n.is ∙ ap Some s.2)

-- ---- the whole

resolved_there : (program : Program) (prefix : Prefix) (m : Member) (method : MethodId) → found_method_number program (resolve_method program prefix m) ≡ Some method.number
    → (resolved : FoundMethod) × (resolve_method program prefix m ≡ Some resolved) × IsMethod program method resolved
resolved_there program prefix m method e = by (resolve_method program prefix m) refl e where
  by : (o : Option FoundMethod) → resolve_method program prefix m ≡ o → found_method_number program o ≡ Some method.number
      → (resolved : FoundMethod) × (resolve_method program prefix m ≡ Some resolved) × IsMethod program method resolved
  by None is reported = absurd (none-some method.number reported)
  by (Some resolved) is reported = (resolved, is, found_numbered program resolved method.number (resolved_own program prefix m resolved is) (sym reported))

pub call_there : (imaged : Imaged) → IsProgram (program_of imaged) → (caller number : ℕ) (instr : Instr) (named : Named) → IsInstrAt imaged caller number instr named
    → (operand : Operand) → IsOperandAt imaged caller number operand → (parts : ShapeParts) → AreShapeParts imaged caller parts → (site : CallSite)
    → call_mode instr ≡ Some site.mode → operand ≡ operands.Method site.method → AreParametersAt parts.code.now parts.kinds.now number site.kinds.now
    → IsCallAt imaged caller number site
call_there imaged formed caller number instr named at operand reported parts are site mode method kinds =
    let c = called_as imaged instr named site.mode site.method mode (sym (operand_is imaged caller number instr named operand at.stands reported) ∙ method) in
    let is : instruction_of_number imaged caller number ≡ Some (Invoke c.called c.member) = at.is ∙ ap Some c.is in
    let r = resolved_there (program_of imaged) imaged.prefix c.member site.method c.number in
    record {
      called = c.called;
      member = c.member;
      resolved = r.0;
      is = is;
      mode = c.mode_is;
      resolves = r.1;
      method = r.2;
      kinds = parameters_called imaged formed caller number parts are c.called c.member is site.kinds.now kinds;
    }

-- what the parameters are, where they are given
pub parameters_reported : (code : MethodCode) (kinds : KeptKinds) (number : ℕ) (instr : Instr) (index : ℕ) (o : Option (Bor (List Kind))) → slice_get code.code.code number ≡ Some instr
    → call_index instr ≡ Some index → option_map (λ (reported : Bor (List Kind)). reported.now) o ≡ parameters_in (call_named kinds index)
    → IfSome o (λ (reported : Bor (List Kind)). AreParametersAt code kinds number reported.now)
parameters_reported code kinds number instr index None at is reported = tt
parameters_reported code kinds number instr index (Some x) at is reported = record { instr = instr; stands = at; index = index; index_is = is; reported_is = sym reported }
