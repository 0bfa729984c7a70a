-- What the image answers for the code of a method, and the groups by it.
use Rattle.std.proofs.Common.{◌≡◌, ℕ, zero, suc, ◌+◌, ◌*◌, ◌<◌, ◌≤◌, ◌^◌, Bool, true, false, List, [], ◌∷◌, ◌++◌, map, length, length-append, Ok, Err, Option, Some, None, slice_get, refl, sym, ap, subst, ◌∙◌, arith, if◌then◌else◌, Bor}
use Rattle.std.specs.Prelude.{unwrap_or, is_some, IsTrue, nat_eq, nat_le, option_and_then}
use Rattle.std.specs.Option.{option_map}
use Rattle.std.specs.List.{AllByRecursion}
use Rattle.std.proofs.lemmas.Bool.{eqb-true}
use Rattle.std.proofs.lemmas.Option.{none-some, same_Some}
use Rattle.dj_names.specs.declared.descriptor.Ty.{Ty}
use Rattle.dj_names.specs.trusted.Types.{Name, same_name, class_type}
use Rattle.dj_names.specs.trusted.Descriptors.{type_text}
use Rattle.dj_names.specs.trusted.Heaps.{instance_size}
use Rattle.dj_ops.specs.declared.instruction.Instr.{Instr}
use Rattle.dj_ops.specs.declared.instruction.Instr.TheVariants as instrs
use Rattle.dj_labels.specs.declared.labelled.Labelled.{Labelled}
use Rattle.dj_labels.specs.Labels.{IsWellFormed}
use Rattle.dj_pool.specs.trusted.Pool.{Constant}
use Rattle.dj_model.specs.trusted.Instructions.{Named, Nothing, AnInt, ALong, AText, AClass, AField, AMethod, AnInterfaceMethod, Another, Instruction, New, Other}
use Rattle.dj_model.specs.trusted.Opcodes.{class_use, instruction_of}
use Rattle.dj_model.specs.trusted.Program as programs
use Rattle.dj_model.specs.trusted.Program.{Program, Code, Abstract, Native, Runs}
use Rattle.dj_model.specs.trusted.Linking.{FoundMethod, field_count}
use Rattle.dj_groups.specs.Groups.{Inserted, ObjectBytes, Record, Allocations, Own, Kept, Group, arrival, charge_of, own_of, group_of}
use Rattle.dj_groups.specs.Laws.{FitsObject}
use Rattle.dj_early_rules.specs.trusted.Instructions.{index_of}
use Rattle.dj_class_table.specs.Tables.{name_of, name_at, class_number}
use Rattle.dj_class_table.proofs.Numbered.{name_at-number, class_number-within}
use Rattle.dj_program.specs.trusted.Naming.{named_if, instruction_in}
use Rattle.dj_program.specs.trusted.Codes.{CodeParts, code_in}
use Rattle.dj_program.specs.Views.{parts_of}
use Rattle.dj_program.specs.declared.code.MethodCode.{MethodCode}
use Rattle.dj_numbering.specs.Typed.{Typed, texts_of, types_of, place_of_text, type_number}
use Rattle.dj_numbering.specs.Members.{field_count_at, all_methods}
use Rattle.dj_image.specs.declared.image.Body as bodies
use Rattle.dj_image.specs.declared.image.Body.TheVariants as variants
use Rattle.dj_image.specs.declared.operand.Operand.{Operand}
use Rattle.dj_image.specs.declared.operand.Operand.TheVariants as operands
use Rattle.dj_image.specs.Imaged.{Imaged, program_of, typed_of}
use Rattle.dj_image.specs.Codes.{PooledCode, code_at, SaysBody, IsBodyAt, HasInstr, IsOperandAt}
use Rattle.dj_image.specs.Operands.{class_operand, operand_of}
use Rattle.dj_emit.specs.declared.error.EmitError.{EmitError}
use Rattle.dj_emit.specs.declared.error.EmitError.TheVariants as errors
use Rattle.dj_emit.specs.declared.parts.Charge.{Charge}
use Rattle.dj_emit.specs.declared.parts.Charge.TheVariants as charges
use Rattle.dj_emit.specs.declared.parts.GroupPart.{GroupPart}
use Rattle.dj_emit.specs.Parts.{charge_list, own_by, group_seen}
use Rattle.dj_emit.specs.Charges.{plain_list, is_monitor, is_new}
use Rattle.dj_emit.specs.Groups.{no_code, pooled_at, labelled_at, IsKnownNew, HasGroups, FitsSipush}
use Rattle.dj_emit.specs.Numbered.{named_at, IsCodeAt, StandsAt, IsNewAt, ObjectAt, PartAt}
use Rattle.dj_emit.proofs.Orders.{length_map}
use Rattle.dj_emit.proofs.Families.{plain_charged, own_is}

-- ---- the body

one_found : {X : Type 0} (o : Option X) (a b : X) → o ≡ Some a → o ≡ Some b → a ≡ b
one_found o a b e f = same_Some a b (sym e ∙ f)

-- the method has code, so this is lent
abbrev pub IsLent : Imaged → ℕ → Code → bodies.Body → Type 0
IsLent imaged method code reported = SaysBody imaged method (Runs code) reported

pub lent : (imaged : Imaged) (method : ℕ) (reported : bodies.Body) (h : HasGroups imaged method) → IsBodyAt imaged method reported → IsLent imaged method h.code reported
lent imaged method reported h at =
    let same : at.found ≡ h.found = one_found (slice_get (all_methods (program_of imaged)) method) at.found h.found at.there h.there in
    let body : at.found.method.body ≡ Runs h.code = ap (λ (f : FoundMethod). f.method.body) same ∙ h.runs in
    let P : programs.Body → Type 0 = λ body. SaysBody imaged method body reported in subst P body at.says

pub lends_code : (imaged : Imaged) (method : ℕ) (code : Bor MethodCode) → HasGroups imaged method → IsBodyAt imaged method (variants.Code code) → IsCodeAt imaged method code.now.code
unfolding code_in
lends_code imaged method code h at =
    let t = lent imaged method (variants.Code code) h at in
    let pooled : pooled_at imaged method ≡ record { pool = t.0; parts = parts_of code.now } = ap (λ (o : Option PooledCode). unwrap_or o no_code) t.1 in
    let is : labelled_at imaged method ≡ code.now.code = ap (λ (c : PooledCode). c.parts.labelled) pooled in
    let P : Labelled → Type 0 = λ l. length l.code < 2 ^ 16 in
    let Q : List Constant → Type 0 = λ pool. AllByRecursion (IsKnownNew (program_of imaged)) (map (instruction_in pool) code.now.code.code) in
    record {
      own = t.1 ∙ ap Some (sym pooled);
      is = is;
      well = subst IsWellFormed is h.well;
      few = subst P is h.few;
      news = subst Q (sym (ap (λ (c : PooledCode). c.pool) pooled)) (subst (λ (c : Code). AllByRecursion (IsKnownNew (program_of imaged)) c.instructions) t.2 h.news);
    }

-- ---- the operand of a `new`

-- a class's number is its place among the texts
place_of_class : (program : Program) (texts : List Name) (name : Name) (k : ℕ) → class_number program name ≡ Some k → place_of_text (map name_of program ++ texts) name ≡ Some k
place_of_class [] texts name k e = absurd (none-some k e)
place_of_class (c ∷ program) texts name k e = by (same_name c.name name) (class_number program name) (place_of_class program texts name) e where
  by : (b : Bool) (n : Option ℕ) → ((j : ℕ) → n ≡ Some j → place_of_text (map name_of program ++ texts) name ≡ Some j) → (if b then Some 0 else option_map suc n) ≡ Some k
      → (if b then Some 0 else option_map suc (place_of_text (map name_of program ++ texts) name)) ≡ Some k
  by true n later f = f
  by false None later f = absurd (none-some k f)
  by false (Some j) later f = ap (option_map suc) (later j refl) ∙ f

-- what a `new` makes, by its operand
pub data NewMade (imaged : Imaged) (i : Instruction) (operand : Operand) : Type 0 where
  -- an object of the class of a number
  Made : (name : Name) (k : ℕ) → i ≡ New (class_type name) → class_number (program_of imaged) name ≡ Some k → operand ≡ operands.Class k → NewMade imaged i operand
  -- it names no class
  Unmade : charge_of (program_of imaged) i ≡ [] → ((k : ℕ) → operand ≡ operands.Class k → ⊥) → NewMade imaged i operand

new_made : (imaged : Imaged) (index : ℕ) (named : Named) → IsKnownNew (program_of imaged) (instruction_of (instrs.Class 187 index) named)
    → NewMade imaged (instruction_of (instrs.Class 187 index) named) (operand_of imaged (instrs.Class 187 index) named)
unfolding instruction_of operand_of
new_made imaged index (AClass ty) known = go (class_number (program_of imaged) known.0) refl known.2 where
  go : (n : Option ℕ) → class_number (program_of imaged) known.0 ≡ n → IsTrue (is_some n)
      → NewMade imaged (New ty) (class_operand (type_number (typed_of imaged) ty))
  go None e some = absurd cc
  go (Some k) e some =
      Made known.0 k (ap New known.1) e
      (ap (λ (t : Ty). class_operand (type_number (typed_of imaged) t)) known.1 ∙ ap class_operand (place_of_class (program_of imaged) (map type_text imaged.arrays) known.0 k e))
new_made imaged index Nothing known = Unmade refl (λ k e. cc)
new_made imaged index (AnInt z) known = Unmade refl (λ k e. cc)
new_made imaged index (ALong z) known = Unmade refl (λ k e. cc)
new_made imaged index (AText units) known = Unmade refl (λ k e. cc)
new_made imaged index (AField m) known = Unmade refl (λ k e. cc)
new_made imaged index (AMethod m) known = Unmade refl (λ k e. cc)
new_made imaged index (AnInterfaceMethod m) known = Unmade refl (λ k e. cc)
new_made imaged index Another known = Unmade refl (λ k e. cc)

-- the operand that is answered is that of the instruction that stands there
operand_there : (imaged : Imaged) (method number : ℕ) (operand : Operand) (instr : Instr) → StandsAt imaged method number instr → IsOperandAt imaged method number operand
    → operand ≡ operand_of imaged instr (named_if (pooled_at imaged method).pool (index_of instr))
operand_there imaged method number operand instr s o =
    let code : o.code ≡ pooled_at imaged method = one_found (code_at imaged method) o.code (pooled_at imaged method) o.own s.own in
    let at : slice_get (labelled_at imaged method).code number ≡ Some o.instr = ap (λ (c : PooledCode). slice_get c.parts.labelled.code number) (sym code) ∙ o.stands in
    let same : o.instr ≡ instr = one_found (slice_get (labelled_at imaged method).code number) o.instr instr at s.stands in
    o.is ∙ ap (λ (c : PooledCode). operand_of imaged o.instr (named_if c.pool (index_of o.instr))) code
    ∙ ap (λ (x : Instr). operand_of imaged x (named_if (pooled_at imaged method).pool (index_of x))) same

pub made_there : (imaged : Imaged) (method number index : ℕ) (operand : Operand) → StandsAt imaged method number (instrs.Class 187 index) → IsOperandAt imaged method number operand
    → NewMade imaged (named_at imaged method (instrs.Class 187 index)) operand
made_there imaged method number index operand s o =
    let P : Operand → Type 0 = λ x. NewMade imaged (named_at imaged method (instrs.Class 187 index)) x in
    subst P (sym (operand_there imaged method number operand (instrs.Class 187 index) s o))
    (new_made imaged index (named_if (pooled_at imaged method).pool (Some index)) s.known)

within_list : {X : Type 0} (xs : List X) (n : ℕ) (x : X) → slice_get xs n ≡ Some x → n < length xs
within_list [] n x e = absurd cc
within_list (y ∷ xs) zero x e = omega arith
within_list (y ∷ xs) (suc n) x e = omega (arith, within_list xs n x e)

pub has_instr : (imaged : Imaged) (method number : ℕ) (instr : Instr) → StandsAt imaged method number instr → HasInstr imaged method number
has_instr imaged method number instr s = record { code = pooled_at imaged method; own = s.own; within = within_list (labelled_at imaged method).code number instr s.stands }

-- the class that is answered is one of the image
pub class_within : (imaged : Imaged) (method number class : ℕ) → IsNewAt imaged method number → IsOperandAt imaged method number (operands.Class class) → class < length (types_of (typed_of imaged))
class_within imaged method number class new o =
    go (made_there imaged method number new.index (operands.Class class) new.stands o) where
      go : NewMade imaged (named_at imaged method (instrs.Class 187 new.index)) (operands.Class class) → class < length (types_of (typed_of imaged))
      go (Made name k i e same) =
          let is : class ≡ k = cc in
          omega (arith, is, class_number-within (program_of imaged) name k e, length-append (map (λ (c : programs.Class). class_type (name_of c)) (program_of imaged)) imaged.arrays, length_map (λ (c : programs.Class). class_type (name_of c)) (program_of imaged))
      go (Unmade e other) = absurd (other class refl)

-- ---- the charge of a `new`

pub object_free : (imaged : Imaged) (method number : ℕ) (operand : Operand) → IsOperandAt imaged method number operand → ((k : ℕ) → operand ≡ operands.Class k → ⊥)
    → ObjectAt imaged method number (Ok charges.Free)
object_free imaged method number operand o other index s = go (made_there imaged method number index operand s o) where
  go : NewMade imaged (named_at imaged method (instrs.Class 187 index)) operand → [] ≡ charge_of (program_of imaged) (named_at imaged method (instrs.Class 187 index))
  go (Made name k i e same) = absurd (other k same)
  go (Unmade e none) = sym e

pub counted : (imaged : Imaged) (method number class count : ℕ) → IsOperandAt imaged method number (operands.Class class) → count ≡ field_count_at (typed_of imaged) class
    → (index : ℕ) → StandsAt imaged method number (instrs.Class 187 index)
    → ObjectBytes (16 + 8 * count) ∷ Record Allocations ∷ [] ≡ charge_of (program_of imaged) (named_at imaged method (instrs.Class 187 index))
counted imaged method number class count o is index s = go (made_there imaged method number index (operands.Class class) s o) where
  go : NewMade imaged (named_at imaged method (instrs.Class 187 index)) (operands.Class class)
      → ObjectBytes (16 + 8 * count) ∷ Record Allocations ∷ [] ≡ charge_of (program_of imaged) (named_at imaged method (instrs.Class 187 index))
  go (Unmade e none) = absurd (none class refl)
  go (Made name k i e same) =
      let at : class ≡ k = cc in
      let name_is : name_at (program_of imaged) class ≡ Some name = ap (name_at (program_of imaged)) at ∙ name_at-number (program_of imaged) name k e in
      let count_is : count ≡ field_count (program_of imaged) name = is ∙ ap (λ (o : Option Name). unwrap_or (option_map (field_count (program_of imaged)) o) 0) name_is in
      ap (λ (n : ℕ). ObjectBytes (instance_size n) ∷ Record Allocations ∷ []) count_is ∙ sym (ap (charge_of (program_of imaged)) i)

pub object_big : (imaged : Imaged) (method number class count : ℕ) → IsOperandAt imaged method number (operands.Class class) → count ≡ field_count_at (typed_of imaged) class
    → 32767 < 16 + 8 * count → ObjectAt imaged method number (Err (errors.BigObject number))
object_big imaged method number class count o is big index s =
    (refl, λ arrives fits. absurd (go arrives (subst (λ (xs : List Inserted). AllByRecursion FitsObject (arrival arrives ++ xs)) (sym (counted imaged method number class count o is index s)) fits))) where
      go : (arrives : Bool) → AllByRecursion FitsObject (arrival arrives ++ (ObjectBytes (16 + 8 * count) ∷ Record Allocations ∷ [])) → ⊥
      go true fits = omega (arith, big, fits.1.1.1.0)
      go false fits = omega (arith, big, fits.0)

-- ---- the group of an instruction

abbrev group_by : Bool → List Inserted → Own → Group
group_by a x y = record { arrives = a; charge = x; own = y }

same_group : (arrives : Bool) (c d : List Inserted) (o p : Own) → c ≡ d → o ≡ p → group_by arrives c o ≡ group_by arrives d p
same_group arrives c d o p e f = ap (λ (x : List Inserted). group_by arrives x o) e ∙ ap (group_by arrives d) f

pub plain_is : (imaged : Imaged) (method number : ℕ) (instr : Instr) (arrives : Bool) (part : GroupPart) → StandsAt imaged method number instr → is_new instr ≡ false
    → part.arrives ≡ arrives → charge_list part.charge ≡ plain_list instr → part.popped ≡ is_monitor instr
    → group_seen part ≡ group_of (program_of imaged) arrives (named_at imaged method instr)
plain_is imaged method number instr arrives part s plain a c p =
    let named = named_if (pooled_at imaged method).pool (index_of instr) in
    same_group part.arrives (charge_list part.charge) (charge_of (program_of imaged) (named_at imaged method instr)) (own_by part.popped) (own_of (named_at imaged method instr))
    (c ∙ sym (plain_charged (program_of imaged) instr named s.proper plain)) (ap own_by p ∙ sym (own_is instr named))
    ∙ ap (λ (b : Bool). group_of (program_of imaged) b (named_at imaged method instr)) a

new_is : (instr : Instr) → is_new instr ≡ true → (index : ℕ) × (instr ≡ instrs.Class 187 index)
new_is (instrs.Class op index) e = (index, ap (λ (x : ℕ). instrs.Class x index) (eqb-true op 187 e))
new_is (instrs.Simple op) e = absurd cc
new_is (instrs.Push op value) e = absurd cc
new_is (instrs.Literal op index) e = absurd cc
new_is (instrs.Local op slot wide) e = absurd cc
new_is (instrs.Inc slot by wide) e = absurd cc
new_is (instrs.Branch op target) e = absurd cc
new_is (instrs.Table low default targets) e = absurd cc
new_is (instrs.Lookup default pairs) e = absurd cc
new_is (instrs.Member op index) e = absurd cc
new_is (instrs.Interface index count) e = absurd cc
new_is (instrs.Dynamic index) e = absurd cc
new_is (instrs.Array base) e = absurd cc
new_is (instrs.Multi index dims) e = absurd cc

pub new_at : (imaged : Imaged) (method number : ℕ) (instr : Instr) → StandsAt imaged method number instr → is_new instr ≡ true → IsNewAt imaged method number
new_at imaged method number instr s new =
    let t = new_is instr new in
    record { index = t.0; stands = subst (StandsAt imaged method number) t.1 s }

pub new_part : (imaged : Imaged) (method number : ℕ) (instr : Instr) (arrives : Bool) (charge : Charge) → StandsAt imaged method number instr → is_new instr ≡ true
    → ObjectAt imaged method number (Ok charge) → PartAt imaged method number instr arrives (Ok (record { arrives = arrives; charge = charge; popped = false }))
new_part imaged method number instr arrives charge s new object =
    let t = new_is instr new in
    let P : Instr → Type 0 = λ x. group_seen (record { arrives = arrives; charge = charge; popped = false }) ≡ group_of (program_of imaged) arrives (named_at imaged method x) in
    subst P (sym t.1)
    (same_group arrives (charge_list charge) (charge_of (program_of imaged) (named_at imaged method (instrs.Class 187 t.0))) Kept (own_of (named_at imaged method (instrs.Class 187 t.0)))
    (object t.0 (subst (StandsAt imaged method number) t.1 s)) (sym (own_is (instrs.Class 187 t.0) (named_if (pooled_at imaged method).pool (Some t.0)))))

pub new_refused : (imaged : Imaged) (method number : ℕ) (instr : Instr) (arrives : Bool) (e : EmitError) → StandsAt imaged method number instr → is_new instr ≡ true
    → ObjectAt imaged method number (Err e) → PartAt imaged method number instr arrives (Err e)
new_refused imaged method number instr arrives errors.Memory s new object =
    let t = new_is instr new in object t.0 (subst (StandsAt imaged method number) t.1 s)
new_refused imaged method number instr arrives (errors.BigObject n) s new object =
    let t = new_is instr new in
    let h = object t.0 (subst (StandsAt imaged method number) t.1 s) in
    (h.0, let P : Instr → Type 0 = λ x. FitsSipush (group_of (program_of imaged) arrives (named_at imaged method x)) → ⊥ in subst P (sym t.1) (h.1 arrives))
