-- The groups of the code of a class file's method, one after another.
use Rattle.std.proofs.Common.{◌≡◌, ℕ, zero, suc, ◌+◌, ◌*◌, ◌<◌, ◌≤◌, Bool, true, false, List, [], ◌∷◌, ◌++◌, map, take, length, length-append, get_or, Ok, Err, Option, Some, None, slice_get, refl, sym, ap, ap₂, subst, ◌∙◌, arith, inl, inr, if◌then◌else◌}
use Rattle.std.specs.Prelude.{unwrap_or, is_some, IsTrue, nat_eq, option_and_then, IsSomeAnd}
use Rattle.std.specs.Option.{option_map}
use Rattle.std.specs.List.{AllByRecursion}
use Rattle.std.proofs.lemmas.Bool.{eqb-true}
use Rattle.std.proofs.lemmas.List.{get_or-map, take_more, take_all, map-append}
use Rattle.std.proofs.lemmas.Option.{none-some, same_Some, slice_get-get_or}
use Rattle.dj_names.specs.declared.descriptor.Of.{Of}
use Rattle.dj_names.specs.declared.descriptor.Of.TheVariants as ofs
use Rattle.dj_names.specs.declared.descriptor.Ty.{Ty}
use Rattle.dj_names.specs.declared.descriptor.Desc.TheVariants as descs
use Rattle.dj_names.specs.trusted.Types.{Name, same_name, class_type}
use Rattle.dj_names.specs.trusted.Descriptors.{type_text}
use Rattle.dj_names.specs.trusted.Heaps.{instance_size}
use Rattle.dj_ops.specs.declared.instruction.Instr.{Instr}
use Rattle.dj_ops.specs.declared.instruction.Instr.TheVariants as instrs
use Rattle.dj_ops.specs.trusted.Instructions.{IsProper}
use Rattle.dj_labels.specs.declared.labelled.Labelled.{Labelled}
use Rattle.dj_labels.specs.Faults.{IsFirstWithout}
use Rattle.dj_pool.specs.trusted.Pool.{Constant, Utf8, Integer, Float, Long, Double, Class, Text, Field, Method, InterfaceMethod, NameAndType, Handle, MethodType, Dynamic, Hole, constant_at, text_at, class_text_of, class_name_at, IsClassText, NamesText, IsPool}
use Rattle.dj_model.specs.trusted.Types.{Member}
use Rattle.dj_model.specs.trusted.Instructions.{Named, Nothing, AnInt, ALong, AText, AClass, AField, AMethod, AnInterfaceMethod, Another, Instruction, New}
use Rattle.dj_model.specs.trusted.Opcodes.{instruction_of}
use Rattle.dj_model.specs.trusted.Program as programs
use Rattle.dj_model.specs.trusted.Program.{Program}
use Rattle.dj_model.specs.trusted.Linking.{field_count}
use Rattle.dj_model.specs.Runs.{starts_handler}
use Rattle.dj_groups.specs.Groups.{Inserted, ObjectBytes, Record, Allocations, Own, Kept, Group, arrival, charge_of, own_of, group_of, groups_from, groups_of}
use Rattle.dj_groups.specs.Grouped.{labels_in_groups}
use Rattle.dj_groups.specs.Laws.{FitsObject}
use Rattle.dj_early_rules.specs.trusted.Instructions.{index_of}
use Rattle.dj_declarations.specs.trusted.Files.{type_in, name_in}
use Rattle.dj_class_table.specs.Tables.{name_of, name_at, class_number}
use Rattle.dj_class_table.proofs.Numbered.{name_at-number, class_number-within}
use Rattle.dj_program.specs.trusted.Naming.{member_in, named_by, named_if, instruction_in}
use Rattle.dj_program.specs.trusted.Codes.{code_in}
use Rattle.dj_numbering.specs.Typed.{texts_of, types_of, place_of_text, text_number}
use Rattle.dj_numbering.specs.Members.{field_count_at}
use Rattle.dj_image.specs.Imaged.{Imaged, program_of, typed_of}
use Rattle.dj_image.proofs.ClassTexts.{name_type, array_type}
use Rattle.dj_image.proofs.Links.{linked_index}
use Rattle.dj_emit.specs.declared.error.EmitError.{EmitError}
use Rattle.dj_emit.specs.declared.error.EmitError.TheVariants as errors
use Rattle.dj_emit.specs.declared.size.ObjectSize.{ObjectSize}
use Rattle.dj_emit.specs.declared.parts.Charge.{Charge}
use Rattle.dj_emit.specs.declared.parts.Charge.TheVariants as charges
use Rattle.dj_emit.specs.declared.parts.GroupPart.{GroupPart}
use Rattle.dj_emit.specs.Parts.{charge_list, own_by, group_seen, groups_seen}
use Rattle.dj_emit.specs.Charges.{plain_list, is_monitor, is_new}
use Rattle.dj_emit.specs.Arrivals.{handles}
use Rattle.dj_emit.specs.Groups.{IsKnownNew, FitsSipush, IsRefusal}
use Rattle.dj_emit.specs.Filed.{groups_in, bare_parts, rows_of, CanBeGrouped, new_if, new_class_of, IsChargeOf, IsPartOf}
use Rattle.dj_emit.proofs.Orders.{all_at, length_map}
use Rattle.dj_emit.proofs.Families.{plain_charged, own_is}
use Rattle.dj_emit.proofs.ArrivalFacts.{handler_is}
use Rattle.dj_emit.proofs.PartFacts.{length_from, from_at, parts_fit}

-- ---- the class of a `new`

place_of_class : (program : Program) (texts : List Name) (name : Name) (k : ℕ) → class_number program name ≡ Some k → place_of_text (map name_of program ++ texts) name ≡ Some k
place_of_class [] texts name k e = absurd (none-some k e)
place_of_class (c ∷ program) texts name k e = by (same_name c.name name) (class_number program name) (place_of_class program texts name) e where
  by : (b : Bool) (n : Option ℕ) → ((j : ℕ) → n ≡ Some j → place_of_text (map name_of program ++ texts) name ≡ Some j) → (if b then Some 0 else option_map suc n) ≡ Some k
      → (if b then Some 0 else option_map suc (place_of_text (map name_of program ++ texts) name)) ≡ Some k
  by true n later f = f
  by false None later f = absurd (none-some k f)
  by false (Some j) later f = ap (option_map suc) (later j refl) ∙ f

-- the text of a class that is known has a number in the image
pub record IsNamedNew (imaged : Imaged) (i : Instruction) (text : Name) : Type 0 where
  pub is : i ≡ New (class_type text)
  pub number : ℕ
  pub has : class_number (program_of imaged) text ≡ Some number

abbrev named_in : Of → Name
named_in (ofs.Class name) = name
named_in (ofs.Base base) = []

same_class : (a b : Name) → class_type a ≡ class_type b → a ≡ b
same_class a b e = ap (λ (t : Ty). named_in t.of) e

text_is : (text name : Name) → IsClassText text → type_in text ≡ class_type name → text ≡ name
text_is text name (inl class) e = same_class text name (sym (name_type text class) ∙ e)
text_is text name (inr array) e =
    let ty = array_type text array.0 array.1 array.2 in
    let dims : array.0.dims ≡ 0 = ap (λ (t : Ty). t.dims) (sym ty ∙ e) in
    absurd (omega (arith, array.1, dims))

-- what `new` names, by the text of its class
pub data NewText (imaged : Imaged) (i : Instruction) (text : Option Name) : Type 0 where
  Made : (name : Name) → text ≡ Some name → IsNamedNew imaged i name → NewText imaged i text
  Unmade : text ≡ None → charge_of (program_of imaged) i ≡ [] → NewText imaged i text

named_text : (imaged : Imaged) (pool : List Constant) (index text : ℕ) → NamesText IsClassText pool text → IsKnownNew (program_of imaged) (New (type_in (name_in pool text)))
    → NewText imaged (New (type_in (name_in pool text))) (text_at pool text)
named_text imaged pool index text names known = go (text_at pool text) names known where
  go : (o : Option Name) → IsSomeAnd o IsClassText → IsKnownNew (program_of imaged) (New (type_in (unwrap_or o []))) → NewText imaged (New (type_in (unwrap_or o []))) o
  go None names known = absurd names
  go (Some name) such known =
      let same : name ≡ known.0 = text_is name known.0 such known.1 in
      at (class_number (program_of imaged) known.0) refl known.2 same where
        at : (n : Option ℕ) → class_number (program_of imaged) known.0 ≡ n → IsTrue (is_some n) → name ≡ known.0 → NewText imaged (New (type_in name)) (Some name)
        at None e some same = absurd cc
        at (Some k) e some same = Made name refl (record {
          is = ap New (known.1 ∙ ap class_type (sym same));
          number = k;
          has = ap (class_number (program_of imaged)) same ∙ e;
        })

pub new_text : (imaged : Imaged) (pool : List Constant) (index : ℕ) → IsPool pool → IsKnownNew (program_of imaged) (instruction_in pool (instrs.Class 187 index))
    → NewText imaged (instruction_in pool (instrs.Class 187 index)) (class_name_at pool index)
unfolding instruction_of named_by
new_text imaged pool index valid known = go (constant_at pool index) refl known where
  there : Option Constant → Instruction
  there o = instruction_of (instrs.Class 187 index) (unwrap_or (option_map (named_by pool) o) Another)

  free : (make : Member → Named) → ((m : Member) → charge_of (program_of imaged) (instruction_of (instrs.Class 187 index) (make m)) ≡ []) → (o : Option Member)
      → charge_of (program_of imaged) (instruction_of (instrs.Class 187 index) (unwrap_or (option_map make o) Another)) ≡ []
  free make each None = refl
  free make each (Some m) = each m

  go : (o : Option Constant) → constant_at pool index ≡ o → IsKnownNew (program_of imaged) (there o)
      → NewText imaged (there o) (option_and_then (text_at pool) (option_and_then class_text_of o))
  go None e known = Unmade refl refl
  go (Some (Class text)) e known = named_text imaged pool index text (linked_index pool index (Class text) valid e) known
  go (Some (Utf8 text)) e known = Unmade refl refl
  go (Some (Integer n)) e known = Unmade refl refl
  go (Some (Float bits)) e known = Unmade refl refl
  go (Some (Long n)) e known = Unmade refl refl
  go (Some (Double bits)) e known = Unmade refl refl
  go (Some (Text text)) e known = Unmade refl refl
  go (Some (Field class names)) e known = Unmade refl (free AField (λ m. refl) (member_in pool class names))
  go (Some (Method class names)) e known = Unmade refl (free AMethod (λ m. refl) (member_in pool class names))
  go (Some (InterfaceMethod class names)) e known = Unmade refl (free AnInterfaceMethod (λ m. refl) (member_in pool class names))
  go (Some (NameAndType name desc)) e known = Unmade refl refl
  go (Some (Handle kind member)) e known = Unmade refl refl
  go (Some (MethodType desc)) e known = Unmade refl refl
  go (Some (Dynamic bootstrap names)) e known = Unmade refl refl
  go (Some Hole) e known = Unmade refl refl

-- it names no class
pub new_free : (imaged : Imaged) (pool : List Constant) (index : ℕ) → IsPool pool → IsKnownNew (program_of imaged) (instruction_in pool (instrs.Class 187 index)) → class_name_at pool index ≡ None
    → [] ≡ charge_of (program_of imaged) (instruction_in pool (instrs.Class 187 index))
new_free imaged pool index valid known none = go (new_text imaged pool index valid known) where
  go : NewText imaged (instruction_in pool (instrs.Class 187 index)) (class_name_at pool index) → [] ≡ charge_of (program_of imaged) (instruction_in pool (instrs.Class 187 index))
  go (Made name e n) = absurd (none-some name (sym none ∙ e))
  go (Unmade e free) = sym free

-- it names the class of this text
pub new_named : (imaged : Imaged) (pool : List Constant) (index : ℕ) (text : Name) → IsPool pool → IsKnownNew (program_of imaged) (instruction_in pool (instrs.Class 187 index))
    → class_name_at pool index ≡ Some text → IsNamedNew imaged (instruction_in pool (instrs.Class 187 index)) text
new_named imaged pool index text valid known some = go (new_text imaged pool index valid known) where
  go : NewText imaged (instruction_in pool (instrs.Class 187 index)) (class_name_at pool index) → IsNamedNew imaged (instruction_in pool (instrs.Class 187 index)) text
  go (Made name e n) = subst (IsNamedNew imaged (instruction_in pool (instrs.Class 187 index))) (same_Some name text (sym e ∙ some)) n
  go (Unmade e free) = absurd (none-some text (sym e ∙ some))

-- its number is that of the image
pub new_number : (imaged : Imaged) (i : Instruction) (text : Name) → (n : IsNamedNew imaged i text) → text_number (typed_of imaged) text ≡ Some n.number
new_number imaged i text n = place_of_class (program_of imaged) (map type_text imaged.arrays) text n.number n.has

pub number_within : (imaged : Imaged) (i : Instruction) (text : Name) → (n : IsNamedNew imaged i text) → n.number < length (types_of (typed_of imaged))
number_within imaged i text n =
    omega (
      arith,
      class_number-within (program_of imaged) text n.number n.has,
      length-append (map (λ (c : programs.Class). class_type (name_of c)) (program_of imaged)) imaged.arrays,
      length_map (λ (c : programs.Class). class_type (name_of c)) (program_of imaged),
    )

-- ---- the charge of a `new`

pub charged : (imaged : Imaged) (i : Instruction) (text : Name) (n : IsNamedNew imaged i text) (count : ℕ) → count ≡ field_count_at (typed_of imaged) n.number
    → ObjectBytes (16 + 8 * count) ∷ Record Allocations ∷ [] ≡ charge_of (program_of imaged) i
charged imaged i text n count is =
    let name_is : name_at (program_of imaged) n.number ≡ Some text = name_at-number (program_of imaged) text n.number n.has in
    let count_is : count ≡ field_count (program_of imaged) text = is ∙ ap (λ (o : Option Name). unwrap_or (option_map (field_count (program_of imaged)) o) 0) name_is in
    ap (λ (m : ℕ). ObjectBytes (instance_size m) ∷ Record Allocations ∷ []) count_is ∙ sym (ap (charge_of (program_of imaged)) n.is)

pub charge_big : (imaged : Imaged) (i : Instruction) (number : ℕ) (text : Name) (n : IsNamedNew imaged i text) (count : ℕ) → count ≡ field_count_at (typed_of imaged) n.number
    → 32767 < 16 + 8 * count → IsChargeOf (program_of imaged) i number (Err (errors.BigObject number))
charge_big imaged i number text n count is big =
    (refl, λ arrives fits. absurd (go arrives (subst (λ (xs : List Inserted). AllByRecursion FitsObject (arrival arrives ++ xs)) (sym (charged imaged i text n count is)) fits))) where
      go : (arrives : Bool) → AllByRecursion FitsObject (arrival arrives ++ (ObjectBytes (16 + 8 * count) ∷ Record Allocations ∷ [])) → ⊥
      go true fits = omega (arith, big, fits.1.1.1.0)
      go false fits = omega (arith, big, fits.0)

-- ---- the group of an instruction

abbrev group_by : Bool → List Inserted → Own → Group
group_by a x y = record { arrives = a; charge = x; own = y }

same_group : (arrives : Bool) (c d : List Inserted) (o p : Own) → c ≡ d → o ≡ p → group_by arrives c o ≡ group_by arrives d p
same_group arrives c d o p e f = ap (λ (x : List Inserted). group_by arrives x o) e ∙ ap (group_by arrives d) f

if_new : (b : Bool) (index n : ℕ) → new_if b index ≡ Some n → b ≡ true
if_new true index n e = refl
if_new false index n e = absurd (none-some n e)

pub is_new_of : (instr : Instr) (index : ℕ) → new_class_of instr ≡ Some index → instr ≡ instrs.Class 187 index
is_new_of (instrs.Class op index) n e =
    let b : nat_eq op 187 ≡ true = if_new (nat_eq op 187) index n e in
    let same : Some index ≡ Some n = ap (λ (x : Bool). new_if x index) (sym b) ∙ e in
    ap₂ (λ (x y : ℕ). instrs.Class x y) (eqb-true op 187 b) (same_Some index n same)
is_new_of (instrs.Simple op) n e = absurd (none-some n e)
is_new_of (instrs.Push op value) n e = absurd (none-some n e)
is_new_of (instrs.Literal op index) n e = absurd (none-some n e)
is_new_of (instrs.Local op slot wide) n e = absurd (none-some n e)
is_new_of (instrs.Inc slot by wide) n e = absurd (none-some n e)
is_new_of (instrs.Branch op target) n e = absurd (none-some n e)
is_new_of (instrs.Table low default targets) n e = absurd (none-some n e)
is_new_of (instrs.Lookup default pairs) n e = absurd (none-some n e)
is_new_of (instrs.Member op index) n e = absurd (none-some n e)
is_new_of (instrs.Interface index count) n e = absurd (none-some n e)
is_new_of (instrs.Dynamic index) n e = absurd (none-some n e)
is_new_of (instrs.Array base) n e = absurd (none-some n e)
is_new_of (instrs.Multi index dims) n e = absurd (none-some n e)

no_new : (b : Bool) (index : ℕ) → new_if b index ≡ None → b ≡ false
no_new true index e = absurd cc
no_new false index e = refl

pub isnt_new : (instr : Instr) → new_class_of instr ≡ None → is_new instr ≡ false
isnt_new (instrs.Class op index) e = no_new (nat_eq op 187) index e
isnt_new (instrs.Simple op) e = refl
isnt_new (instrs.Push op value) e = refl
isnt_new (instrs.Literal op index) e = refl
isnt_new (instrs.Local op slot wide) e = refl
isnt_new (instrs.Inc slot by wide) e = refl
isnt_new (instrs.Branch op target) e = refl
isnt_new (instrs.Table low default targets) e = refl
isnt_new (instrs.Lookup default pairs) e = refl
isnt_new (instrs.Member op index) e = refl
isnt_new (instrs.Interface index count) e = refl
isnt_new (instrs.Dynamic index) e = refl
isnt_new (instrs.Array base) e = refl
isnt_new (instrs.Multi index dims) e = refl

pub plain_part_is : (program : Program) (pool : List Constant) (instr : Instr) (arrives : Bool) (part : GroupPart) → IsProper instr → new_class_of instr ≡ None
    → part.arrives ≡ arrives → charge_list part.charge ≡ plain_list instr → part.popped ≡ is_monitor instr
    → group_seen part ≡ group_of program arrives (instruction_in pool instr)
plain_part_is program pool instr arrives part proper plain a c p =
    let named = named_if pool (index_of instr) in
    same_group part.arrives (charge_list part.charge) (charge_of program (instruction_in pool instr)) (own_by part.popped) (own_of (instruction_in pool instr))
    (c ∙ sym (plain_charged program instr named proper (isnt_new instr plain))) (ap own_by p ∙ sym (own_is instr named))
    ∙ ap (λ (b : Bool). group_of program b (instruction_in pool instr)) a

pub new_part_is : (program : Program) (pool : List Constant) (instr : Instr) (index number : ℕ) (arrives : Bool) (charge : Charge) → new_class_of instr ≡ Some index
    → IsChargeOf program (instruction_in pool (instrs.Class 187 index)) number (Ok charge)
    → IsPartOf program (instruction_in pool instr) number arrives (Ok (record { arrives = arrives; charge = charge; popped = false }))
new_part_is program pool instr index number arrives charge new is =
    let P : Instr → Type 0 = λ x. group_seen (record { arrives = arrives; charge = charge; popped = false }) ≡ group_of program arrives (instruction_in pool x) in
    subst P (sym (is_new_of instr index new))
    (same_group arrives (charge_list charge) (charge_of program (instruction_in pool (instrs.Class 187 index))) Kept (own_of (instruction_in pool (instrs.Class 187 index)))
    is (sym (own_is (instrs.Class 187 index) (named_if pool (Some index)))))

pub new_part_refused : (program : Program) (pool : List Constant) (instr : Instr) (index number : ℕ) (arrives : Bool) (e : EmitError) → new_class_of instr ≡ Some index
    → IsChargeOf program (instruction_in pool (instrs.Class 187 index)) number (Err e) → IsPartOf program (instruction_in pool instr) number arrives (Err e)
new_part_refused program pool instr index number arrives errors.Memory new is = absurd is
new_part_refused program pool instr index number arrives (errors.BigObject n) new is =
    (is.0, let P : Instr → Type 0 = λ x. FitsSipush (group_of program arrives (instruction_in pool x)) → ⊥ in subst P (sym (is_new_of instr index new)) (is.1 arrives))

-- ---- one after another

module _ (program : Program) (pool : List Constant) (labelled : Labelled) (can : CanBeGrouped program pool labelled) where
  abbrev gs : List Group
  gs = groups_in program pool labelled

  abbrev instructions : List Instruction
  instructions = map (instruction_in pool) labelled.code

  pub proper_at : (i : ℕ) (instr : Instr) → i < length labelled.code → instr ≡ get_or labelled.code i instr → IsProper instr
  proper_at i instr less is = subst IsProper (sym is) (all_at IsProper labelled.code i instr can.well.proper less)

  pub known_at : (i : ℕ) (instr : Instr) → i < length labelled.code → instr ≡ get_or labelled.code i instr → IsKnownNew program (instruction_in pool instr)
  known_at i instr less is =
      subst (IsKnownNew program)
      (get_or-map (instruction_in pool) labelled.code i instr (instruction_in pool instr) less ∙ ap (instruction_in pool) (sym is))
      (all_at (IsKnownNew program) instructions i (instruction_in pool instr) can.news (omega (arith, less, length_map (instruction_in pool) labelled.code)))

  groups_are : gs ≡ groups_from program (starts_handler (Some (code_in pool (bare_parts labelled)))) 0 instructions
  unfolding groups_of code_in
  groups_are = refl

  pub length_all : length gs ≡ length labelled.code
  length_all =
      ap length groups_are
      ∙ length_from program (starts_handler (Some (code_in pool (bare_parts labelled)))) 0 instructions
      ∙ length_map (instruction_in pool) labelled.code

  group_is : (i : ℕ) (g : Group) (instr : Instr) (arrives : Bool) → i < length labelled.code → instr ≡ get_or labelled.code i instr → arrives ≡ handles labelled.ranges i
      → get_or gs i g ≡ group_of program arrives (instruction_in pool instr)
  group_is i g instr arrives less is here =
      ap (λ (xs : List Group). get_or xs i g) groups_are
      ∙ from_at program (starts_handler (Some (code_in pool (bare_parts labelled)))) 0 i instructions g (instruction_in pool instr)
      (omega (arith, less, length_map (instruction_in pool) labelled.code))
      ∙ ap₂ (λ (b : Bool) (x : Instruction). group_of program b x)
      (ap (starts_handler (Some (code_in pool (bare_parts labelled)))) number ∙ handler_is pool (bare_parts labelled) i ∙ sym here)
      (get_or-map (instruction_in pool) labelled.code i instr (instruction_in pool instr) less ∙ ap (instruction_in pool) (sym is)) where
        number : 0 + i ≡ i
        number = omega arith

  -- one more group
  pub parts_more : (parts : List GroupPart) (part : GroupPart) (i : ℕ) (instr : Instr) (arrives : Bool) → i < length labelled.code → instr ≡ get_or labelled.code i instr → arrives ≡ handles labelled.ranges i
      → groups_seen parts ≡ take i gs → group_seen part ≡ group_of program arrives (instruction_in pool instr)
      → groups_seen (parts ++ part ∷ []) ≡ take (i + 1) gs
  parts_more parts part i instr arrives less is here seen one =
      map-append group_seen parts (part ∷ [])
      ∙ ap₂ (λ (xs : List Group) (g : Group). xs ++ g ∷ []) seen (one ∙ sym (group_is i (group_seen part) instr arrives less is here))
      ∙ sym (take_more gs i (group_seen part) (omega (arith, less, length_all)))

  -- an object is too large
  pub parts_refused : (parts : List GroupPart) (i : ℕ) (instr : Instr) (arrives : Bool) → i < length labelled.code → instr ≡ get_or labelled.code i instr → arrives ≡ handles labelled.ranges i
      → groups_seen parts ≡ take i gs → (FitsSipush (group_of program arrives (instruction_in pool instr)) → ⊥)
      → IsRefusal gs (errors.BigObject i)
  parts_refused parts i instr arrives less is here seen big = (
    group_of program arrives (instruction_in pool instr),
    record {
      found = slice_get-get_or gs i (group_of program arrives (instruction_in pool instr)) (omega (arith, less, length_all))
          ∙ ap Some (group_is i (group_of program arrives (instruction_in pool instr)) instr arrives less is here);
      lacks = big;
      before = subst (AllByRecursion FitsSipush) seen (parts_fit parts);
    },
  )

  pub parts_whole : (parts : List GroupPart) (i : ℕ) → length labelled.code ≤ i → groups_seen parts ≡ take i gs → groups_seen parts ≡ gs
  parts_whole parts i past seen = seen ∙ take_all i gs (omega (arith, past, length_all))

  -- the error of a group is that of the code
  pub refused_by : (parts : List GroupPart) (i : ℕ) (instr : Instr) (arrives : Bool) → i < length labelled.code → instr ≡ get_or labelled.code i instr → arrives ≡ handles labelled.ranges i
      → groups_seen parts ≡ take i gs → (e : EmitError) → IsPartOf program (instruction_in pool instr) i arrives (Err e) → IsRefusal gs e
  refused_by parts i instr arrives less is here seen errors.Memory never = absurd never
  refused_by parts i instr arrives less is here seen (errors.BigObject n) big =
      subst (λ (m : ℕ). IsRefusal gs (errors.BigObject m)) (sym big.0) (parts_refused parts i instr arrives less is here seen big.1)

  -- a part for each instruction
  pub parts_many : (parts : List GroupPart) → groups_seen parts ≡ gs → length parts ≡ length labelled.code
  parts_many parts seen = sym (length_map group_seen parts) ∙ ap length seen ∙ length_all

pub rows_are : (first : ℕ) (gs : List Group) (labelled : Labelled) → length (labels_in_groups first gs labelled).ranges ≡ length (rows_of gs labelled.ranges)
unfolding labels_in_groups
rows_are first gs labelled = refl
