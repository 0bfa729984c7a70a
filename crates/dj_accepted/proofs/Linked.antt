-- What the code of a sound program says of the file that it was read from: each index is a constant's, and the stack map is one.
use Rattle.std.proofs.Common.{◌≡◌, ℕ, Bool, true, false, List, [], ◌∷◌, map, Option, Some, None, refl, sym, ap, ◌∙◌, inl, inr, arith}
use Rattle.std.specs.Prelude.{nat_eq, not, ◌&&◌, if◌then◌else◌, is_some, slice_get, option_and_then}
use Rattle.std.proofs.lemmas.Bool.Decides.{nat_tests}
use Rattle.std.specs.Option.{option_map}
use Rattle.std.specs.List.{list_all, AllByRecursion}
use Rattle.dj_names.specs.declared.descriptor.Of.{Of}
use Rattle.dj_names.specs.declared.descriptor.Of.TheVariants as ofs
use Rattle.dj_names.specs.trusted.Types.{Name, same_name, class_type}
use Rattle.dj_ops.specs.declared.instruction.Instr.{Instr}
use Rattle.dj_ops.specs.declared.instruction.Instr.TheVariants as instrs
use Rattle.dj_ops.specs.declared.frames.Frame.{Frame}
use Rattle.dj_labels.specs.declared.labelled.Protected.{Protected}
use Rattle.dj_pool.specs.trusted.Pool.{Constant, constant_at}
use Rattle.dj_model.specs.trusted.Types.{string_name, is_stop}
use Rattle.dj_model.specs.trusted.Instructions.{Named, Instruction, New, Other}
use Rattle.dj_model.specs.trusted.Opcodes.{instruction_of, literal, member, interface_call, class_use}
use Rattle.dj_model.specs.trusted.Program.{Program, Class, Method, Code, Range, class_at}
use Rattle.dj_model.specs.trusted.Linking.{member_class}
use Rattle.dj_model.specs.trusted.Kinds.{Signature, parameter_entries, frames_in}
use Rattle.dj_model.specs.Shape.{AllHold, HasShape}
use Rattle.dj_model.specs.Sound.{is_there, is_class_of, is_linked, is_caught, IsSoundCode}
use Rattle.dj_model.proofs.SoundLinks.{both_parts}
use Rattle.dj_early_rules.specs.trusted.Instructions.{index_of}
use Rattle.dj_class_table.specs.Tables.{class_number}
use Rattle.dj_class_table.proofs.Numbered.{class_at-number}
use Rattle.dj_program.specs.trusted.Naming.{named_by, named_at, named_or_another, instruction_in}
use Rattle.dj_program.specs.trusted.Codes.{CodeParts, range_in, code_in}
use Rattle.dj_rewritten.specs.Rewritable.{HasConstant, HasClass, HasGoodParts}
use Rattle.dj_accepted.specs.News.{MakesKnown}

-- what follows of each of a list whose images all pass a test
each_from : {A B : Type 0} (test : B → Bool) (f : A → B) (P : A → Type 0) → ((x : A) → test (f x) ≡ true → P x) → (xs : List A) → list_all test (map f xs) ≡ true → AllByRecursion P xs
each_from test f P such [] all = tt
each_from test f P such (x ∷ xs) all =
    let parts = both_parts (test (f x)) (list_all test (map f xs)) all in
    (such x parts.0, each_from test f P such xs parts.1)

pub each_such : {A : Type 0} (test : A → Bool) (P : A → Type 0) → ((x : A) → test x ≡ true → P x) → (xs : List A) → list_all test xs ≡ true → AllByRecursion P xs
each_such test P such [] all = tt
each_such test P such (x ∷ xs) all =
    let parts = both_parts (test x) (list_all test xs) all in
    (such x parts.0, each_such test P such xs parts.1)

module _ (program : Program) where
  -- ---- indexes

  found : (pool : List Constant) (index : ℕ) (does : Named → Instruction) → is_linked program [] (does (named_or_another None)) ≡ false → is_linked program [] (does (named_at pool index)) ≡ true
      → (k : Constant) × (constant_at pool index ≡ Some k)
  found pool index does other linked = by (constant_at pool index) refl linked where
    by : (o : Option Constant) → constant_at pool index ≡ o → is_linked program [] (does (named_or_another (option_map (named_by pool) o))) ≡ true → (k : Constant) × (constant_at pool index ≡ Some k)
    by None at linked = let no : true ≡ false = sym linked ∙ other in absurd cc
    by (Some k) at linked = (k, at)

  has_constant : (pool : List Constant) (instr : Instr) → is_linked program [] (instruction_in pool instr) ≡ true → HasConstant pool (index_of instr)
  unfolding instruction_of is_linked
  has_constant pool (instrs.Literal op index) linked = found pool index (literal op) refl linked
  has_constant pool (instrs.Member op index) linked = found pool index (member op) refl linked
  has_constant pool (instrs.Interface index count) linked = found pool index (interface_call count) refl linked
  has_constant pool (instrs.Dynamic index) linked = found pool index (Other 186) refl linked
  has_constant pool (instrs.Class op index) linked = found pool index (class_use op) refl linked
  has_constant pool (instrs.Multi index dims) linked = found pool index (Other 197) refl linked
  has_constant pool (instrs.Simple op) linked = tt
  has_constant pool (instrs.Push op value) linked = tt
  has_constant pool (instrs.Local op slot wide) linked = tt
  has_constant pool (instrs.Inc slot by wide) linked = tt
  has_constant pool (instrs.Branch op target) linked = tt
  has_constant pool (instrs.Table low default targets) linked = tt
  has_constant pool (instrs.Lookup default pairs) linked = tt
  has_constant pool (instrs.Array base) linked = tt

  has_class : (pool : List Constant) (range : Protected) → is_caught program (range_in pool range).catches ≡ true → HasClass pool range
  has_class pool range caught = by (nat_eq range.catch_type 0) refl caught where
    constant : (o : Option Constant) → constant_at pool range.catch_type ≡ o → is_caught program (Some (named_or_another (option_map (named_by pool) o))) ≡ true
        → (k : Constant) × (constant_at pool range.catch_type ≡ Some k)
    constant None at caught = absurd cc
    constant (Some k) at caught = (k, at)

    by : (b : Bool) → nat_eq range.catch_type 0 ≡ b → is_caught program (if b then None else Some (named_at pool range.catch_type)) ≡ true → HasClass pool range
    by true e caught = inl e
    by false e caught = inr (constant (constant_at pool range.catch_type) refl caught)

  -- ---- the stack map

  shape_frames : (signature : Signature) (code : Code) → HasShape signature code → (frames : List Frame) × (code.frames ≡ Some frames)
  shape_frames signature code shape = by code.frames refl shape.each where
    by : (o : Option (List Frame)) → code.frames ≡ o → AllHold signature code (frames_in code (parameter_entries signature) o) → (frames : List Frame) × (code.frames ≡ Some frames)
    by None e hold = absurd hold
    by (Some frames) e hold = (frames, e)

  pub good_parts : (pool : List Constant) (m : Method) (parts : CodeParts) → IsSoundCode program [] m (code_in pool parts) → HasGoodParts pool parts
  unfolding code_in
  good_parts pool m parts sound =
      let (frames, some) = shape_frames sound.signature (code_in pool parts) sound.shape in
      record {
        constants = each_from (is_linked program []) (instruction_in pool) (λ instr. HasConstant pool (index_of instr)) (has_constant pool) parts.labelled.code sound.linked;
        classes = each_from (λ (range : Range). is_caught program range.catches) (range_in pool) (HasClass pool) (has_class pool) parts.labelled.ranges sound.caught;
        frames = frames;
        some = some;
      }

  -- ---- classes of `new`

  numbered : (name : Name) (c : Class) → class_at program name ≡ Some c → is_some (class_number program name) ≡ true
  numbered name c at = by (class_number program name) refl where
    by : (o : Option ℕ) → class_number program name ≡ o → is_some o ≡ true
    by None e = let no : Some c ≡ None = sym at ∙ (class_at-number program name ∙ ap (option_and_then (slice_get program)) e) in absurd cc
    by (Some k) e = refl

  class_there : (name : Name) (dims : ℕ) → is_there program (ofs.Class name) dims ≡ true → is_some (class_number program name) ≡ true
  class_there name dims there = by (class_at program name) refl there where
    by : (o : Option Class) → class_at program name ≡ o → is_there program (ofs.Class name) dims ≡ true → is_some (class_number program name) ≡ true
    by None e there = let no : false ≡ true = rw e at there in absurd cc
    by (Some c) e there = numbered name c e

  new_known : (of : Of) (dims : ℕ) → is_there program of dims ≡ true → nat_eq dims 0 ≡ true → MakesKnown program (New (record { dims = dims; of = of }))
  new_known (ofs.Base base) dims there zero = absurd (let some : not (nat_eq dims 0) ≡ true = there in grind (arith, nat_tests, some, zero))
  new_known (ofs.Class name) dims there zero =
      let none : dims ≡ 0 = grind (arith, nat_tests, zero) in
      (name, ap (λ (n : ℕ). record (class_type name) { dims = n }) none, class_there name dims there)

  pub makes_known : (i : Instruction) → is_linked program [] i ≡ true → MakesKnown program i
  unfolding is_linked
  makes_known (New class) linked =
      let plain = both_parts (is_class_of program class && nat_eq class.dims 0 && not (same_name (member_class [] class) (string_name []))) (not (is_stop [] class)) linked in
      let there = both_parts (is_class_of program class && nat_eq class.dims 0) (not (same_name (member_class [] class) (string_name []))) plain.0 in
      let whole = both_parts (is_class_of program class) (nat_eq class.dims 0) there.0 in
      new_known class.of class.dims whole.0 whole.1
  makes_known _ linked = tt

  pub sound_makes_known : (m : Method) (code : Code) → IsSoundCode program [] m code → AllByRecursion (MakesKnown program) code.instructions
  sound_makes_known m code sound = each_such (is_linked program []) (MakesKnown program) makes_known code.instructions sound.linked
