-- Labelled code in groups is the rewritten program's code, once indexes are replaced by what they name.
use Rattle.std.proofs.Common.{◌≡◌, ℕ, ◌+◌, List, [], ◌∷◌, map, Option, Some, None, refl, sym, ap, ◌∙◌, inl, inr, nat_eq, if◌then◌else◌, Bool, true, false}
use Rattle.std.specs.Option.{option_map}
use Rattle.std.specs.List.{flat_map, AllByRecursion}
use Rattle.std.proofs.lemmas.List.{map-append}
use Rattle.dj_names.specs.Types.{in_sandbox}
use Rattle.dj_ops.specs.declared.frames.Frame.{Frame}
use Rattle.dj_ops.specs.declared.instruction.Instr.{Instr}
use Rattle.dj_ops.specs.declared.instruction.Instr.TheVariants as instrs
use Rattle.dj_labels.specs.declared.labelled.Protected.{Protected}
use Rattle.dj_labels.specs.trusted.Targets.{with_targets}
use Rattle.dj_pool.specs.trusted.Pool.{Constant, constant_at, IsLinked}
use Rattle.dj_early_rules.specs.trusted.Instructions.{index_of}
use Rattle.dj_model.specs.trusted.Instructions.{Named, Instruction}
use Rattle.dj_model.specs.Instructions.{named_map, instruction_map}
use Rattle.dj_model.specs.trusted.Opcodes.{instruction_of, simple}
use Rattle.dj_model.specs.trusted.Program.{Program, Code, Range}
use Rattle.dj_model.specs.Program.{code_map, range_map}
use Rattle.dj_program.specs.trusted.Naming.{named_at, named_if, instruction_in}
use Rattle.dj_program.specs.trusted.Codes.{CodeParts, catches_in, range_in, code_in}
use Rattle.dj_frames.specs.Moves.{moved_frame}
use Rattle.dj_groups.specs.Groups.{Own, Kept, Popped, Group, groups_of, start, starts, owns, pieces, regrouped}
use Rattle.dj_groups.specs.Rewritten.{inserted_instruction, own_instruction, retargeted, range_pieces, in_groups, rewritten_code}
use Rattle.dj_groups.specs.Grouped.{new_target, inserted_instr, own_instr, protected_pieces, labels_in_groups}
use Rattle.dj_groups.proofs.GroupLaws.{map_regrouped, Becomes}
use Rattle.dj_rename.specs.Pools.{appended_texts, first_index, rewritten_pool}
use Rattle.dj_rewritten.specs.Rewritable.{HasConstant, HasClass}
use Rattle.dj_rewritten.proofs.CodeLaws.{instruction_named, instruction_aimed}
use Rattle.dj_rewritten.proofs.Naming.{inserted_named}
use Rattle.dj_rewritten.proofs.Kept.{named_kept}

module _ (pool : List Constant) (members : List ℕ) (linked : (i : ℕ) (k : Constant) → constant_at pool i ≡ Some k → IsLinked pool k) where
  abbrev new : List Constant
  new = rewritten_pool pool members

  abbrev first : ℕ
  first = first_index pool (appended_texts pool members)

  named_if_kept : (o : Option ℕ) → HasConstant pool o → named_if new o ≡ named_map in_sandbox (named_if pool o)
  named_if_kept None h = refl
  named_if_kept (Some index) h = named_kept pool members linked index h.0 h.1

  -- an instruction of the original code
  instruction_kept : (instr : Instr) → HasConstant pool (index_of instr) → instruction_in new instr ≡ instruction_map in_sandbox (instruction_in pool instr)
  instruction_kept instr h =
      ap (instruction_of instr) (named_if_kept (index_of instr) h)
      ∙ sym (instruction_named instr (named_if pool (index_of instr)))

  -- other targets leave the index
  same_index : (f : ℕ → ℕ) (instr : Instr) → index_of (with_targets (new_target f) instr) ≡ index_of instr
  same_index f (instrs.Simple op) = refl
  same_index f (instrs.Push op value) = refl
  same_index f (instrs.Literal op index) = refl
  same_index f (instrs.Local op slot wide) = refl
  same_index f (instrs.Inc slot by wide) = refl
  same_index f (instrs.Branch op target) = refl
  same_index f (instrs.Table low default targets) = refl
  same_index f (instrs.Lookup default pairs) = refl
  same_index f (instrs.Member op index) = refl
  same_index f (instrs.Interface index count) = refl
  same_index f (instrs.Dynamic index) = refl
  same_index f (instrs.Class op index) = refl
  same_index f (instrs.Array base) = refl
  same_index f (instrs.Multi index dims) = refl

  own_becomes : (f : ℕ → ℕ) (instr : Instr) → HasConstant pool (index_of instr) → (o : Own)
      → instruction_in new (own_instr f o instr) ≡ own_instruction f o (instruction_map in_sandbox (instruction_in pool instr))
  unfolding instruction_of simple
  own_becomes f instr h Kept =
      ap (λ (o : Option ℕ). instruction_of (with_targets (new_target f) instr) (named_if new o)) (same_index f instr)
      ∙ sym (instruction_aimed f instr (named_if new (index_of instr)))
      ∙ ap (retargeted f) (instruction_kept instr h)
  own_becomes f instr h Popped = refl

  all_become : (f : ℕ → ℕ) (code : List Instr) → AllByRecursion (λ instr. HasConstant pool (index_of instr)) code
      → AllByRecursion (Becomes (inserted_instr first) (own_instr f) inserted_instruction (own_instruction f) (instruction_in new)
      (λ instr. instruction_map in_sandbox (instruction_in pool instr)) (inserted_named pool members)) code
  all_become f [] h = tt
  all_become f (instr ∷ code) h = (own_becomes f instr h.0, all_become f code h.1)

  map_twice : {A B C : Type 0} (f : B → C) (g : A → B) (xs : List A) → map (λ x. f (g x)) xs ≡ map f (map g xs)
  map_twice f g [] = refl
  map_twice f g (x ∷ xs) = ap (λ (y : List _). f (g x) ∷ y) (map_twice f g xs)

  -- ranges
  catches_kept : (range : Protected) → HasClass pool range → catches_in new range.catch_type ≡ option_map (named_map in_sandbox) (catches_in pool range.catch_type)
  catches_kept range (inl none) = rw none refl
  catches_kept range (inr some) = go (nat_eq range.catch_type 0) where
    go : (b : Bool) → (if b then None else Some (named_at new range.catch_type)) ≡ option_map (named_map in_sandbox) (if b then None else Some (named_at pool range.catch_type))
    go true = refl
    go false = ap (λ (x : Named). Some x) (named_kept pool members linked range.catch_type some.0 some.1)

  pieces_kept : (gs : List Group) (range : Protected) → HasClass pool range → (ps : List (ℕ × ℕ))
      → map (range_in new) (map (λ (p : ℕ × ℕ). record range { start = p.0; end = p.1; handler = start gs range.handler }) ps)
      ≡ map (λ (p : ℕ × ℕ). record (range_map in_sandbox (range_in pool range)) { start = p.0; end = p.1; handler = start gs range.handler }) ps
  pieces_kept gs range h [] = refl
  pieces_kept gs range h (p ∷ ps) = rw (catches_kept range h, pieces_kept gs range h ps) refl

  ranges_kept : (gs : List Group) (ranges : List Protected) → AllByRecursion (HasClass pool) ranges
      → map (range_in new) (flat_map (protected_pieces gs) ranges) ≡ flat_map (range_pieces gs) (map (range_map in_sandbox) (map (range_in pool) ranges))
  ranges_kept gs [] h = refl
  ranges_kept gs (range ∷ ranges) h =
      map-append (range_in new) (protected_pieces gs range) (flat_map (protected_pieces gs) ranges)
      ∙ rw (pieces_kept gs range h.0 (pieces gs range.start range.end), ranges_kept gs ranges h.1) refl

  -- The code of the rewritten class, by its own pool, is the rewritten code.
  abbrev pub moved : List Group → Option (List Frame) → Option (List Frame)
  moved gs frames = option_map (map (moved_frame (starts gs) (owns gs))) frames

  with_groups : (gs : List Group) (parts : CodeParts)
      → AllByRecursion (λ instr. HasConstant pool (index_of instr)) parts.labelled.code → AllByRecursion (HasClass pool) parts.labelled.ranges
      → code_in new (record { max_stack = parts.max_stack + 2; max_locals = parts.max_locals; labelled = labels_in_groups first gs parts.labelled; frames = moved gs parts.frames })
      ≡ in_groups gs (code_map in_sandbox (code_in pool parts))
  unfolding code_in labels_in_groups in_groups
  with_groups gs parts code ranges =
      ap (λ (is : List Instruction). made is (map (range_in new) (flat_map (protected_pieces gs) parts.labelled.ranges)))
      (map_regrouped (inserted_instr first) (own_instr (start gs)) inserted_instruction (own_instruction (start gs)) (instruction_in new)
      (λ instr. instruction_map in_sandbox (instruction_in pool instr)) (inserted_named pool members) gs parts.labelled.code (all_become (start gs) parts.labelled.code code)
      ∙ ap (regrouped inserted_instruction (own_instruction (start gs)) gs) (map_twice (instruction_map in_sandbox) (instruction_in pool) parts.labelled.code))
      ∙ ap (λ (rs : List Range). made (regrouped inserted_instruction (own_instruction (start gs)) gs (map (instruction_map in_sandbox) (map (instruction_in pool) parts.labelled.code))) rs)
      (ranges_kept gs parts.labelled.ranges ranges) where
        made : List Instruction → List Range → Code
        made is rs = record { max_stack = parts.max_stack + 2; max_locals = parts.max_locals; instructions = is; ranges = rs; frames = moved gs parts.frames }

  pub rewritten_in : (program : Program) (parts : CodeParts)
      → AllByRecursion (λ instr. HasConstant pool (index_of instr)) parts.labelled.code → AllByRecursion (HasClass pool) parts.labelled.ranges
      → code_in new (record {
        max_stack = parts.max_stack + 2;
        max_locals = parts.max_locals;
        labelled = labels_in_groups first (groups_of program (code_in pool parts)) parts.labelled;
        frames = moved (groups_of program (code_in pool parts)) parts.frames;
      })
      ≡ rewritten_code program (code_in pool parts)
  unfolding rewritten_code
  rewritten_in program parts code ranges = with_groups (groups_of program (code_in pool parts)) parts code ranges
