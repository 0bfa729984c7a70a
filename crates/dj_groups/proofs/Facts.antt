-- Groups by plain values: an array, a handler and a jump.
use Rattle.std.proofs.Common.{◌≡◌, ◌+◌, ℕ, pos, List, [], ◌∷◌, map, Some, None, refl, codes}
use Rattle.dj_names.specs.declared.descriptor.Base.TheVariants as bases
use Rattle.dj_names.specs.declared.run.Value.TheVariants as values
use Rattle.dj_names.specs.declared.run.Element.TheVariants as elements
use Rattle.dj_names.specs.trusted.Types.{Name, class_type, base_array}
use Rattle.dj_names.specs.trusted.Library.{int}
use Rattle.dj_ops.specs.declared.instruction.Instr.TheVariants as instrs
use Rattle.dj_ops.specs.declared.frames.Form.TheVariants as forms
use Rattle.dj_ops.specs.declared.frames.VType.TheVariants as types
use Rattle.dj_ops.specs.Mnemonics.{iconst_1, iconst_2, dup, pop, ifeq, goto, invokestatic}
use Rattle.dj_labels.specs.declared.labelled.Labelled.{Labelled}
use Rattle.dj_model.specs.trusted.Instructions.{Instruction, NewArray, New, Monitor, Throw, Move, Dup, Pop, Push, Goto, Switch, Other, Nothing}
use Rattle.dj_model.specs.trusted.Opcodes.{instruction_of, simple}
use Rattle.dj_model.specs.trusted.Linking.{field_count, chain_of, most_classes}
use Rattle.dj_model.specs.trusted.Program.{Program, Class, Code}
use Rattle.dj_model.specs.SmallRuns.{op, jump, method, catch_all, class_with, field_with}
use Rattle.dj_model.specs.Libraries.{metered_program}
use Rattle.dj_groups.specs.Groups.{Jumps, Invocations, Throws, Allocations, Arrays, Catches, Copy, ObjectBytes, ElementBytes, Record, Kept, Popped, Group, groups_of, charge_of, own_of, size, start, own, starts, owns, cut, pieces}
use Rattle.dj_groups.specs.Rewritten.{inserted_instruction, retargeted, own_instruction, in_groups, rewritten}
use Rattle.dj_groups.specs.Grouped.{call_index, inserted_instr, own_instr, labels_in_groups}

-- iconst_1, newarray byte, pop, goto 0; the pop is the handler of the two before it
abbrev looping : Code
looping = record {
  max_stack = 2;
  max_locals = 1;
  instructions = op iconst_1 ∷ NewArray (base_array bases.Byte) elements.Byte ∷ op pop ∷ jump goto 0 ∷ [];
  ranges = catch_all 0 2 2 ∷ [];
  frames = Some (record { at = 0; form = forms.Same } ∷ record { at = 2; form = forms.Stack1 (types.Uninitialized 2) } ∷ []);
}

abbrev groups : List Group
groups = groups_of (metered_program []) looping

-- ---- places

group_sizes : map size groups ≡ 1 ∷ 4 ∷ 4 ∷ 2 ∷ []
unfolding groups_of instruction_of simple
group_sizes = refl

first_numbers : starts groups ≡ 0 ∷ 1 ∷ 5 ∷ 9 ∷ 11 ∷ []
unfolding groups_of start instruction_of simple
first_numbers = refl

own_numbers : owns groups ≡ 0 ∷ 4 ∷ 8 ∷ 10 ∷ 11 ∷ []
unfolding groups_of start instruction_of simple
own_numbers = refl

-- past the end each group has one instruction
past_the_end : start groups 6 ∷ own groups 6 ∷ [] ≡ 13 ∷ 13 ∷ []
unfolding groups_of start instruction_of simple
past_the_end = refl

-- ---- ranges

-- what is inserted before the handler's first instruction is in no range, and no range is empty
cut_ranges : pieces groups 0 2 ∷ pieces groups 0 4 ∷ pieces groups 2 3 ∷ pieces groups 1 2 ∷ []
    ≡ ((0, 5) ∷ []) ∷ ((0, 5) ∷ (8, 11) ∷ []) ∷ ((8, 9) ∷ []) ∷ ((1, 5) ∷ []) ∷ []
unfolding groups_of start cut instruction_of simple
cut_ranges = refl

handler_not_whole : pieces groups 0 4 ≡ (0, 11) ∷ [] → ⊥
unfolding groups_of start cut instruction_of simple
handler_not_whole e = absurd cc

-- ---- charges

-- of a field none; of a longer array's elements two bytes each; an object of no field has 16 bytes
charges : charge_of (metered_program (class_with (codes "A") [] [] ∷ [])) (New (class_type (codes "A"))) ∷ charge_of [] (NewArray (base_array bases.Char) elements.Char) ∷ charge_of [] Throw ∷ charge_of [] Monitor ∷ charge_of [] (op iconst_2) ∷ []
    ≡ (ObjectBytes 16 ∷ Record Allocations ∷ []) ∷ (Copy ∷ ElementBytes elements.Char ∷ Record Arrays ∷ []) ∷ (Record Throws ∷ []) ∷ [] ∷ [] ∷ []
unfolding instruction_of simple metered_program field_count chain_of most_classes
charges = refl

-- what isn't supported pays by its opcode
other_charges : charge_of [] (Other 184 Nothing) ∷ charge_of [] (Other 189 Nothing) ∷ charge_of [] (Other 180 Nothing) ∷ charge_of [] (Other 186 Nothing) ∷ []
    ≡ (Record Invocations ∷ []) ∷ (Copy ∷ ElementBytes elements.Ref ∷ Record Arrays ∷ []) ∷ [] ∷ [] ∷ []
other_charges = refl

-- ---- code

rewritten_loop : (in_groups groups looping).instructions
    ≡ op iconst_1
    ∷ Move Dup ∷ Push (values.Int (pos 1)) ∷ inserted_instruction (Record Arrays) ∷ NewArray (base_array bases.Byte) elements.Byte
    ∷ Move Dup ∷ inserted_instruction (Record Catches) ∷ inserted_instruction (Record Throws) ∷ op pop
    ∷ inserted_instruction (Record Jumps) ∷ Goto 0 ∷ []
unfolding in_groups groups_of start instruction_of simple
rewritten_loop = refl

-- a handler's range ends where its instructions did, and the handler is where its group starts; max_stack is two more
rewritten_rest : (in_groups groups looping).max_stack ≡ 4 × ((in_groups groups looping).max_locals ≡ 1) × ((in_groups groups looping).ranges ≡ catch_all 0 5 5 ∷ [])
unfolding in_groups groups_of start cut instruction_of simple
rewritten_rest = (refl, refl, refl)

-- a frame is where its instruction's group starts; an uninitialized object is named by its `new` itself
moved_frames : (in_groups groups looping).frames ≡ Some (record { at = 0; form = forms.Same } ∷ record { at = 5; form = forms.Stack1 (types.Uninitialized 8) } ∷ [])
unfolding in_groups groups_of start instruction_of simple
moved_frames = refl

-- ---- labelled code

-- the accounter's methods by their places from the first of its constants on
calls : map (call_index 10) (Jumps ∷ Invocations ∷ Throws ∷ Allocations ∷ Arrays ∷ Catches ∷ []) ≡ 15 ∷ 19 ∷ 23 ∷ 27 ∷ 31 ∷ 35 ∷ []
calls = refl

-- elements' bytes by iconst_1, iconst_2, iconst_4 and bipush; an object's by sipush, however few
pushes : map (inserted_instr 10) (ElementBytes elements.Boolean ∷ ElementBytes elements.Char ∷ ElementBytes elements.Int ∷ ElementBytes elements.Ref ∷ ElementBytes elements.Long ∷ ObjectBytes 16 ∷ Copy ∷ [])
    ≡ instrs.Simple 4 ∷ instrs.Simple 5 ∷ instrs.Simple 7 ∷ instrs.Simple 7 ∷ instrs.Push 16 (pos 8) ∷ instrs.Push 17 (pos 16) ∷ instrs.Simple dup ∷ []
pushes = refl

abbrev labelled_loop : Labelled
labelled_loop = record {
  code = instrs.Simple iconst_1 ∷ instrs.Array 8 ∷ instrs.Simple pop ∷ instrs.Branch goto (pos 2) ∷ [];
  ranges = record { start = 0; end = 2; handler = 2; catch_type = 0 } ∷ [];
}

-- a jump goes to where the group of its target starts
labelled_groups : labels_in_groups 10 groups labelled_loop ≡ record {
  code = instrs.Simple iconst_1
      ∷ instrs.Simple dup ∷ instrs.Simple iconst_1 ∷ instrs.Member invokestatic 31 ∷ instrs.Array 8
      ∷ instrs.Simple dup ∷ instrs.Member invokestatic 35 ∷ instrs.Member invokestatic 23 ∷ instrs.Simple pop
      ∷ instrs.Member invokestatic 15 ∷ instrs.Branch goto (pos 5) ∷ [];
  ranges = record { start = 0; end = 5; handler = 5; catch_type = 0 } ∷ [];
}
unfolding labels_in_groups groups_of start cut instruction_of simple
labelled_groups = refl

-- ---- programs

abbrev names : Program → List Name
names classes = map (λ (c : Class). c.name) classes

rewritten_names : names (rewritten (class_with (codes "a/B") [] [] ∷ [])) ≡ codes "djvm/Accounter" ∷ codes "djvm/Stop" ∷ codes "sandbox/a/B" ∷ []
unfolding rewritten
rewritten_names = refl

plain_name_stays : names (rewritten (class_with (codes "a/B") [] [] ∷ [])) ≡ codes "djvm/Accounter" ∷ codes "djvm/Stop" ∷ codes "a/B" ∷ [] → ⊥
unfolding rewritten
plain_name_stays e = absurd cc

-- ---- the other instructions

-- A with two fields and a static one
abbrev fields : Program
fields = metered_program (class_with (codes "A") (field_with 0 (codes "f") int None ∷ field_with 0 (codes "g") int None ∷ field_with 8 (codes "s") int None ∷ []) [] ∷ [])

-- jumps, switches and calls pay; an object has eight bytes more for each field that isn't static
more_charges : charge_of [] (jump ifeq 3) ∷ charge_of [] (Switch ((pos 1, 2) ∷ []) 0) ∷ charge_of [] (method invokestatic (class_type (codes "A")) (codes "m") [] None) ∷ charge_of fields (New (class_type (codes "A"))) ∷ []
    ≡ (Record Jumps ∷ []) ∷ (Record Jumps ∷ []) ∷ (Record Invocations ∷ []) ∷ (ObjectBytes 32 ∷ Record Allocations ∷ []) ∷ []
unfolding instruction_of simple metered_program field_count chain_of most_classes
more_charges = refl

-- monitorenter and monitorexit become pop, and nothing else does
monitors : map own_of (Monitor ∷ Throw ∷ []) ≡ Popped ∷ Kept ∷ []
monitors = refl

popped : own_instruction (λ (n : ℕ). n) Popped Monitor ≡ Move Pop
popped = refl

popped_instr : own_instr (λ (n : ℕ). n) Popped (instrs.Simple 194) ≡ instrs.Simple pop
popped_instr = refl

-- every target moves
all_targets : map (retargeted (λ (n : ℕ). n + 10)) (jump ifeq 3 ∷ Goto 4 ∷ Switch ((pos 1, 2) ∷ []) 0 ∷ []) ≡ jump ifeq 13 ∷ Goto 14 ∷ Switch ((pos 1, 12) ∷ []) 10 ∷ []
unfolding instruction_of simple
all_targets = refl
