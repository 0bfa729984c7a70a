-- Groups by plain values.
use Rattle.std.proofs.Common.{◌≡◌, ℕ, List, [], ◌∷◌, map, Some, None, pos, refl}
use Rattle.dj_names.specs.declared.descriptor.Base.TheVariants as bases
use Rattle.dj_names.specs.declared.run.Element.TheVariants as elements
use Rattle.dj_names.specs.declared.run.Value.TheVariants as values
use Rattle.dj_names.specs.trusted.Types.{base_array}
use Rattle.dj_names.specs.trusted.Values.{element_size}
use Rattle.dj_ops.specs.declared.instruction.Instr.{Instr}
use Rattle.dj_ops.specs.declared.instruction.Instr.TheVariants as instrs
use Rattle.dj_labels.specs.declared.labelled.Labelled.{Labelled}
use Rattle.dj_model.specs.trusted.Instructions.{Instruction, Nop, Push, Return, NewArray, Throw, Monitor}
use Rattle.dj_model.specs.trusted.Program.{Code}
use Rattle.dj_groups.specs.Groups.{Group, groups_of, start, starts, owns, cut, ObjectBytes}
use Rattle.dj_groups.specs.Grouped.{element_push, inserted_instr, labels_in_groups}

-- ---- a handler that throws again, with a range over itself and one that ends before it

abbrev handler_code : Code
handler_code = record {
  max_stack = 1;
  max_locals = 1;
  instructions = Nop ∷ Return None ∷ Throw ∷ [];
  ranges = record { start = 0; end = 3; handler = 2; catches = None } ∷ record { start = 0; end = 2; handler = 2; catches = None } ∷ [];
  frames = None;
}

abbrev handler_labels : Labelled
handler_labels = record {
  code = instrs.Simple 0 ∷ instrs.Simple 177 ∷ instrs.Simple 191 ∷ [];
  ranges = record { start = 0; end = 3; handler = 2; catch_type = 0 } ∷ record { start = 0; end = 2; handler = 2; catch_type = 39 } ∷ [];
}

-- the range is cut, no empty piece is kept, and the handler is the group's start
handler_row : labels_in_groups 100 (groups_of [] handler_code) handler_labels ≡ record {
  code = instrs.Simple 0 ∷ instrs.Simple 177 ∷ instrs.Simple 89 ∷ instrs.Member 184 125 ∷ instrs.Member 184 113 ∷ instrs.Member 184 113 ∷ instrs.Simple 191 ∷ [];
  ranges = record { start = 0; end = 2; handler = 2; catch_type = 0 } ∷ record { start = 6; end = 7; handler = 2; catch_type = 0 } ∷ record { start = 0; end = 2; handler = 2; catch_type = 39 } ∷ [];
}
unfolding labels_in_groups groups_of start cut
handler_row = refl

handler_starts : starts (groups_of [] handler_code) ≡ 0 ∷ 1 ∷ 2 ∷ 7 ∷ []
unfolding groups_of start
handler_starts = refl

handler_owns : owns (groups_of [] handler_code) ≡ 0 ∷ 1 ∷ 6 ∷ 7 ∷ []
unfolding groups_of start
handler_owns = refl

-- ---- an array, whose group has four instructions, and a monitor

abbrev array_code : Code
array_code = record {
  max_stack = 1;
  max_locals = 1;
  instructions = Push (values.Int (pos 1)) ∷ NewArray (base_array bases.Byte) elements.Byte ∷ Monitor ∷ [];
  ranges = [];
  frames = None;
}

array_row : labels_in_groups 2000 (groups_of [] array_code) (record { code = instrs.Simple 4 ∷ instrs.Array 8 ∷ instrs.Simple 194 ∷ []; ranges = [] }) ≡ record {
  code = instrs.Simple 4 ∷ instrs.Simple 89 ∷ instrs.Simple 4 ∷ instrs.Member 184 2021 ∷ instrs.Array 8 ∷ instrs.Simple 87 ∷ [];
  ranges = [];
}
unfolding labels_in_groups groups_of start cut
array_row = refl

-- ---- pushed numbers

sizes_row : map (λ element. element_push (element_size element)) (elements.Boolean ∷ elements.Byte ∷ elements.Char ∷ elements.Short ∷ elements.Int ∷ elements.Long ∷ elements.Ref ∷ [])
    ≡ instrs.Simple 4 ∷ instrs.Simple 4 ∷ instrs.Simple 5 ∷ instrs.Simple 5 ∷ instrs.Simple 7 ∷ instrs.Push 16 (pos 8) ∷ instrs.Simple 7 ∷ []
sizes_row = refl

-- also the bytes of a small object
object_row : inserted_instr 100 (ObjectBytes 16) ≡ instrs.Push 17 (pos 16)
object_row = refl
