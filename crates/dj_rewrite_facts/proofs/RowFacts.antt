-- Code in groups, row by row, with values that another implementation made: the accounter's constants begin at the index 100.
use Rattle.std.proofs.Common.{◌≡◌, pos, negsuc, List, [], ◌∷◌, ◌++◌, map, None, refl}
use Rattle.dj_ops.specs.declared.instruction.Instr.{Instr}
use Rattle.dj_ops.specs.declared.instruction.Instr.TheVariants as instrs
use Rattle.dj_ops.specs.trusted.Forms.{form_of}
use Rattle.dj_labels.specs.declared.labelled.Labelled.{Labelled}
use Rattle.dj_layout.specs.trusted.Places.{starts_from}
use Rattle.dj_model.specs.trusted.Opcodes.{instruction_of, simple}
use Rattle.dj_model.specs.trusted.Program.{Code}
use Rattle.dj_program.specs.trusted.Codes.{code_in}
use Rattle.dj_groups.specs.Groups.{groups_of, start, starts, owns, cut}
use Rattle.dj_groups.specs.Grouped.{labels_in_groups}

-- its indexes name nothing, so calls and arrays of references pay by their opcodes
abbrev in_code : Labelled → Code
in_code labelled = code_in [] (record { max_stack = 0; max_locals = 0; labelled = labelled; frames = None })

-- two handlers, each in the other's range
abbrev handlers : Labelled
handlers = record {
  code = instrs.Simple 0 ∷ instrs.Simple 177 ∷ instrs.Simple 87 ∷ instrs.Simple 177 ∷ instrs.Simple 87 ∷ instrs.Simple 177 ∷ [];
  ranges = record { start = 0; end = 4; handler = 4; catch_type = 0 } ∷ record { start = 0; end = 2; handler = 2; catch_type = 0 } ∷ record { start = 2; end = 6; handler = 2; catch_type = 0 } ∷ record { start = 4; end = 6; handler = 4; catch_type = 0 } ∷ [];
}

handlers_grouped : labels_in_groups 100 (groups_of [] (in_code handlers)) handlers ≡ record {
  code = instrs.Simple 0 ∷ instrs.Simple 177 ∷ instrs.Simple 89 ∷ instrs.Member 184 125 ∷ instrs.Member 184 113 ∷ instrs.Simple 87
      ∷ instrs.Simple 177 ∷ instrs.Simple 89 ∷ instrs.Member 184 125 ∷ instrs.Member 184 113 ∷ instrs.Simple 87 ∷ instrs.Simple 177 ∷ [];
  ranges = record { start = 0; end = 2; handler = 7; catch_type = 0 } ∷ record { start = 5; end = 7; handler = 7; catch_type = 0 } ∷ record { start = 0; end = 2; handler = 2; catch_type = 0 } ∷ record { start = 5; end = 7; handler = 2; catch_type = 0 } ∷ record { start = 10; end = 12; handler = 2; catch_type = 0 } ∷ record { start = 10; end = 12; handler = 7; catch_type = 0 } ∷ [];
}
unfolding labels_in_groups groups_of code_in instruction_of simple start cut
handlers_grouped = refl

handlers_numbers : starts (groups_of [] (in_code handlers)) ≡ 0 ∷ 1 ∷ 2 ∷ 6 ∷ 7 ∷ 11 ∷ 12 ∷ [] × (owns (groups_of [] (in_code handlers)) ≡ 0 ∷ 1 ∷ 5 ∷ 6 ∷ 10 ∷ 11 ∷ 12 ∷ [])
unfolding groups_of code_in instruction_of simple start
handlers_numbers = (refl, refl)

-- a handler that several jumps reach
abbrev handler_first : Labelled
handler_first = record {
  code = instrs.Branch 167 (pos 3) ∷ instrs.Simple 75 ∷ instrs.Branch 167 (pos 3) ∷ instrs.Simple 0 ∷ instrs.Branch 167 (pos 3) ∷ [];
  ranges = record { start = 3; end = 4; handler = 1; catch_type = 0 } ∷ [];
}

handler_first_grouped : labels_in_groups 100 (groups_of [] (in_code handler_first)) handler_first ≡ record {
  code = instrs.Member 184 105 ∷ instrs.Branch 167 (pos 8) ∷ instrs.Simple 89 ∷ instrs.Member 184 125 ∷ instrs.Member 184 113 ∷ instrs.Simple 75
      ∷ instrs.Member 184 105 ∷ instrs.Branch 167 (pos 8) ∷ instrs.Simple 0 ∷ instrs.Member 184 105 ∷ instrs.Branch 167 (pos 8) ∷ [];
  ranges = record { start = 8; end = 9; handler = 2; catch_type = 0 } ∷ [];
}
unfolding labels_in_groups groups_of code_in instruction_of simple start cut
handler_first_grouped = refl

handler_first_numbers : starts (groups_of [] (in_code handler_first)) ≡ 0 ∷ 2 ∷ 6 ∷ 8 ∷ 9 ∷ 11 ∷ [] × (owns (groups_of [] (in_code handler_first)) ≡ 1 ∷ 5 ∷ 7 ∷ 8 ∷ 10 ∷ 11 ∷ [])
unfolding groups_of code_in instruction_of simple start
handler_first_numbers = (refl, refl)

-- a handler in its own range, which throws
abbrev handler_throw : Labelled
handler_throw = record {
  code = instrs.Simple 0 ∷ instrs.Simple 177 ∷ instrs.Simple 191 ∷ [];
  ranges = record { start = 0; end = 3; handler = 2; catch_type = 0 } ∷ record { start = 0; end = 2; handler = 2; catch_type = 39 } ∷ [];
}

handler_throw_grouped : labels_in_groups 100 (groups_of [] (in_code handler_throw)) handler_throw ≡ record {
  code = instrs.Simple 0 ∷ instrs.Simple 177 ∷ instrs.Simple 89 ∷ instrs.Member 184 125 ∷ instrs.Member 184 113 ∷ instrs.Member 184 113
      ∷ instrs.Simple 191 ∷ [];
  ranges = record { start = 0; end = 2; handler = 2; catch_type = 0 } ∷ record { start = 6; end = 7; handler = 2; catch_type = 0 } ∷ record { start = 0; end = 2; handler = 2; catch_type = 39 } ∷ [];
}
unfolding labels_in_groups groups_of code_in instruction_of simple start cut
handler_throw_grouped = refl

handler_throw_numbers : starts (groups_of [] (in_code handler_throw)) ≡ 0 ∷ 1 ∷ 2 ∷ 7 ∷ [] × (owns (groups_of [] (in_code handler_throw)) ≡ 0 ∷ 1 ∷ 6 ∷ 7 ∷ [])
unfolding groups_of code_in instruction_of simple start
handler_throw_numbers = (refl, refl)

-- an array that a handler makes
abbrev handler_array : Labelled
handler_array = record {
  code = instrs.Simple 0 ∷ instrs.Simple 177 ∷ instrs.Simple 87 ∷ instrs.Simple 4 ∷ instrs.Array 10 ∷ instrs.Simple 87
      ∷ instrs.Simple 177 ∷ [];
  ranges = record { start = 0; end = 1; handler = 2; catch_type = 0 } ∷ [];
}

handler_array_grouped : labels_in_groups 100 (groups_of [] (in_code handler_array)) handler_array ≡ record {
  code = instrs.Simple 0 ∷ instrs.Simple 177 ∷ instrs.Simple 89 ∷ instrs.Member 184 125 ∷ instrs.Member 184 113 ∷ instrs.Simple 87
      ∷ instrs.Simple 4 ∷ instrs.Simple 89 ∷ instrs.Simple 7 ∷ instrs.Member 184 121 ∷ instrs.Array 10 ∷ instrs.Simple 87
      ∷ instrs.Simple 177 ∷ [];
  ranges = record { start = 0; end = 1; handler = 2; catch_type = 0 } ∷ [];
}
unfolding labels_in_groups groups_of code_in instruction_of simple start cut
handler_array_grouped = refl

handler_array_numbers : starts (groups_of [] (in_code handler_array)) ≡ 0 ∷ 1 ∷ 2 ∷ 6 ∷ 7 ∷ 11 ∷ 12 ∷ 13 ∷ [] × (owns (groups_of [] (in_code handler_array)) ≡ 0 ∷ 1 ∷ 5 ∷ 6 ∷ 10 ∷ 11 ∷ 12 ∷ 13 ∷ [])
unfolding groups_of code_in instruction_of simple start
handler_array_numbers = (refl, refl)

-- a switch by matches
abbrev lookup : Labelled
lookup = record {
  code = instrs.Simple 3 ∷ instrs.Lookup (pos 2) ((negsuc 6, pos 0) ∷ (pos 0, pos 2) ∷ (pos 9, pos 3) ∷ []) ∷ instrs.Simple 0 ∷ instrs.Simple 177 ∷ [];
  ranges = [];
}

lookup_grouped : labels_in_groups 100 (groups_of [] (in_code lookup)) lookup ≡ record {
  code = instrs.Simple 3 ∷ instrs.Member 184 105 ∷ instrs.Lookup (pos 3) ((negsuc 6, pos 0) ∷ (pos 0, pos 3) ∷ (pos 9, pos 4) ∷ []) ∷ instrs.Simple 0 ∷ instrs.Simple 177 ∷ [];
  ranges = [];
}
unfolding labels_in_groups groups_of code_in instruction_of simple start cut
lookup_grouped = refl

lookup_numbers : starts (groups_of [] (in_code lookup)) ≡ 0 ∷ 1 ∷ 3 ∷ 4 ∷ 5 ∷ [] × (owns (groups_of [] (in_code lookup)) ≡ 0 ∷ 2 ∷ 3 ∷ 4 ∷ 5 ∷ [])
unfolding groups_of code_in instruction_of simple start
lookup_numbers = (refl, refl)

-- a switch by a table
abbrev table : Labelled
table = record {
  code = instrs.Simple 3 ∷ instrs.Table (negsuc 0) (pos 0) ((pos 0) ∷ (pos 2) ∷ (pos 3) ∷ []) ∷ instrs.Simple 0 ∷ instrs.Simple 177 ∷ [];
  ranges = [];
}

table_grouped : labels_in_groups 100 (groups_of [] (in_code table)) table ≡ record {
  code = instrs.Simple 3 ∷ instrs.Member 184 105 ∷ instrs.Table (negsuc 0) (pos 0) ((pos 0) ∷ (pos 3) ∷ (pos 4) ∷ []) ∷ instrs.Simple 0 ∷ instrs.Simple 177 ∷ [];
  ranges = [];
}
unfolding labels_in_groups groups_of code_in instruction_of simple start cut
table_grouped = refl

table_numbers : starts (groups_of [] (in_code table)) ≡ 0 ∷ 1 ∷ 3 ∷ 4 ∷ 5 ∷ [] × (owns (groups_of [] (in_code table)) ≡ 0 ∷ 2 ∷ 3 ∷ 4 ∷ 5 ∷ [])
unfolding groups_of code_in instruction_of simple start
table_numbers = (refl, refl)

-- jumps forward and back, one of 32 bits
abbrev jumps : Labelled
jumps = record {
  code = instrs.Simple 3 ∷ instrs.Branch 153 (pos 2) ∷ instrs.Simple 1 ∷ instrs.Branch 199 (pos 4) ∷ instrs.Branch 167 (pos 5) ∷ instrs.Branch 200 (pos 6)
      ∷ instrs.Simple 3 ∷ instrs.Simple 3 ∷ instrs.Branch 161 (pos 2) ∷ instrs.Simple 177 ∷ [];
  ranges = [];
}

jumps_grouped : labels_in_groups 100 (groups_of [] (in_code jumps)) jumps ≡ record {
  code = instrs.Simple 3 ∷ instrs.Member 184 105 ∷ instrs.Branch 153 (pos 3) ∷ instrs.Simple 1 ∷ instrs.Member 184 105 ∷ instrs.Branch 199 (pos 6)
      ∷ instrs.Member 184 105 ∷ instrs.Branch 167 (pos 8) ∷ instrs.Member 184 105 ∷ instrs.Branch 200 (pos 10) ∷ instrs.Simple 3 ∷ instrs.Simple 3
      ∷ instrs.Member 184 105 ∷ instrs.Branch 161 (pos 3) ∷ instrs.Simple 177 ∷ [];
  ranges = [];
}
unfolding labels_in_groups groups_of code_in instruction_of simple start cut
jumps_grouped = refl

jumps_numbers : starts (groups_of [] (in_code jumps)) ≡ 0 ∷ 1 ∷ 3 ∷ 4 ∷ 6 ∷ 8 ∷ 10 ∷ 11 ∷ 12 ∷ 14 ∷ 15 ∷ [] × (owns (groups_of [] (in_code jumps)) ≡ 0 ∷ 2 ∷ 3 ∷ 5 ∷ 7 ∷ 9 ∷ 10 ∷ 11 ∷ 13 ∷ 14 ∷ 15 ∷ [])
unfolding groups_of code_in instruction_of simple start
jumps_numbers = (refl, refl)

-- calls of each kind
abbrev invokes : Labelled
invokes = record {
  code = instrs.Member 184 25 ∷ instrs.Simple 42 ∷ instrs.Member 182 29 ∷ instrs.Simple 87 ∷ instrs.Simple 42 ∷ instrs.Member 183 15
      ∷ instrs.Simple 1 ∷ instrs.Interface 34 1 ∷ instrs.Simple 177 ∷ [];
  ranges = [];
}

invokes_grouped : labels_in_groups 100 (groups_of [] (in_code invokes)) invokes ≡ record {
  code = instrs.Member 184 109 ∷ instrs.Member 184 25 ∷ instrs.Simple 42 ∷ instrs.Member 184 109 ∷ instrs.Member 182 29 ∷ instrs.Simple 87
      ∷ instrs.Simple 42 ∷ instrs.Member 184 109 ∷ instrs.Member 183 15 ∷ instrs.Simple 1 ∷ instrs.Member 184 109 ∷ instrs.Interface 34 1
      ∷ instrs.Simple 177 ∷ [];
  ranges = [];
}
unfolding labels_in_groups groups_of code_in instruction_of simple start cut
invokes_grouped = refl

invokes_numbers : starts (groups_of [] (in_code invokes)) ≡ 0 ∷ 2 ∷ 3 ∷ 5 ∷ 6 ∷ 7 ∷ 9 ∷ 10 ∷ 12 ∷ 13 ∷ [] × (owns (groups_of [] (in_code invokes)) ≡ 1 ∷ 2 ∷ 4 ∷ 5 ∷ 6 ∷ 8 ∷ 9 ∷ 11 ∷ 12 ∷ 13 ∷ [])
unfolding groups_of code_in instruction_of simple start
invokes_numbers = (refl, refl)

-- arrays of each size of elements
abbrev arrays : Labelled
arrays = record {
  code = instrs.Simple 4 ∷ instrs.Array 4 ∷ instrs.Simple 87 ∷ instrs.Simple 4 ∷ instrs.Array 5 ∷ instrs.Simple 87
      ∷ instrs.Simple 4 ∷ instrs.Array 8 ∷ instrs.Simple 87 ∷ instrs.Simple 4 ∷ instrs.Array 9 ∷ instrs.Simple 87
      ∷ instrs.Simple 4 ∷ instrs.Array 10 ∷ instrs.Simple 87 ∷ instrs.Simple 4 ∷ instrs.Array 11 ∷ instrs.Simple 87
      ∷ instrs.Simple 4 ∷ instrs.Class 189 2 ∷ instrs.Simple 87 ∷ instrs.Simple 4 ∷ instrs.Class 189 43 ∷ instrs.Simple 87
      ∷ instrs.Simple 177 ∷ [];
  ranges = [];
}

arrays_grouped : labels_in_groups 100 (groups_of [] (in_code arrays)) arrays ≡ record {
  code = instrs.Simple 4 ∷ instrs.Simple 89 ∷ instrs.Simple 4 ∷ instrs.Member 184 121 ∷ instrs.Array 4 ∷ instrs.Simple 87
      ∷ instrs.Simple 4 ∷ instrs.Simple 89 ∷ instrs.Simple 5 ∷ instrs.Member 184 121 ∷ instrs.Array 5 ∷ instrs.Simple 87
      ∷ instrs.Simple 4 ∷ instrs.Simple 89 ∷ instrs.Simple 4 ∷ instrs.Member 184 121 ∷ instrs.Array 8 ∷ instrs.Simple 87
      ∷ instrs.Simple 4 ∷ instrs.Simple 89 ∷ instrs.Simple 5 ∷ instrs.Member 184 121 ∷ instrs.Array 9 ∷ instrs.Simple 87
      ∷ instrs.Simple 4 ∷ instrs.Simple 89 ∷ instrs.Simple 7 ∷ instrs.Member 184 121 ∷ instrs.Array 10 ∷ instrs.Simple 87
      ∷ instrs.Simple 4 ∷ instrs.Simple 89 ∷ instrs.Push 16 (pos 8) ∷ instrs.Member 184 121 ∷ instrs.Array 11 ∷ instrs.Simple 87
      ∷ instrs.Simple 4 ∷ instrs.Simple 89 ∷ instrs.Simple 7 ∷ instrs.Member 184 121 ∷ instrs.Class 189 2 ∷ instrs.Simple 87
      ∷ instrs.Simple 4 ∷ instrs.Simple 89 ∷ instrs.Simple 7 ∷ instrs.Member 184 121 ∷ instrs.Class 189 43 ∷ instrs.Simple 87
      ∷ instrs.Simple 177 ∷ [];
  ranges = [];
}
unfolding labels_in_groups groups_of code_in instruction_of simple start cut
arrays_grouped = refl

arrays_numbers : starts (groups_of [] (in_code arrays)) ≡ 0 ∷ 1 ∷ 5 ∷ 6 ∷ 7 ∷ 11 ∷ 12 ∷ 13 ∷ 17 ∷ 18 ∷ 19 ∷ 23 ∷ 24 ∷ 25 ∷ 29 ∷ 30 ∷ 31 ∷ 35 ∷ 36 ∷ 37 ∷ 41 ∷ 42 ∷ 43 ∷ 47 ∷ 48 ∷ 49 ∷ [] × (owns (groups_of [] (in_code arrays)) ≡ 0 ∷ 4 ∷ 5 ∷ 6 ∷ 10 ∷ 11 ∷ 12 ∷ 16 ∷ 17 ∷ 18 ∷ 22 ∷ 23 ∷ 24 ∷ 28 ∷ 29 ∷ 30 ∷ 34 ∷ 35 ∷ 36 ∷ 40 ∷ 41 ∷ 42 ∷ 46 ∷ 47 ∷ 48 ∷ 49 ∷ [])
unfolding groups_of code_in instruction_of simple start
arrays_numbers = (refl, refl)

-- ---- padding

-- a switch after so many instructions of one byte, and an instruction after it
abbrev padded : List Instr → Labelled
padded nops = record { code = nops ++ instrs.Table (pos 0) (pos 0) (pos 0 ∷ []) ∷ instrs.Simple 177 ∷ []; ranges = [] }

abbrev nop : Instr
nop = instrs.Simple 0

-- the call before the switch has three bytes: 3 + k is followed by 0, 3, 2 or 1 bytes of padding, and the switch by its 17 bytes
switches : map (λ (nops : List Instr). starts_from 0 (labels_in_groups 100 (groups_of [] (in_code (padded nops))) (padded nops)).code) ([] ∷ (nop ∷ []) ∷ (nop ∷ nop ∷ []) ∷ (nop ∷ nop ∷ nop ∷ []) ∷ [])
    ≡ (0 ∷ 3 ∷ 20 ∷ []) ∷ (0 ∷ 1 ∷ 4 ∷ 24 ∷ []) ∷ (0 ∷ 1 ∷ 2 ∷ 5 ∷ 24 ∷ []) ∷ (0 ∷ 1 ∷ 2 ∷ 3 ∷ 6 ∷ 24 ∷ []) ∷ []
unfolding labels_in_groups groups_of code_in instruction_of simple start form_of
switches = refl
