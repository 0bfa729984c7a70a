-- Code of many kinds in groups, as an independent implementation has it. Nothing is named, as no charge but that of `new` depends on it.
use Rattle.std.proofs.Common.{◌≡◌, ℕ, true, false, List, [], ◌∷◌, None, pos, negsuc, refl}
use Rattle.dj_ops.specs.declared.instruction.Instr.{Instr}
use Rattle.dj_ops.specs.declared.instruction.Instr.TheVariants as instrs
use Rattle.dj_labels.specs.declared.labelled.Protected.{Protected}
use Rattle.dj_labels.specs.declared.labelled.Labelled.{Labelled}
use Rattle.dj_model.specs.trusted.Opcodes.{simple, instruction_of}
use Rattle.dj_groups.specs.Groups.{Group, groups_of, start, starts, owns, cut}
use Rattle.dj_groups.specs.Grouped.{labels_in_groups}
use Rattle.dj_program.specs.trusted.Codes.{CodeParts, code_in}

abbrev labels_by : List Instr → List Protected → Labelled
labels_by code ranges = record { code = code; ranges = ranges }

abbrev groups_by : Labelled → List Group
groups_by labelled = groups_of [] (code_in [] (record { max_stack = 9; max_locals = 9; labelled = labelled; frames = None }))

-- the code in groups, the starts, and the numbers of the instructions themselves
abbrev made : ℕ → Labelled → Labelled × (List ℕ × List ℕ)
made first labelled = (labels_in_groups first (groups_by labelled) labelled, (starts (groups_by labelled), owns (groups_by labelled)))

row4_row : made 100 (labels_by (instrs.Simple 3 ∷ instrs.Simple 60 ∷ instrs.Simple 3 ∷ instrs.Simple 61 ∷ instrs.Simple 28 ∷ instrs.Simple 42 ∷ instrs.Simple 190 ∷ instrs.Branch 162 (pos 16) ∷ instrs.Simple 27 ∷ instrs.Simple 42 ∷ instrs.Simple 28 ∷ instrs.Simple 51 ∷ instrs.Simple 96 ∷ instrs.Simple 60 ∷ instrs.Inc 2 (pos 1) false ∷ instrs.Branch 167 (pos 4) ∷ instrs.Simple 4 ∷ instrs.Array 8 ∷ instrs.Simple 89 ∷ instrs.Simple 3 ∷ instrs.Simple 27 ∷ instrs.Simple 84 ∷ instrs.Simple 176 ∷ []) ([]))
    ≡ (labels_by (instrs.Simple 3 ∷ instrs.Simple 60 ∷ instrs.Simple 3 ∷ instrs.Simple 61 ∷ instrs.Simple 28 ∷ instrs.Simple 42 ∷ instrs.Simple 190 ∷ instrs.Member 184 105 ∷ instrs.Branch 162 (pos 18) ∷ instrs.Simple 27 ∷ instrs.Simple 42 ∷ instrs.Simple 28 ∷ instrs.Simple 51 ∷ instrs.Simple 96 ∷ instrs.Simple 60 ∷ instrs.Inc 2 (pos 1) false ∷ instrs.Member 184 105 ∷ instrs.Branch 167 (pos 4) ∷ instrs.Simple 4 ∷ instrs.Simple 89 ∷ instrs.Simple 4 ∷ instrs.Member 184 121 ∷ instrs.Array 8 ∷ instrs.Simple 89 ∷ instrs.Simple 3 ∷ instrs.Simple 27 ∷ instrs.Simple 84 ∷ instrs.Simple 176 ∷ []) ([]), (0 ∷ 1 ∷ 2 ∷ 3 ∷ 4 ∷ 5 ∷ 6 ∷ 7 ∷ 9 ∷ 10 ∷ 11 ∷ 12 ∷ 13 ∷ 14 ∷ 15 ∷ 16 ∷ 18 ∷ 19 ∷ 23 ∷ 24 ∷ 25 ∷ 26 ∷ 27 ∷ 28 ∷ [], 0 ∷ 1 ∷ 2 ∷ 3 ∷ 4 ∷ 5 ∷ 6 ∷ 8 ∷ 9 ∷ 10 ∷ 11 ∷ 12 ∷ 13 ∷ 14 ∷ 15 ∷ 17 ∷ 18 ∷ 22 ∷ 23 ∷ 24 ∷ 25 ∷ 26 ∷ 27 ∷ 28 ∷ []))
unfolding code_in instruction_of simple labels_in_groups groups_of start cut
row4_row = refl

nothing_row : made 100 (labels_by (instrs.Simple 0 ∷ instrs.Simple 177 ∷ []) ([]))
    ≡ (labels_by (instrs.Simple 0 ∷ instrs.Simple 177 ∷ []) ([]), (0 ∷ 1 ∷ 2 ∷ [], 0 ∷ 1 ∷ 2 ∷ []))
unfolding code_in instruction_of simple labels_in_groups groups_of start cut
nothing_row = refl

jumps_row : made 100 (labels_by (instrs.Simple 3 ∷ instrs.Branch 153 (pos 2) ∷ instrs.Simple 1 ∷ instrs.Branch 199 (pos 4) ∷ instrs.Branch 167 (pos 5) ∷ instrs.Branch 200 (pos 6) ∷ instrs.Simple 3 ∷ instrs.Simple 3 ∷ instrs.Branch 161 (pos 2) ∷ instrs.Simple 177 ∷ []) ([]))
    ≡ (labels_by (instrs.Simple 3 ∷ instrs.Member 184 105 ∷ instrs.Branch 153 (pos 3) ∷ instrs.Simple 1 ∷ instrs.Member 184 105 ∷ instrs.Branch 199 (pos 6) ∷ instrs.Member 184 105 ∷ instrs.Branch 167 (pos 8) ∷ instrs.Member 184 105 ∷ instrs.Branch 200 (pos 10) ∷ instrs.Simple 3 ∷ instrs.Simple 3 ∷ instrs.Member 184 105 ∷ instrs.Branch 161 (pos 3) ∷ instrs.Simple 177 ∷ []) ([]), (0 ∷ 1 ∷ 3 ∷ 4 ∷ 6 ∷ 8 ∷ 10 ∷ 11 ∷ 12 ∷ 14 ∷ 15 ∷ [], 0 ∷ 2 ∷ 3 ∷ 5 ∷ 7 ∷ 9 ∷ 10 ∷ 11 ∷ 13 ∷ 14 ∷ 15 ∷ []))
unfolding code_in instruction_of simple labels_in_groups groups_of start cut
jumps_row = refl

table_row : made 100 (labels_by (instrs.Simple 3 ∷ instrs.Table (negsuc 0) (pos 0) (pos 0 ∷ pos 2 ∷ pos 3 ∷ []) ∷ instrs.Simple 0 ∷ instrs.Simple 177 ∷ []) ([]))
    ≡ (labels_by (instrs.Simple 3 ∷ instrs.Member 184 105 ∷ instrs.Table (negsuc 0) (pos 0) (pos 0 ∷ pos 3 ∷ pos 4 ∷ []) ∷ instrs.Simple 0 ∷ instrs.Simple 177 ∷ []) ([]), (0 ∷ 1 ∷ 3 ∷ 4 ∷ 5 ∷ [], 0 ∷ 2 ∷ 3 ∷ 4 ∷ 5 ∷ []))
unfolding code_in instruction_of simple labels_in_groups groups_of start cut
table_row = refl

lookup_row : made 100 (labels_by (instrs.Simple 3 ∷ instrs.Lookup (pos 2) ((negsuc 6, pos 0) ∷ (pos 0, pos 2) ∷ (pos 9, pos 3) ∷ []) ∷ instrs.Simple 0 ∷ instrs.Simple 177 ∷ []) ([]))
    ≡ (labels_by (instrs.Simple 3 ∷ instrs.Member 184 105 ∷ instrs.Lookup (pos 3) ((negsuc 6, pos 0) ∷ (pos 0, pos 3) ∷ (pos 9, pos 4) ∷ []) ∷ instrs.Simple 0 ∷ instrs.Simple 177 ∷ []) ([]), (0 ∷ 1 ∷ 3 ∷ 4 ∷ 5 ∷ [], 0 ∷ 2 ∷ 3 ∷ 4 ∷ 5 ∷ []))
unfolding code_in instruction_of simple labels_in_groups groups_of start cut
lookup_row = refl

invokes_row : made 100 (labels_by (instrs.Member 184 25 ∷ instrs.Simple 42 ∷ instrs.Member 182 29 ∷ instrs.Simple 87 ∷ instrs.Simple 42 ∷ instrs.Member 183 15 ∷ instrs.Simple 1 ∷ instrs.Interface 34 1 ∷ instrs.Simple 177 ∷ []) ([]))
    ≡ (labels_by (instrs.Member 184 109 ∷ instrs.Member 184 25 ∷ instrs.Simple 42 ∷ instrs.Member 184 109 ∷ instrs.Member 182 29 ∷ instrs.Simple 87 ∷ instrs.Simple 42 ∷ instrs.Member 184 109 ∷ instrs.Member 183 15 ∷ instrs.Simple 1 ∷ instrs.Member 184 109 ∷ instrs.Interface 34 1 ∷ instrs.Simple 177 ∷ []) ([]), (0 ∷ 2 ∷ 3 ∷ 5 ∷ 6 ∷ 7 ∷ 9 ∷ 10 ∷ 12 ∷ 13 ∷ [], 1 ∷ 2 ∷ 4 ∷ 5 ∷ 6 ∷ 8 ∷ 9 ∷ 11 ∷ 12 ∷ 13 ∷ []))
unfolding code_in instruction_of simple labels_in_groups groups_of start cut
invokes_row = refl

arrays_row : made 100 (labels_by (instrs.Simple 4 ∷ instrs.Array 4 ∷ instrs.Simple 87 ∷ instrs.Simple 4 ∷ instrs.Array 5 ∷ instrs.Simple 87 ∷ instrs.Simple 4 ∷ instrs.Array 8 ∷ instrs.Simple 87 ∷ instrs.Simple 4 ∷ instrs.Array 9 ∷ instrs.Simple 87 ∷ instrs.Simple 4 ∷ instrs.Array 10 ∷ instrs.Simple 87 ∷ instrs.Simple 4 ∷ instrs.Array 11 ∷ instrs.Simple 87 ∷ instrs.Simple 4 ∷ instrs.Class 189 2 ∷ instrs.Simple 87 ∷ instrs.Simple 4 ∷ instrs.Class 189 43 ∷ instrs.Simple 87 ∷ instrs.Simple 177 ∷ []) ([]))
    ≡ (labels_by (instrs.Simple 4 ∷ instrs.Simple 89 ∷ instrs.Simple 4 ∷ instrs.Member 184 121 ∷ instrs.Array 4 ∷ instrs.Simple 87 ∷ instrs.Simple 4 ∷ instrs.Simple 89 ∷ instrs.Simple 5 ∷ instrs.Member 184 121 ∷ instrs.Array 5 ∷ instrs.Simple 87 ∷ instrs.Simple 4 ∷ instrs.Simple 89 ∷ instrs.Simple 4 ∷ instrs.Member 184 121 ∷ instrs.Array 8 ∷ instrs.Simple 87 ∷ instrs.Simple 4 ∷ instrs.Simple 89 ∷ instrs.Simple 5 ∷ instrs.Member 184 121 ∷ instrs.Array 9 ∷ instrs.Simple 87 ∷ instrs.Simple 4 ∷ instrs.Simple 89 ∷ instrs.Simple 7 ∷ instrs.Member 184 121 ∷ instrs.Array 10 ∷ instrs.Simple 87 ∷ instrs.Simple 4 ∷ instrs.Simple 89 ∷ instrs.Push 16 (pos 8) ∷ instrs.Member 184 121 ∷ instrs.Array 11 ∷ instrs.Simple 87 ∷ instrs.Simple 4 ∷ instrs.Simple 89 ∷ instrs.Simple 7 ∷ instrs.Member 184 121 ∷ instrs.Class 189 2 ∷ instrs.Simple 87 ∷ instrs.Simple 4 ∷ instrs.Simple 89 ∷ instrs.Simple 7 ∷ instrs.Member 184 121 ∷ instrs.Class 189 43 ∷ instrs.Simple 87 ∷ instrs.Simple 177 ∷ []) ([]), (0 ∷ 1 ∷ 5 ∷ 6 ∷ 7 ∷ 11 ∷ 12 ∷ 13 ∷ 17 ∷ 18 ∷ 19 ∷ 23 ∷ 24 ∷ 25 ∷ 29 ∷ 30 ∷ 31 ∷ 35 ∷ 36 ∷ 37 ∷ 41 ∷ 42 ∷ 43 ∷ 47 ∷ 48 ∷ 49 ∷ [], 0 ∷ 4 ∷ 5 ∷ 6 ∷ 10 ∷ 11 ∷ 12 ∷ 16 ∷ 17 ∷ 18 ∷ 22 ∷ 23 ∷ 24 ∷ 28 ∷ 29 ∷ 30 ∷ 34 ∷ 35 ∷ 36 ∷ 40 ∷ 41 ∷ 42 ∷ 46 ∷ 47 ∷ 48 ∷ 49 ∷ []))
unfolding code_in instruction_of simple labels_in_groups groups_of start cut
arrays_row = refl

monitors_row : made 100 (labels_by (instrs.Simple 1 ∷ instrs.Simple 194 ∷ instrs.Simple 1 ∷ instrs.Simple 195 ∷ instrs.Simple 177 ∷ []) ([]))
    ≡ (labels_by (instrs.Simple 1 ∷ instrs.Simple 87 ∷ instrs.Simple 1 ∷ instrs.Simple 87 ∷ instrs.Simple 177 ∷ []) ([]), (0 ∷ 1 ∷ 2 ∷ 3 ∷ 4 ∷ 5 ∷ [], 0 ∷ 1 ∷ 2 ∷ 3 ∷ 4 ∷ 5 ∷ []))
unfolding code_in instruction_of simple labels_in_groups groups_of start cut
monitors_row = refl

athrow_row : made 100 (labels_by (instrs.Simple 1 ∷ instrs.Simple 191 ∷ []) ([]))
    ≡ (labels_by (instrs.Simple 1 ∷ instrs.Member 184 113 ∷ instrs.Simple 191 ∷ []) ([]), (0 ∷ 1 ∷ 3 ∷ [], 0 ∷ 2 ∷ 3 ∷ []))
unfolding code_in instruction_of simple labels_in_groups groups_of start cut
athrow_row = refl

handler_row : made 100 (labels_by (instrs.Simple 0 ∷ instrs.Simple 177 ∷ instrs.Simple 87 ∷ instrs.Simple 177 ∷ []) (record { start = 0; end = 1; handler = 2; catch_type = 0 } ∷ []))
    ≡ (labels_by (instrs.Simple 0 ∷ instrs.Simple 177 ∷ instrs.Simple 89 ∷ instrs.Member 184 125 ∷ instrs.Member 184 113 ∷ instrs.Simple 87 ∷ instrs.Simple 177 ∷ []) (record { start = 0; end = 1; handler = 2; catch_type = 0 } ∷ []), (0 ∷ 1 ∷ 2 ∷ 6 ∷ 7 ∷ [], 0 ∷ 1 ∷ 5 ∷ 6 ∷ 7 ∷ []))
unfolding code_in instruction_of simple labels_in_groups groups_of start cut
handler_row = refl

handler_throw_row : made 100 (labels_by (instrs.Simple 0 ∷ instrs.Simple 177 ∷ instrs.Simple 191 ∷ []) (record { start = 0; end = 3; handler = 2; catch_type = 0 } ∷ record { start = 0; end = 2; handler = 2; catch_type = 39 } ∷ []))
    ≡ (labels_by (instrs.Simple 0 ∷ instrs.Simple 177 ∷ instrs.Simple 89 ∷ instrs.Member 184 125 ∷ instrs.Member 184 113 ∷ instrs.Member 184 113 ∷ instrs.Simple 191 ∷ []) (record { start = 0; end = 2; handler = 2; catch_type = 0 } ∷ record { start = 6; end = 7; handler = 2; catch_type = 0 } ∷ record { start = 0; end = 2; handler = 2; catch_type = 39 } ∷ []), (0 ∷ 1 ∷ 2 ∷ 7 ∷ [], 0 ∷ 1 ∷ 6 ∷ 7 ∷ []))
unfolding code_in instruction_of simple labels_in_groups groups_of start cut
handler_throw_row = refl

handlers_row : made 100 (labels_by (instrs.Simple 0 ∷ instrs.Simple 177 ∷ instrs.Simple 87 ∷ instrs.Simple 177 ∷ instrs.Simple 87 ∷ instrs.Simple 177 ∷ []) (record { start = 0; end = 4; handler = 4; catch_type = 0 } ∷ record { start = 0; end = 2; handler = 2; catch_type = 0 } ∷ record { start = 2; end = 6; handler = 2; catch_type = 0 } ∷ record { start = 4; end = 6; handler = 4; catch_type = 0 } ∷ []))
    ≡ (labels_by (instrs.Simple 0 ∷ instrs.Simple 177 ∷ instrs.Simple 89 ∷ instrs.Member 184 125 ∷ instrs.Member 184 113 ∷ instrs.Simple 87 ∷ instrs.Simple 177 ∷ instrs.Simple 89 ∷ instrs.Member 184 125 ∷ instrs.Member 184 113 ∷ instrs.Simple 87 ∷ instrs.Simple 177 ∷ []) (record { start = 0; end = 2; handler = 7; catch_type = 0 } ∷ record { start = 5; end = 7; handler = 7; catch_type = 0 } ∷ record { start = 0; end = 2; handler = 2; catch_type = 0 } ∷ record { start = 5; end = 7; handler = 2; catch_type = 0 } ∷ record { start = 10; end = 12; handler = 2; catch_type = 0 } ∷ record { start = 10; end = 12; handler = 7; catch_type = 0 } ∷ []), (0 ∷ 1 ∷ 2 ∷ 6 ∷ 7 ∷ 11 ∷ 12 ∷ [], 0 ∷ 1 ∷ 5 ∷ 6 ∷ 10 ∷ 11 ∷ 12 ∷ []))
unfolding code_in instruction_of simple labels_in_groups groups_of start cut
handlers_row = refl

handler_first_row : made 100 (labels_by (instrs.Branch 167 (pos 3) ∷ instrs.Simple 75 ∷ instrs.Branch 167 (pos 3) ∷ instrs.Simple 0 ∷ instrs.Branch 167 (pos 3) ∷ []) (record { start = 3; end = 4; handler = 1; catch_type = 0 } ∷ []))
    ≡ (labels_by (instrs.Member 184 105 ∷ instrs.Branch 167 (pos 8) ∷ instrs.Simple 89 ∷ instrs.Member 184 125 ∷ instrs.Member 184 113 ∷ instrs.Simple 75 ∷ instrs.Member 184 105 ∷ instrs.Branch 167 (pos 8) ∷ instrs.Simple 0 ∷ instrs.Member 184 105 ∷ instrs.Branch 167 (pos 8) ∷ []) (record { start = 8; end = 9; handler = 2; catch_type = 0 } ∷ []), (0 ∷ 2 ∷ 6 ∷ 8 ∷ 9 ∷ 11 ∷ [], 1 ∷ 5 ∷ 7 ∷ 8 ∷ 10 ∷ 11 ∷ []))
unfolding code_in instruction_of simple labels_in_groups groups_of start cut
handler_first_row = refl

handler_array_row : made 100 (labels_by (instrs.Simple 0 ∷ instrs.Simple 177 ∷ instrs.Simple 87 ∷ instrs.Simple 4 ∷ instrs.Array 10 ∷ instrs.Simple 87 ∷ instrs.Simple 177 ∷ []) (record { start = 0; end = 1; handler = 2; catch_type = 0 } ∷ []))
    ≡ (labels_by (instrs.Simple 0 ∷ instrs.Simple 177 ∷ instrs.Simple 89 ∷ instrs.Member 184 125 ∷ instrs.Member 184 113 ∷ instrs.Simple 87 ∷ instrs.Simple 4 ∷ instrs.Simple 89 ∷ instrs.Simple 7 ∷ instrs.Member 184 121 ∷ instrs.Array 10 ∷ instrs.Simple 87 ∷ instrs.Simple 177 ∷ []) (record { start = 0; end = 1; handler = 2; catch_type = 0 } ∷ []), (0 ∷ 1 ∷ 2 ∷ 6 ∷ 7 ∷ 11 ∷ 12 ∷ 13 ∷ [], 0 ∷ 1 ∷ 5 ∷ 6 ∷ 10 ∷ 11 ∷ 12 ∷ 13 ∷ []))
unfolding code_in instruction_of simple labels_in_groups groups_of start cut
handler_array_row = refl

handler_goto_row : made 100 (labels_by (instrs.Simple 0 ∷ instrs.Simple 177 ∷ instrs.Branch 167 (pos 3) ∷ instrs.Simple 87 ∷ instrs.Simple 177 ∷ []) (record { start = 0; end = 1; handler = 2; catch_type = 0 } ∷ record { start = 2; end = 3; handler = 2; catch_type = 0 } ∷ []))
    ≡ (labels_by (instrs.Simple 0 ∷ instrs.Simple 177 ∷ instrs.Simple 89 ∷ instrs.Member 184 125 ∷ instrs.Member 184 113 ∷ instrs.Member 184 105 ∷ instrs.Branch 167 (pos 7) ∷ instrs.Simple 87 ∷ instrs.Simple 177 ∷ []) (record { start = 0; end = 1; handler = 2; catch_type = 0 } ∷ record { start = 6; end = 7; handler = 2; catch_type = 0 } ∷ []), (0 ∷ 1 ∷ 2 ∷ 7 ∷ 8 ∷ 9 ∷ [], 0 ∷ 1 ∷ 6 ∷ 7 ∷ 8 ∷ 9 ∷ []))
unfolding code_in instruction_of simple labels_in_groups groups_of start cut
handler_goto_row = refl

handler_invoke_row : made 100 (labels_by (instrs.Member 184 25 ∷ instrs.Simple 177 ∷ instrs.Member 184 58 ∷ instrs.Simple 177 ∷ []) (record { start = 0; end = 4; handler = 2; catch_type = 0 } ∷ []))
    ≡ (labels_by (instrs.Member 184 109 ∷ instrs.Member 184 25 ∷ instrs.Simple 177 ∷ instrs.Simple 89 ∷ instrs.Member 184 125 ∷ instrs.Member 184 113 ∷ instrs.Member 184 109 ∷ instrs.Member 184 58 ∷ instrs.Simple 177 ∷ []) (record { start = 0; end = 3; handler = 3; catch_type = 0 } ∷ record { start = 7; end = 9; handler = 3; catch_type = 0 } ∷ []), (0 ∷ 2 ∷ 3 ∷ 8 ∷ 9 ∷ [], 1 ∷ 2 ∷ 7 ∷ 8 ∷ 9 ∷ []))
unfolding code_in instruction_of simple labels_in_groups groups_of start cut
handler_invoke_row = refl

g_row : made 100 (labels_by (instrs.Simple 177 ∷ []) ([]))
    ≡ (labels_by (instrs.Simple 177 ∷ []) ([]), (0 ∷ 1 ∷ [], 0 ∷ 1 ∷ []))
unfolding code_in instruction_of simple labels_in_groups groups_of start cut
g_row = refl

handler_loop_row : made 100 (labels_by (instrs.Simple 1 ∷ instrs.Branch 167 (pos 2) ∷ instrs.Simple 87 ∷ instrs.Branch 167 (pos 0) ∷ []) (record { start = 0; end = 4; handler = 2; catch_type = 0 } ∷ []))
    ≡ (labels_by (instrs.Simple 1 ∷ instrs.Member 184 105 ∷ instrs.Branch 167 (pos 3) ∷ instrs.Simple 89 ∷ instrs.Member 184 125 ∷ instrs.Member 184 113 ∷ instrs.Simple 87 ∷ instrs.Member 184 105 ∷ instrs.Branch 167 (pos 0) ∷ []) (record { start = 0; end = 3; handler = 3; catch_type = 0 } ∷ record { start = 6; end = 9; handler = 3; catch_type = 0 } ∷ []), (0 ∷ 1 ∷ 3 ∷ 7 ∷ 9 ∷ [], 0 ∷ 2 ∷ 6 ∷ 8 ∷ 9 ∷ []))
unfolding code_in instruction_of simple labels_in_groups groups_of start cut
handler_loop_row = refl

others_row : made 100 (labels_by (instrs.Simple 1 ∷ instrs.Class 192 2 ∷ instrs.Class 193 2 ∷ instrs.Simple 87 ∷ instrs.Literal 18 62 ∷ instrs.Simple 87 ∷ instrs.Literal 19 63 ∷ instrs.Simple 87 ∷ instrs.Literal 20 64 ∷ instrs.Simple 88 ∷ instrs.Inc 3 (pos 4) false ∷ instrs.Inc 3 (pos 400) true ∷ instrs.Push 16 (pos 5) ∷ instrs.Simple 62 ∷ instrs.Member 178 67 ∷ instrs.Member 179 67 ∷ instrs.Simple 177 ∷ []) ([]))
    ≡ (labels_by (instrs.Simple 1 ∷ instrs.Class 192 2 ∷ instrs.Class 193 2 ∷ instrs.Simple 87 ∷ instrs.Literal 18 62 ∷ instrs.Simple 87 ∷ instrs.Literal 19 63 ∷ instrs.Simple 87 ∷ instrs.Literal 20 64 ∷ instrs.Simple 88 ∷ instrs.Inc 3 (pos 4) false ∷ instrs.Inc 3 (pos 400) true ∷ instrs.Push 16 (pos 5) ∷ instrs.Simple 62 ∷ instrs.Member 178 67 ∷ instrs.Member 179 67 ∷ instrs.Simple 177 ∷ []) ([]), (0 ∷ 1 ∷ 2 ∷ 3 ∷ 4 ∷ 5 ∷ 6 ∷ 7 ∷ 8 ∷ 9 ∷ 10 ∷ 11 ∷ 12 ∷ 13 ∷ 14 ∷ 15 ∷ 16 ∷ 17 ∷ [], 0 ∷ 1 ∷ 2 ∷ 3 ∷ 4 ∷ 5 ∷ 6 ∷ 7 ∷ 8 ∷ 9 ∷ 10 ∷ 11 ∷ 12 ∷ 13 ∷ 14 ∷ 15 ∷ 16 ∷ 17 ∷ []))
unfolding code_in instruction_of simple labels_in_groups groups_of start cut
others_row = refl

never_row : made 100 (labels_by (instrs.Simple 177 ∷ []) ([]))
    ≡ (labels_by (instrs.Simple 177 ∷ []) ([]), (0 ∷ 1 ∷ [], 0 ∷ 1 ∷ []))
unfolding code_in instruction_of simple labels_in_groups groups_of start cut
never_row = refl
