-- Groups: what is inserted, and in which order, where an instruction is a handler's first and pays too, and where code has several rows.
use Rattle.std.proofs.Common.{◌≡◌, ℕ, true, false, pos, List, [], ◌∷◌, map, None, refl, ap, arith}
use Rattle.dj_ops.specs.declared.instruction.Instr.TheVariants as instrs
use Rattle.dj_labels.specs.declared.labelled.Protected.{Protected}
use Rattle.dj_labels.specs.declared.labelled.Labelled.{Labelled}
use Rattle.dj_model.specs.trusted.Instructions.{Other, Nothing}
use Rattle.dj_groups.specs.Groups.{Jumps, Invocations, Throws, Catches, Copy, Record, Kept, Group, inserted, charge_of, start, cut}
use Rattle.dj_groups.specs.Rewritten.{range_pieces}
use Rattle.dj_groups.specs.Grouped.{labels_in_groups}

-- ---- what is inserted

-- the first instruction of a handler, which jumps
abbrev jumping_handler : Group
jumping_handler = record { arrives = true; charge = Record Jumps ∷ []; own = Kept }

abbrev plain_return : Group
plain_return = record { arrives = false; charge = []; own = Kept }

handler_first : inserted jumping_handler ≡ Copy ∷ Record Catches ∷ Record Throws ∷ Record Jumps ∷ []
handler_first = refl

charge_first : inserted jumping_handler ≡ Record Jumps ∷ Copy ∷ Record Catches ∷ Record Throws ∷ [] → ⊥
charge_first e = absurd cc

-- the opcodes 182 to 185 call, and no other
callers : map (λ (op : ℕ). charge_of [] (Other op Nothing)) (181 ∷ 182 ∷ 183 ∷ 184 ∷ 185 ∷ 186 ∷ [])
    ≡ [] ∷ (Record Invocations ∷ []) ∷ (Record Invocations ∷ []) ∷ (Record Invocations ∷ []) ∷ (Record Invocations ∷ []) ∷ [] ∷ []
callers = refl

-- ---- rows

-- return; goto 1, which is a handler; return
abbrev three : List Group
three = plain_return ∷ jumping_handler ∷ plain_return ∷ []

abbrev two_rows : Labelled
two_rows = record {
  code = instrs.Simple 177 ∷ instrs.Branch 167 (pos 1) ∷ instrs.Simple 177 ∷ [];
  ranges = record { start = 0; end = 3; handler = 1; catch_type = 7 } ∷ record { start = 1; end = 2; handler = 1; catch_type = 0 } ∷ [];
}

-- the pieces of the first row stand before those of the second, and each keeps its class
rows_cut : (labels_in_groups 10 three two_rows).ranges
    ≡ record { start = 0; end = 1; handler = 1; catch_type = 7 } ∷ record { start = 5; end = 7; handler = 1; catch_type = 7 }
    ∷ record { start = 5; end = 6; handler = 1; catch_type = 0 } ∷ []
unfolding labels_in_groups start cut
rows_cut = refl

-- the same rows of the model's code
rows_cut_too : range_pieces three (record { start = 0; end = 3; handler = 1; catches = None })
    ≡ record { start = 0; end = 1; handler = 1; catches = None } ∷ record { start = 5; end = 7; handler = 1; catches = None } ∷ []
unfolding start cut
rows_cut_too = refl

abbrev first_start : List Protected → ℕ
first_start [] = 9
first_start (range ∷ ranges) = range.start

last_row_first : (labels_in_groups 10 three two_rows).ranges
    ≡ record { start = 5; end = 6; handler = 1; catch_type = 0 }
    ∷ record { start = 0; end = 1; handler = 1; catch_type = 7 } ∷ record { start = 5; end = 7; handler = 1; catch_type = 7 } ∷ [] → ⊥
unfolding labels_in_groups start cut
last_row_first e = let same : 0 ≡ 5 = ap first_start e in absurd (omega (arith, same))
