-- Labelled code by hand, from JVMS 4.7.3 and 6.5: what the definitions say, and what they refuse.
use Rattle.std.proofs.Common.{◌≡◌, ℕ, ◌<◌, pos, negsuc, zero, suc, get_or, List, [], ◌∷◌, refl, ap, arith, inl}
use Rattle.std.proofs.Math.Facts.{sfits_lit}
use Rattle.std.proofs.lemmas.Int.{ints}
use Rattle.dj_ops.specs.declared.instruction.Instr.{Instr}
use Rattle.dj_ops.specs.declared.instruction.Instr.TheVariants as instrs
use Rattle.dj_ops.specs.declared.rows.CatchRow.{CatchRow}
use Rattle.dj_ops.specs.trusted.Forms.{form_of}
use Rattle.dj_ops.specs.trusted.Instructions.{Stands}
use Rattle.dj_ops.specs.Reading.{instr_at}
use Rattle.dj_ops.proofs.Whole.{reads_again}
use Rattle.dj_ops.specs.Mnemonics.{bipush, sipush, ldc, goto, return}
use Rattle.dj_labels.specs.declared.labelled.Protected.{Protected}
use Rattle.dj_labels.specs.declared.labelled.Labelled.{Labelled}
use Rattle.dj_labels.specs.declared.errors.CodeError.{CodeError}
use Rattle.dj_labels.specs.declared.errors.CodeError.TheVariants as errors
use Rattle.dj_labels.specs.trusted.Targets.{targets_of, with_targets}
use Rattle.dj_labels.specs.trusted.Labels.{first_of, StandUpTo, IsRange, IsLabelled}
use Rattle.dj_labels.specs.Labels.{IsWellFormed}
use Rattle.dj_labels.specs.Faults.{IsRow, Refuses}
use Rattle.dj_labels.proofs.Once.{one_fault_is}

abbrev row : ℕ → ℕ → ℕ → CatchRow
row start end handler = record { start = start; end = end; handler = handler; catch_type = 7 }

abbrev range : ℕ → ℕ → ℕ → Protected
range start end handler = record { start = start; end = end; handler = handler; catch_type = 7 }

abbrev labels : List Instr → List Protected → Labelled
labels code ranges = record { code = code; ranges = ranges }

-- ---- targets

-- of goto, tableswitch, lookupswitch and ldc
targets : (targets_of (instrs.Branch goto (pos 3)) ≡ pos 3 ∷ [])
    × (targets_of (instrs.Table (pos 5) (pos 1) (pos 2 ∷ pos 3 ∷ [])) ≡ pos 1 ∷ pos 2 ∷ pos 3 ∷ [])
    × (targets_of (instrs.Lookup (pos 1) ((pos 5, pos 2) ∷ (pos 6, pos 3) ∷ [])) ≡ pos 1 ∷ pos 2 ∷ pos 3 ∷ [])
    × (targets_of (instrs.Literal ldc 3) ≡ [])
targets = (refl, refl, refl, refl)

-- the numbers that are matched, and those that are pushed, are no targets
replaced : (with_targets (λ t. pos 9) (instrs.Table (pos 5) (pos 1) (pos 2 ∷ []))
    ≡ instrs.Table (pos 5) (pos 9) (pos 9 ∷ []))
    × (with_targets (λ t. pos 9) (instrs.Lookup (pos 1) ((pos 5, pos 2) ∷ [])) ≡ instrs.Lookup (pos 9) ((pos 5, pos 9) ∷ []))
    × (with_targets (λ t. pos 9) (instrs.Push bipush (pos 1)) ≡ instrs.Push bipush (pos 1))
replaced = (refl, refl, refl)

-- ---- labelled code

-- nop, and a range that ends with the code
nop : IsLabelled (0 ∷ []) (row 0 1 0 ∷ []) (labels (instrs.Simple 0 ∷ []) (range 0 1 0 ∷ []))
unfolding form_of
nop = record {
  starts = 0 ∷ [];
  cut = record {
    first = refl;
    each = (
      record {
        later = omega arith;
        within = omega arith;
        spelled = record { padding = []; padded = refl; offsets = tt; are = refl };
        proper = refl;
      },
      tt,
    );
  };
  targets = (tt, tt);
  rows = refl;
  ranges = (record { some = omega arith; within = omega arith; handled = omega arith }, tt);
}

-- nop at 0, goto at 1 to the return at 4, which is the third instruction
jump : IsLabelled (0 ∷ goto ∷ 0 ∷ 3 ∷ return ∷ []) (row 1 4 4 ∷ []) (labels (instrs.Simple 0 ∷ instrs.Branch goto (pos 2) ∷ instrs.Simple return ∷ []) (range 1 2 2 ∷ []))
unfolding form_of
jump = record {
  starts = 0 ∷ 1 ∷ 4 ∷ [];
  cut = record {
    first = refl;
    each = (
      record { later = omega arith; within = omega arith; spelled = record { padding = []; padded = refl; offsets = tt; are = refl }; proper = refl },
      (
        record { later = omega arith; within = omega arith; spelled = record { padding = []; padded = refl; offsets = sfits_lit tt; are = refl }; proper = inl refl },
        (
          record { later = omega arith; within = omega arith; spelled = record { padding = []; padded = refl; offsets = tt; are = refl }; proper = refl },
          tt,
        ),
      ),
    );
  };
  targets = (tt, (((omega (arith, ints), omega (arith, ints)), tt), (tt, tt)));
  rows = refl;
  ranges = (record { some = omega arith; within = omega arith; handled = omega arith }, tt);
}

-- not with the address of its target
address_as_number : IsLabelled (0 ∷ goto ∷ 0 ∷ 3 ∷ return ∷ []) [] (labels (instrs.Simple 0 ∷ instrs.Branch goto (pos 4) ∷ instrs.Simple return ∷ []) []) → ⊥
address_as_number is = omega (arith, ints, is.targets.1.0.0.1)

-- the empty code has no instructions
empty : IsLabelled [] [] (labels [] [])
empty = record { starts = []; cut = record { first = refl; each = tt }; targets = tt; rows = refl; ranges = tt }

none_stand : (starts : List ℕ) → first_of starts 1 ≡ 0 → StandUpTo (0 ∷ []) starts [] 1 → ⊥
none_stand [] first each = omega (arith, first)
none_stand (start ∷ starts) first each = each

-- and nop has one
not_empty : IsLabelled (0 ∷ []) [] (labels [] []) → ⊥
not_empty is = none_stand is.starts is.cut.first is.cut.each

-- ---- what is not well formed

-- a target past the last instruction, and one below the first
target_past : IsWellFormed (labels (instrs.Branch goto (pos 1) ∷ []) []) → ⊥
target_past is = omega (arith, ints, is.targets.0.0.1)

target_below : IsWellFormed (labels (instrs.Branch goto (negsuc 0) ∷ []) []) → ⊥
target_below is = omega (arith, ints, is.targets.0.0.0)

-- a range of nothing, one past the last instruction, and a handler past it
range_of_none : IsRange 3 (range 1 1 0) → ⊥
range_of_none is = omega (arith, is.some)

range_past : IsRange 3 (range 1 4 0) → ⊥
range_past is = omega (arith, is.within)

handler_past : IsRange 3 (range 1 3 3) → ⊥
handler_past is = omega (arith, is.handled)

-- ---- what is refused

-- a row of nothing
row_of_none : Refuses (0 ∷ []) (row 0 0 0 ∷ []) (errors.Range 0)
unfolding form_of nop
row_of_none = record {
  starts = 0 ∷ [];
  instrs = instrs.Simple 0 ∷ [];
  cut = nop.cut;
  targets = (tt, tt);
  row = row 0 0 0;
  first = record { found = refl; lacks = λ is. omega (arith, is.some); before = tt };
}

-- a handler at the code's end, where a range may end
not_one : (k : ℕ) → k < 1 → ◌≡◌ {A = ℕ} (get_or (0 ∷ []) k 1) 1 → ⊥
not_one zero lt at = omega (arith, at)
not_one (suc k) lt at = omega (arith, lt)

handler_at_end : IsRow (0 ∷ []) 1 (row 0 1 1) → ⊥
handler_at_end is = not_one is.handler.0 is.handler.1 is.handler.2

-- goto into its own bytes
not_start : (k : ℕ) → k < 1 → get_or (pos 0 ∷ []) k (pos 1) ≡ pos 1 → ⊥
not_start zero lt at = omega (arith, ints, at)
not_start (suc k) lt at = omega (arith, lt)

goto_inside : Refuses (goto ∷ 0 ∷ 1 ∷ []) [] (errors.Target 0)
unfolding form_of
goto_inside = record {
  starts = 0 ∷ [];
  instrs = instrs.Branch goto (pos 1) ∷ [];
  cut = record {
    first = refl;
    each = (record { later = omega arith; within = omega arith; spelled = record { padding = []; padded = refl; offsets = sfits_lit tt; are = refl }; proper = inl refl }, tt);
  };
  number = 0;
  stands_at = refl;
  instr = instrs.Branch goto (pos 1);
  first = record { found = refl; lacks = λ has. not_start has.0.0 has.0.1 has.0.2; before = tt };
}

-- a reserved opcode after nop
reserved : Refuses (0 ∷ 255 ∷ []) [] (errors.Op 1)
unfolding form_of instr_at
reserved = record {
  starts = 0 ∷ [];
  instrs = instrs.Simple 0 ∷ [];
  cut = record {
    first = refl;
    each = (record { later = omega arith; within = omega arith; spelled = record { padding = []; padded = refl; offsets = tt; are = refl }; proper = refl }, tt);
  };
  within = omega arith;
  none = λ instr next s. let read = reads_again (0 ∷ 255 ∷ []) 1 instr next s in absurd cc;
}

-- ---- where a fault is: Op and Target have an address, and Range a number

abbrev reported : CodeError → ℕ
reported (errors.Op at) = at
reported (errors.Target at) = at
reported (errors.Range number) = number
reported errors.Memory = 0

-- sipush 5, which has three bytes, at the start of code
abbrev pushed : Instr
pushed = instrs.Push sipush (pos 5)

push_stands : (rest : List ℕ) → Stands (sipush ∷ 0 ∷ 5 ∷ rest) 0 pushed 3
unfolding form_of
push_stands rest = record { later = omega arith; within = omega arith; spelled = record { padding = []; padded = refl; offsets = tt; are = refl }; proper = sfits_lit tt }

-- the reserved opcode behind it is reported by its address 3, and not by the number 1 that its instruction would have
reserved_behind : Refuses (sipush ∷ 0 ∷ 5 ∷ 255 ∷ []) [] (errors.Op 3)
unfolding form_of instr_at
reserved_behind = record {
  starts = 0 ∷ [];
  instrs = pushed ∷ [];
  cut = record { first = refl; each = (push_stands _, tt) };
  within = omega arith;
  none = λ instr next s. let read = reads_again (sipush ∷ 0 ∷ 5 ∷ 255 ∷ []) 3 instr next s in absurd cc;
}

not_by_number : Refuses (sipush ∷ 0 ∷ 5 ∷ 255 ∷ []) [] (errors.Op 1) → ⊥
not_by_number h = omega (arith, ap reported (one_fault_is _ [] (errors.Op 3) (errors.Op 1) reserved_behind h))

-- goto at 3 into its own bytes, likewise
not_of_two : (k : ℕ) → k < 2 → get_or (pos 0 ∷ pos 3 ∷ []) k (pos 4) ≡ pos 4 → ⊥
not_of_two zero lt at = omega (arith, ints, at)
not_of_two (suc zero) lt at = omega (arith, ints, at)
not_of_two (suc (suc k)) lt at = omega (arith, lt)

goto_behind : Refuses (sipush ∷ 0 ∷ 5 ∷ goto ∷ 0 ∷ 1 ∷ []) [] (errors.Target 3)
unfolding form_of
goto_behind = record {
  starts = 0 ∷ 3 ∷ [];
  instrs = pushed ∷ instrs.Branch goto (pos 4) ∷ [];
  cut = record {
    first = refl;
    each = (
      push_stands _,
      (record { later = omega arith; within = omega arith; spelled = record { padding = []; padded = refl; offsets = sfits_lit tt; are = refl }; proper = inl refl }, tt),
    );
  };
  number = 1;
  stands_at = refl;
  instr = instrs.Branch goto (pos 4);
  first = record { found = refl; lacks = λ has. not_of_two has.0.0 has.0.1 has.0.2; before = (tt, tt) };
}

goto_not_by_number : Refuses (sipush ∷ 0 ∷ 5 ∷ goto ∷ 0 ∷ 1 ∷ []) [] (errors.Target 1) → ⊥
goto_not_by_number h = omega (arith, ap reported (one_fault_is _ [] (errors.Target 3) (errors.Target 1) goto_behind h))

-- a row of nothing behind a good one
second_row : Refuses (0 ∷ []) (row 0 1 0 ∷ row 0 0 0 ∷ row 0 0 0 ∷ []) (errors.Range 1)
unfolding form_of nop
second_row = record {
  starts = 0 ∷ [];
  instrs = instrs.Simple 0 ∷ [];
  cut = nop.cut;
  targets = (tt, tt);
  row = row 0 0 0;
  first = record {
    found = refl;
    lacks = λ is. omega (arith, is.some);
    before = (record { some = omega arith; start = (0, omega arith, refl); end = (1, omega arith, refl); handler = (0, omega arith, refl) }, tt);
  };
}

-- not the good one, and not the one after it
not_first_row : Refuses (0 ∷ []) (row 0 1 0 ∷ row 0 0 0 ∷ row 0 0 0 ∷ []) (errors.Range 0) → ⊥
not_first_row h = omega (arith, ap reported (one_fault_is _ _ (errors.Range 1) (errors.Range 0) second_row h))

not_third_row : Refuses (0 ∷ []) (row 0 1 0 ∷ row 0 0 0 ∷ row 0 0 0 ∷ []) (errors.Range 2) → ⊥
not_third_row h = omega (arith, ap reported (one_fault_is _ _ (errors.Range 1) (errors.Range 2) second_row h))

-- ---- of two faults

-- of two jumps into their own bytes the first is reported
not_one_of_two : (k : ℕ) → k < 2 → get_or (pos 0 ∷ pos 3 ∷ []) k (pos 1) ≡ pos 1 → ⊥
not_one_of_two zero lt at = omega (arith, ints, at)
not_one_of_two (suc zero) lt at = omega (arith, ints, at)
not_one_of_two (suc (suc k)) lt at = omega (arith, lt)

two_jumps : Refuses (goto ∷ 0 ∷ 1 ∷ goto ∷ 0 ∷ 1 ∷ []) [] (errors.Target 0)
unfolding form_of
two_jumps = record {
  starts = 0 ∷ 3 ∷ [];
  instrs = instrs.Branch goto (pos 1) ∷ instrs.Branch goto (pos 4) ∷ [];
  cut = record {
    first = refl;
    each = (
      record { later = omega arith; within = omega arith; spelled = record { padding = []; padded = refl; offsets = sfits_lit tt; are = refl }; proper = inl refl },
      (record { later = omega arith; within = omega arith; spelled = record { padding = []; padded = refl; offsets = sfits_lit tt; are = refl }; proper = inl refl }, tt),
    );
  };
  number = 0;
  stands_at = refl;
  instr = instrs.Branch goto (pos 1);
  first = record { found = refl; lacks = λ has. not_one_of_two has.0.0 has.0.1 has.0.2; before = tt };
}

not_the_second_jump : Refuses (goto ∷ 0 ∷ 1 ∷ goto ∷ 0 ∷ 1 ∷ []) [] (errors.Target 3) → ⊥
not_the_second_jump h = omega (arith, ap reported (one_fault_is _ [] (errors.Target 0) (errors.Target 3) two_jumps h))

-- a reserved opcode comes before a jump into its own bytes, wherever they stand
op_first : Refuses (goto ∷ 0 ∷ 1 ∷ 255 ∷ []) (row 0 0 0 ∷ []) (errors.Op 3)
unfolding form_of instr_at
op_first = record {
  starts = 0 ∷ [];
  instrs = instrs.Branch goto (pos 1) ∷ [];
  cut = record {
    first = refl;
    each = (record { later = omega arith; within = omega arith; spelled = record { padding = []; padded = refl; offsets = sfits_lit tt; are = refl }; proper = inl refl }, tt);
  };
  within = omega arith;
  none = λ instr next s. let read = reads_again (goto ∷ 0 ∷ 1 ∷ 255 ∷ []) 3 instr next s in absurd cc;
}

not_its_target : Refuses (goto ∷ 0 ∷ 1 ∷ 255 ∷ []) (row 0 0 0 ∷ []) (errors.Target 0) → ⊥
not_its_target h = omega (arith, ap reported (one_fault_is _ (row 0 0 0 ∷ []) (errors.Op 3) (errors.Target 0) op_first h))

-- and a jump before a row
target_first : Refuses (sipush ∷ 0 ∷ 5 ∷ goto ∷ 0 ∷ 1 ∷ []) (row 0 0 0 ∷ []) (errors.Target 3)
unfolding goto_behind
target_first = goto_behind

not_its_row : Refuses (sipush ∷ 0 ∷ 5 ∷ goto ∷ 0 ∷ 1 ∷ []) (row 0 0 0 ∷ []) (errors.Range 0) → ⊥
not_its_row h = omega (arith, ap reported (one_fault_is _ _ (errors.Target 3) (errors.Range 0) target_first h))

-- ---- rows, in code of four bytes whose instructions start at 0 and 3

good_rows : IsRow (0 ∷ 3 ∷ []) 4 (row 0 3 3) × IsRow (0 ∷ 3 ∷ []) 4 (row 3 4 0)
good_rows = (
  record { some = omega arith; start = (0, omega arith, refl); end = (1, omega arith, refl); handler = (1, omega arith, refl) },
  record { some = omega arith; start = (1, omega arith, refl); end = (2, omega arith, refl); handler = (0, omega arith, refl) },
)

-- not by numbers: at 1 no instruction starts
not_one_start : (k : ℕ) → k < 2 → ◌≡◌ {A = ℕ} (get_or (0 ∷ 3 ∷ []) k 1) 1 → ⊥
not_one_start zero lt at = omega (arith, at)
not_one_start (suc zero) lt at = omega (arith, at)
not_one_start (suc (suc k)) lt at = omega (arith, lt)

not_one_end : (k : ℕ) → k < 3 → ◌≡◌ {A = ℕ} (get_or (0 ∷ 3 ∷ 4 ∷ []) k 1) 1 → ⊥
not_one_end zero lt at = omega (arith, at)
not_one_end (suc zero) lt at = omega (arith, at)
not_one_end (suc (suc zero)) lt at = omega (arith, at)
not_one_end (suc (suc (suc k))) lt at = omega (arith, lt)

start_inside : IsRow (0 ∷ 3 ∷ []) 4 (row 1 4 0) → ⊥
start_inside is = not_one_start is.start.0 is.start.1 is.start.2

end_inside : IsRow (0 ∷ 3 ∷ []) 4 (row 0 1 0) → ⊥
end_inside is = not_one_end is.end.0 is.end.1 is.end.2

handler_inside : IsRow (0 ∷ 3 ∷ []) 4 (row 0 4 1) → ⊥
handler_inside is = not_one_start is.handler.0 is.handler.1 is.handler.2
