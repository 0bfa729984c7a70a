use Rattle.std.proofs.Common.{◌≡◌, ℕ, ◌+◌, ◌*◌, ℤ, List, length, sym, ap, ◌∙◌, arith}
use Rattle.dj_ops.specs.declared.instruction.Instr.{Instr}
use Rattle.dj_ops.specs.declared.instruction.Instr.TheVariants as instrs
use Rattle.dj_ops.specs.trusted.Instructions.{padding_count, length_at}
use Rattle.dj_ops.proofs.Sizes.{table_length, lookup_length}
use Rattle.dj_ops.proofs.lengths.length.Goals as goal

table_at : (at : ℕ) (instr : Instr) (default low : ℤ) (targets slice : List ℤ) → instr ≡ instrs.Table low default targets → slice ≡ targets
    → length_at at instr ≡ 1 + padding_count at + 12 + length slice * 4
table_at at instr default low targets slice is same =
    ap (length_at at) is ∙ table_length at default low targets ∙ ap (λ (l : List ℤ). 1 + padding_count at + 12 + length l * 4) (sym same)

lookup_at : (at : ℕ) (instr : Instr) (default : ℤ) (pairs slice : List (ℤ × ℤ)) → instr ≡ instrs.Lookup default pairs → slice ≡ pairs
    → length_at at instr ≡ 1 + padding_count at + 8 + length slice * 8
lookup_at at instr default pairs slice is same =
    ap (length_at at) is ∙ lookup_length at default pairs ∙ ap (λ (l : List (ℤ × ℤ)). 1 + padding_count at + 8 + length l * 8) (sym same)

pub switch_length-requires-clause-fits : goal.switch_length-requires-clause-fits
switch_length-requires-clause-fits c =
    omega (arith, c.requires.fits, table_at c.args.at c.args.instr.now c.in-Table.default c.in-Table.low c.in-Table.targets c.as_slice.result.now c.in-Table.is c.as_slice.ensures)

pub switch_length-requires-in-Lookup-clause-fits :
    goal.switch_length-requires-in-Lookup-clause-fits
switch_length-requires-in-Lookup-clause-fits c =
    omega (arith, c.requires.fits, lookup_at c.args.at c.args.instr.now c.in-Lookup.default c.in-Lookup.pairs c.as_slice-in-Lookup.result.now c.in-Lookup.is c.as_slice-in-Lookup.ensures)

pub returns-in-Table : goal.returns-in-Table
returns-in-Table c =
    c.switch_length.ensures ∙ sym (table_at c.args.at c.args.instr.now c.in-Table.default c.in-Table.low c.in-Table.targets c.as_slice.result.now c.in-Table.is c.as_slice.ensures)

pub returns-in-Lookup : goal.returns-in-Lookup
returns-in-Lookup c =
    c.switch_length-in-Lookup.ensures ∙ sym (lookup_at c.args.at c.args.instr.now c.in-Lookup.default c.in-Lookup.pairs c.as_slice-in-Lookup.result.now c.in-Lookup.is c.as_slice-in-Lookup.ensures)
