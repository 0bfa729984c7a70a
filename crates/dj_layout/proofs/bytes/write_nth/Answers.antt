use Rattle.std.proofs.Common.{ℕ, ◌+◌, ◌<◌, ◌≤◌, List, length, get_or, sym, subst, arith}
use Rattle.std.specs.List.{AllByRecursion}
use Rattle.dj_ops.specs.declared.instruction.Instr.{Instr}
use Rattle.dj_ops.specs.trusted.Instructions.{IsProper, length_at}
use Rattle.dj_labels.specs.trusted.Targets.{targets_of}
use Rattle.dj_labels.specs.trusted.Labels.{HasNumbers, address_of}
use Rattle.dj_labels.proofs.Proper.{proper_to}
use Rattle.dj_layout.specs.trusted.Layouts.{most_bytes}
use Rattle.dj_layout.specs.Passes.{IsAddress, IsWritten}
use Rattle.dj_layout.proofs.Passing.{item_is, starts_many, nth_few, nth_short, addresses_short, nth_is}
use Rattle.dj_layout.proofs.bytes.write_nth.Goals as goal

pub address_instr-requires : goal.address_instr-requires
address_instr-requires c =
    let instrs : List Instr = c.args.instrs.now in
    subst (λ (n : ℕ). HasNumbers n c.index-instrs-number.result) (sym (starts_many instrs c.args.starts.now c.requires.starts))
    (item_is (HasNumbers (length instrs)) instrs c.args.number c.index-instrs-number.result c.requires.numbers c.requires.within c.index-instrs-number.is)

pub bounds-starts-number : goal.bounds-starts-number
bounds-starts-number c = omega (arith, c.requires.within, starts_many c.args.instrs.now c.args.starts.now c.requires.starts)

pub overflow_cast-number : goal.overflow_cast-number
overflow_cast-number c = omega (arith, nth_few c.args.instrs.now c.args.number c.requires.short c.requires.within)

pub write_placed-requires-clause-proper : goal.write_placed-requires-clause-proper
write_placed-requires-clause-proper c =
    subst IsProper (sym c.in_ok-instr.ensures) (proper_to (address_of c.args.starts.now) c.index-instrs-number.result (item_is IsProper c.args.instrs.now c.args.number c.index-instrs-number.result c.requires.proper c.requires.within c.index-instrs-number.is))

pub write_placed-requires-clause-short : goal.write_placed-requires-clause-short
write_placed-requires-clause-short c =
    let at : ℕ = get_or c.args.starts.now c.args.number 0 in
    subst (λ (i : Instr). at + length_at at i ≤ most_bytes) (sym c.in_ok-instr.ensures)
    (nth_short (address_of c.args.starts.now) c.args.instrs.now c.args.starts.now c.args.number 0 c.index-instrs-number.result c.requires.starts c.requires.short c.requires.within c.index-instrs-number.is)

pub write_placed-requires-clause-targets : goal.write_placed-requires-clause-targets
write_placed-requires-clause-targets c =
    let instrs : List Instr = c.args.instrs.now in
    subst (λ (i : Instr). AllByRecursion IsAddress (targets_of i)) (sym c.in_ok-instr.ensures)
    (addresses_short instrs c.args.starts.now c.index-instrs-number.result c.requires.starts c.requires.short
    (item_is (HasNumbers (length instrs)) instrs c.args.number c.index-instrs-number.result c.requires.numbers c.requires.within c.index-instrs-number.is))

pub returns : goal.returns
returns c p found =
    let starts : List ℕ = c.args.starts.now in
    let at : ℕ = get_or starts c.args.number 0 in
    let within = c.requires.within in
    let bound : c.args.number < length starts = omega (arith, within, starts_many c.args.instrs.now starts c.requires.starts) in
    subst (IsWritten c.write_placed.result c.args.number c.args.out.now.items c.write_placed.new.out.items)
    (nth_is (address_of starts) starts c.args.instrs.now c.args.number 0 c.index-instrs-number.result p bound within c.index-instrs-number.is found)
    (subst (λ (i : Instr). IsWritten c.write_placed.result c.args.number c.args.out.now.items c.write_placed.new.out.items (at, i)) c.in_ok-instr.ensures c.write_placed.ensures)
