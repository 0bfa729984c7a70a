use Rattle.std.proofs.Common.{rules, ℤ, map, sym, subst, w64, SFits}
use Rattle.std.proofs.lemmas.Result.{err_from_is_err_and}
use Rattle.dj_ops.specs.declared.instruction.Instr.{Instr}
use Rattle.dj_labels.specs.trusted.Targets.{targets_of}
use Rattle.dj_labels.specs.Passes.{LacksStart}
use Rattle.dj_labels.proofs.TargetLaws.{lacks_first}
use Rattle.dj_labels.proofs.targets.number_instr.Goals as goal

pub returns-in_err-default-in-Table-clause-refused : goal.returns-in_err-default-in-Table-clause-refused
returns-in_err-default-in-Table-clause-refused c =
    let p = err_from_is_err_and c.from_residual-in_err-default-in-Table.result c.from_residual-in_err-default-in-Table.ensures.1 in
    let fits : SFits w64 c.in-Table.default = search rules in
    rw (p.1, p.2) (subst (λ (i : Instr). LacksStart c.args.table.now.starts.items c.args.at (targets_of i) c.in_err-default-in-Table.field-0.0) (sym c.in-Table.is)
    (lacks_first c.args.table.now.starts.items c.args.at c.in-Table.default c.in-Table.targets c.in_err-default-in-Table.field-0.0 fits c.in_err-default-in-Table.ensures.refused))

pub returns-in_err-default-in-Lookup-clause-refused : goal.returns-in_err-default-in-Lookup-clause-refused
returns-in_err-default-in-Lookup-clause-refused c =
    let p = err_from_is_err_and c.from_residual-in_err-default-in-Lookup.result c.from_residual-in_err-default-in-Lookup.ensures.1 in
    let fits : SFits w64 c.in-Lookup.default = search rules in
    rw (p.1, p.2) (subst (λ (i : Instr). LacksStart c.args.table.now.starts.items c.args.at (targets_of i) c.in_err-default-in-Lookup.field-0.0) (sym c.in-Lookup.is)
    (lacks_first c.args.table.now.starts.items c.args.at c.in-Lookup.default (map (λ (pair : ℤ × ℤ). pair.1) c.in-Lookup.pairs) c.in_err-default-in-Lookup.field-0.0 fits c.in_err-default-in-Lookup.ensures.refused))
