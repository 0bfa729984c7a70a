use Rattle.std.proofs.Common.{sym, ◌∙◌}
use Rattle.dj_early_rules.proofs.PlainLaws.{plain_marks, unreported_marks}
use Rattle.dj_early_rules.proofs.passes.add_marks_at.Goals as goal
use Rattle.dj_early_rules.proofs.passes.add_marks_at.Goals.{then-is_plain-via-then-is_plain, then-is_plain-via-else-is_plain+then-not-violates_instr}

pub returns-then-is_plain : goal.returns-then-is_plain
returns-then-is_plain c = elim c.then-is_plain.branch [
  | then-is_plain-via-then-is_plain w ↦ plain_marks c.args.place c.args.pool.now c.args.instr.now c.args.marks.now.items (sym c.is_plain.ensures ∙ w.if-is_plain.true)
  | then-is_plain-via-else-is_plain+then-not-violates_instr w ↦ unreported_marks c.args.place c.args.pool.now c.args.instr.now c.args.marks.now.items w.violates_instr.result w.violates_instr.ensures w.if-not-violates_instr.true
]
