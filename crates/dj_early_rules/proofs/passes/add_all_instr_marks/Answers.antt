use Rattle.std.proofs.Common.{◌≡◌, ℕ, length, refl, arith, subst}
use Rattle.std.proofs.lemmas.Option.{slice_get_read}
use Rattle.dj_report.specs.Lines.{Gains}
use Rattle.dj_early_rules.specs.Marks.{MarksOf, ViolatesBelow}
use Rattle.dj_early_rules.proofs.MarkLaws.{more_below}
use Rattle.dj_early_rules.proofs.passes.add_all_instr_marks.Goals as goal

pub loop-at-preserved : goal.loop-at-preserved
loop-at-preserved c =
    more_below c.args.names c.args.pool.now c.args.code.now c.loop-at.at c.index-code-at.result c.args.marks.now.items c.loop-at.marks.items c.add_marks_at.new.marks.items
    (slice_get_read c.args.code.now (length c.args.code.now) c.loop-at.at c.index-code-at.result refl c.loop-at-test.true c.index-code-at.is) c.loop-at.invariant c.in_ok-add_marks_at.ensures

pub returns : goal.returns
returns c =
    let same : c.loop-at.at ≡ length c.args.code.now = omega arith in
    subst (λ (n : ℕ). Gains (MarksOf c.args.names (ViolatesBelow n c.args.pool.now c.args.code.now)) c.args.marks.now.items c.loop-at.marks.items) same c.loop-at.invariant
