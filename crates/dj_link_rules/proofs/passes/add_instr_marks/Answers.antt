use Rattle.std.proofs.Common.{◌≡◌, ℕ, length, refl, arith, subst}
use Rattle.std.proofs.lemmas.Option.{slice_get_read}
use Rattle.dj_report.specs.Lines.{Gains}
use Rattle.dj_early_rules.specs.Marks.{MarksOf}
use Rattle.dj_link_rules.specs.Known.{KnownBelow}
use Rattle.dj_link_rules.proofs.PassLaws.{none_below, more_below}
use Rattle.dj_link_rules.proofs.passes.add_instr_marks.Goals as goal

pub loop-at-init : goal.loop-at-init
loop-at-init c = none_below c.args.names c.args.known.now c.args.pool.now c.args.code.now c.args.marks.now.items

pub add_instr_mark-requires-clause-unreported : goal.add_instr_mark-requires-clause-unreported
add_instr_mark-requires-clause-unreported c t =
    c.requires.unreported t c.loop-at.at c.index-code-at.result
    (slice_get_read c.args.code.now (length c.args.code.now) c.loop-at.at c.index-code-at.result refl c.loop-at-test.true c.index-code-at.is)

pub loop-at-preserved : goal.loop-at-preserved
loop-at-preserved c =
    more_below c.args.names c.args.known.now c.args.pool.now c.args.code.now c.loop-at.at c.index-code-at.result c.args.marks.now.items c.loop-at.marks.items c.add_instr_mark.new.marks.items
    (slice_get_read c.args.code.now (length c.args.code.now) c.loop-at.at c.index-code-at.result refl c.loop-at-test.true c.index-code-at.is) c.loop-at.invariant c.in_ok-add_instr_mark.ensures

pub returns : goal.returns
returns c =
    let same : c.loop-at.at ≡ length c.args.code.now = omega arith in
    subst (λ (n : ℕ). Gains (MarksOf c.args.names (KnownBelow n c.args.known.now c.args.pool.now c.args.code.now)) c.args.marks.now.items c.loop-at.marks.items) same c.loop-at.invariant
