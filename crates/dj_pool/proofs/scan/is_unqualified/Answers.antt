use Rattle.std.proofs.Common.{sym, ap, ◌∙◌}
use Rattle.dj_pool.specs.declared.scan.ByteMarks.{ByteMarks}
use Rattle.dj_pool.proofs.Scanned.{unqualified_stopped, unqualified_slashed, unqualified_part}
use Rattle.dj_pool.proofs.scan.is_unqualified.Goals as goal

pub returns-then-marks : goal.returns-then-marks
returns-then-marks c = unqualified_stopped c.args.text.now (sym (ap (λ (m : ByteMarks). m.stop) c.requires) ∙ c.if-marks.true)

pub returns-then-marks-2 : goal.returns-then-marks-2
returns-then-marks-2 c = unqualified_slashed c.args.text.now (sym (ap (λ (m : ByteMarks). m.slash) c.requires) ∙ c.if-marks-2.true)

pub returns : goal.returns
returns c = unqualified_part c.args.text.now (sym (ap (λ (m : ByteMarks). m.stop) c.requires) ∙ c.if-marks.false) (sym (ap (λ (m : ByteMarks). m.slash) c.requires) ∙ c.if-marks-2.false)
