use Rattle.std.proofs.Common.{sym, ap, ◌∙◌}
use Rattle.dj_pool.specs.declared.scan.ByteMarks.{ByteMarks}
use Rattle.dj_pool.proofs.Scanned.{class_stopped, class_part}
use Rattle.dj_pool.proofs.scan.is_class.Goals as goal

pub returns-then-marks : goal.returns-then-marks
returns-then-marks c = class_stopped c.args.text.now (sym (ap (λ (m : ByteMarks). m.stop) c.requires) ∙ c.if-marks.true)

pub returns : goal.returns
returns c = class_part c.args.text.now (sym (ap (λ (m : ByteMarks). m.stop) c.requires) ∙ c.if-marks.false) (sym (ap (λ (m : ByteMarks). m.slash) c.requires) ∙ c.if-marks-2.false)
