use Rattle.std.proofs.Common.{All, List, subst}
use Rattle.std.proofs.lemmas.List.{take_all}
use Rattle.std.proofs.lemmas.List.Elements.{All-more}
use Rattle.dj_straight.specs.declared.program.StraightMethod.{StraightMethod}
use Rattle.dj_report.specs.Lines.{Adds, IsLineAmong}
use Rattle.dj_class_set.specs.Shaped.{IsReported}
use Rattle.dj_report.proofs.Adding.{adds_read}
use Rattle.dj_class_set.proofs.RunRules.{IsOwnShapeLine, adds_methods}
use Rattle.dj_class_set.proofs.run_rules.add_shape_lines.Goals as goal

pub loop-method-preserved : goal.loop-method-preserved
loop-method-preserved c = record {
  lines = adds_read (IsOwnShapeLine c.args.path.now) c.args.methods.now c.loop-method.method-index c.method-item.result
      c.args.found.now.items c.loop-method.found.items c.add_shape_line.new.found.items
      c.loop-method-test.true c.method-item.is c.loop-method.invariant.lines c.in_ok-add_shape_line.ensures.lines;
  judged = All-more IsReported c.args.methods.now c.loop-method.method-index c.method-item.result c.loop-method-test.true
      c.loop-method.invariant.judged (subst IsReported c.method-item.is c.in_ok-add_shape_line.ensures.judged);
}

pub returns-clause-lines : goal.returns-clause-lines
returns-clause-lines c =
    adds_methods c.args.path.now c.args.methods.now c.args.found.now.items c.loop-method.found.items
    (subst (λ (ms : List StraightMethod). Adds (IsLineAmong (IsOwnShapeLine c.args.path.now) ms) c.args.found.now.items c.loop-method.found.items)
    (take_all c.loop-method.method-index c.args.methods.now c.loop-method-test.false) c.loop-method.invariant.lines)

pub returns-clause-judged : goal.returns-clause-judged
returns-clause-judged c =
    subst (λ (ms : List StraightMethod). All IsReported ms) (take_all c.loop-method.method-index c.args.methods.now c.loop-method-test.false)
    c.loop-method.invariant.judged
