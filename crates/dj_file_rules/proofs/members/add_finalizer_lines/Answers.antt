use Rattle.std.proofs.Common.{[], List, subst}
use Rattle.std.proofs.lemmas.List.{take_all}
use Rattle.dj_class.specs.declared.class.MemberView.{MemberView}
use Rattle.dj_class.specs.Views.{class_of}
use Rattle.dj_report.specs.Lines.{Gains}
use Rattle.dj_file_rules.specs.trusted.Violations.{IsFinalizer}
use Rattle.dj_report.proofs.Adding.{IsAmong, adds_read, on_ok}
use Rattle.dj_file_rules.proofs.FileLines.{IsOwnPair, adds_method_lines}
use Rattle.dj_file_rules.proofs.members.add_finalizer_lines.Goals as goal

pub loop-method-preserved : goal.loop-method-preserved
loop-method-preserved c =
    adds_read (IsOwnPair IsFinalizer c.args.view.now.pool) c.as_slice-method-items.result.now c.loop-method.method-index c.method-item.result
    [] c.loop-method.pairs.items c.add_finalizer_pair.new.pairs.items
    c.loop-method-test.true c.method-item.is c.loop-method.invariant c.in_ok-add_finalizer_pair.ensures

pub returns : goal.returns
returns c =
    on_ok c.add_pair_lines.result
    (λ adds. adds_method_lines IsFinalizer c.args.path.now 8 (class_of c.args.view.now) c.as_slice-method-items.result.now c.loop-method.pairs.items c.args.found.now.items c.add_pair_lines.new.found.items c.as_slice-method-items.ensures
    (subst (λ (views : List MemberView). Gains (IsAmong (IsOwnPair IsFinalizer c.args.view.now.pool) views) [] c.loop-method.pairs.items)
    (take_all c.loop-method.method-index c.as_slice-method-items.result.now c.loop-method-test.false) c.loop-method.invariant)
    adds)
    c.add_pair_lines.ensures
