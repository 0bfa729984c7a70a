use Rattle.std.proofs.Common.{true, [], refl}
use Rattle.std.proofs.lemmas.Bool.{both_ways}
use Rattle.dj_hierarchy_rule.specs.trusted.Hierarchy.{IsBadInterface}
use Rattle.dj_hierarchy_rule.specs.Known.{IsIn}
use Rattle.dj_hierarchy_rule.specs.Views.{text_of}
use Rattle.dj_hierarchy_rule.proofs.Anys.{none_more, found_at, none_at_all}
use Rattle.dj_hierarchy_rule.proofs.judge.has_bad_interface.Goals as goal

pub returns-then-is_bad_interface : goal.returns-then-is_bad_interface
returns-then-is_bad_interface c =
    found_at text_of (IsBadInterface (IsIn c.args.hierarchy.now)) c.args.head.now.interfaces.now c.loop-name.name-index (record { ref_ptr = (0, 0); now = [] }) true c.loop-name-test.true refl
    (c.is_bad_interface.ensures.0 c.if-is_bad_interface.true)

pub loop-name-preserved : goal.loop-name-preserved
loop-name-preserved c =
    none_more text_of (IsBadInterface (IsIn c.args.hierarchy.now)) c.args.head.now.interfaces.now c.loop-name.name-index (record { ref_ptr = (0, 0); now = [] }) c.loop-name-test.true c.loop-name.invariant
    (λ bad. both_ways c.is_bad_interface.result c.if-is_bad_interface.false (c.is_bad_interface.ensures.1 bad))

pub returns : goal.returns
returns c = none_at_all text_of (IsBadInterface (IsIn c.args.hierarchy.now)) c.args.head.now.interfaces.now c.loop-name.name-index c.loop-name-test.false c.loop-name.invariant
