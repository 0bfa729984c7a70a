use Rattle.std.proofs.Common.{true, ℕ, List, [], refl}
use Rattle.std.proofs.lemmas.Bool.{both_ways}
use Rattle.dj_hierarchy_rule.specs.trusted.Hierarchy.{Climbs}
use Rattle.dj_hierarchy_rule.specs.Known.{IsIn}
use Rattle.dj_hierarchy_rule.specs.Views.{text_of}
use Rattle.dj_hierarchy_rule.proofs.Anys.{contains_seen, none_more, found_at, none_at_all}
use Rattle.dj_hierarchy_rule.proofs.judge.has_interface_back.Goals as goal
use Rattle.std.proofs.Common.{inr}

pub leads_back-requires-clause-over : goal.leads_back-requires-clause-over
leads_back-requires-clause-over c = inr (contains_seen text_of c.args.head.now.interfaces.now c.loop-name.name-index (record { ref_ptr = (0, 0); now = [] }) c.loop-name-test.true)

pub returns-then-leads_back : goal.returns-then-leads_back
returns-then-leads_back c =
    found_at text_of (λ (above : List ℕ). Climbs (IsIn c.args.hierarchy.now) above c.args.head.now.name.now) c.args.head.now.interfaces.now c.loop-name.name-index (record { ref_ptr = (0, 0); now = [] }) true
    c.loop-name-test.true refl (c.leads_back.ensures.0 c.if-leads_back.true)

pub loop-name-preserved : goal.loop-name-preserved
loop-name-preserved c =
    none_more text_of (λ (above : List ℕ). Climbs (IsIn c.args.hierarchy.now) above c.args.head.now.name.now) c.args.head.now.interfaces.now c.loop-name.name-index (record { ref_ptr = (0, 0); now = [] })
    c.loop-name-test.true c.loop-name.invariant (λ back. both_ways c.leads_back.result c.if-leads_back.false (c.leads_back.ensures.1 back))

pub returns : goal.returns
returns c =
    none_at_all text_of (λ (above : List ℕ). Climbs (IsIn c.args.hierarchy.now) above c.args.head.now.name.now) c.args.head.now.interfaces.now c.loop-name.name-index c.loop-name-test.false c.loop-name.invariant
