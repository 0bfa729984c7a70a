use Rattle.std.proofs.Common.{ℕ, List, [], Bor, map, subst, Contains}
use Rattle.std.proofs.lemmas.List.{take_all}
use Rattle.dj_hierarchy_rule.specs.Edges.{GainsPlaces}
use Rattle.dj_hierarchy_rule.specs.Views.{text_of}
use Rattle.dj_hierarchy_rule.proofs.Edging.{gains_next}
use Rattle.dj_hierarchy_rule.proofs.edges.add_names.Goals as goal

pub loop-name-preserved : goal.loop-name-preserved
loop-name-preserved c =
    gains_next c.args.names.now c.args.above.now c.loop-name.name-index (record { ref_ptr = (0, 0); now = [] }) c.args.targets.now.items c.loop-name.targets.items c.add_name.new.targets.items
    c.loop-name-test.true c.loop-name.invariant c.in_ok-add_name.ensures

pub returns : goal.returns
returns c =
    subst (λ (above : List (Bor (List ℕ))). GainsPlaces c.args.names.now (Contains (map text_of above)) c.args.targets.now.items c.loop-name.targets.items)
    (take_all c.loop-name.name-index c.args.above.now c.loop-name-test.false) c.loop-name.invariant
