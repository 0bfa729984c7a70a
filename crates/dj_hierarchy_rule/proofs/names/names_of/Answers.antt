use Rattle.std.proofs.Common.{List, [], get_or, map, take, None, sym, ◌∙◌, subst}
use Rattle.dj_library.specs.trusted.Heads.{Head}
use Rattle.dj_hierarchy_rule.specs.declared.head.Seen.{Seen}
use Rattle.dj_hierarchy_rule.specs.Names.{AreNames}
use Rattle.dj_hierarchy_rule.specs.Views.{seen_view}
use Rattle.dj_hierarchy_rule.proofs.Anys.{seen_more, length_seen}
use Rattle.dj_hierarchy_rule.proofs.Naming.{names_more}
use Rattle.dj_hierarchy_rule.proofs.names.names_of.Goals as goal

pub loop-place-preserved : goal.loop-place-preserved
loop-place-preserved c =
    let none : Seen = record { name = record { ref_ptr = (0, 0); now = [] }; flags = 0; superclass = None; interfaces = record { ref_ptr = (0, 0); now = [] } } in
    let head : Seen = get_or c.args.heads.now c.loop-place.place none in
    subst (λ (heads : List Head). AreNames heads c.insert.new.self) (sym (seen_more seen_view c.args.heads.now c.loop-place.place none c.loop-place-test.true))
    (names_more (map seen_view (take c.loop-place.place c.args.heads.now)) (seen_view head) c.loop-place.names c.insert.new.self c.copied-known.result c.loop-place.place c.is_interface.result c.is_final.result
    c.widened-more.result c.loop-place.invariant (c.copied-known.ensures ∙ c.get.ensures.value) (length_seen seen_view c.args.heads.now c.loop-place.place c.loop-place-test.true) c.widened-more.ensures
    c.in_ok-insert.ensures.updates c.is_interface.ensures c.is_final.ensures)
