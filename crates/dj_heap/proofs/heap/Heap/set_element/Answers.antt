use Rattle.std.proofs.Common.{ap, ◌∙◌, w64, SFits, rules}
use Rattle.std.proofs.lemmas.Int.{to_z-of_z}
use Rattle.dj_heap.specs.Heaps.{with_number}
use Rattle.dj_heap.specs.Views.{object_view}
use Rattle.dj_heap.proofs.Replacing.{replaces}
use Rattle.dj_heap.proofs.heap.Heap.set_element.Goals as goal

pub returns : goal.returns
returns c =
    let given : SFits w64 c.args.value = search rules in
    replaces c.args.self.now c.self.inside.objects.items c.self.inside.used c.self.inside.limit c.self.view_is c.args.r
    c.index_mut.result.now c.set_number.new.self c.index_mut.result.now (λ o. with_number o c.args.at c.args.value) c.index_mut.ensures.value
    (c.set_number.ensures ∙ ap (with_number (object_view c.index_mut.result.now) c.args.at) (to_z-of_z w64 c.args.value given))
