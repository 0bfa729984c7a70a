use Rattle.std.proofs.Common.{set, sym, ap, ◌∙◌}
use Rattle.dj_heap.specs.declared.object.Object.TheVariants as objects
use Rattle.dj_names.specs.trusted.Heaps as heaps
use Rattle.dj_heap.specs.Heaps.{with_field}
use Rattle.dj_heap.proofs.Replacing.{replaces}
use Rattle.dj_heap.proofs.heap.Heap.set_field.Goals as goal

pub returns : goal.returns
returns c =
    replaces c.args.self.now c.self.inside.objects.items c.self.inside.used c.self.inside.limit c.self.view_is c.args.r
    (objects.Instance c.in-Instance.class c.in-Instance.fields) (objects.Instance c.in-Instance.class (set c.fields.inside.items.items c.args.at c.args.bits))
    c.index_mut.result.now (λ o. with_field o c.args.at c.args.bits) (sym c.in-Instance.is ∙ c.index_mut.ensures.value)
    (ap (λ fields. heaps.Instance c.in-Instance.class (set fields c.args.at c.args.bits)) c.fields.view_is)
