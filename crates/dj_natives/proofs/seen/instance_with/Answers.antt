use Rattle.std.proofs.Common.{subst, ap, ◌∙◌, Some}
use Rattle.dj_natives.specs.Seen.{IsInstanceWith}
use Rattle.dj_natives.proofs.HeapLaws.{instance_is}
use Rattle.dj_natives.proofs.seen.instance_with.Goals as goal

pub returns-then-at-length : goal.returns-then-at-length
returns-then-at-length c = (
  c.in_ok-n.ensures.0 ∙ c.from.ensures,
  subst (λ r. IsInstanceWith c.args.heap.now r c.args.at) (c.in_ok-n.ensures.0 ∙ c.from.ensures)
      (instance_is c.args.heap.now c.in_ok-n.n c.args.at c.length.result (c.made.ensures ∙ ap Some c.in-Instance.is) c.length.ensures.value c.if-at-length.true),
)
