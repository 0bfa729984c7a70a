use Rattle.std.proofs.Common.{◌≡◌, ◌∷◌, ◌++◌, ◌&&◌, [], List, sym, ap, subst, ◌∙◌}
use Rattle.dj_ops.specs.trusted.Lookups.{rises}
use Rattle.dj_ops.proofs.Rising.{Pair}
use Rattle.dj_ops.proofs.Lookups.{falls_more, grown}
use Rattle.dj_ops.proofs.lists.Matched.push.Goals as goal
use Rattle.dj_ops.proofs.lists.Matched.push.Goals.{then-self, else-self}

pub invariant_of-self-2 : goal.invariant_of-self-2
invariant_of-self-2 c =
    let items = c.self.inside.pairs.items in
    let reported : c.if-self.rising ≡ rises (items ++ c.args.item ∷ []) = elim c.if-self.branch [
      | then-self w ↦
          w.rising-is
          ∙ grown items c.args.item w.is_above_last-rising.result (sym c.self.invariant ∙ w.if-self.true)
          (subst (λ (pairs : List Pair). (rises pairs && w.is_above_last-rising.result) ≡ rises (pairs ++ c.args.item ∷ [])) w.deref.ensures.value w.is_above_last-rising.ensures)
      | else-self w ↦ w.rising-is ∙ (w.if-self.false ∙ sym (falls_more items c.args.item (sym c.self.invariant ∙ w.if-self.false)))
    ] in
    reported ∙ ap rises (sym c.in_ok-push.ensures.items)
