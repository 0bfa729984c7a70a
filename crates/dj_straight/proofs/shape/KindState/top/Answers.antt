use Rattle.std.proofs.Common.{sym, ap, ◌∙◌}
use Rattle.dj_straight.proofs.Shaping.{top_of}
use Rattle.dj_straight.proofs.shape.KindState.top.Goals as goal

pub returns-in-Some : goal.returns-in-Some
returns-in-Some c =
    let t = top_of c.self.inside.stack.items c.in-Some.top.now (rw c.deref.ensures.value at c.in-Some.ensures.value) in
    (t.0, sym (ap (λ s. s.kinds.stack) c.self.view_is) ∙ t.1)
