use Rattle.std.proofs.Common.{◌≡◌, ◌∙◌, ap, sym, subst}
use Rattle.dj_shape_rule.specs.declared.pass.Pass.{Pass}
use Rattle.dj_shape_rule.specs.Standing.{Standing, IsListed}
use Rattle.dj_shape_rule.proofs.Lists.{lent_listed}
use Rattle.dj_shape_rule.proofs.pass.Pass.meet_frame.Goals as goal
use Rattle.dj_shape_rule.proofs.pass.Pass.meet_frame.Goals.{else-number-eq0-via-then-number-eq0+else-not-flows, else-number-eq0-via-else-number-eq0}

pub flows-requires : goal.flows-requires
flows-requires c = lent_listed c.args.method.now.frames c.args.self.now.state c.from-2.result c.in-Some.reported c.requires c.in-Some.ensures.frame c.in-Some.ensures.place

pub set-requires : goal.set-requires
set-requires c =
    let listed = lent_listed c.args.method.now.frames c.args.self.now.state c.from-2.result c.in-Some.reported c.requires c.in-Some.ensures.frame c.in-Some.ensures.place in
    let same : c.else-number-eq0.self.state ≡ c.args.self.now.state = elim c.else-number-eq0.branch [
      | else-number-eq0-via-then-number-eq0+else-not-flows w ↦ ap (λ (p : Pass). p.state) w.self-is ∙ w.flows.ensures.same
      | else-number-eq0-via-else-number-eq0 w ↦ ap (λ (p : Pass). p.state) w.self-is
    ] in
    subst (λ (s : Standing). IsListed s c.in-Some.reported.place c.in-Some.reported.locals) (sym same) listed
