use Rattle.std.proofs.Common.{◌≡◌, ◌∙◌, ℕ, ap, sym, Some}
use Rattle.dj_shape_rule.specs.Reported.{Reported, reported_at, reported_by}
use Rattle.dj_shape_rule.proofs.pass.has_handler_frame.Goals as goal

pub returns-in-Some : goal.returns-in-Some
returns-in-Some c =
    let reported : Reported = reported_by c.in-Some.reported in
    let at = ap (λ (n : ℕ). reported_at c.args.frames.now n) (sym c.from.ensures) ∙ c.in-Some.ensures.frame in (
      λ yes. record { reported = reported; at = at; one = c.same_stacks.ensures.0 yes },
      λ has.
          let s : Some reported ≡ Some has.reported = sym at ∙ has.at in
          let same : reported ≡ has.reported = cc in
          c.same_stacks.ensures.1 (ap (λ (t : Reported). t.stack) same ∙ has.one),
    )
