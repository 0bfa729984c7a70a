use Rattle.std.proofs.Common.{◌<◌, [], length, below_more, refl, ap, arith}
use Rattle.std.proofs.lemmas.List.{length-map}
use Rattle.std.proofs.lemmas.Option.{slice_get-get_or}
use Rattle.dj_straight.specs.trusted.Shape.{ParametersFit, Holds}
use Rattle.dj_straight.proofs.Shapes.{has_shape, is_fault}
use Rattle.dj_straight.specs.declared.program.Action.TheVariants.{Nop}
use Rattle.dj_straight.specs.trusted.Methods.{straight_signature}
use Rattle.dj_straight.specs.Methods.{action_view, code_view}
use Rattle.dj_straight.proofs.Shaping.{stands_next, viewed_at}
use Rattle.dj_straight.proofs.shape.shape_fault.Goals as goal
use Rattle.dj_straight.proofs.shape.shape_fault.Goals.{then-ended-via-then-ended, then-ended-via-else-ended+in_ok-holds+then-not-branch}

pub loop-number-preserved : goal.loop-number-preserved
loop-number-preserved c =
    let method = c.args.method.now in
    let a = rw c.if-not-branch.false at c.in_ok-holds.ensures.answer in
    let here : c.loop-number.number < length method.actions.items = omega (arith, ap length c.deref-action-items.ensures.value) in
    let at = slice_get-get_or method.actions.items c.loop-number.number Nop here in
    record {
      room = c.in_ok-holds.ensures.room;
      before = below_more _ _ c.loop-number.invariant.before a.0;
      stands = stands_next c.is_end-ended.result (code_view method) c.loop-number.number _ c.holds.new.self.kinds c.is_end-ended.ensures
          (viewed_at method c.loop-number.number _ (rw c.deref-action-items.ensures.value at)) a;
    }

pub returns-then-ended : goal.returns-then-ended
returns-then-ended c =
    let code = code_view c.args.method.now in
    let fit : ParametersFit straight_signature code = omega arith in
    let fault : Holds straight_signature code [] c.loop-number.number → ⊥ = elim c.then-ended.branch [
      | then-ended-via-then-ended w ↦ λ h. (rw w.if-ended.true at c.loop-number.invariant.stands) h.before h.state
      | then-ended-via-else-ended+in_ok-holds+then-not-branch w ↦ λ h. (rw w.if-not-branch.true at w.in_ok-holds.ensures.answer) h
    ] in
    is_fault straight_signature code c.loop-number.number refl fit (record {
      within = omega (arith, length-map c.args.method.now.actions.items action_view, ap length c.deref-action-items.ensures.value);
      before = c.loop-number.invariant.before;
      fault = fault;
    })

pub returns : goal.returns
returns c =
    let code = code_view c.args.method.now in
    let fit : ParametersFit straight_signature code = omega arith in
    has_shape straight_signature code refl fit (λ number within. c.loop-number.invariant.before number
    (omega (arith, length-map c.args.method.now.actions.items action_view, ap length c.deref-action-items.ensures.value)))
