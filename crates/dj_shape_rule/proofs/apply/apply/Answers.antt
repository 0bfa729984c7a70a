use Rattle.dj_shape_rule.specs.Works.{work_view}
use Rattle.dj_shape_rule.proofs.Works.{done, ok_more}
use Rattle.dj_shape_rule.proofs.apply.apply.Goals as goal

pub returns-clause-after : goal.returns-clause-after
returns-clause-after c =
    ok_more c.perform.result _ _ (λ fits left. λ signature code i does gives has.
    done fits c.args.state.now c.perform.new.state.kinds c.args.returned (work_view c.args.kinds.now.calls c.args.effect) signature code i does gives has left) c.perform.ensures.performed
