use Rattle.std.proofs.lemmas.Result.{IfOk-weaker}
use Rattle.dj_shape.proofs.shaped.line_of.Goals as goal

pub returns : goal.returns
returns c =
    IfOk-weaker c.shape_line.result _ _ (λ line is. record { class = c.class_name-class.result.now; named = c.class_name-class.ensures; line = is }) c.shape_line.ensures
