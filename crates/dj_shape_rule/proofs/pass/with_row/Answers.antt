use Rattle.std.proofs.Common.{ℕ, [], ◌∷◌, ◌++◌, Some, sym, subst}
use Rattle.dj_shape_rule.specs.Passing.{IsFirstUnhandled}
use Rattle.dj_shape_rule.proofs.Unhandled.{more_has, more_lacks}
use Rattle.dj_shape_rule.proofs.pass.with_row.Goals as goal

pub returns-then-has_handler_frame : goal.returns-then-has_handler_frame
returns-then-has_handler_frame c rows = more_has c.args.frames.now rows c.args.row c.args.least (c.has_handler_frame.ensures.0 c.if-has_handler_frame.true)

pub returns-else-has_handler_frame : goal.returns-else-has_handler_frame
returns-else-has_handler_frame c rows first =
    subst (λ (n : ℕ). IsFirstUnhandled c.args.frames.now (rows ++ c.args.row ∷ []) (Some n)) (sym c.least_of.ensures)
    (more_lacks c.args.frames.now rows c.args.row c.args.least (λ has. let yes = c.has_handler_frame.ensures.1 has in absurd cc) first)
