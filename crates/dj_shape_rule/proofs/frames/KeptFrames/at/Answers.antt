use Rattle.std.proofs.Common.{◌∙◌, List, Option, Some, ap, sym}
use Rattle.dj_names.specs.declared.descriptor.Kind.{Kind}
use Rattle.dj_shape_rule.proofs.Places.{placed_at, reported_none, reported_some}
use Rattle.dj_shape_rule.proofs.frames.KeptFrames.at.Goals as goal

pub locals-requires : goal.locals-requires
locals-requires c = placed_at c.args.self.now.slots.items c.args.self.now.reported c.args.number c.in-Some.kept.now c.args.self.now.placed c.in-Some.ensures

pub returns-in-None-clause-frame : goal.returns-in-None-clause-frame
returns-in-None-clause-frame c = reported_none c.args.self.now c.args.number c.in-None.ensures

pub returns-in-Some-clause-frame : goal.returns-in-Some-clause-frame
returns-in-Some-clause-frame c =
    reported_some c.args.self.now c.args.number c.in-Some.kept.now c.in-Some.ensures
    ∙ ap (λ (l : List (Option Kind)). Some (record { locals = l; stack = c.in-Some.kept.now.stack.items })) (sym c.locals.ensures)
    ∙ ap (λ (l : List Kind). Some (record { locals = c.locals.result; stack = l })) (sym c.as_slice.ensures.value)
