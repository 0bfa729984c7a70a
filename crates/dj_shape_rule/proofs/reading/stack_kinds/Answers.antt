use Rattle.std.proofs.Common.{◌∙◌, List, Option, [], ◌∷◌, ◌++◌, Some, None, take, ap, sym}
use Rattle.std.proofs.lemmas.List.{take_more}
use Rattle.dj_names.specs.declared.descriptor.Kind.{Kind}
use Rattle.dj_model.specs.trusted.Kinds.{stack_of}
use Rattle.dj_shape_rule.proofs.Entries.{stack_more, stack_none}
use Rattle.dj_shape_rule.proofs.reading.stack_kinds.Goals as goal

pub loop-entry-preserved : goal.loop-entry-preserved
loop-entry-preserved c =
    let i = c.loop-entry.entry-index in
    let taken = take_more c.args.entries.now i None c.loop-entry-test.true ∙ ap (λ (x : Option Kind). take i c.args.entries.now ++ x ∷ []) c.in-Some.is in
    ap stack_of taken ∙ stack_more (take i c.args.entries.now) c.in-Some.kind c.loop-entry.stack.items c.loop-entry.invariant ∙ ap (λ (l : List Kind). Some l) (sym c.in_ok-push.ensures.items)

pub returns-in_default : goal.returns-in_default
returns-in_default c = sym (stack_none c.args.entries.now c.loop-entry.entry-index c.loop-entry-test.true c.in_default.is)
