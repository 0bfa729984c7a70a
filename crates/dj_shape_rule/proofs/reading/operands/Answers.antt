use Rattle.std.proofs.Common.{◌∙◌, List, Option, ◌++◌, ap}
use Rattle.dj_names.specs.declared.descriptor.Kind.{Kind}
use Rattle.dj_model.specs.trusted.Kinds.{entries_of, stack_of}
use Rattle.dj_shape_rule.specs.Reading.{frame_code}
use Rattle.dj_shape_rule.proofs.Works.{ok_more}
use Rattle.dj_shape_rule.proofs.Entries.{some_operands}
use Rattle.dj_shape_rule.proofs.reading.operands.Goals as goal

pub returns : goal.returns
returns c =
    let gains = rw c.if-not-branch.false at c.in_ok-add_entries.ensures in
    ok_more c.stack_kinds.result _ _ (λ stack e max_stack max_locals.
    let g = gains max_stack max_locals in
    some_operands (entries_of (frame_code max_stack max_locals c.args.made.now) c.args.types.now) g.0 c.add_entries.new.entries.items _ g.1
    (g.2 ∙ ap (λ (l : List (Option Kind)). l ++ g.0) c.new-entries.ensures.items) (e ∙ ap stack_of c.deref.ensures.value)) c.stack_kinds.ensures
