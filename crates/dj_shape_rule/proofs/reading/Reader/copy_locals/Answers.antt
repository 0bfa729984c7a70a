use Rattle.std.proofs.Common.{◌∙◌, List, Option, length, sym, ap, subst, arith}
use Rattle.dj_names.specs.declared.descriptor.Kind.{Kind}
use Rattle.dj_shape_rule.specs.Arena.{IsShared, slots_at}
use Rattle.dj_shape_rule.proofs.Links.{no_place}
use Rattle.dj_shape_rule.proofs.Lists.{shared_none}
use Rattle.dj_shape_rule.proofs.reading.Reader.copy_locals.Goals as goal

pub new_kinds-requires-clause-old : goal.new_kinds-requires-clause-old
new_kinds-requires-clause-old c = (omega arith, sym (ap length (no_place c.args.self.now.frames.slots.items)))

pub returns : goal.returns
returns c =
    let slots = c.args.self.now.frames.slots.items in
    let all = slots_at slots c.place.result.end in
    shared_none all c.in_ok-new_kinds.field-0 c.new_kinds.new.kinds.items
    (subst (λ (l : List (Option Kind)). IsShared l all c.in_ok-new_kinds.field-0 c.new_kinds.new.kinds.items) (no_place slots) c.in_ok-new_kinds.ensures)
    ∙ c.place.ensures.are
