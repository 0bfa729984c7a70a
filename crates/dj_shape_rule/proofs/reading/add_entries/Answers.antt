use Rattle.std.proofs.Common.{◌∙◌, List, Option, [], ◌∷◌, ◌++◌, get_or, take, append_assoc, ap, sym, subst, true}
use Rattle.std.proofs.lemmas.List.{take_more, take_all}
use Rattle.dj_names.specs.declared.descriptor.Kind.{Kind}
use Rattle.dj_ops.specs.declared.frames.VType.{VType}
use Rattle.dj_ops.specs.declared.frames.VType.TheVariants as types
use Rattle.dj_model.specs.trusted.Kinds.{entries_of}
use Rattle.dj_shape_rule.specs.Reading.{Gains, frame_code, entry_view}
use Rattle.dj_shape_rule.proofs.Entries.{entries_more, entries_none}
use Rattle.dj_shape_rule.proofs.reading.add_entries.Goals as goal

pub loop-ty-preserved : goal.loop-ty-preserved
loop-ty-preserved c = λ max_stack max_locals.
    let code = frame_code max_stack max_locals c.args.made.now in
    let i = c.loop-ty.ty-index in
    let type = get_or c.args.types.now i types.Top in
    let so = c.loop-ty.invariant max_stack max_locals in
    let of = sym (c.entry_of.ensures max_stack max_locals) ∙ ap entry_view c.in-Some.is in
    let more = entries_more code (take i c.args.types.now) type c.in-Some.entry so.0 so.1 of in (
      so.0 ++ c.in-Some.entry ∷ [],
      ap (entries_of code) (take_more c.args.types.now i types.Top c.loop-ty-test.true) ∙ more,
      c.in_ok-push.ensures.items ∙ ap (λ (l : List (Option Kind)). l ++ c.in-Some.entry ∷ []) so.2 ∙ append_assoc c.args.entries.now.items so.0 (c.in-Some.entry ∷ []),
    )

pub returns-in_default : goal.returns-in_default
returns-in_default c = λ max_stack max_locals.
    let code = frame_code max_stack max_locals c.args.made.now in
    let of = sym (c.entry_of.ensures max_stack max_locals) ∙ ap entry_view c.in_default.is in
    entries_none code c.args.types.now c.loop-ty.ty-index types.Top c.loop-ty-test.true of

pub returns : goal.returns
returns c = λ max_stack max_locals.
    subst (λ (l : List VType). Gains true (entries_of (frame_code max_stack max_locals c.args.made.now) l) c.args.entries.now.items c.loop-ty.entries.items)
    (take_all c.loop-ty.ty-index c.args.types.now c.loop-ty-test.false) (c.loop-ty.invariant max_stack max_locals)
