use Rattle.std.proofs.Common.{◌∙◌, ℕ, List, Option, [], ◌++◌, Some, ap, sym, subst, refl, option_map, option_and_then}
use Rattle.dj_names.specs.declared.descriptor.Kind.{Kind}
use Rattle.dj_ops.specs.declared.frames.VType.{VType}
use Rattle.dj_ops.specs.declared.frames.Form.{Form}
use Rattle.dj_ops.specs.declared.frames.Form.TheVariants as forms
use Rattle.dj_model.specs.trusted.Kinds.{entries_of, form_entries, stack_of}
use Rattle.dj_shape_rule.specs.Reading.{ChangesTo, frame_code}
use Rattle.dj_shape_rule.proofs.Entries.{appended, full}
use Rattle.dj_shape_rule.proofs.Works.{ok_more}
use Rattle.dj_shape_rule.proofs.reading.change.Goals as goal

pub returns-in-Same : goal.returns-in-Same
returns-in-Same c = λ max_stack max_locals.
    let code = frame_code max_stack max_locals c.args.made.now in
    let old = c.args.entries.now.items in
    subst (λ (f : Form). ChangesTo (Some c.new.result.items) (form_entries code old f) old) (sym c.in-Same.is)
    (record { locals = old; stack = [] }, refl, refl, ap (λ (l : List Kind). Some l) (sym c.new.ensures.items))

pub returns-in-Chop : goal.returns-in-Chop
returns-in-Chop c = λ max_stack max_locals.
    let code = frame_code max_stack max_locals c.args.made.now in
    let old = c.args.entries.now.items in
    let stack = option_map (λ v. v.items) c.chop.result in
    subst (λ (f : Form). ChangesTo stack (form_entries code old f) c.chop.new.entries.items) (sym c.in-Chop.is)
    (subst (λ (n : ℕ). ChangesTo stack (form_entries code old (forms.Chop n)) c.chop.new.entries.items) c.from.ensures (c.chop.ensures code))

pub returns-else-not-branch : goal.returns-else-not-branch
returns-else-not-branch c = λ max_stack max_locals.
    let code = frame_code max_stack max_locals c.args.made.now in
    let old = c.args.entries.now.items in
    let gains = rw c.if-not-branch.false at c.in_ok-add_entries-in-Append.ensures in
    let g = gains max_stack max_locals in
    subst (λ (f : Form). ChangesTo (Some c.new-in-Append.result.items) (form_entries code old f) c.add_entries.new.entries.items) (sym c.in-Append.is)
    (subst (λ (l : List Kind). ChangesTo (Some l) (form_entries code old (forms.Append c.in-Append.more)) c.add_entries.new.entries.items) (sym c.new-in-Append.ensures.items)
    (appended (entries_of code c.in-Append.more) g.0 old c.add_entries.new.entries.items (ap (entries_of code) (sym c.as_slice.ensures) ∙ g.1) g.2))

pub returns-else-not-branch-2 : goal.returns-else-not-branch-2
returns-else-not-branch-2 c =
    let old = c.args.entries.now.items in
    let gains = rw c.if-not-branch-2.false at c.in_ok-add_entries-in-Full.ensures in
    ok_more c.operands-in-Full.result _ _ (λ stack say max_stack max_locals.
    let code = frame_code max_stack max_locals c.args.made.now in
    let g = gains max_stack max_locals in
    subst (λ (f : Form). ChangesTo (option_map (λ v. v.items) stack) (form_entries code old f) c.add_entries-in-Full.new.entries.items) (sym c.in-Full.is)
    (full (entries_of code c.in-Full.locals) (entries_of code c.in-Full.stack) g.0 c.add_entries-in-Full.new.entries.items (option_map (λ v. v.items) stack)
    (ap (entries_of code) (sym c.as_slice-in-Full.ensures) ∙ g.1) (g.2 ∙ ap (λ (l : List (Option Kind)). l ++ g.0) c.clear.ensures.items)
    (say max_stack max_locals ∙ ap (λ (l : List VType). option_and_then stack_of (entries_of code l)) c.as_slice-in-Full-2.ensures)))
    c.operands-in-Full.ensures
