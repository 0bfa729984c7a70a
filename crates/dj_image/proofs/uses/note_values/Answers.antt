use Rattle.std.proofs.Common.{None, sym, ap, ◌∙◌}
use Rattle.dj_image.specs.Uses.{value_use}
use Rattle.dj_image.proofs.UseLists.{some_step, none_step, all_noted}
use Rattle.dj_image.proofs.uses.note_values.Goals as goal
use Rattle.dj_image.proofs.uses.note_values.Goals.{in-Some+in_ok-note, in_default}

pub loop-value-preserved : goal.loop-value-preserved
loop-value-preserved c = elim c.match-value_use.branch [
  | in-Some+in_ok-note w ↦
      some_step value_use c.args.values.now c.loop-value.value-index None w.in-Some.one c.args.listed.now.items c.loop-value.listed.items w.note.new.listed.items c.match-value_use.listed.items w.note.new.seen c.match-value_use.seen
      c.loop-value-test.true (sym c.value_use.ensures ∙ w.in-Some.is) c.loop-value.invariant.1 w.in_ok-note.ensures.listed w.in_ok-note.ensures.seen (ap (λ v. v.items) w.listed-is) w.seen-is
  | in_default w ↦
      none_step value_use c.args.values.now c.loop-value.value-index None c.args.listed.now.items c.loop-value.listed.items c.match-value_use.listed.items c.loop-value.seen c.match-value_use.seen
      c.loop-value-test.true (sym c.value_use.ensures ∙ w.in_default.is) c.loop-value.invariant.1 c.loop-value.invariant.0 (ap (λ v. v.items) w.listed-is) w.seen-is
]

pub returns : goal.returns
returns c = all_noted value_use c.args.values.now c.loop-value.value-index c.args.listed.now.items c.loop-value.listed.items c.loop-value-test.false c.loop-value.invariant.1
