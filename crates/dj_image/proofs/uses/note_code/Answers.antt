use Rattle.std.proofs.Common.{◌++◌, List, sym, ap, subst, ◌∙◌}
use Rattle.std.specs.List.{filter_map}
use Rattle.dj_ops.specs.declared.instruction.Instr.{Instr}
use Rattle.dj_image.specs.Uses.{use_in, SameMembers}
use Rattle.dj_image.specs.declared.uses.Use.{Use}
use Rattle.dj_image.proofs.UseLists.{some_step, none_step, all_noted}
use Rattle.dj_image.proofs.uses.note_code.Goals as goal
use Rattle.dj_image.proofs.uses.note_code.Goals.{in-Some+in_ok-note, in_default}

pub loop-instr-preserved : goal.loop-instr-preserved
loop-instr-preserved c = elim c.match-use_in.branch [
  | in-Some+in_ok-note w ↦
      some_step (use_in c.args.pool.now) c.as_slice-instr-items.result.now c.loop-instr.instr-index c.instr-item.result w.in-Some.one c.args.listed.now.items c.loop-instr.listed.items w.note.new.listed.items c.match-use_in.listed.items w.note.new.seen c.match-use_in.seen
      c.loop-instr-test.true (ap (use_in c.args.pool.now) (sym c.instr-item.is) ∙ sym c.use_in.ensures ∙ w.in-Some.is) c.loop-instr.invariant.1 w.in_ok-note.ensures.listed w.in_ok-note.ensures.seen (ap (λ v. v.items) w.listed-is) w.seen-is
  | in_default w ↦
      none_step (use_in c.args.pool.now) c.as_slice-instr-items.result.now c.loop-instr.instr-index c.instr-item.result c.args.listed.now.items c.loop-instr.listed.items c.match-use_in.listed.items c.loop-instr.seen c.match-use_in.seen
      c.loop-instr-test.true (ap (use_in c.args.pool.now) (sym c.instr-item.is) ∙ sym c.use_in.ensures ∙ w.in_default.is) c.loop-instr.invariant.1 c.loop-instr.invariant.0 (ap (λ v. v.items) w.listed-is) w.seen-is
]

pub returns-clause-listed : goal.returns-clause-listed
returns-clause-listed c =
    subst (λ (xs : List Instr). (all : List Use) → SameMembers c.args.listed.now.items all → SameMembers c.loop-instr.listed.items (all ++ filter_map (use_in c.args.pool.now) xs)) c.as_slice-instr-items.ensures
    (all_noted (use_in c.args.pool.now) c.as_slice-instr-items.result.now c.loop-instr.instr-index c.args.listed.now.items c.loop-instr.listed.items c.loop-instr-test.false c.loop-instr.invariant.1)
