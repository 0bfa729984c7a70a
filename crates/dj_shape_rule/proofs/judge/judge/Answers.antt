use Rattle.std.proofs.Common.{◌∙◌, List, ap, map, sym}
use Rattle.dj_ops.specs.declared.instruction.Instr.{Instr}
use Rattle.dj_labels.specs.declared.labelled.Protected.{Protected}
use Rattle.dj_program.specs.trusted.Naming.{instruction_in}
use Rattle.dj_program.specs.trusted.Codes.{range_in}
use Rattle.dj_shape_rule.proofs.Works.{ok_more}
use Rattle.dj_shape_rule.proofs.Lists.{are_kept, are_still}
use Rattle.dj_shape_rule.proofs.Joining.{begins}
use Rattle.dj_shape_rule.proofs.judge.judge.Goals as goal

pub first_fault-requires-clause-listed : goal.first_fault-requires-clause-listed
first_fault-requires-clause-listed c = are_still c.args.frames c.list_frames.new.state c.new-pass.result.state c.new-pass.ensures.state c.in_ok-list_frames.ensures.listed

pub with_handlers-requires-clause-listed : goal.with_handlers-requires-clause-listed
with_handlers-requires-clause-listed c =
    let room = c.first_fault.ensures.room in
    are_kept c.args.frames c.new-pass.result.state c.first_fault.new.self.state room.1 room.2
    (are_still c.args.frames c.list_frames.new.state c.new-pass.result.state c.new-pass.ensures.state c.in_ok-list_frames.ensures.listed)

pub returns : goal.returns
returns c = ok_more c.with_handlers.result _ _ (λ first so case j.
    let same = c.list_frames.ensures.same in
    so case (record {
      kinds = j.kept;
      gives = j.gives;
      instructions = j.instructions ∙ ap (λ (l : List Instr). map (instruction_in case.pool) l) (sym c.as_slice.ensures);
      ranges = j.ranges ∙ ap (λ (l : List Protected). map (range_in case.pool) l) (sym c.as_slice-rows.ensures);
      frames = j.reported;
    })
    (c.in_ok-fault.ensures.first case (record {
      kinds = j.kept;
      gives = j.gives;
      instructions = j.instructions ∙ ap (λ (l : List Instr). map (instruction_in case.pool) l) (sym c.as_slice.ensures);
      ranges = j.ranges ∙ ap (λ (l : List Protected). map (range_in case.pool) l) (sym c.as_slice-rows.ensures);
      frames = j.reported;
    })
    (begins _ case c.new-pass.result c.list_frames.new.state c.new-pass.ensures.state c.new-pass.ensures.going (same.0 ∙ j.room.0, same.1 ∙ j.room.1) (same.2 ∙ j.first) (same.3 ∙ c.requires.none) c.first_unhandled-unhandled.ensures)))
    c.with_handlers.ensures
