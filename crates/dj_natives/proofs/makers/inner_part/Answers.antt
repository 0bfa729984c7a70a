use Rattle.std.proofs.Common.{pos, arith}
use Rattle.std.specs.Prelude.{slice_range}
use Rattle.dj_model.specs.trusted.Natives as model
use Rattle.dj_natives.specs.Answers.{answer_view}
use Rattle.dj_natives.specs.Seen.{units_at}
use Rattle.dj_natives.proofs.Reported.{reported_as, reported_by, part_made}
use Rattle.dj_natives.proofs.makers.inner_part.Goals as goal

pub returns : goal.returns
returns c =
    reported_as (answer_view c.made.result) (model.part_between (units_at c.args.heap.now c.args.r) (pos c.args.from) (pos c.args.to))
    (model.MakesText (slice_range (units_at c.args.heap.now c.args.r) c.args.from c.args.to))
    (part_made (units_at c.args.heap.now c.args.r) c.args.from c.args.to c.if-to-from.false (omega (arith, c.if-text_length-to.false, c.text_length.ensures)))
    (reported_by model.MakesText c.units_between.result (slice_range (units_at c.args.heap.now c.args.r) c.args.from c.args.to) (answer_view c.made.result) c.made.ensures c.units_between.ensures)
