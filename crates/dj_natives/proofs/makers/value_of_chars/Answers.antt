use Rattle.dj_model.specs.trusted.Natives as model
use Rattle.dj_natives.specs.Answers.{answer_view}
use Rattle.dj_natives.specs.Seen.{elements_at}
use Rattle.dj_natives.proofs.Reported.{reported_as, reported_by, not_null_made}
use Rattle.dj_natives.proofs.makers.value_of_chars.Goals as goal

pub returns : goal.returns
returns c =
    let units = model.elements_units (elements_at c.args.heap.now c.args.r) in
    reported_as (answer_view c.made.result) (model.unless_null c.args.r (model.MakesText units)) (model.MakesText units) (not_null_made c.args.r (model.MakesText units) c.if-r-eq0.false)
    (reported_by model.MakesText c.chars_of.result units (answer_view c.made.result) c.made.ensures c.chars_of.ensures)
