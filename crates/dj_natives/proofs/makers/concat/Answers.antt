use Rattle.std.proofs.Common.{◌≡◌, ◌++◌, length, ap, sym, ◌∙◌}
use Rattle.dj_model.specs.trusted.Natives as model
use Rattle.dj_natives.specs.Answers.{answer_view}
use Rattle.dj_natives.specs.Seen.{units_at}
use Rattle.dj_natives.proofs.Reported.{reported_as, reported_by, joined_made}
use Rattle.dj_natives.proofs.makers.concat.Goals as goal

pub returns : goal.returns
returns c =
    reported_as (answer_view c.made.result) (model.unless_null c.args.other (model.joined_text c.args.r (units_at c.args.heap.now c.args.r) (units_at c.args.heap.now c.args.other)))
    (model.MakesText (units_at c.args.heap.now c.from-2.result ++ units_at c.args.heap.now c.from-3.result))
    (joined_made c.args.r c.args.other (units_at c.args.heap.now c.args.r) (units_at c.args.heap.now c.args.other) c.if-other-eq0.false
    (λ z. c.if-text_length-eq0.false (c.text_length.ensures ∙ ap (λ k. length (units_at c.args.heap.now k)) c.from.ensures ∙ z))
    ∙ ap (λ k. model.MakesText (units_at c.args.heap.now k ++ units_at c.args.heap.now c.args.other)) (sym c.from-2.ensures)
    ∙ ap (λ k. model.MakesText (units_at c.args.heap.now c.from-2.result ++ units_at c.args.heap.now k)) (sym c.from-3.ensures))
    (reported_by model.MakesText c.joined.result (units_at c.args.heap.now c.from-2.result ++ units_at c.args.heap.now c.from-3.result) (answer_view c.made.result) c.made.ensures c.joined.ensures)
