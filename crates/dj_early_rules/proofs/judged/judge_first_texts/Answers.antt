use Rattle.std.proofs.Common.{arith}
use Rattle.std.proofs.lemmas.Option.{slice_get-get_or}
use Rattle.dj_class.specs.Views.{class_of}
use Rattle.dj_early_rules.proofs.Judging.{one_text_more, all_texts, all_numbered}
use Rattle.dj_early_rules.proofs.judged.judge_first_texts.Goals as goal

pub loop-index-preserved : goal.loop-index-preserved
loop-index-preserved c =
    one_text_more c.loop-index.indexes c.judge_index.new.indexes c.args.marks.now c.args.view.now.pool c.loop-index.texts.items c.push.new.self.items c.loop-index.index _ c.in_ok-text.text c.in_ok-push.ensures.items
    (slice_get-get_or c.args.marks.now c.loop-index.index _ c.loop-index-test.true) c.in_ok-text.ensures c.loop-index.invariant

pub returns-clause-texts : goal.returns-clause-texts
returns-clause-texts c =
    let many = c.requires.marks.count in
    let past = c.loop-index-test.false in
    all_texts c.loop-index.indexes c.args.marks.now c.args.view.now.pool c.loop-index.texts.items c.loop-index.index (omega (arith, many, past)) c.loop-index.invariant

pub returns-clause-numbered : goal.returns-clause-numbered
returns-clause-numbered c =
    let past = c.loop-index-test.false in
    let most = c.loop-index.auto.index-end in
    all_numbered (class_of c.args.view.now) c.loop-index.indexes c.args.marks.now c.loop-index.texts.items c.loop-index.index (omega (arith, past, most)) c.requires.marks c.loop-index.invariant
