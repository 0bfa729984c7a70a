use Rattle.dj_rename.proofs.Accounting.{text_good, texts_next}
use Rattle.dj_rename.proofs.renamed.append_texts.Goals as goal

pub append_one-requires-clause-valid : goal.append_one-requires-clause-valid
append_one-requires-clause-valid c =
    text_good c.args.texts.now c.loop-place.place c.count-place-end.result c.get.result.now c.requires.whole c.loop-place-test.true c.count-place-end.ensures c.get.ensures

pub loop-place-preserved : goal.loop-place-preserved
loop-place-preserved c = record {
  texts =
      texts_next c.args.now.now c.loop-place.now c.append_one.new.now c.loop-place.place c.count-place-end.result c.args.texts.now c.get.result.now c.loop-place-test.true
      c.count-place-end.ensures c.get.ensures c.loop-place.invariant.texts c.in_ok-append_one.ensures.ok;
  pool = c.in_ok-append_one.ensures.pool;
}
