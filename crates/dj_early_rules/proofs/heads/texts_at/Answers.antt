use Rattle.dj_early_rules.specs.Gathered.{texts_of, HasText}
use Rattle.dj_early_rules.proofs.HeadLaws.{one_more_of, all_of}
use Rattle.dj_early_rules.proofs.heads.texts_at.Goals as goal

pub loop-index-preserved : goal.loop-index-preserved
loop-index-preserved c =
    one_more_of (HasText c.args.pool.now) c.args.indexes.now c.loop-index.index-index _ (texts_of c.loop-index.names.items) (texts_of c.add_text.new.names.items) c.loop-index-test.true c.loop-index.invariant c.in_ok-add_text.ensures

pub returns : goal.returns
returns c = all_of (HasText c.args.pool.now) c.args.indexes.now c.loop-index.index-index (texts_of c.loop-index.names.items) c.loop-index-test.false c.loop-index.invariant
