use Rattle.dj_early_rules.specs.Gathered.{IsClassText}
use Rattle.dj_early_rules.proofs.HeadLaws.{one_more_of, all_of}
use Rattle.dj_early_rules.proofs.heads.class_texts.Goals as goal

pub loop-index-preserved : goal.loop-index-preserved
loop-index-preserved c =
    one_more_of (IsClassText c.args.pool.now c.args.texts.now) c.args.indexes.now c.loop-index.index-index _ c.loop-index.firsts.items c.add_class_text.new.firsts.items c.loop-index-test.true c.loop-index.invariant c.in_ok-add_class_text.ensures

pub returns : goal.returns
returns c = all_of (IsClassText c.args.pool.now c.args.texts.now) c.args.indexes.now c.loop-index.index-index c.loop-index.firsts.items c.loop-index-test.false c.loop-index.invariant
