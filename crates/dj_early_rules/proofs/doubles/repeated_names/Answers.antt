use Rattle.dj_early_rules.specs.Doubles.{texts_in}
use Rattle.dj_early_rules.proofs.DoubleLaws.{seen_more, twice_more, all_repeated}
use Rattle.dj_early_rules.proofs.doubles.repeated_names.Goals as goal

pub loop-file-preserved : goal.loop-file-preserved
loop-file-preserved c = record {
  seen = seen_more c.args.files.now c.loop-file.file-index _ (texts_in c.loop-file.seen) (texts_in c.note_name.new.seen) c.loop-file-test.true c.loop-file.invariant.seen c.in_ok-note_name.ensures.seen;
  twice = twice_more c.args.files.now c.loop-file.file-index _ (texts_in c.loop-file.seen) (texts_in c.loop-file.twice) (texts_in c.note_name.new.twice) c.loop-file-test.true c.loop-file.invariant.seen c.loop-file.invariant.twice
      c.in_ok-note_name.ensures.twice;
}

pub returns : goal.returns
returns c = all_repeated c.args.files.now c.loop-file.file-index (texts_in c.loop-file.twice) c.loop-file-test.false c.loop-file.invariant.twice
