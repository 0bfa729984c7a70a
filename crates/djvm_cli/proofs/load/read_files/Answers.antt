use Rattle.std.proofs.Common.{◌+◌, length, string_bytes, ap, ◌∙◌, arith}
use Rattle.djvm_cli.proofs.Loading.{asked_more, asked_prefix, passed_reported, read_reported, read_paths, read_within}
use Rattle.djvm_cli.proofs.load.read_files.Goals as goal

pub returns-in_err-limit-clause-asks : goal.returns-in_err-limit-clause-asks
returns-in_err-limit-clause-asks g c =
    asked_prefix string_bytes c.args.paths.now c.loop-path.path-index c.path-item.result c.as_str.result.now
    (g.F.Files.asked c.args.files.now) (g.F.Files.asked c.loop-path.files) (g.F.Files.asked c.read_next.new.files)
    c.loop-path-test.true c.path-item.is c.as_str.ensures.value c.loop-path.invariant.asked c.read_next.ensures.asks

pub returns-in-Passed-clause-asks : goal.returns-in-Passed-clause-asks
returns-in-Passed-clause-asks g c =
    asked_prefix string_bytes c.args.paths.now c.loop-path.path-index c.path-item.result c.as_str.result.now
    (g.F.Files.asked c.args.files.now) (g.F.Files.asked c.loop-path.files) (g.F.Files.asked c.read_next.new.files)
    c.loop-path-test.true c.path-item.is c.as_str.ensures.value c.loop-path.invariant.asked c.read_next.ensures.asks

pub returns-in_err-push-in-Read-clause-asks : goal.returns-in_err-push-in-Read-clause-asks
returns-in_err-push-in-Read-clause-asks g c =
    asked_prefix string_bytes c.args.paths.now c.loop-path.path-index c.path-item.result c.as_str.result.now
    (g.F.Files.asked c.args.files.now) (g.F.Files.asked c.loop-path.files) (g.F.Files.asked c.read_next.new.files)
    c.loop-path-test.true c.path-item.is c.as_str.ensures.value c.loop-path.invariant.asked c.read_next.ensures.asks

pub returns-in-Passed-clause-reported : goal.returns-in-Passed-clause-reported
returns-in-Passed-clause-reported g c =
    passed_reported c.args.paths.now c.loop-path.path-index c.path-item.result c.as_str.result.now c.loop-path-test.true c.path-item.is c.as_str.ensures.value
    (g.F.Files.held c.args.files.now) (g.F.Files.held c.loop-path.files) c.loop-path.read.items c.loop-path.total c.in-Passed.limit c.in_ok-limit.field-0
    c.loop-path.invariant.held c.loop-path.invariant.within c.loop-path.invariant.total c.loop-path.invariant.reported c.in-Passed.is c.in_ok-limit.ensures.reported

pub loop-path-preserved : goal.loop-path-preserved
loop-path-preserved g c =
    let before = c.loop-path.invariant in
    let kept = read_within c.as_str.result.now c.loop-path.read.items c.push.new.self.items c.in-Read.file c.loop-path.total c.in_ok-limit.field-0
    c.in_ok-push-in-Read.ensures.items before.within before.total c.in-Read.is c.in_ok-limit.ensures.read in
    record {
      held = c.read_next.ensures.held ∙ before.held;
      counted = omega (arith, before.counted, c.in_ok-limit.ensures.counts);
      asked = asked_more string_bytes c.args.paths.now c.loop-path.path-index c.path-item.result c.as_str.result.now
          (g.F.Files.asked c.args.files.now) (g.F.Files.asked c.loop-path.files) (g.F.Files.asked c.read_next.new.files)
          c.loop-path-test.true c.path-item.is c.as_str.ensures.value before.asked c.in_ok-limit.ensures.asked;
      paths = read_paths c.args.paths.now c.loop-path.path-index c.path-item.result c.as_str.result.now c.loop-path-test.true c.path-item.is c.as_str.ensures.value
          c.loop-path.read.items c.push.new.self.items c.in-Read.file c.loop-path.total c.in_ok-limit.field-0 c.in_ok-push-in-Read.ensures.items before.paths c.in-Read.is c.in_ok-limit.ensures.read;
      within = kept.0;
      total = ap (λ n. c.loop-path.total + length n) c.as_slice.ensures.value ∙ kept.1;
      reported = read_reported c.args.paths.now c.loop-path.path-index c.path-item.result c.as_str.result.now c.loop-path-test.true c.path-item.is c.as_str.ensures.value
          (g.F.Files.held c.args.files.now) (g.F.Files.held c.loop-path.files) c.loop-path.read.items c.push.new.self.items c.in-Read.file c.loop-path.total c.in_ok-limit.field-0
          before.held c.in_ok-push-in-Read.ensures.items before.reported c.in-Read.is c.in_ok-limit.ensures.reported;
    }
