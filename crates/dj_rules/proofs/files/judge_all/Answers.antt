use Rattle.std.proofs.Common.{arith}
use Rattle.dj_report.proofs.Adding.{adds_none_yet, adds_one_more}
use Rattle.dj_rules.proofs.FileLaws.{IsOwnFileLine, IsOwnLateLine, all_lone_lines, all_late_lines}
use Rattle.dj_rules.proofs.KeptLaws.{none_kept, one_more_kept, all_kept}
use Rattle.dj_rules.proofs.files.judge_all.Goals as goal

pub loop-file-init : goal.loop-file-init
loop-file-init c = record {
  within = omega arith;
  early = adds_none_yet IsOwnFileLine c.args.files.now c.args.found.now.early.items;
  late = λ program has. adds_none_yet (IsOwnLateLine program) c.args.files.now c.args.found.now.late.items;
  kept = none_kept c.args.files.now (record { named = c.new.result; heads = c.new-2.result; owners = c.new-3.result }) c.new.ensures.items c.new-2.ensures.items c.new-3.ensures.items;
}

pub loop-file-preserved : goal.loop-file-preserved
loop-file-preserved c = record {
  within = (let lt = c.loop-file-test.true in omega (arith, lt));
  early = adds_one_more IsOwnFileLine c.args.files.now c.loop-file.file-index _ c.args.found.now.early.items c.loop-file.found.early.items c.judge_in_order.new.found.early.items
      c.loop-file-test.true c.loop-file.invariant.early c.in_ok-good.ensures.early;
  late = λ program has. adds_one_more (IsOwnLateLine program) c.args.files.now c.loop-file.file-index _ c.args.found.now.late.items c.loop-file.found.late.items c.judge_in_order.new.found.late.items
      c.loop-file-test.true (c.loop-file.invariant.late program has) (c.in_ok-good.ensures.late program has);
  kept = one_more_kept c.args.files.now c.loop-file.file-index _ c.in_ok-good.good c.loop-file.kept c.keep_file.new.kept c.loop-file-test.true c.in_ok-good.ensures.kept c.in_ok-keep_file.ensures c.loop-file.invariant.kept;
}

pub returns-clause-early : goal.returns-clause-early
returns-clause-early c = all_lone_lines c.args.files.now c.loop-file.file-index c.args.found.now.early.items c.loop-file.found.early.items c.loop-file-test.false c.loop-file.invariant.early

pub returns-clause-late : goal.returns-clause-late
returns-clause-late c program has =
    all_late_lines program c.args.files.now c.loop-file.file-index c.args.found.now.late.items c.loop-file.found.late.items c.loop-file-test.false (c.loop-file.invariant.late program has)

pub returns-clause-kept : goal.returns-clause-kept
returns-clause-kept c = all_kept c.args.files.now c.loop-file.file-index c.loop-file.kept c.loop-file.invariant.within c.loop-file-test.false c.loop-file.invariant.kept
