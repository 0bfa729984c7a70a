use Rattle.std.proofs.Common.{[]}
use Rattle.dj_pool.specs.declared.pool.Entry.TheVariants as entries
use Rattle.dj_link_rules.proofs.KeptLaws.{entry_linked, all_judged}
use Rattle.dj_link_rules.proofs.constants.judge_constants.Goals as goal

pub judge_constant-constant-requires-clause-linked : goal.judge_constant-constant-requires-clause-linked
judge_constant-constant-requires-clause-linked c =
    entry_linked c.args.pool.now c.as_slice-entries.result.now c.loop-entry.entry-index (entries.Utf8 (record { ref_ptr = (0, 0); now = [] })) c.requires.valid c.as_slice-entries.ensures c.loop-entry-test.true

pub returns : goal.returns
returns c =
    all_judged c.args.linker.now.program c.args.pool.now c.as_slice-entries.result.now c.loop-entry.entry-index c.loop-entry.kept.items c.as_slice-entries.ensures c.loop-entry-test.false c.loop-entry.invariant.2
