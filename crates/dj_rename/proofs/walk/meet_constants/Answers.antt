use Rattle.std.proofs.Common.{[]}
use Rattle.std.proofs.lemmas.Result.{err_from_is_err_and}
use Rattle.dj_pool.specs.declared.pool.Entry.TheVariants.{Utf8}
use Rattle.dj_rename.proofs.PoolTexts.{entry_at, entry_after, constants_refused, constants_further}
use Rattle.dj_rename.proofs.walk.meet_constants.Goals as goal

pub meet_entry-requires-clause-at : goal.meet_entry-requires-clause-at
meet_entry-requires-clause-at c = entry_after c.args.pool.now c.as_slice-entry-items.result.now c.loop-place.place _ c.as_slice-entry-items.ensures c.loop-place-test.true

pub returns-in_err-meet_entry : goal.returns-in_err-meet_entry
returns-in_err-meet_entry c =
    let p = err_from_is_err_and c.from_residual.result c.from_residual.ensures.1 in
    rw (p.1, p.2) (constants_refused c.args.pool.now c.args.texts.now c.loop-place.texts c.loop-place.place _
    (entry_at c.args.pool.now c.as_slice-entry-items.result.now c.loop-place.place (Utf8 (record { ref_ptr = (0, 0); now = [] })) c.as_slice-entry-items.ensures c.loop-place-test.true)
    c.loop-place.invariant.steps c.in_err-meet_entry.field-0.0 c.in_err-meet_entry.ensures)

pub loop-place-preserved : goal.loop-place-preserved
loop-place-preserved c = record {
  steps = constants_further c.args.pool.now c.args.texts.now c.loop-place.texts c.loop-place.place _
      (entry_at c.args.pool.now c.as_slice-entry-items.result.now c.loop-place.place (Utf8 (record { ref_ptr = (0, 0); now = [] })) c.as_slice-entry-items.ensures c.loop-place-test.true)
      c.loop-place.invariant.steps c.meet_entry.new.texts c.in_ok-meet_entry.ensures.0;
  state = c.in_ok-meet_entry.ensures.1;
}
