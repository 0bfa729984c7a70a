use Rattle.std.proofs.Common.{get_or}
use Rattle.dj_resolution.proofs.Finding.{has_at}
use Rattle.dj_resolution.proofs.fields.row_of.Goals as goal

pub put_with_fields-requires-in-loop-interface : goal.put_with_fields-requires-in-loop-interface
put_with_fields-requires-in-loop-interface c = c.requires.above (get_or c.args.above.now c.loop-interface.interface-index 0) (has_at c.args.above.now c.loop-interface.interface-index c.loop-interface-test.true)
