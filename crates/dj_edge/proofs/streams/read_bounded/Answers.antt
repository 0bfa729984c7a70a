use Rattle.dj_edge.proofs.Taken.{took_before_error}
use Rattle.dj_edge.proofs.streams.read_bounded.Goals as goal

pub returns-in_err-read_more-clause-takes : goal.returns-in_err-read_more-clause-takes
returns-in_err-read_more-clause-takes g c =
    took_before_error _ _ _ c.loop.bytes.items c.read_more.new.bytes.items c.args.most c.in_err-read_more.field-0.0 c.loop.invariant.took c.loop.invariant.short c.in_err-read_more.ensures
