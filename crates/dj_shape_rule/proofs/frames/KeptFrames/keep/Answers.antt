use Rattle.std.proofs.Common.{refl}
use Rattle.dj_shape_rule.proofs.Places.{placed_after, reported_more}
use Rattle.dj_shape_rule.proofs.Works.{ok_more}
use Rattle.dj_shape_rule.proofs.frames.KeptFrames.keep.Goals as goal

pub invariant_of-self : goal.invariant_of-self
invariant_of-self c =
    let frames = c.args.self.now in
    record {
      linked = frames.linked;
      placed = placed_after frames.slots.items frames.reported c.keep.new.self c.args.kept c.keep.ensures.list c.requires frames.placed;
    }

pub returns-clause-kept : goal.returns-clause-kept
returns-clause-kept c = ok_more c.keep.result _ _ (λ x more. reported_more c.args.self.now _ c.args.at c.args.kept refl more) c.keep.ensures.more
