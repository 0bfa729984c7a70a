use Rattle.std.proofs.Common.{◌<◌, ℕ, Option, IfSome, length, sym, subst, slice_get}
use Rattle.dj_resolution.proofs.Finding.{super_within}
use Rattle.dj_resolution.proofs.long.is_low.Goals as goal

pub loop-preserved : goal.loop-preserved
loop-preserved c = subst (λ (o : Option ℕ). IfSome o (λ k. k < length c.args.table.now)) (sym c.super_of-next.ensures) (super_within c.args.table.now (slice_get c.args.table.now c.in-Some.at))
