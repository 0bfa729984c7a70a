use Rattle.std.proofs.Common.{ℕ, ◌<◌, List, All, length, Option, IfSome, slice_get, sym, subst}
use Rattle.std.proofs.lemmas.List.Elements.{All-push}
use Rattle.dj_resolution.proofs.Finding.{super_within}
use Rattle.dj_numbering.proofs.heights.unknown_from.Goals as goal

pub loop-preserved : goal.loop-preserved
loop-preserved c =
    let table = c.args.table.now in
    let at : c.in-Some.at < length table = subst (λ (o : Option ℕ). IfSome o (λ k. k < length table)) c.in-Some.is c.loop.invariant.next in
    record {
      path = subst (λ (ks : List ℕ). All (λ k. k < length table) ks) (sym c.in_ok-push.ensures.items) (All-push (λ k. k < length table) c.loop.path.items c.in-Some.at c.loop.invariant.path at);
      next = subst (λ (o : Option ℕ). IfSome o (λ k. k < length table)) (sym c.super_of-next.ensures) (super_within table (slice_get table c.in-Some.at));
    }
