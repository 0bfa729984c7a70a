use Rattle.std.proofs.Common.{◌≡◌, ℕ, ◌+◌, ◌-◌, ◌<◌, ◌≤◌, length, get_or, ap, ◌∙◌, arith, if◌then◌else◌}
use Rattle.std.proofs.lemmas.List.{length-set, get_or_default}
use Rattle.dj_emit.proofs.NextFacts.{table_more}
use Rattle.dj_emit.proofs.places.nexts_of.Goals as goal

pub loop-k-preserved : goal.loop-k-preserved
loop-k-preserved c =
    let i = c.loop-k.invariant in
    let k = c.loop-k.k in
    let within : k - 1 + 1 < length c.loop-k.next.items = omega (arith, c.loop-k-test.true, i.low, i.all) in
    let later = c.index.ensures ∙ get_or_default c.loop-k.next.items (k - 1 + 1) c.index.result.now 0 within in
    record {
      low = omega (arith, i.low);
      all = length-set c.loop-k.next.items (k - 1) c.next_at.result ∙ i.all;
      each = table_more c.args.groups.now c.loop-k.next.items k c.next_at.result c.index-groups-k.result (omega (arith, c.loop-k-test.true)) i.low i.all i.each
          (c.next_at.ensures ∙ ap (λ (x : ℕ). if (get_or c.args.groups.now (k - 1) c.index-groups-k.result).arrives then k - 1 else x) later);
    }
