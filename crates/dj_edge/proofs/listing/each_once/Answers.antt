use Rattle.std.specs.String.{string_eq}
use Rattle.std.proofs.lemmas.List.Filters.{dedup_is}
use Rattle.dj_edge.proofs.Once.{once_from_sorted}
use Rattle.dj_edge.proofs.listing.each_once.Goals as goal

pub returns : goal.returns
returns c =
    let sorted = c.sort.new.self.items in
    rw (c.truncate.ensures.items, dedup_is string_eq sorted c.dedup.new.self.items c.dedup.ensures.filtered)
    (once_from_sorted c.args.most c.args.paths.items sorted c.sort.ensures.permutation c.in_ok-sort.ensures.sorted)
