use Rattle.std.proofs.Common.{length, subst, sym, arith}
use Rattle.dj_resolution.specs.Numbers.{AreBelow, lists_of, once_above}
use Rattle.dj_resolution.proofs.Chained.{list_reported, rows_below}
use Rattle.dj_resolution.proofs.Marks.{once_below}
use Rattle.dj_resolution.proofs.costly.left_by_search.Goals as goal

pub list_of-requires : goal.list_of-requires
list_of-requires c = omega (arith, c.requires.methods.count, c.requires.there)

pub left_by_list-requires : goal.left_by_list-requires
left_by_list-requires c =
    subst (AreBelow (length c.args.table.now))
    (sym (list_reported c.args.table.now (once_above c.args.table.now) (lists_of c.args.methods.now.lists.items) c.args.methods.now.places.items c.args.class c.in_ok-list.list.now c.requires.methods c.in_ok-list.ensures))
    (rows_below c.args.table.now (once_above c.args.table.now) (length c.args.table.now) c.args.class c.requires.there (λ k lt. once_below c.args.table.now k))
