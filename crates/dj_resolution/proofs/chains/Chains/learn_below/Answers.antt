use Rattle.std.proofs.Common.{◌++◌, ◌∷◌, [], ℕ, List, set, Some, length, get_or, sym, ◌∙◌, ap, arith}
use Rattle.dj_resolution.specs.Numbers.{first_places, lists_of, with_all}
use Rattle.dj_resolution.specs.Chained.{once_up, row_at}
use Rattle.dj_resolution.proofs.Chained.{below_is, learnt_ok, list_is, next_place, next_within, nothing_in, place_reported, place_within, put_below, row_is, rows_below, rows_count, shared_below}
use Rattle.dj_resolution.proofs.chains.Chains.learn_below.Goals as goal

pub index-requires : goal.index-requires
index-requires c = let lt = next_place c.args.table.now c.args.self.now.places.items c.args.class c.args.next c.requires.learnt.chained.count c.requires.next in omega (arith, lt)

pub returns-then-is_empty : goal.returns-then-is_empty
returns-then-is_empty c =
    shared_below c.args.table.now (lists_of c.args.rows.now) (lists_of c.args.self.now.lists.items) c.args.self.now.places.items c.args.class c.requires.few c.requires.there c.requires.new c.requires.learnt c.args.next c.in-Some.place c.requires.next
    (place_reported c.args.table.now c.args.self.now.places.items c.args.class c.args.next c.in-Some.place c.index.result.now c.requires.learnt.chained.count c.requires.next c.index.ensures c.in-Some.is)
    (sym (c.as_slice-row.ensures.value ∙ row_is (length c.args.table.now) c.args.rows.now c.args.class c.index-rows-class.result c.requires.rows c.requires.there c.index-rows-class.is) ∙ nothing_in c.as_slice-row.result.now (sym c.is_empty.ensures ∙ c.if-is_empty.true))

pub index-requires-2 : goal.index-requires-2
index-requires-2 c =
    let lt = place_within c.args.self.now.lists.items c.in-Some.place (once_up c.args.table.now (row_at (lists_of c.args.rows.now)) c.args.next)
    (c.requires.learnt.chained.each c.args.next c.in-Some.place (place_reported c.args.table.now c.args.self.now.places.items c.args.class c.args.next c.in-Some.place c.index.result.now c.requires.learnt.chained.count c.requires.next c.index.ensures c.in-Some.is)) in
    omega (arith, lt)

pub joined-requires-clause-row : goal.joined-requires-clause-row
joined-requires-clause-row c =
    below_is (length c.args.table.now) (length c.args.rows.now) (get_or (lists_of c.args.rows.now) c.args.class []) c.as_slice-row.result.now (rows_count (length c.args.table.now) c.args.rows.now c.requires.rows)
    (c.as_slice-row.ensures.value ∙ row_is (length c.args.table.now) c.args.rows.now c.args.class c.index-rows-class.result c.requires.rows c.requires.there c.index-rows-class.is)
    (c.requires.rows.each c.args.class)

pub joined-requires-clause-above : goal.joined-requires-clause-above
joined-requires-clause-above c =
    below_is (length c.args.table.now) (length c.args.rows.now) (once_up c.args.table.now (row_at (lists_of c.args.rows.now)) c.args.next) c.deref.result.now (rows_count (length c.args.table.now) c.args.rows.now c.requires.rows)
    (c.deref.ensures.value ∙ list_is c.args.self.now.lists.items c.in-Some.place c.index-2.result.now (once_up c.args.table.now (row_at (lists_of c.args.rows.now)) c.args.next) (c.requires.learnt.chained.each c.args.next c.in-Some.place (place_reported c.args.table.now c.args.self.now.places.items c.args.class c.args.next c.in-Some.place c.index.result.now c.requires.learnt.chained.count c.requires.next c.index.ensures c.in-Some.is)) c.index-2.ensures)
    (rows_below c.args.table.now (row_at (lists_of c.args.rows.now)) (length c.args.table.now) c.args.next (next_within c.args.table.now c.args.class c.args.next c.requires.next) (λ k lt. c.requires.rows.each k))

pub returns : goal.returns
returns c =
    learnt_ok c.put.result c.args.table.now (row_at (lists_of c.args.rows.now)) (lists_of c.args.self.now.lists.items ++ c.in_ok-numbers.numbers.list.items ∷ []) (set c.args.self.now.places.items c.args.class (Some (length (lists_of c.args.self.now.lists.items))))
    (lists_of c.put.new.self.lists.items) c.put.new.self.places.items c.put.ensures.lists c.put.ensures.places
    (put_below c.args.table.now (lists_of c.args.rows.now) (lists_of c.args.self.now.lists.items) c.args.self.now.places.items c.args.class c.requires.few c.requires.there c.requires.new c.requires.learnt c.in_ok-numbers.numbers.list.items c.args.next c.in-Some.place c.requires.next
    (place_reported c.args.table.now c.args.self.now.places.items c.args.class c.args.next c.in-Some.place c.index.result.now c.requires.learnt.chained.count c.requires.next c.index.ensures c.in-Some.is)
    (c.in_ok-numbers.ensures
    ∙ ap (λ (xs : List ℕ). with_all (first_places xs) c.deref.result.now) (c.as_slice-row.ensures.value ∙ row_is (length c.args.table.now) c.args.rows.now c.args.class c.index-rows-class.result c.requires.rows c.requires.there c.index-rows-class.is)
    ∙ ap (λ (xs : List ℕ). with_all (first_places (get_or (lists_of c.args.rows.now) c.args.class [])) xs) (c.deref.ensures.value ∙ list_is c.args.self.now.lists.items c.in-Some.place c.index-2.result.now (once_up c.args.table.now (row_at (lists_of c.args.rows.now)) c.args.next) (c.requires.learnt.chained.each c.args.next c.in-Some.place (place_reported c.args.table.now c.args.self.now.places.items c.args.class c.args.next c.in-Some.place c.index.result.now c.requires.learnt.chained.count c.requires.next c.index.ensures c.in-Some.is)) c.index-2.ensures)))
