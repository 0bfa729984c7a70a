use Rattle.std.proofs.Common.{◌++◌, ◌∷◌, [], ℕ, List, Some, set, length, get_or, sym, ◌∙◌, ap, arith}
use Rattle.dj_resolution.specs.Numbers.{first_places, lists_of, with_all}
use Rattle.dj_resolution.specs.Chained.{row_at}
use Rattle.dj_resolution.proofs.Chained.{below_is, first_put, learnt_ok, not_yet, row_is, rows_count}
use Rattle.dj_resolution.proofs.chains.Chains.learn.Goals as goal

pub joined-requires-clause-row : goal.joined-requires-clause-row
joined-requires-clause-row c =
    below_is (length c.args.table.now) (length c.args.rows.now) (get_or (lists_of c.args.rows.now) c.args.class []) c.deref.result.now (rows_count (length c.args.table.now) c.args.rows.now c.requires.rows)
    (c.deref.ensures.value ∙ row_is (length c.args.table.now) c.args.rows.now c.args.class c.index-rows-class.result c.requires.rows c.requires.there c.index-rows-class.is)
    (c.requires.rows.each c.args.class)

pub returns : goal.returns
returns c =
    learnt_ok c.put.result c.args.table.now (row_at (lists_of c.args.rows.now)) (lists_of c.args.self.now.lists.items ++ c.in_ok-numbers.numbers.list.items ∷ []) (set c.args.self.now.places.items c.args.class (Some (length (lists_of c.args.self.now.lists.items))))
    (lists_of c.put.new.self.lists.items) c.put.new.self.places.items c.put.ensures.lists c.put.ensures.places
    (first_put c.args.table.now (lists_of c.args.rows.now) (lists_of c.args.self.now.lists.items) c.args.self.now.places.items c.args.class c.requires.few c.requires.there
    (not_yet c.args.self.now.places.items c.args.class c.index.result.now c.is_some.result (omega (arith, c.requires.learnt.chained.count, c.requires.there)) c.index.ensures c.is_some.ensures c.if-is_some.false)
    c.requires.learnt c.in_ok-numbers.numbers.list.items
    (sym c.in_default.ensures)
    (c.in_ok-numbers.ensures ∙ ap (λ (xs : List ℕ). with_all (first_places xs) []) (c.deref.ensures.value ∙ row_is (length c.args.table.now) c.args.rows.now c.args.class c.index-rows-class.result c.requires.rows c.requires.there c.index-rows-class.is)))
