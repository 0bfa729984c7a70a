use Rattle.std.proofs.Common.{ℕ, List, ◌∙◌, ap, get_or, length, arith}
use Rattle.dj_resolution.specs.Numbers.{lists_of}
use Rattle.dj_resolution.proofs.Covering.{near_at, none_near}
use Rattle.dj_resolution.proofs.Ranking.{row_is_at}
use Rattle.dj_resolution.proofs.ranked.Ranks.nearest_marked.Goals as goal

pub highest_common-requires : goal.highest_common-requires
highest_common-requires c =
    let is = c.deref.ensures.value ∙ row_is_at c.args.self.now.rows.items (length c.args.table.now) c.args.class c.index.result.now c.requires.ranks.ranked.rows_count c.requires.there c.index.ensures in
    let count = ap length is in
    let words = (c.requires.ranks.ranked.each c.args.class c.requires.known).row.words in
    omega (arith, count, words, c.class_count.ensures.few)

pub returns-in_default : goal.returns-in_default
returns-in_default c =
    none_near c.args.table.now c.args.self.now.classes.items c.args.self.now.ranks.items (lists_of c.args.self.now.rows.items) c.requires.ranks c.args.class c.requires.there c.requires.known c.deref.result.now c.args.marks.now
    (c.deref.ensures.value ∙ row_is_at c.args.self.now.rows.items (length c.args.table.now) c.args.class c.index.result.now c.requires.ranks.ranked.rows_count c.requires.there c.index.ensures)
    c.in_default.ensures

pub returns : goal.returns
returns c =
    let found = c.in-Some-get.ensures.lookup in
    near_at c.args.table.now c.args.self.now.classes.items c.args.self.now.ranks.items (lists_of c.args.self.now.rows.items) c.requires.ranks c.args.class c.requires.there c.requires.known c.deref.result.now c.args.marks.now
    c.in-Some.rank c.in-Some-get.field-0.now
    (c.deref.ensures.value ∙ row_is_at c.args.self.now.rows.items (length c.args.table.now) c.args.class c.index.result.now c.requires.ranks.ranked.rows_count c.requires.there c.index.ensures)
    c.in-Some.ensures (found.3.1 0 ∙ ap (λ (xs : List ℕ). get_or xs c.in-Some.rank 0) c.deref-2.ensures.value)
