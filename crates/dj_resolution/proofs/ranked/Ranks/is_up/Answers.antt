use Rattle.std.proofs.Common.{◌∙◌, length, sym}
use Rattle.dj_resolution.specs.Numbers.{lists_of}
use Rattle.dj_resolution.proofs.Ranking.{none_up, rank_within, row_is_at, some_in, up_reported}
use Rattle.dj_resolution.proofs.ranked.Ranks.is_up.Goals as goal

pub has_bit-requires : goal.has_bit-requires
has_bit-requires c =
    rank_within c.args.table.now c.args.self.now.classes.items c.args.self.now.ranks.items (lists_of c.args.self.now.rows.items) c.args.class c.args.other c.in-Some.rank c.as_slice-row.result.now c.requires.ranks
    (c.as_slice-row.ensures.value ∙ row_is_at c.args.self.now.rows.items (length c.args.table.now) c.args.class c.index.result.now c.requires.ranks.ranked.rows_count c.requires.there c.index.ensures)
    (some_in c.as_slice-row.result.now (sym c.is_empty.ensures ∙ c.if-is_empty.false)) c.in-Some.ensures.0 c.in-Some.ensures.1

pub returns-in-Some : goal.returns-in-Some
returns-in-Some c =
    up_reported c.args.table.now c.args.self.now.classes.items c.args.self.now.ranks.items (lists_of c.args.self.now.rows.items) c.args.class c.args.other c.in-Some.rank c.as_slice-row.result.now c.has_bit.result c.requires.ranks
    (c.as_slice-row.ensures.value ∙ row_is_at c.args.self.now.rows.items (length c.args.table.now) c.args.class c.index.result.now c.requires.ranks.ranked.rows_count c.requires.there c.index.ensures)
    (some_in c.as_slice-row.result.now (sym c.is_empty.ensures ∙ c.if-is_empty.false)) c.in-Some.ensures.0 c.in-Some.ensures.1 c.has_bit.ensures

pub returns-in-None : goal.returns-in-None
returns-in-None c =
    none_up c.args.table.now c.args.self.now.classes.items c.args.self.now.ranks.items (lists_of c.args.self.now.rows.items) c.args.class c.args.other c.as_slice-row.result.now c.requires.ranks
    (c.as_slice-row.ensures.value ∙ row_is_at c.args.self.now.rows.items (length c.args.table.now) c.args.class c.index.result.now c.requires.ranks.ranked.rows_count c.requires.there c.index.ensures)
    (some_in c.as_slice-row.result.now (sym c.is_empty.ensures ∙ c.if-is_empty.false)) c.in-None.ensures
