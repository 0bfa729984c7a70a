use Rattle.std.proofs.Common.{List, ℕ, ◌<◌, ◌∙◌, length, subst, sym}
use Rattle.dj_resolution.specs.Numbers.{lists_of}
use Rattle.dj_resolution.proofs.Ranking.{bit_reported, not_among, rank_within, row_is_at}
use Rattle.dj_resolution.proofs.ranked.Ranks.rank_up.Goals as goal

pub returns-in_default : goal.returns-in_default
returns-in_default c =
    not_among c.args.table.now c.args.self.now.classes.items c.args.self.now.ranks.items (lists_of c.args.self.now.rows.items) c.args.class c.args.other c.requires.ranks c.requires.known c.in_default.ensures

pub has_bit-requires : goal.has_bit-requires
has_bit-requires c =
    let is = c.deref.ensures.value ∙ row_is_at c.args.self.now.rows.items (length c.args.table.now) c.args.class c.index.result.now c.requires.ranks.ranked.rows_count c.requires.there c.index.ensures in
    rank_within c.args.table.now c.args.self.now.classes.items c.args.self.now.ranks.items (lists_of c.args.self.now.rows.items) c.args.class c.args.other c.in-Some.rank c.deref.result.now c.requires.ranks is
    (subst (λ (ws : List ℕ). 0 < length ws) (sym is) c.requires.known) c.in-Some.ensures.0 c.in-Some.ensures.1

pub returns-then-has_bit : goal.returns-then-has_bit
returns-then-has_bit c =
    let is = c.deref.ensures.value ∙ row_is_at c.args.self.now.rows.items (length c.args.table.now) c.args.class c.index.result.now c.requires.ranks.ranked.rows_count c.requires.there c.index.ensures in (
      sym (bit_reported c.args.table.now c.args.self.now.classes.items c.args.self.now.ranks.items (lists_of c.args.self.now.rows.items) c.args.class c.args.other c.in-Some.rank c.deref.result.now c.has_bit.result c.requires.ranks is c.requires.known
          c.in-Some.ensures.0 c.in-Some.ensures.1 c.has_bit.ensures) ∙ c.if-has_bit.true,
      c.in-Some.ensures.1,
    )

pub returns-else-has_bit : goal.returns-else-has_bit
returns-else-has_bit c =
    let is = c.deref.ensures.value ∙ row_is_at c.args.self.now.rows.items (length c.args.table.now) c.args.class c.index.result.now c.requires.ranks.ranked.rows_count c.requires.there c.index.ensures in
    sym (bit_reported c.args.table.now c.args.self.now.classes.items c.args.self.now.ranks.items (lists_of c.args.self.now.rows.items) c.args.class c.args.other c.in-Some.rank c.deref.result.now c.has_bit.result c.requires.ranks is c.requires.known
    c.in-Some.ensures.0 c.in-Some.ensures.1 c.has_bit.ensures) ∙ c.if-has_bit.false
