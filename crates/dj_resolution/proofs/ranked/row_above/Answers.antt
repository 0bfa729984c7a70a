use Rattle.std.proofs.Common.{ℕ, List, ◌+◌, ◌<◌, ◌/◌, length, sym, ◌∙◌, ap, subst, arith}
use Rattle.std.specs.Global.{Vec}
use Rattle.std.proofs.lemmas.List.{length-map}
use Rattle.dj_resolution.specs.Numbers.{lists_of}
use Rattle.dj_resolution.proofs.Chained.{next_within}
use Rattle.dj_resolution.proofs.Ranking.{first_above, next_above, row_is_at, some_in}
use Rattle.dj_resolution.proofs.ranked.row_above.Goals as goal

pub returns-in_default : goal.returns-in_default
returns-in_default c =
    first_above c.args.table.now c.args.ranks.now (lists_of c.args.rows.now) c.args.class c.args.rank (length c.args.rows.now / 64 + 1) c.in_ok-vec.field-0.items
    (sym c.in_default.ensures) (c.in_ok-vec.ensures.items_if_clones_equal (λ y e. e)) (ap (λ (n : ℕ). n / 64 + 1) c.requires.rows_count)

pub bounds-rows-next : goal.bounds-rows-next
bounds-rows-next c = let lt = next_within c.args.table.now c.args.class c.in-Some.next (sym c.in-Some.ensures) in omega (arith, lt, c.requires.rows_count)

pub bounds-ranks-next : goal.bounds-ranks-next
bounds-ranks-next c = let lt = next_within c.args.table.now c.args.class c.in-Some.next (sym c.in-Some.ensures) in omega (arith, lt, c.requires.ranks_count)

pub returns : goal.returns
returns c =
    let lt = next_within c.args.table.now c.args.class c.in-Some.next (sym c.in-Some.ensures) in
    next_above c.args.table.now c.args.ranks.now (lists_of c.args.rows.now) c.args.class c.args.rank c.in-Some.next c.in_ok-copied.field-0.items
    (sym c.in-Some.ensures)
    (c.in_ok-copied.ensures ∙ c.as_slice-above.ensures.value ∙ row_is_at c.args.rows.now (length c.args.table.now) c.in-Some.next c.index-rows-next.result (length-map c.args.rows.now (λ (l : Vec ℕ). l.items) ∙ c.requires.rows_count) lt c.index-rows-next.is)
    (subst (λ (ws : List ℕ). 0 < length ws) (sym c.in_ok-copied.ensures) (some_in c.as_slice-above.result.now (sym c.is_empty.ensures ∙ c.if-is_empty.false)))
    c.requires.rows c.if-ranks-next.false (omega (arith, c.requires.rank, c.requires.few))
