use Rattle.std.proofs.Common.{◌≡◌, ℕ, List, Option, IfSome, true, nat_eq, get_or, length, refl, ◌∙◌, ap, subst, arith, if◌then◌else◌}
use Rattle.std.specs.Global.{Vec}
use Rattle.std.specs.Vec.{vec_len, with_items}
use Rattle.std.proofs.lemmas.List.{length-map, with_items_is}
use Rattle.dj_resolution.specs.Bits.{in_bits}
use Rattle.dj_resolution.specs.Numbers.{lists_of}
use Rattle.dj_resolution.specs.Ranked.{IsRowAbove}
use Rattle.dj_resolution.proofs.Finding.{has_at}
use Rattle.dj_resolution.proofs.Ranking.{learnt_rows, not_learnt}
use Rattle.dj_resolution.proofs.ranked.learn.Goals as goal

pub bounds-ranks-class : goal.bounds-ranks-class
bounds-ranks-class c = let lt = c.requires.below (get_or c.args.order.now c.args.rank 0) (has_at c.args.order.now c.args.rank c.requires.there) in omega (arith, lt, c.requires.ranked.ranks_count)

pub returns-then-ranks-class : goal.returns-then-ranks-class
returns-then-ranks-class c = not_learnt c.args.table.now c.args.order.now c.args.ranks.now (lists_of c.args.rows.now) c.args.rank c.requires.ranked

pub row_above-requires-clause-there : goal.row_above-requires-clause-there
row_above-requires-clause-there c = c.requires.below (get_or c.args.order.now c.args.rank 0) (has_at c.args.order.now c.args.rank c.requires.there)

pub returns-in_default : goal.returns-in_default
returns-in_default c = not_learnt c.args.table.now c.args.order.now c.args.ranks.now (lists_of c.args.rows.now) c.args.rank c.requires.ranked

pub bounds-rows-class : goal.bounds-rows-class
bounds-rows-class c =
    let lt = c.requires.below (get_or c.args.order.now c.args.rank 0) (has_at c.args.order.now c.args.rank c.requires.there) in
    let count = length-map c.args.rows.now (λ (l : Vec ℕ). l.items) in
    omega (arith, lt, count, c.requires.ranked.rows_count)

pub returns : goal.returns
returns c =
    let class : ℕ = get_or c.args.order.now c.args.rank 0 in
    let long : length c.put_bit.new.words ≡ vec_len c.in-Some.row = c.put_bit.ensures.count ∙ c.deref_mut.ensures.len in
    learnt_rows c.args.table.now c.args.order.now c.args.ranks.now c.args.rows.now c.args.rank class c.in-Some.row.items (with_items c.in-Some.row c.put_bit.new.words) c.requires.ranked
    (c.requires.below class (has_at c.args.order.now c.args.rank c.requires.there)) c.requires.within refl c.if-ranks-class.false
    (subst (λ (o : Option (Vec ℕ)). IfSome o (λ row. IsRowAbove c.args.table.now c.args.ranks.now (lists_of c.args.rows.now) class c.args.rank row.items)) c.in-Some.is c.in_ok-row.ensures)
    (λ z. ap (λ (ws : List ℕ). in_bits ws z) (with_items_is c.in-Some.row c.put_bit.new.words long) ∙ c.put_bit.ensures.bits z ∙ ap (λ (ws : List ℕ). if nat_eq c.args.rank z then true else in_bits ws z) c.deref_mut.ensures.value)
    (ap length (with_items_is c.in-Some.row c.put_bit.new.words long) ∙ c.put_bit.ensures.count ∙ ap length c.deref_mut.ensures.value)
