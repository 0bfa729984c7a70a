use Rattle.std.proofs.Common.{◌≡◌, ℕ, ◌<◌, ltb, true, false, length, get_or, subst, arith}
use Rattle.std.specs.List.Sorted.{IsPartitionPoint}
use Rattle.std.proofs.lemmas.List.{get_or_default}
use Rattle.dj_member_index.specs.declared.rows.MemberRow.{MemberRow}
use Rattle.dj_member_index.specs.DirectoryRows.{key_of}
use Rattle.dj_member_index.proofs.RowLaws.{none_past, reported_at}
use Rattle.dj_member_index.proofs.rows.place_in.Goals as goal

pub returns-then-at-rows : goal.returns-then-at-rows
returns-then-at-rows c =
    let rows = c.args.rows.now in
    let at = c.first_not_below-at.result in
    none_past rows c.requires c.args.name c.args.desc c.args.class at
    (subst (λ (key : ℕ). IsPartitionPoint (λ row. ltb (key_of row) key ≡ true) (λ row. ltb (key_of row) key ≡ false) rows at) c.key_of.ensures c.first_not_below-at.ensures.point)
    (omega (arith, c.if-at-rows.true))

pub returns : goal.returns
returns c =
    let rows = c.args.rows.now in
    let at = c.first_not_below-at.result in
    let within : at < length rows = omega (arith, c.first_not_below-at.ensures.bound, c.if-at-rows.false) in
    let none : MemberRow = record { name = 0; desc = 0; class = 0; place = 0 } in
    let row : MemberRow = get_or rows at none in
    reported_at rows c.requires c.args.name c.args.desc c.args.class at row
    (subst (λ (key : ℕ). IsPartitionPoint (λ row. ltb (key_of row) key ≡ true) (λ row. ltb (key_of row) key ≡ false) rows at) c.key_of.ensures c.first_not_below-at.ensures.point)
    within (get_or_default rows at none row within) c.place_if.result c.place_if.ensures
