use Rattle.std.proofs.Common.{◌≡◌, arith, sym, ◌∙◌, subst}
use Rattle.std.specs.declared.cmp.Ordering.TheVariants.{Less}
use Rattle.std.proofs.lemmas.List.Sorted.{all_adjacent_more}
use Rattle.dj_names.specs.trusted.Types.{Name, same_name}
use Rattle.dj_class_table.specs.Tables.{IsLeastShared}
use Rattle.dj_class_table.specs.ClassRows.{class_cmp}
use Rattle.dj_class_table.proofs.Orders.{names_from_same, same_from_names, not_both, rise_from_adjacent}
use Rattle.dj_class_table.proofs.Shared.{first_pair, next_rises}
use Rattle.dj_class_table.proofs.rows.first_shared.Goals as goal

pub returns-then-eq : goal.returns-then-eq
returns-then-eq c =
    let a = c.index-rows-place.result in
    let b = c.index-rows-place-in-loop-place.result in
    let same : c.name-name.result.now ≡ c.name.result.now = names_from_same c.name-name.result.now c.name.result.now (sym c.eq.ensures ∙ c.if-eq.true) in
    let pair : IsLeastShared c.args.rows.now a.name =
    first_pair c.args.rows.now c.requires c.loop-place.place c.loop-place.invariant.some (omega arith) a b c.index-rows-place.is c.index-rows-place-in-loop-place.is
    c.loop-place.invariant.below (sym c.name-name.ensures ∙ (same ∙ c.name.ensures)) in
    subst (λ (n : Name). IsLeastShared c.args.rows.now n) (sym c.name-name.ensures) pair

pub loop-place-preserved : goal.loop-place-preserved
loop-place-preserved c =
    let a = c.index-rows-place.result in
    let b = c.index-rows-place-in-loop-place.result in
    let other : a.name ≡ b.name → ⊥ = λ same.
    let names : c.name-name.result.now ≡ c.name.result.now = c.name-name.ensures ∙ (same ∙ sym c.name.ensures) in
    not_both (same_name c.name-name.result.now c.name.result.now)
    (same_from_names c.name-name.result.now c.name.result.now names) (sym c.eq.ensures ∙ c.if-eq.false) in
    record {
      some = omega arith;
      below = all_adjacent_more c.args.rows.now (λ x y. class_cmp x y ≡ Less) c.loop-place.place c.loop-place.invariant.some c.loop-place.invariant.below
          (next_rises c.args.rows.now c.requires c.loop-place.place c.loop-place.invariant.some (omega arith) a b c.index-rows-place.is c.index-rows-place-in-loop-place.is other);
    }

pub returns : goal.returns
returns c = rise_from_adjacent c.args.rows.now (λ k d lt. c.loop-place.invariant.below k d (omega arith))
