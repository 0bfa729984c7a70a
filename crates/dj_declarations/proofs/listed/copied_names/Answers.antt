use Rattle.std.proofs.Common.{List, ℕ, ◌+◌, [], refl, sym, ◌∙◌, subst, arith, take}
use Rattle.std.proofs.lemmas.List.{take_all, get_or_read_under}
use Rattle.dj_declarations.specs.Lists.{AreListed}
use Rattle.dj_declarations.proofs.ListLaws.{listed_is, listed_there, copied_more}
use Rattle.dj_declarations.proofs.listed.copied_names.Goals as goal

pub loop-name-preserved : goal.loop-name-preserved
loop-name-preserved c =
    let i = c.loop-name.name-index in
    let names = c.args.names.now in
    let more = copied_more names i c.as_slice.result.now c.loop-name.copies c.add_name.new.names c.loop-name.places.items c.in_ok-place.place (omega (arith, c.loop-name-test.true)) (c.as_slice.ensures ∙ get_or_read_under names i _ c.name-item.result [] c.name-item.is c.loop-name-test.true refl) c.loop-name.invariant
    c.in_ok-place.ensures.added c.in_ok-place.ensures.place in
    subst (λ (places : List ℕ). AreListed c.add_name.new.names places (take (i + 1) names)) (sym c.in_ok-push.ensures.items) more

pub invariant_of-result : goal.invariant_of-result
invariant_of-result c = record { listed = listed_there c.loop-name.copies c.loop-name.places.items _ c.loop-name.invariant }

pub returns : goal.returns
returns c = listed_is c.loop-name.copies c.loop-name.places.items _ c.loop-name.invariant ∙ take_all c.loop-name.name-index c.args.names.now c.loop-name-test.false
