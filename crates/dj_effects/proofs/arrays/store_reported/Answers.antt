use Rattle.std.proofs.Common.{ℤ, List, ◌∷◌, Some, refl, sym, ap, ◌∙◌, w32, w64, to_z, of_z, SFits, rules}
use Rattle.std.proofs.lemmas.Int.{to_z-of_z}
use Rattle.dj_names.specs.declared.descriptor.Kind.{Kind}
use Rattle.dj_names.specs.declared.run.Value.{Value}
use Rattle.dj_model.specs.trusted.Numbers.{is_of_kind}
use Rattle.dj_model.specs.trusted.Arrays.{array_at, flows}
use Rattle.dj_stack.specs.Frames.{top_operands}
use Rattle.dj_effects.specs.Actions.{access_view}
use Rattle.dj_effects.specs.Arrays.{array_reported, place_of}
use Rattle.dj_effects.specs.DoesOnHeap.{flow_view}
use Rattle.dj_effects.proofs.Beside.{reported_before}
use Rattle.dj_effects.proofs.Frames.{both_same}
use Rattle.dj_effects.proofs.StoreFacts.{stores, stores_limit, stores_no_reference, stores_nothing}
use Rattle.dj_effects.proofs.arrays.store_reported.Goals as goal

pub returns-then-not-takes_value : goal.returns-then-not-takes_value
returns-then-not-takes_value c =
    let v = c.in_ok-value.value in
    let index = c.in_ok-index.index in
    let small : SFits w32 c.in_ok-index.index = search rules in
    let kind = ap (λ (k : Kind). is_of_kind k c.in_ok-value.value) (sym c.access_kind.ensures) ∙ sym c.if-not-is_of_kind.ensures in
    let all = c.in_ok-value.ensures.top ∙ ap (λ (rest : List Value). c.in_ok-value.value ∷ rest) c.in_ok-index.ensures.top in
    let place = c.in-Ok.ensures ∙ ap (λ (i : ℤ). place_of (access_view c.args.access) i (array_reported (array_at c.args.heap.now.heap c.in_ok-index.r))) (to_z-of_z w32 index small) in
    record {
      effect = stores_no_reference c.args.heap.now (top_operands c.args.frames.now) (top_operands c.pop_place.new.frames) (access_view c.args.access) c.args.is_taken v index
          c.in_ok-index.r c.in-Ok.field-0-0 c.in-Ok.at kind all place (sym c.if-not-takes_value.ensures);
      limit = refl;
      frames = both_same _ _ _ c.in_ok-value.ensures.rest c.in_ok-index.ensures.rest;
    }

pub returns-else-not-takes_value : goal.returns-else-not-takes_value
returns-else-not-takes_value c =
    let v = c.in_ok-value.value in
    let index = c.in_ok-index.index in
    let z = to_z w64 (of_z w64 c.value_number.result) in
    let small : SFits w32 c.in_ok-index.index = search rules in
    let fits : SFits w64 c.value_number.result = search rules in
    let kind = ap (λ (k : Kind). is_of_kind k c.in_ok-value.value) (sym c.access_kind.ensures) ∙ sym c.if-not-is_of_kind.ensures in
    let all = c.in_ok-value.ensures.top ∙ ap (λ (rest : List Value). c.in_ok-value.value ∷ rest) c.in_ok-index.ensures.top in
    let place = c.in-Ok.ensures ∙ ap (λ (i : ℤ). place_of (access_view c.args.access) i (array_reported (array_at c.args.heap.now.heap c.in_ok-index.r))) (to_z-of_z w32 index small) in
    let number = to_z-of_z w64 c.value_number.result fits ∙ c.value_number.ensures.number in
    record {
      effect = stores c.args.heap.now c.set_element.new.self (top_operands c.args.frames.now) (top_operands c.pop_place.new.frames) (access_view c.args.access) c.args.is_taken v index
          c.in_ok-index.r c.in-Ok.field-0-0 c.in-Ok.at z kind all place (sym c.if-not-takes_value.ensures) number c.value_number.ensures.small c.set_element.ensures;
      limit = stores_limit c.args.heap.now c.set_element.new.self (access_view c.args.access) index c.in_ok-index.r c.in-Ok.field-0-0 c.in-Ok.at z place c.set_element.ensures;
      frames = both_same _ _ _ c.in_ok-value.ensures.rest c.in_ok-index.ensures.rest;
    }

pub returns-in-Err : goal.returns-in-Err
returns-in-Err c =
    let v = c.in_ok-value.value in
    let index = c.in_ok-index.index in
    let small : SFits w32 c.in_ok-index.index = search rules in
    let kind = ap (λ (k : Kind). is_of_kind k c.in_ok-value.value) (sym c.access_kind.ensures) ∙ sym c.if-not-is_of_kind.ensures in
    let all = c.in_ok-value.ensures.top ∙ ap (λ (rest : List Value). c.in_ok-value.value ∷ rest) c.in_ok-index.ensures.top in
    let place = c.in-Err.ensures ∙ ap (λ (i : ℤ). place_of (access_view c.args.access) i (array_reported (array_at c.args.heap.now.heap c.in_ok-index.r))) (to_z-of_z w32 index small) in
    let before = reported_before c.args.frames.now c.pop_place.new.frames (access_view c.args.access) index (array_at c.args.heap.now.heap c.in_ok-index.r) c.in-Err.flow place in
    record {
      effect = stores_nothing c.args.heap.now (top_operands c.args.frames.now) (top_operands c.pop_place.new.frames) (access_view c.args.access) c.args.is_taken v index
          c.in_ok-index.r c.in-Err.flow kind all place
          ∙ ap (λ (operands : List Value). Some (flows c.args.heap.now.heap operands (flow_view c.in-Err.flow))) (sym before);
      limit = refl;
      frames = both_same _ _ _ c.in_ok-value.ensures.rest c.in_ok-index.ensures.rest;
    }
