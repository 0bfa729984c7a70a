use Rattle.std.proofs.Common.{◌<◌, ℕ, ℤ, List, length, Some, refl, sym, ap, subst, ◌∙◌, w32, w64, SFits, rules}
use Rattle.std.proofs.lemmas.Int.{to_z-of_z}
use Rattle.dj_names.specs.declared.run.Value.{Value}
use Rattle.dj_model.specs.trusted.Arrays.{array_at, flows}
use Rattle.dj_stack.specs.Frames.{top_operands, top_room}
use Rattle.dj_effects.specs.Actions.{access_view}
use Rattle.dj_effects.specs.Arrays.{array_reported, place_of, value_of}
use Rattle.dj_effects.specs.DoesOnHeap.{flow_view}
use Rattle.dj_effects.proofs.Beside.{reported_before}
use Rattle.dj_effects.proofs.Frames.{both_same}
use Rattle.dj_effects.proofs.LoadFacts.{loads, loads_nothing, load_room}
use Rattle.dj_effects.proofs.arrays.load_element.Goals as goal

pub push_value-requires : goal.push_value-requires
push_value-requires c =
    let index = c.in_ok-index.index in
    let z = c.element.result in
    let small : SFits w32 c.in_ok-index.index = search rules in
    let fits : SFits w64 c.element.result = search rules in
    let place = c.in-Ok.ensures ∙ ap (λ (i : ℤ). place_of (access_view c.args.access) i (array_reported (array_at c.args.heap.now.heap c.in_ok-index.r))) (to_z-of_z w32 index small) in
    let value = c.value_of.ensures ∙ ap (value_of c.in-Ok.element) (to_z-of_z w64 z fits) in
    subst (λ (room : ℕ). length (top_operands c.pop_place.new.frames) < room) (sym c.in_ok-index.ensures.rest.frames.room)
    (load_room c.args.heap.now (top_operands c.args.frames.now) (top_operands c.pop_place.new.frames) (access_view c.args.access) index c.in_ok-index.r c.in-Ok.element c.in-Ok.at z
    c.value_of.result (top_room c.args.frames.now) c.in_ok-index.ensures.top place c.element.ensures.value c.element.ensures.kept value c.requires)

pub returns-in-Ok : goal.returns-in-Ok
returns-in-Ok c =
    let index = c.in_ok-index.index in
    let z = c.element.result in
    let small : SFits w32 c.in_ok-index.index = search rules in
    let fits : SFits w64 c.element.result = search rules in
    let place = c.in-Ok.ensures ∙ ap (λ (i : ℤ). place_of (access_view c.args.access) i (array_reported (array_at c.args.heap.now.heap c.in_ok-index.r))) (to_z-of_z w32 index small) in
    let value = c.value_of.ensures ∙ ap (value_of c.in-Ok.element) (to_z-of_z w64 z fits) in
    record {
      effect = loads c.args.heap.now (top_operands c.args.frames.now) (top_operands c.pop_place.new.frames) (top_operands c.push_value.new.self) (access_view c.args.access) index
          c.in_ok-index.r c.in-Ok.element c.in-Ok.at z c.value_of.result c.in_ok-index.ensures.top place c.element.ensures.value c.element.ensures.kept value c.push_value.ensures.operands;
      limit = refl;
      frames = both_same _ _ _ c.in_ok-index.ensures.rest c.push_value.ensures.rest;
    }

pub returns-in-Err : goal.returns-in-Err
returns-in-Err c =
    let index = c.in_ok-index.index in
    let small : SFits w32 c.in_ok-index.index = search rules in
    let place = c.in-Err.ensures ∙ ap (λ (i : ℤ). place_of (access_view c.args.access) i (array_reported (array_at c.args.heap.now.heap c.in_ok-index.r))) (to_z-of_z w32 index small) in
    let before = reported_before c.args.frames.now c.pop_place.new.frames (access_view c.args.access) index (array_at c.args.heap.now.heap c.in_ok-index.r) c.in-Err.flow place in
    record {
      effect = loads_nothing c.args.heap.now (top_operands c.args.frames.now) (top_operands c.pop_place.new.frames) (access_view c.args.access) index c.in_ok-index.r c.in-Err.flow
          c.in_ok-index.ensures.top place
          ∙ ap (λ (operands : List Value). Some (flows c.args.heap.now.heap operands (flow_view c.in-Err.flow))) (sym before);
      limit = refl;
      frames = c.in_ok-index.ensures.rest;
    }
