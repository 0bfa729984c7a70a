use Rattle.std.proofs.Common.{◌≡◌, ◌<◌, ℕ, List, ◌∷◌, length, Some, Ok, sym, ap, subst, ◌∙◌}
use Rattle.dj_names.specs.declared.run.Value.{Value}
use Rattle.dj_stack.specs.Frames.{top_locals, top_operands, top_room}
use Rattle.dj_model.specs.trusted.Instructions.{Compute}
use Rattle.dj_effects.specs.Actions.{binary_view}
use Rattle.dj_effects.specs.Results.{of_two}
use Rattle.dj_effects.proofs.Frames.{both_same, does_next}
use Rattle.dj_effects.proofs.NumberFacts.{computes, compute_room}
use Rattle.dj_effects.proofs.numbers.compute.Goals as goal

pub push_value-requires : goal.push_value-requires
push_value-requires c =
    let taken = c.in-Some-Some in
    let all : top_operands c.args.frames.now ≡ taken.b ∷ (taken.a ∷ top_operands c.pop-2.new.frames) = taken.ensures.top ∙ ap (λ (rest : List Value). taken.b ∷ rest) taken.ensures'.top in
    let reported : of_two (binary_view c.args.operation) taken.a taken.b ≡ Some (Ok c.in-Ok.value) = sym c.in_ok-value.ensures ∙ ap Some c.in-Ok.is in
    subst (λ (room : ℕ). length (top_operands c.pop-2.new.frames) < room) (sym (taken.ensures'.rest.frames.room ∙ taken.ensures.rest.frames.room))
    (compute_room (binary_view c.args.operation) (top_locals c.args.frames.now) (top_operands c.args.frames.now) (top_operands c.pop-2.new.frames)
    taken.a taken.b c.in-Ok.value (top_room c.args.frames.now) all reported c.requires)

pub returns-in-Ok : goal.returns-in-Ok
returns-in-Ok c =
    let taken = c.in-Some-Some in
    let all : top_operands c.args.frames.now ≡ taken.b ∷ (taken.a ∷ top_operands c.pop-2.new.frames) = taken.ensures.top ∙ ap (λ (rest : List Value). taken.b ∷ rest) taken.ensures'.top in
    let reported : of_two (binary_view c.args.operation) taken.a taken.b ≡ Some (Ok c.in-Ok.value) = sym c.in_ok-value.ensures ∙ ap Some c.in-Ok.is in
    does_next (Compute (binary_view c.args.operation)) c.args.frames.now c.push_value.new.self (c.in-Ok.value ∷ top_operands c.pop-2.new.frames)
    (both_same _ _ _ (both_same _ _ _ taken.ensures.rest taken.ensures'.rest) c.push_value.ensures.rest) c.push_value.ensures.operands
    (computes (binary_view c.args.operation) (top_locals c.args.frames.now) (top_operands c.args.frames.now) (top_operands c.pop-2.new.frames) taken.a taken.b c.in-Ok.value all reported)
