use Rattle.std.proofs.Common.{◌≡◌, ◌<◌, ◌^◌, ℤ, pos, ◌∷◌, refl, ap, ◌∙◌, w32, to_z, of_z, arith}
use Rattle.std.proofs.lemmas.Int.{ints}
use Rattle.dj_names.specs.declared.run.Value.{Value}
use Rattle.dj_names.specs.declared.run.Value.TheVariants as values
use Rattle.dj_stack.specs.Frames.{top_operands}
use Rattle.dj_effects.proofs.Frames.{both_same}
use Rattle.dj_effects.proofs.LoadFacts.{says_length}
use Rattle.dj_effects.proofs.arrays.array_length.Goals as goal

pub returns-in-Ok : goal.returns-in-Ok
returns-in-Ok c =
    let small : c.in-Ok.n < 2 ^ 31 = c.in-Ok.ensures.few in
    let same : to_z w32 (of_z w32 c.cast_signed.result) ≡ pos c.in-Ok.n = omega (arith, ints, c.cast_signed.ensures, small) in
    let all : top_operands c.args.frames.now ≡ values.Ref c.in-Some-Ref.r ∷ top_operands c.pop.new.frames =
    c.in-Some-Ref.ensures.top ∙ ap (λ (v : Value). v ∷ top_operands c.pop.new.frames) c.in-Some-Ref.field-0-is in
    record {
      effect = says_length c.args.heap.now.heap (top_operands c.args.frames.now) (top_operands c.pop.new.frames) (top_operands c.push_value.new.self) c.in-Some-Ref.r c.in-Ok.field-0-0
          c.in-Ok.n all c.in-Ok.ensures.reported (c.push_value.ensures.operands ∙ ap (λ (z : ℤ). values.Int z ∷ top_operands c.pop.new.frames) same);
      limit = refl;
      frames = both_same _ _ _ c.in-Some-Ref.ensures.rest c.push_value.ensures.rest;
    }
