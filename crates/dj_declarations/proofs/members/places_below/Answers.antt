use Rattle.std.proofs.Common.{ℕ, ◌∷◌, ◌++◌, [], ap, ◌∙◌, arith}
use Rattle.dj_declarations.proofs.RowLaws.{counted_more}
use Rattle.dj_declarations.proofs.members.places_below.Goals as goal

pub loop-place-preserved : goal.loop-place-preserved
loop-place-preserved c =
    let places = c.loop-place.places.items in
    counted_more c.loop-place.place places c.push.new.self.items (omega (arith, c.in-Ok.ensures.0, c.in-Ok.ensures.1)) c.loop-place.invariant
    (c.in_ok-push.ensures.items ∙ ap (λ (n : ℕ). places ++ n ∷ []) c.in-Ok.ensures.1)
