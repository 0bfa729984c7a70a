-- How many slots operands take.
use Rattle.std.proofs.Common.{◌≡◌, ◌+◌, List, [], ◌∷◌, ◌++◌, reverse, refl, ap, ◌∙◌, arith}
use Rattle.std.proofs.lemmas.List.{reverse-append}
use Rattle.dj_names.specs.declared.descriptor.Kind.{Kind}
use Rattle.dj_model.specs.trusted.Kinds.{depth}

-- ---- depth

pub depth_append : (a b : List Kind) → depth (a ++ b) ≡ depth a + depth b
depth_append [] b = omega arith
depth_append (kind ∷ a) b = omega (arith, depth_append a b)

pub depth_reverse : (stack : List Kind) → depth (reverse stack) ≡ depth stack
depth_reverse [] = refl
depth_reverse (kind ∷ stack) =
    let e : reverse (kind ∷ stack) ≡ reverse stack ++ kind ∷ [] = reverse-append (kind ∷ []) stack in
    ap depth e ∙ omega (arith, depth_append (reverse stack) (kind ∷ []), depth_reverse stack)
