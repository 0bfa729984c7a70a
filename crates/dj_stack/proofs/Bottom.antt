-- Frames counted from the bottom.
use Rattle.std.proofs.Common.{◌≡◌, ◌<◌, ℕ, zero, suc, subst, List, [], ◌∷◌, ◌++◌, map, length, get_or, arith, reverse, Some, slice_get, IsSome, refl, ap, ◌∙◌}
use Rattle.std.proofs.lemmas.Grind.{reverse_onto}
use Rattle.std.proofs.lemmas.List.{reverse-reverse}
use Rattle.dj_stack.specs.Frames.{StackFrame, frame_at}
use Rattle.dj_stack.specs.Views.{frame_view, frames_view}
use Rattle.dj_stack.specs.declared.frame.Frame.{Frame}

bottom_up : (top : Frame) (below : List Frame) → reverse (frames_view (Some top) below) ≡ map frame_view below ++ frame_view top ∷ []
bottom_up top below =
    reverse_onto (reverse (map frame_view below)) (frame_view top) [] ∙ ap (λ frames. frames ++ frame_view top ∷ []) (reverse-reverse (map frame_view below))

in_prefix : (below : List Frame) (rest : List StackFrame) (f : ℕ) (d : Frame) → f < length below → slice_get (map frame_view below ++ rest) f ≡ Some (frame_view (get_or below f d))
in_prefix [] rest f d within = absurd (omega (arith, within))
in_prefix (y ∷ below) rest zero d within = refl
in_prefix (y ∷ below) rest (suc f) d within = in_prefix below rest f d (omega (arith, within))

pub found_below : (top : Frame) (below : List Frame) (f : ℕ) (d : Frame) → f < length below → frame_at (frames_view (Some top) below) f ≡ Some (frame_view (get_or below f d))
found_below top below f d within = ap (λ frames. slice_get frames f) (bottom_up top below) ∙ in_prefix below (frame_view top ∷ []) f d within

at_end : (below : List Frame) (top : StackFrame) (f : ℕ) → (f < length below → ⊥) → IsSome (slice_get (map frame_view below ++ top ∷ []) f) → slice_get (map frame_view below ++ top ∷ []) f ≡ Some top
at_end [] top zero past some = refl
at_end [] top (suc f) past some = absurd (cc some)
at_end (y ∷ below) top zero past some = absurd (past (omega arith))
at_end (y ∷ below) top (suc f) past some = at_end below top f (λ within. past (omega (arith, within))) some

pub found_top : (top : Frame) (below : List Frame) (f : ℕ) → (f < length below → ⊥) → IsSome (frame_at (frames_view (Some top) below) f) → frame_at (frames_view (Some top) below) f ≡ Some (frame_view top)
found_top top below f past some =
    ap (λ frames. slice_get frames f) (bottom_up top below) ∙ at_end below (frame_view top) f past (subst (λ frames. IsSome (slice_get frames f)) (bottom_up top below) some)
