-- A question is answered by an answer of its own kind alone.
use Rattle.std.proofs.Common.{◌≡◌, pos, negsuc, [], ◌∷◌, Some, None, refl}
use Rattle.dj_edge.specs.declared.host.HostAnswer.TheVariants as host
use Rattle.dj_model.specs.trusted.Natives.{Word, Nanos, Millis, answered}

own_kinds : answered Word (host.Word (negsuc 0)) ∷ answered Nanos (host.Nanos (pos 5)) ∷ answered Millis (host.Millis (pos 7)) ∷ []
    ≡ Some (negsuc 0) ∷ Some (pos 5) ∷ Some (pos 7) ∷ []
own_kinds = refl

other_kinds : answered Word (host.Nanos (pos 1)) ∷ answered Word (host.Millis (pos 1)) ∷ answered Nanos (host.Word (pos 1)) ∷ answered Nanos (host.Millis (pos 1))
    ∷ answered Millis (host.Word (pos 1)) ∷ answered Millis (host.Nanos (pos 1)) ∷ []
    ≡ None ∷ None ∷ None ∷ None ∷ None ∷ None ∷ []
other_kinds = refl
