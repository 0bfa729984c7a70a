-- What the host gave where it was asked nothing.
use Rattle.std.proofs.Common.{◌≡◌, ◌≤◌, List, [], ◌∷◌, ◌++◌, length, refl, sym, ap, ◌∙◌, arith}
use Rattle.std.proofs.Math.ListN.{drop_of_length-le}
use Rattle.dj_edge.specs.declared.host.HostAnswer.{HostAnswer}
use Rattle.dj_host.specs.trusted.Hosted.{given_since}

nothing_since : (given : List HostAnswer) → given_since given given ≡ []
nothing_since given = let le : length given ≤ length given = omega arith in drop_of_length-le given le

all_there : (given : List HostAnswer) → given ++ [] ≡ given
all_there [] = refl
all_there (x ∷ given) = ap (λ (rest : List HostAnswer). x ∷ rest) (all_there given)

pub gave_nothing : (given : List HostAnswer) → given ≡ given ++ given_since given given
gave_nothing given = sym (all_there given) ∙ ap (λ (more : List HostAnswer). given ++ more) (sym (nothing_since given))
