-- Objects that are made are known.
use Rattle.std.proofs.Common.{◌≡◌, ℕ, ◌<◌, List, [], ◌∷◌, ◌++◌, replicate, length, refl, arith}
use Rattle.std.specs.Prelude.{pos, codes}
use Rattle.dj_names.specs.declared.run.Element.TheVariants as elements
use Rattle.dj_names.specs.trusted.Heaps.{Instance, Array}
use Rattle.dj_heap.specs.Heaps.{LimitedHeap, Makes}
use Rattle.dj_natives.specs.Known.{AreKnown}
use Rattle.dj_natives.proofs.Performed.{known_made}
use Rattle.dj_host_tests.specs.Three.{three_types}

pub own_made : (old new : LimitedHeap) (r : ℕ) → Makes old new (Instance 2 (replicate 0 0)) r → AreKnown three_types old → AreKnown three_types new
own_made old new r makes known =
    known_made three_types old new (Instance 2 []) r makes known (record { class = omega arith; holds = (codes "p/q/R", refl) })

pub ints_made : (old new : LimitedHeap) (r : ℕ) → Makes old new (Array 4 elements.Int (replicate 1 (pos 0))) r → AreKnown three_types old → AreKnown three_types new
ints_made old new r makes known =
    known_made three_types old new (Array 4 elements.Int (pos 0 ∷ [])) r makes known (record { class = omega arith; holds = λ e. absurd cc })
