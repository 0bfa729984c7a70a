-- The rule at a class with a name of the library.
use Rattle.std.proofs.Common.{◌≡◌, ℕ, ◌<◌, List, [], ◌∷◌, length, Some, refl, inl, inr, Contains, lit<, codes}
use Rattle.dj_library.specs.trusted.Heads.{Head, library_heads}
use Rattle.dj_hierarchy_rule.specs.trusted.Hierarchy.{IsBadSuperclass, IsBadInterface}
use Rattle.dj_hierarchy_rule.specs.Hierarchy.{Stands}

abbrev object : List ℕ
object = codes "java/lang/Object"

abbrev string : List ℕ
string = codes "java/lang/String"

-- the head of the library's class of the name
abbrev library_string : Head
library_string = record { name = string; flags = 49; superclass = Some object; interfaces = codes "java/lang/Comparable" ∷ codes "java/lang/CharSequence" ∷ [] }

is_in_the_library : Contains library_heads library_string
unfolding library_heads
is_in_the_library = (1, lit< tt, refl)

-- a class of the name that isn't final stands beside the library's, which is
abbrev other_string : Head
other_string = record { name = string; flags = 33; superclass = Some object; interfaces = [] }

beside_the_library : IsBadSuperclass (Stands (other_string ∷ [])) string
beside_the_library = inr (library_string, inr is_in_the_library, refl, inr (λ e. absurd cc))

-- an interface of the name stands beside the library's, which is none
abbrev interface_string : Head
interface_string = record { name = string; flags = 1537; superclass = Some object; interfaces = [] }

class_of_the_library : IsBadInterface (Stands (interface_string ∷ [])) string
class_of_the_library = inr (library_string, inr is_in_the_library, refl, λ is. is refl)
