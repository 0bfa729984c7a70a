-- Rule 6, HIERARCHY: which classes a class may have above it (JVMS 4.1 and 5.3.5). Of a class the rule sees its head. Several classes may have one name.
use Rattle.std.specs.Prelude.{◌≡◌, ◌≢◌, ◌⊎◌, ⊤, ℕ, List, Some, None, IsSomeAnd, Contains, codes}
use Rattle.std.specs.Int.{IsBitSet}
use Rattle.dj_class.specs.trusted.Access as access
use Rattle.dj_library.specs.trusted.Heads.{Head}

-- ---- flags (JVMS table 4.1-A: ACC_FINAL and ACC_INTERFACE)

abbrev pub IsFinal : Head → Type 0
IsFinal head = IsBitSet head.flags access.final

abbrev pub IsInterface : Head → Type 0
IsInterface head = IsBitSet head.flags access.interface

-- ---- classes by their names

-- a class of this name meets the condition
abbrev pub HasSuch : (Head → Type 0) → (Head → Type 0) → List ℕ → Type 0
HasSuch IsThere IsSuch name = (head : Head) × IsThere head × (head.name ≡ name) × IsSuch head

-- there is no class of the name
abbrev pub IsMissing : (Head → Type 0) → List ℕ → Type 0
IsMissing IsThere name = HasSuch IsThere (λ _. ⊤) name → ⊥

-- the name of the class's superclass, or of an interface that it lists
abbrev pub IsAbove : Head → List ℕ → Type 0
IsAbove head name = (head.superclass ≡ Some name) ⊎ Contains head.interfaces name

-- upward from a name: each name climbs to itself, and to whatever a name directly above one of its classes climbs to
pub data Climbs (IsThere : Head → Type 0) : List ℕ → List ℕ → Type 0 where
  Stays : (name : List ℕ) → Climbs IsThere name name
  Rises : (head : Head) → IsThere head → (above top : List ℕ) → IsAbove head above → Climbs IsThere above top → Climbs IsThere head.name top

-- ---- the conditions

-- super_class is 0
abbrev pub LacksSuperclass : Head → Type 0
LacksSuperclass head = head.superclass ≡ None

-- the superclass isn't there, or is an interface or final
abbrev pub IsBadSuperclass : (Head → Type 0) → List ℕ → Type 0
IsBadSuperclass IsThere name = IsMissing IsThere name ⊎ HasSuch IsThere (λ above. IsInterface above ⊎ IsFinal above) name

-- an interface whose superclass isn't Object
abbrev pub IsOffObject : Head → Type 0
IsOffObject head = IsInterface head × IsSomeAnd head.superclass (λ name. name ≢ codes "java/lang/Object")

-- a listed interface isn't there, or is no interface
abbrev pub IsBadInterface : (Head → Type 0) → List ℕ → Type 0
IsBadInterface IsThere name = IsMissing IsThere name ⊎ HasSuch IsThere (λ above. IsInterface above → ⊥) name

abbrev pub HasBadInterface : (Head → Type 0) → Head → Type 0
HasBadInterface IsThere head = (name : List ℕ) × Contains head.interfaces name × IsBadInterface IsThere name

-- the class is its own ancestor
abbrev pub IsOwnAncestor : (Head → Type 0) → Head → Type 0
IsOwnAncestor IsThere head = (above : List ℕ) × IsAbove head above × Climbs IsThere above head.name

-- the class violates the rule among the classes that are there; its members are judged elsewhere
abbrev pub ViolatesHierarchy : (Head → Type 0) → Head → Type 0
ViolatesHierarchy IsThere head =
    LacksSuperclass head
    ⊎ (IsSomeAnd head.superclass (IsBadSuperclass IsThere)
    ⊎ (IsOffObject head
    ⊎ (HasBadInterface IsThere head
    ⊎ IsOwnAncestor IsThere head)))
