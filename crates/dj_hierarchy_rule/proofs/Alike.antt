-- Heads that are alike violate the rule alike.
use Rattle.std.proofs.Common.{◌≡◌, ◌≢◌, ◌↔◌, ℕ, List, Option, Some, None, refl, sym, ◌∙◌, subst, inl, inr, Contains, codes}
use Rattle.std.specs.Prelude.{◌⊎◌, ⊤, IsSomeAnd}
use Rattle.std.specs.Int.{IsBitSet}
use Rattle.dj_class.specs.trusted.Access as access
use Rattle.dj_library.specs.trusted.Heads.{Head}
use Rattle.dj_hierarchy_rule.specs.trusted.Hierarchy.{IsFinal, IsInterface, HasSuch, IsMissing, IsAbove, Climbs, Stays, Rises, IsBadSuperclass, IsOffObject, IsBadInterface, ViolatesHierarchy}

-- the same class, but for the order of its interfaces and how often it lists each
pub record IsAlike (a b : Head) : Type 0 where
  pub name : a.name ≡ b.name
  pub flags : a.flags ≡ b.flags
  pub superclass : a.superclass ≡ b.superclass
  pub interfaces : (name : List ℕ) → Contains a.interfaces name ↔ Contains b.interfaces name

-- for each class that is there in the one sense one like it is there in the other
abbrev pub HaveAlike : (Head → Type 0) → (Head → Type 0) → Type 0
HaveAlike IsThere IsThere' = (head : Head) → IsThere head → (other : Head) × IsThere' other × IsAlike head other

pub alike_itself : (a : Head) → IsAlike a a
alike_itself a = record { name = refl; flags = refl; superclass = refl; interfaces = λ name. (λ m. m, λ m. m) }

pub alike_back : (a b : Head) → IsAlike a b → IsAlike b a
alike_back a b alike = record { name = sym alike.name; flags = sym alike.flags; superclass = sym alike.superclass; interfaces = λ name. ((alike.interfaces name).1, (alike.interfaces name).0) }

interface_alike : (a b : Head) → IsAlike a b → IsInterface a → IsInterface b
interface_alike a b alike is = subst (λ (flags : ℕ). IsBitSet flags access.interface) alike.flags is

final_alike : (a b : Head) → IsAlike a b → IsFinal a → IsFinal b
final_alike a b alike is = subst (λ (flags : ℕ). IsBitSet flags access.final) alike.flags is

above_alike : (a b : Head) (name : List ℕ) → IsAlike a b → IsAbove a name → IsAbove b name
above_alike a b name alike above = elim above [ inl e ↦ inl (sym alike.superclass ∙ e) | inr m ↦ inr ((alike.interfaces name).0 m) ]

module _ (IsThere IsThere' : Head → Type 0) (there : HaveAlike IsThere IsThere') where
  such_alike : (P P' : Head → Type 0) → ((a b : Head) → IsAlike a b → P a → P' b) → (name : List ℕ) → HasSuch IsThere P name → HasSuch IsThere' P' name
  such_alike P P' turn name (h, is, named, p) =
      let other = there h is in
      (other.0, other.1, sym other.2.name ∙ named, turn h other.0 other.2 p)

  climbs_alike : (low high : List ℕ) → Climbs IsThere low high → Climbs IsThere' low high
  climbs_alike low high (Stays name) = Stays low
  climbs_alike low high (Rises head is above top over rest) =
      let other = there head is in
      subst (λ (name : List ℕ). Climbs IsThere' name high) (sym other.2.name) (Rises other.0 other.1 above high (above_alike head other.0 above other.2 over) (climbs_alike above high rest))

module _ (IsThere IsThere' : Head → Type 0) (there : HaveAlike IsThere IsThere') (back : HaveAlike IsThere' IsThere) where
  missing_alike : (name : List ℕ) → IsMissing IsThere name → IsMissing IsThere' name
  missing_alike name missing = λ such. missing (such_alike IsThere' IsThere back (λ _. ⊤) (λ _. ⊤) (λ a b alike p. p) name such)

  bad_superclass_alike : (name : List ℕ) → IsBadSuperclass IsThere name → IsBadSuperclass IsThere' name
  bad_superclass_alike name bad =
      elim bad [
        | inl missing ↦ inl (missing_alike name missing)
        | inr such ↦ inr (such_alike IsThere IsThere' there (λ above. IsInterface above ⊎ IsFinal above) (λ above. IsInterface above ⊎ IsFinal above) kind_alike name such)
      ]
    where
      kind_alike : (a b : Head) → IsAlike a b → IsInterface a ⊎ IsFinal a → IsInterface b ⊎ IsFinal b
      kind_alike a b alike kind = elim kind [ inl i ↦ inl (interface_alike a b alike i) | inr f ↦ inr (final_alike a b alike f) ]

  bad_interface_alike : (name : List ℕ) → IsBadInterface IsThere name → IsBadInterface IsThere' name
  bad_interface_alike name bad =
      elim bad [
        | inl missing ↦ inl (missing_alike name missing)
        | inr such ↦ inr (such_alike IsThere IsThere' there (λ above. IsInterface above → ⊥) (λ above. IsInterface above → ⊥) (λ a b alike none is. none (interface_alike b a (alike_back a b alike) is)) name such)
      ]

  superclass_alike : (superclass : Option (List ℕ)) → IsSomeAnd superclass (IsBadSuperclass IsThere) → IsSomeAnd superclass (IsBadSuperclass IsThere')
  superclass_alike None bad = bad
  superclass_alike (Some name) bad = bad_superclass_alike name bad

  off_alike : (a b : Head) → IsAlike a b → IsOffObject a → IsOffObject b
  off_alike a b alike (is, off) = (interface_alike a b alike is, subst (λ (superclass : Option (List ℕ)). IsSomeAnd superclass (λ name. name ≢ codes "java/lang/Object")) alike.superclass off)

  violates_as : (a b : Head) → IsAlike a b → ViolatesHierarchy IsThere a → ViolatesHierarchy IsThere' b
  violates_as a b alike (inl none) = inl (sym alike.superclass ∙ none)
  violates_as a b alike (inr (inl bad)) = inr (inl (subst (λ (superclass : Option (List ℕ)). IsSomeAnd superclass (IsBadSuperclass IsThere')) alike.superclass (superclass_alike a.superclass bad)))
  violates_as a b alike (inr (inr (inl off))) = inr (inr (inl (off_alike a b alike off)))
  violates_as a b alike (inr (inr (inr (inl (name, listed, bad))))) = inr (inr (inr (inl (name, (alike.interfaces name).0 listed, bad_interface_alike name bad))))
  violates_as a b alike (inr (inr (inr (inr (above, over, climbs))))) =
      inr (inr (inr (inr (above, above_alike a b above alike over, subst (λ (name : List ℕ). Climbs IsThere' above name) alike.name (climbs_alike IsThere IsThere' there above a.name climbs)))))

-- two sets of heads that are alike have the same violations
pub alike_violate : (IsThere IsThere' : Head → Type 0) → HaveAlike IsThere IsThere' → HaveAlike IsThere' IsThere → (head head' : Head) → IsAlike head head' → ViolatesHierarchy IsThere head ↔ ViolatesHierarchy IsThere' head'
alike_violate IsThere IsThere' there back head head' alike = (
  violates_as IsThere IsThere' there back head head' alike,
  violates_as IsThere' IsThere back there head' head (alike_back head head' alike),
)

-- the same classes in another sense
pub same_violate : (IsThere IsThere' : Head → Type 0) → ((head : Head) → IsThere head ↔ IsThere' head) → (head : Head) → ViolatesHierarchy IsThere head ↔ ViolatesHierarchy IsThere' head
same_violate IsThere IsThere' same head =
    alike_violate IsThere IsThere' (λ h there. (h, (same h).0 there, alike_itself h)) (λ h there. (h, (same h).1 there, alike_itself h)) head head (alike_itself head)
