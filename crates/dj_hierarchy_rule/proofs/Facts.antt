-- The rule at plain heads.
use Rattle.std.proofs.Common.{◌≡◌, ◌≢◌, ℕ, false, List, [], ◌∷◌, Some, None, refl, ◌∙◌, inl, inr, Contains, arith, codes}
use Rattle.std.specs.Prelude.{◌⊎◌, ⊤, bytes_eq}
use Rattle.std.specs.List.{AllByRecursion}
use Rattle.std.proofs.lemmas.Bool.{both_ways}
use Rattle.std.proofs.lemmas.List.Elements.{All-contains, All-from_recursion}
use Rattle.std.proofs.lemmas.Slice.Eq.{bytes_eq-Decides}
use Rattle.dj_library.specs.trusted.Heads.{Head}
use Rattle.dj_hierarchy_rule.specs.trusted.Hierarchy.{IsFinal, IsInterface, HasSuch, IsAbove, Climbs, Stays, Rises, LacksSuperclass, IsBadSuperclass, IsOffObject, IsBadInterface, HasBadInterface, IsOwnAncestor, ViolatesHierarchy}

-- ---- heads

abbrev object : List ℕ
object = codes "java/lang/Object"

abbrev a : List ℕ
a = codes "A"

abbrev b : List ℕ
b = codes "B"

abbrev c : List ℕ
c = codes "C"

abbrev root : Head
root = record { name = object; flags = 33; superclass = None; interfaces = [] }

abbrev plain : List ℕ → List ℕ → List (List ℕ) → Head
plain name above listed = record { name = name; flags = 33; superclass = Some above; interfaces = listed }

abbrev last : List ℕ → List ℕ → Head
last name above = record { name = name; flags = 49; superclass = Some above; interfaces = [] }

abbrev interface : List ℕ → List ℕ → List (List ℕ) → Head
interface name above listed = record { name = name; flags = 1537; superclass = Some above; interfaces = listed }

-- ---- small sets

first : {X : Type 0} (x : X) (xs : List X) → Contains (x ∷ xs) x
first x xs = (0, omega arith, refl)

second : {X : Type 0} (w x : X) (xs : List X) → Contains (w ∷ x ∷ xs) x
second w x xs = (1, omega arith, refl)

apart : (xs ys : List ℕ) → bytes_eq xs ys ≡ false → xs ≢ ys
apart xs ys differs same = both_ways (bytes_eq xs ys) differs ((bytes_eq-Decides xs ys).1 same)

of_each : {X : Type 0} (P : X → Type 0) (xs : List X) → AllByRecursion P xs → (x : X) → Contains xs x → P x
of_each P xs all x there = All-contains P xs x (All-from_recursion P xs all) there

none_such : (heads : List Head) (P : Head → Type 0) (name : List ℕ) → AllByRecursion (λ head. head.name ≡ name → P head → ⊥) heads → HasSuch (Contains heads) P name → ⊥
none_such heads P name none (head, there, named, p) = of_each (λ h. h.name ≡ name → P h → ⊥) heads none head there named p

-- what is above leads on and on to names that are such
stays_such : (IsThere : Head → Type 0) (P : List ℕ → Type 0) → ((head : Head) → IsThere head → P head.name → (above : List ℕ) → IsAbove head above → P above) → (low high : List ℕ) → Climbs IsThere low high → P low → P high
stays_such IsThere P on low high (Stays name) p = p
stays_such IsThere P on low high (Rises head there above top over rest) p = stays_such IsThere P on above high rest (on head there p above over)

above_plain : (name superclass above : List ℕ) → IsAbove (plain name superclass []) above → superclass ≡ above
above_plain name superclass above (inl e) = cc
above_plain name superclass above (inr m) = let h = m.1 in absurd (omega arith)

-- ---- no superclass

lacks : LacksSuperclass root
lacks = refl

lacks_not : LacksSuperclass (plain a object []) → ⊥
lacks_not e = absurd cc

-- ---- superclasses

missing_superclass : IsBadSuperclass (Contains (root ∷ [])) a
missing_superclass = inl (none_such (root ∷ []) (λ _. ⊤) a ((λ e _. apart object a refl e), tt))

final_superclass : IsBadSuperclass (Contains (root ∷ last a object ∷ [])) a
final_superclass = inr (last a object, second root (last a object) [], refl, inr (λ e. absurd cc))

interface_superclass : IsBadSuperclass (Contains (root ∷ interface a object [] ∷ [])) a
interface_superclass = inr (interface a object [], second root (interface a object []) [], refl, inl (λ e. absurd cc))

-- one of the classes of the name is final
one_final_superclass : IsBadSuperclass (Contains (plain a object [] ∷ last a object ∷ [])) a
one_final_superclass = inr (last a object, second (plain a object []) (last a object) [], refl, inr (λ e. absurd cc))

plain_superclass : IsBadSuperclass (Contains (root ∷ plain a object [] ∷ [])) a → ⊥
plain_superclass (inl missing) = missing (plain a object [], second root (plain a object []) [], refl, tt)
plain_superclass (inr such) =
    none_such (root ∷ plain a object [] ∷ []) (λ above. IsInterface above ⊎ IsFinal above) a
    ((λ e _. apart object a refl e), ((λ e kind. elim kind [ inl is ↦ is refl | inr is ↦ is refl ]), tt))
    such

-- ---- the superclass of an interface

off_object : IsOffObject (interface a b [])
off_object = ((λ e. absurd cc), apart b object refl)

below_object : IsOffObject (interface a object []) → ⊥
below_object (is, off) = off refl

-- a class may have another
class_off_object : IsOffObject (plain a b []) → ⊥
class_off_object (is, off) = is refl

-- ---- interfaces

missing_interface : HasBadInterface (Contains (root ∷ [])) (plain a object (b ∷ []))
missing_interface = (b, first b [], inl (none_such (root ∷ []) (λ _. ⊤) b ((λ e _. apart object b refl e), tt)))

class_as_interface : HasBadInterface (Contains (root ∷ plain b object [] ∷ [])) (plain a object (b ∷ []))
class_as_interface = (b, first b [], inr (plain b object [], second root (plain b object []) [], refl, λ is. is refl))

-- one of the classes of the name is no interface
one_class_as_interface : IsBadInterface (Contains (interface b object [] ∷ plain b object [] ∷ [])) b
one_class_as_interface = inr (plain b object [], second (interface b object []) (plain b object []) [], refl, λ is. is refl)

good_interface : HasBadInterface (Contains (root ∷ interface b object [] ∷ [])) (plain a object (b ∷ [])) → ⊥
good_interface (name, listed, bad) = of_each (λ n. IsBadInterface (Contains (root ∷ interface b object [] ∷ [])) n → ⊥) (b ∷ []) (good, tt) name listed bad
  where
    good : IsBadInterface (Contains (root ∷ interface b object [] ∷ [])) b → ⊥
    good (inl missing) = missing (interface b object [], second root (interface b object []) [], refl, tt)
    good (inr such) =
        none_such (root ∷ interface b object [] ∷ []) (λ above. IsInterface above → ⊥) b
        ((λ e _. apart object b refl e), ((λ e none. none (λ z. absurd cc)), tt))
        such

-- ---- ancestors

own_superclass : IsOwnAncestor (Contains (plain a a [] ∷ [])) (plain a a [])
own_superclass = (a, inl refl, Stays a)

two_in_a_ring : IsOwnAncestor (Contains (plain a b [] ∷ plain b a [] ∷ [])) (plain a b [])
two_in_a_ring = (b, inl refl, Rises (plain b a []) (second (plain a b []) (plain b a []) []) a a (inl refl) (Stays a))

ring_of_interfaces : IsOwnAncestor (Contains (interface a object (b ∷ []) ∷ interface b object (a ∷ []) ∷ [])) (interface a object (b ∷ []))
ring_of_interfaces = (
  b,
  inr (first b []),
  Rises (interface b object (a ∷ [])) (second (interface a object (b ∷ [])) (interface b object (a ∷ [])) []) a a (inr (first a [])) (Stays a),
)

-- up by an interface, and back by a superclass
ring_of_both : IsOwnAncestor (Contains (plain a object (b ∷ []) ∷ interface b a [] ∷ [])) (plain a object (b ∷ []))
ring_of_both = (b, inr (first b []), Rises (interface b a []) (second (plain a object (b ∷ [])) (interface b a []) []) a a (inl refl) (Stays a))

above_interface : (name superclass above : List ℕ) → IsAbove (interface name superclass []) above → superclass ≡ above
above_interface name superclass above (inl e) = cc
above_interface name superclass above (inr m) = let h = m.1 in absurd (omega arith)

above_with_one : (name superclass listed above : List ℕ) → IsAbove (interface name superclass (listed ∷ [])) above → (superclass ≡ above) ⊎ (listed ≡ above)
above_with_one name superclass listed above (inl e) = inl cc
above_with_one name superclass listed above (inr m) = inr (of_each (λ n. listed ≡ n) (listed ∷ []) (refl, tt) above m)

-- an interface below another
row_of_interfaces : IsOwnAncestor (Contains (interface a object (b ∷ []) ∷ interface b object [] ∷ [])) (interface a object (b ∷ [])) → ⊥
row_of_interfaces (above, over, climbs) =
    stays_such (Contains (interface a object (b ∷ []) ∷ interface b object [] ∷ [])) (λ name. name ≢ a)
    (of_each (λ head. head.name ≢ a → (top : List ℕ) → IsAbove head top → top ≢ a) (interface a object (b ∷ []) ∷ interface b object [] ∷ []) (
      (λ not top over. absurd (not refl)),
      ((λ not top over e. apart object a refl (above_interface b object top over ∙ e)), tt),
    ))
    above a climbs (λ e. elim (above_with_one a object b above over) [ inl is ↦ apart object a refl (is ∙ e) | inr is ↦ apart b a refl (is ∙ e) ]) refl

-- below a ring, and not in it
below_a_ring : IsOwnAncestor (Contains (plain c a [] ∷ plain a b [] ∷ plain b a [] ∷ [])) (plain c a []) → ⊥
below_a_ring (above, over, climbs) =
    stays_such (Contains (plain c a [] ∷ plain a b [] ∷ plain b a [] ∷ [])) (λ name. name ≢ c)
    (of_each (λ head. head.name ≢ c → (top : List ℕ) → IsAbove head top → top ≢ c) (plain c a [] ∷ plain a b [] ∷ plain b a [] ∷ []) (
      (λ not top over. absurd (not refl)),
      ((λ not top over e. apart b c refl (above_plain a b top over ∙ e)), ((λ not top over e. apart a c refl (above_plain b a top over ∙ e)), tt)),
    ))
    above c climbs (λ e. apart a c refl (above_plain c a above over ∙ e)) refl

-- ---- the rule

violated : ViolatesHierarchy (Contains (root ∷ last b object ∷ plain a b [] ∷ [])) (plain a b [])
violated = inr (inl (inr (last b object, second root (last b object) (plain a b [] ∷ []), refl, inr (λ e. absurd cc))))

kept : ViolatesHierarchy (Contains (root ∷ plain a object [] ∷ [])) (plain a object []) → ⊥
kept (inl none) = absurd cc
kept (inr (inl bad)) = object_is_good bad
  where
    object_is_good : IsBadSuperclass (Contains (root ∷ plain a object [] ∷ [])) object → ⊥
    object_is_good (inl missing) = missing (root, first root (plain a object [] ∷ []), refl, tt)
    object_is_good (inr such) =
        none_such (root ∷ plain a object [] ∷ []) (λ above. IsInterface above ⊎ IsFinal above) object
        ((λ e kind. elim kind [ inl is ↦ is refl | inr is ↦ is refl ]), ((λ e _. apart a object refl e), tt))
        such
kept (inr (inr (inl (is, off)))) = is refl
kept (inr (inr (inr (inl (name, listed, bad))))) = let h = listed.1 in absurd (omega arith)
kept (inr (inr (inr (inr (above, over, climbs))))) =
    stays_such (Contains (root ∷ plain a object [] ∷ [])) (λ name. name ≢ a)
    (of_each (λ head. head.name ≢ a → (top : List ℕ) → IsAbove head top → top ≢ a) (root ∷ plain a object [] ∷ []) (
      (λ not top over e. nothing_above top over),
      ((λ not top over. absurd (not refl)), tt),
    ))
    above a climbs (λ e. apart object a refl (above_plain a object above over ∙ e)) refl
  where
    nothing_above : (top : List ℕ) → IsAbove root top → ⊥
    nothing_above top (inl e) = absurd cc
    nothing_above top (inr m) = let h = m.1 in omega arith
