-- What is kept of names: for each name that some class has, the place of one of its classes, and which kinds of classes have it.
use Rattle.std.specs.Prelude.{◌≡◌, ◌↔◌, ℕ, Bool, IsTrue, not, ◌||◌, List, Option, Some, None, Contains, slice_get}
use Rattle.std.specs.Option.{option_map}
use Rattle.std.specs.Borrow.{Bor}
use Rattle.std.specs.Ordering.{nat_cmp}
use Rattle.std.specs.Cmp.Lexicographic.{slice_cmp}
use Rattle.std.specs.BTreeMap.{BTreeMap, get_by}
use Rattle.dj_library.specs.trusted.Heads.{Head}
use Rattle.dj_hierarchy_rule.specs.declared.names.Known.{Known}
use Rattle.dj_hierarchy_rule.specs.trusted.Hierarchy.{HasSuch, IsMissing, IsInterface, IsFinal}

-- the class at the place has the name
abbrev pub IsNamedAt : List Head → ℕ → List ℕ → Type 0
IsNamedAt heads place name = (head : Head) × (slice_get heads place ≡ Some head) × (head.name ≡ name)

-- what is kept of a name that a class has
pub record IsKnownAs (heads : List Head) (name : List ℕ) (known : Known) : Type 0 where
  pub place : IsNamedAt heads known.place name
  pub interfaces : IsTrue known.has_interface ↔ HasSuch (Contains heads) IsInterface name
  pub classes : IsTrue known.has_class ↔ HasSuch (Contains heads) (λ head. IsInterface head → ⊥) name
  pub finals : IsTrue known.has_final ↔ HasSuch (Contains heads) IsFinal name

abbrev pub IsKnown : List Head → List ℕ → Option Known → Type 0
IsKnown heads name None = IsMissing (Contains heads) name
IsKnown heads name (Some known) = IsKnownAs heads name known

abbrev pub Names : Type 0
Names = BTreeMap (Bor (List ℕ)) Known

-- what is kept of a name
abbrev pub known_at : Names → List ℕ → Option Known
known_at names name = get_by (λ key. slice_cmp nat_cmp name key.now) names

-- the place that represents a name
abbrev pub place_of : Names → List ℕ → Option ℕ
place_of names name = option_map (λ known. known.place) (known_at names name)

-- what is kept of each name is right
pub record AreNames (heads : List Head) (names : Names) : Type 0 where
  pub each : (name : List ℕ) → IsKnown heads name (known_at names name)

-- what is kept of a name once a class at this place has it too
abbrev pub widened_known : Option Known → ℕ → Bool → Bool → Known
widened_known None place is_interface is_final = record {
  place = place;
  has_interface = is_interface;
  has_class = not is_interface;
  has_final = is_final;
}
widened_known (Some known) place is_interface is_final = record {
  place = known.place;
  has_interface = known.has_interface || is_interface;
  has_class = known.has_class || not is_interface;
  has_final = known.has_final || is_final;
}
