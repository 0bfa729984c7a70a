-- Climbing by names is reaching by their places.
use Rattle.std.proofs.Common.{◌≡◌, ℕ, ◌<◌, List, length, Option, Some, None, refl, sym, ap, ◌∙◌, subst, inl, inr, Contains, get_or, arith}
use Rattle.std.specs.Prelude.{◌⊎◌, ⊤, IsSomeAnd, option_map}
use Rattle.std.proofs.lemmas.List.Elements.{Contains-get_or}
use Rattle.std.proofs.lemmas.Option.{same_Some, slice_get_within, get_or_from_slice_get, slice_get-get_or}
use Rattle.dj_graph.specs.Graphs.{Edges, HasEdge, Reaches, Here, Along, AreComponents, IsInside}
use Rattle.dj_library.specs.trusted.Heads.{Head}
use Rattle.dj_hierarchy_rule.specs.declared.names.Known.{Known}
use Rattle.dj_hierarchy_rule.specs.trusted.Hierarchy.{HasSuch, IsMissing, Climbs, Stays, Rises}
use Rattle.dj_hierarchy_rule.specs.Names.{IsNamedAt, IsKnown, Names, known_at, place_of, AreNames}
use Rattle.dj_hierarchy_rule.specs.Edges.{AreEdges, AreJoined}

-- ---- places

named_at : (heads : List Head) (name : List ℕ) (known : Option Known) (place : ℕ) → IsKnown heads name known → option_map (λ (k : Known). k.place) known ≡ Some place → IsNamedAt heads place name
named_at heads name None place is e = absurd cc
named_at heads name (Some known) place is e = subst (λ (p : ℕ). IsNamedAt heads p name) (same_Some known.place place e) is.place

known_or_missing : (heads : List Head) (name : List ℕ) (known : Option Known) → IsKnown heads name known → IsMissing (Contains heads) name ⊎ ((place : ℕ) × (option_map (λ (k : Known). k.place) known ≡ Some place))
known_or_missing heads name None is = inl is
known_or_missing heads name (Some known) is = inr (known.place, refl)

pub is_within : (heads : List Head) (place : ℕ) (name : List ℕ) → IsNamedAt heads place name → place < length heads
is_within heads place name (head, at, named) = slice_get_within heads place head at

named_is_there : (heads : List Head) (place : ℕ) (name : List ℕ) → IsNamedAt heads place name → HasSuch (Contains heads) (λ _. ⊤) name
named_is_there heads place name (head, at, named) = (head, (place, slice_get_within heads place head at, get_or_from_slice_get heads place head head at), named, tt)

one_name : (heads : List Head) (place : ℕ) (a b : List ℕ) → IsNamedAt heads place a → IsNamedAt heads place b → a ≡ b
one_name heads place a b (head, at, named) (head', at', named') = sym named ∙ ap (λ (h : Head). h.name) (same_Some head head' (sym at ∙ at')) ∙ named'

-- what is reached from a name that no class has is that name
pub stays_missing : (IsThere : Head → Type 0) (low high : List ℕ) → IsMissing IsThere low → Climbs IsThere low high → low ≡ high
stays_missing IsThere low high missing (Stays name) = refl
stays_missing IsThere low high missing (Rises head is above top over rest) = absurd (missing (head, is, refl, tt))

module _ (heads : List Head) (names : Names) (known : AreNames heads names) where
  pub has_name : (name : List ℕ) (place : ℕ) → place_of names name ≡ Some place → IsNamedAt heads place name
  has_name name place e = named_at heads name (known_at names name) place (known.each name) e

  pub missing_or_placed : (name : List ℕ) → IsMissing (Contains heads) name ⊎ ((place : ℕ) × (place_of names name ≡ Some place))
  missing_or_placed name = known_or_missing heads name (known_at names name) (known.each name)

  pub place_of_class : (head : Head) → Contains heads head → (place : ℕ) × (place_of names head.name ≡ Some place)
  place_of_class head there = elim (missing_or_placed head.name) [ inl missing ↦ absurd (missing (head, there, refl, tt)) | inr placed ↦ placed ]

  same_name : (a b : List ℕ) (place : ℕ) → place_of names a ≡ Some place → place_of names b ≡ Some place → a ≡ b
  same_name a b place e f = one_name heads place a b (has_name a place e) (has_name b place f)

  pub placed_is_there : (name : List ℕ) (place : ℕ) → place_of names name ≡ Some place → IsMissing (Contains heads) name → ⊥
  placed_is_there name place e missing = missing (named_is_there heads place name (has_name name place e))

-- ---- ways up

module _ (heads : List Head) (names : Names) (known : AreNames heads names) (count : ℕ) (edges : Edges) (made : AreEdges count heads names edges) where
  reaches_up : (low high : List ℕ) (from to : ℕ) → place_of names low ≡ Some from → place_of names high ≡ Some to → Climbs (Contains heads) low high → Reaches edges from to
  reaches_up low high from to e f (Stays name) = subst (λ (place : ℕ). Reaches edges from place) (same_Some from to (sym e ∙ f)) Here
  reaches_up low high from to e f (Rises head is above top over rest) =
      elim (missing_or_placed heads names known above) [
        | inl missing ↦
            let same : above ≡ high = stays_missing (Contains heads) above high missing rest in
            absurd (placed_is_there heads names known high to f (subst (IsMissing (Contains heads)) same missing))
        | inr mid ↦ Along ((made.each from mid.0).1 (head, is, e, (above, over, mid.1))) (reaches_up above high mid.0 to mid.1 f rest)
      ]

  climbs_along : (low high : List ℕ) (from to : ℕ) → place_of names low ≡ Some from → place_of names high ≡ Some to → Reaches edges from to → Climbs (Contains heads) low high
  climbs_along low high from to e f Here = subst (λ (name : List ℕ). Climbs (Contains heads) low name) (same_name heads names known low high from e f) (Stays low)
  climbs_along low high from to e f (Along {b = mid} edge rest) =
      let (head, is, own, (above, over, at)) = (made.each from mid).0 edge in
      subst (λ (name : List ℕ). Climbs (Contains heads) name high) (same_name heads names known head.name low from own e) (Rises head is above high over (climbs_along above high mid to at f rest))

  pub joined : (numbers : List ℕ) → count ≡ length heads → AreComponents edges numbers → AreJoined heads names numbers
  joined numbers all components = record {
    all = components.all ∙ made.all ∙ all;
    each = λ low high from to m n e f g h. (
      λ same. let ways = (components.each from to m n g h).0 same in (climbs_along low high from to e f ways.0, climbs_along high low to from f e ways.1),
      λ ways. (components.each from to m n g h).1 (reaches_up low high from to e f ways.0, reaches_up high low to from f e ways.1),
    );
  }

  has_edge : (from : ℕ) (d : List ℕ) (to e : ℕ) → from < length edges → to < length (get_or edges from d) → HasEdge edges from (get_or (get_or edges from d) to e)
  has_edge from d to e l m =
      subst (λ (targets : Option (List ℕ)). IsSomeAnd targets (λ ts. Contains ts (get_or (get_or edges from d) to e))) (sym (slice_get-get_or edges from d l)) (Contains-get_or (get_or edges from d) to e m)

  target_within : (from to : ℕ) → HasEdge edges from to → to < length heads
  target_within from to edge =
      let (head, is, own, (above, over, at)) = (made.each from to).0 edge in
      is_within heads to above (has_name heads names known above to at)

  pub all_inside : count ≡ length heads → IsInside edges
  all_inside all from d l to e m =
      let within : get_or (get_or edges from d) to e < length heads = target_within from (get_or (get_or edges from d) to e) (has_edge from d to e l m) in
      omega (arith, made.all)
