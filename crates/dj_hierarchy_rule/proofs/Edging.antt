-- Targets and edges that come to others.
use Rattle.std.proofs.Common.{◌≡◌, ◌≢◌, ◌↔◌, ℕ, suc, zero, ◌<◌, List, [], ◌∷◌, ◌++◌, ◌+◌, length, map, take, get_or, set, Bor, Option, Some, None, Ok, Err, refl, sym, ap, ◌∙◌, subst, inl, inr, Contains, arith, length-set, ⊎_elim}
use Rattle.std.specs.Prelude.{◌⊎◌, OnOk, IfSome, Result, slice_get, IsSomeAnd, option_map, replicate}
use Rattle.std.specs.Global.{Vec}
use Rattle.std.proofs.lemmas.Bool.{cases_eq}
use Rattle.std.proofs.lemmas.List.{map-append, length-map}
use Rattle.std.proofs.lemmas.Option.{same_Some, none-some, slice_get_read, slice_get-map}
use Rattle.std.proofs.lemmas.List.Elements.{Contains-append_left, Contains-push, Contains-push_cases}
use Rattle.dj_graph.specs.Graphs.{Edges, HasEdge, edges_of}
use Rattle.dj_library.specs.trusted.Heads.{Head}
use Rattle.dj_hierarchy_rule.specs.declared.names.Known.{Known}
use Rattle.dj_hierarchy_rule.specs.trusted.Hierarchy.{IsAbove}
use Rattle.dj_hierarchy_rule.specs.Names.{Names, known_at, place_of}
use Rattle.dj_hierarchy_rule.specs.Edges.{IsPlaceAbove, GainsPlaces, GainsEdges, IsMadeEdge, AreEdges}
use Rattle.dj_hierarchy_rule.specs.Views.{text_of}
use Rattle.dj_hierarchy_rule.proofs.Anys.{seen_more}

pub ok_then : {T E P Q : Type 0} (r : Result T E) → (P → Q) → OnOk r P → OnOk r Q
ok_then (Ok x) f p = f p
ok_then (Err e) f p = p

-- ---- targets

gains_none : (names : Names) (IsSuch : List ℕ → Type 0) (targets : List ℕ) → ((name : List ℕ) → IsSuch name → place_of names name ≡ None) → GainsPlaces names IsSuch targets targets
gains_none names IsSuch targets none target = (
  λ m. inl m,
  λ any. elim any [ inl old ↦ old | inr (name, is, e) ↦ absurd (none-some target (sym (none name is) ∙ e)) ],
)

gains_one : (names : Names) (name : List ℕ) (place : ℕ) (old new : List ℕ) → place_of names name ≡ Some place → new ≡ old ++ place ∷ [] → GainsPlaces names (λ added. added ≡ name) old new
gains_one names name place old new at is = subst (λ (targets : List ℕ). GainsPlaces names (λ added. added ≡ name) old targets) (sym is) pushed
  where
    pushed : GainsPlaces names (λ added. added ≡ name) old (old ++ place ∷ [])
    pushed target = (
      λ m. elim (Contains-push_cases old place target m) [ inl had ↦ inl had | inr e ↦ inr (name, refl, at ∙ ap Some e) ],
      λ any. elim any [
        | inl had ↦ Contains-append_left old (place ∷ []) target had
        | inr (added, e, f) ↦
            let same : place ≡ target = same_Some place target (sym at ∙ sym (ap (place_of names) e) ∙ f) in
            subst (λ (t : ℕ). Contains (old ++ place ∷ []) t) same (Contains-push old place)
      ],
    )

pub gains_unknown : (names : Names) (name : List ℕ) (targets : List ℕ) → known_at names name ≡ None → GainsPlaces names (λ added. added ≡ name) targets targets
gains_unknown names name targets none =
    gains_none names (λ added. added ≡ name) targets (λ added is. ap (place_of names) is ∙ ap (option_map (λ (known : Known). known.place)) none)

pub gains_known : (names : Names) (name : List ℕ) (known : Known) (old new : List ℕ) → known_at names name ≡ Some known → new ≡ old ++ known.place ∷ [] → GainsPlaces names (λ added. added ≡ name) old new
gains_known names name known old new at is = gains_one names name known.place old new (ap (option_map (λ (k : Known). k.place)) at) is

pub gains_both : (names : Names) (P Q R : List ℕ → Type 0) (old mid new : List ℕ) → ((name : List ℕ) → R name ↔ (P name ⊎ Q name)) → GainsPlaces names P old mid → GainsPlaces names Q mid new → GainsPlaces names R old new
gains_both names P Q R old mid new either first second target = (
  λ m. elim ((second target).0 m) [
    | inl was ↦ elim ((first target).0 was) [ inl had ↦ inl had | inr (name, p, e) ↦ inr (name, (either name).1 (inl p), e) ]
    | inr (name, q, e) ↦ inr (name, (either name).1 (inr q), e)
  ],
  λ any. elim any [
    | inl had ↦ (second target).1 (inl ((first target).1 (inl had)))
    | inr (name, r, e) ↦ elim ((either name).0 r) [
      | inl p ↦ (second target).1 (inl ((first target).1 (inr (name, p, e))))
      | inr q ↦ (second target).1 (inr (name, q, e))
    ]
  ],
)

pub gains_same : (names : Names) (P Q : List ℕ → Type 0) (old new : List ℕ) → ((name : List ℕ) → P name ↔ Q name) → GainsPlaces names P old new → GainsPlaces names Q old new
gains_same names P Q old new same gains target = (
  λ m. elim ((gains target).0 m) [ inl had ↦ inl had | inr (name, p, e) ↦ inr (name, (same name).0 p, e) ],
  λ any. elim any [ inl had ↦ (gains target).1 (inl had) | inr (name, q, e) ↦ (gains target).1 (inr (name, (same name).1 q, e)) ],
)

-- the names so far, and one more
pub gains_next : (names : Names) (above : List (Bor (List ℕ))) (i : ℕ) (d : Bor (List ℕ)) (initial mid new : List ℕ) → i < length above → GainsPlaces names (Contains (map text_of (take i above))) initial mid
    → GainsPlaces names (λ added. added ≡ text_of (get_or above i d)) mid new → GainsPlaces names (Contains (map text_of (take (i + 1) above))) initial new
gains_next names above i d initial mid new lt before here =
    gains_both names (Contains (map text_of (take i above))) (λ added. added ≡ text_of (get_or above i d)) (Contains (map text_of (take (i + 1) above))) initial mid new either before here
  where
    either : (name : List ℕ) → Contains (map text_of (take (i + 1) above)) name ↔ (Contains (map text_of (take i above)) name ⊎ (name ≡ text_of (get_or above i d)))
    either name = (
      λ m. elim (Contains-push_cases (map text_of (take i above)) (text_of (get_or above i d)) name (subst (λ (ts : List (List ℕ)). Contains ts name) (seen_more text_of above i d lt) m)) [ inl had ↦ inl had | inr e ↦ inr (sym e) ],
      λ any. subst (λ (ts : List (List ℕ)). Contains ts name) (sym (seen_more text_of above i d lt)) (elim any [
        | inl had ↦ Contains-append_left (map text_of (take i above)) (text_of (get_or above i d) ∷ []) name had
        | inr e ↦ subst (λ (t : List ℕ). Contains (map text_of (take i above) ++ text_of (get_or above i d) ∷ []) t) (sym e) (Contains-push (map text_of (take i above)) (text_of (get_or above i d)))
      ]),
    )

pub gains_nothing : (names : Names) (targets : List ℕ) → GainsPlaces names (Contains []) targets targets
gains_nothing names targets = gains_none names (Contains []) targets (λ name m. let h = m.1 in absurd (omega arith))

pub above_none : (names : Names) (head : Head) (old new : List ℕ) → head.superclass ≡ None → GainsPlaces names (Contains head.interfaces) old new → GainsPlaces names (IsAbove head) old new
above_none names head old new none =
    gains_same names (Contains head.interfaces) (IsAbove head) old new
    (λ name. (λ m. inr m, λ above. elim above [ inl e ↦ absurd (none-some name (sym none ∙ e)) | inr m ↦ m ]))

pub above_some : (names : Names) (head : Head) (name : List ℕ) (old mid new : List ℕ) → head.superclass ≡ Some name → GainsPlaces names (λ added. added ≡ name) old mid → GainsPlaces names (Contains head.interfaces) mid new
    → GainsPlaces names (IsAbove head) old new
above_some names head name old mid new some first second =
    gains_both names (λ added. added ≡ name) (Contains head.interfaces) (IsAbove head) old mid new
    (λ n. (
      λ above. elim above [ inl e ↦ inl (same_Some n name (sym e ∙ some)) | inr m ↦ inr m ],
      λ any. elim any [ inl e ↦ inl (some ∙ ap Some (sym e)) | inr m ↦ inr m ],
    ))
    first second

-- ---- edges

module _ {X : Type 0} where
  get_set_same : (xs : List X) (i : ℕ) (v : X) → i < length xs → slice_get (set xs i v) i ≡ Some v
  get_set_same [] i v l = absurd (omega arith)
  get_set_same (x ∷ xs) zero v l = refl
  get_set_same (x ∷ xs) (suc i) v l = get_set_same xs i v (omega arith)

  get_set_other : (xs : List X) (i k : ℕ) (v : X) → k ≢ i → slice_get (set xs i v) k ≡ slice_get xs k
  get_set_other [] i k v differs = refl
  get_set_other (x ∷ xs) zero zero v differs = absurd (differs refl)
  get_set_other (x ∷ xs) zero (suc k) v differs = refl
  get_set_other (x ∷ xs) (suc i) zero v differs = refl
  get_set_other (x ∷ xs) (suc i) (suc k) v differs = get_set_other xs i k v (λ e. differs (ap suc e))

none_in : (target : ℕ) → Contains [] target → ⊥
none_in target m = let h = m.1 in omega arith

no_edge : (count from to : ℕ) → HasEdge (replicate count []) from to → ⊥
no_edge zero from to edge = edge
no_edge (suc count) zero to edge = none_in to edge
no_edge (suc count) (suc from) to edge = no_edge count from to edge

length_none : (count : ℕ) → length (replicate {A = List ℕ} count []) ≡ count
length_none zero = refl
length_none (suc count) = ap suc (length_none count)

replicate_last : {X : Type 0} (n : ℕ) (x : X) → replicate n x ++ x ∷ [] ≡ replicate (suc n) x
replicate_last zero x = refl
replicate_last (suc n) x = ap (λ (xs : List _). x ∷ xs) (replicate_last n x)

pub one_without : (edges new : List (Vec ℕ)) (node : Vec ℕ) (n : ℕ) → node.items ≡ [] → new ≡ edges ++ node ∷ [] → edges_of edges ≡ replicate n [] → edges_of new ≡ replicate (n + 1) []
one_without edges new node n none is had =
    let more : n + 1 ≡ suc n = omega arith in
    ap edges_of is
    ∙ map-append (λ (nodes : Vec ℕ). nodes.items) edges (node ∷ [])
    ∙ ap (λ (es : Edges). es ++ node.items ∷ []) had
    ∙ ap (λ (ts : List ℕ). replicate n [] ++ ts ∷ []) none
    ∙ replicate_last n []
    ∙ ap (λ (m : ℕ). replicate {A = List ℕ} m []) (sym more)

pub no_edges : (count : ℕ) (names : Names) (edges : Edges) → edges ≡ replicate count [] → AreEdges count [] names edges
no_edges count names edges is = record {
  all = ap length is ∙ length_none count;
  each = λ from to. (
    λ edge. absurd (no_edge count from to (subst (λ (es : Edges). HasEdge es from to) is edge)),
    λ made. let m = made.1.1 in absurd (omega arith),
  );
}

made_kept : (heads : List Head) (head : Head) (names : Names) (from to : ℕ) → IsMadeEdge heads names from to → IsMadeEdge (heads ++ head ∷ []) names from to
made_kept heads head names from to (h, there, own, above) = (h, Contains-append_left heads (head ∷ []) h there, own, above)

made_cases : (heads : List Head) (head : Head) (names : Names) (from to : ℕ) → IsMadeEdge (heads ++ head ∷ []) names from to
    → IsMadeEdge heads names from to ⊎ ((place_of names head.name ≡ Some from) × IsPlaceAbove names head to)
made_cases heads head names from to (h, there, own, above) =
    elim (Contains-push_cases heads head h there) [
      | inl had ↦ inl (h, had, own, above)
      | inr e ↦ inr (ap (λ (x : Head). place_of names x.name) e ∙ own, subst (λ (x : Head). IsPlaceAbove names x to) (sym e) above)
    ]

-- a class whose name stands at no place makes no edge
pub edges_kept : (count : ℕ) (heads : List Head) (head : Head) (names : Names) (edges : Edges) → place_of names head.name ≡ None → AreEdges count heads names edges → AreEdges count (heads ++ head ∷ []) names edges
edges_kept count heads head names edges none made = record {
  all = made.all;
  each = λ from to. (
    λ edge. made_kept heads head names from to ((made.each from to).0 edge),
    λ more. elim (made_cases heads head names from to more) [ inl had ↦ (made.each from to).1 had | inr (own, above) ↦ absurd (none-some from (sym none ∙ own)) ],
  );
}

module _ (edges : Edges) (own : ℕ) (old new : List ℕ) (at : slice_get edges own ≡ Some old) (within : own < length edges) where
  edge_there : (to : ℕ) → HasEdge edges own to ↔ Contains old to
  edge_there to = (
    λ edge. subst (λ (targets : Option (List ℕ)). IsSomeAnd targets (λ ts. Contains ts to)) at edge,
    λ m. subst (λ (targets : Option (List ℕ)). IsSomeAnd targets (λ ts. Contains ts to)) (sym at) m,
  )

  edge_set : (to : ℕ) → HasEdge (set edges own new) own to ↔ Contains new to
  edge_set to = (
    λ edge. subst (λ (targets : Option (List ℕ)). IsSomeAnd targets (λ ts. Contains ts to)) (get_set_same edges own new within) edge,
    λ m. subst (λ (targets : Option (List ℕ)). IsSomeAnd targets (λ ts. Contains ts to)) (sym (get_set_same edges own new within)) m,
  )

  edge_other : (from to : ℕ) → from ≢ own → HasEdge (set edges own new) from to ↔ HasEdge edges from to
  edge_other from to differs = (
    λ edge. subst (λ (targets : Option (List ℕ)). IsSomeAnd targets (λ ts. Contains ts to)) (get_set_other edges own from new differs) edge,
    λ edge. subst (λ (targets : Option (List ℕ)). IsSomeAnd targets (λ ts. Contains ts to)) (sym (get_set_other edges own from new differs)) edge,
  )

  module _ (count : ℕ) (heads : List Head) (head : Head) (names : Names) (placed : place_of names head.name ≡ Some own) (gains : GainsPlaces names (IsAbove head) old new) (made : AreEdges count heads names edges) where
    own_edge : (to : ℕ) → HasEdge (set edges own new) own to ↔ IsMadeEdge (heads ++ head ∷ []) names own to
    own_edge to = (
      λ edge. elim ((gains to).0 ((edge_set to).0 edge)) [
        | inl had ↦ made_kept heads head names own to ((made.each own to).0 ((edge_there to).1 had))
        | inr above ↦ (head, Contains-push heads head, placed, above)
      ],
      λ more. (edge_set to).1 (elim (made_cases heads head names own to more) [
        | inl had ↦ (gains to).1 (inl ((edge_there to).0 ((made.each own to).1 had)))
        | inr (_, above) ↦ (gains to).1 (inr above)
      ]),
    )

    other_edge : (from to : ℕ) → from ≢ own → HasEdge (set edges own new) from to ↔ IsMadeEdge (heads ++ head ∷ []) names from to
    other_edge from to differs = (
      λ edge. made_kept heads head names from to ((made.each from to).0 ((edge_other from to differs).0 edge)),
      λ more. elim (made_cases heads head names from to more) [
        | inl had ↦ (edge_other from to differs).1 ((made.each from to).1 had)
        | inr (at_from, above) ↦ absurd (differs (same_Some from own (sym at_from ∙ placed)))
      ],
    )

    -- the edges of a class more
    pub edges_more : AreEdges count (heads ++ head ∷ []) names (set edges own new)
    edges_more = record {
      all = length-set edges own new ∙ made.all;
      each = λ from to. ⊎_elim
          (λ e. subst (λ (node : ℕ). HasEdge (set edges own new) node to ↔ IsMadeEdge (heads ++ head ∷ []) names node to) (sym e) (own_edge to))
          (λ differs. other_edge from to differs)
          (cases_eq from own);
    }

edges_set : (edges : List (Vec ℕ)) (i : ℕ) (node : Vec ℕ) → edges_of (set edges i node) ≡ set (edges_of edges) i node.items
edges_set [] i node = refl
edges_set (first ∷ rest) zero node = refl
edges_set (first ∷ rest) (suc i) node = ap (λ (es : Edges). first.items ∷ es) (edges_set rest i node)

if_some : (o : Option ℕ) (place : ℕ) (P : ℕ → Type 0) → o ≡ Some place → IfSome o P → P place
if_some o place P e p = subst (λ (x : Option ℕ). IfSome x P) e p

-- the edges of a class that stands at a place
pub head_more : (names : Names) (head : Head) (edges : List (Vec ℕ)) (known : Known) (old new : Vec ℕ) → known_at names head.name ≡ Some known → IfSome (place_of names head.name) (λ place. place < length edges)
    → old ≡ get_or edges known.place old → GainsPlaces names (IsAbove head) old.items new.items → GainsEdges names head (edges_of edges) (edges_of (set edges known.place new))
head_more names head edges known old new at few read gains count heads made =
    let placed : place_of names head.name ≡ Some known.place = ap (option_map (λ (k : Known). k.place)) at in
    let within : known.place < length edges = if_some (place_of names head.name) known.place (λ place. place < length edges) placed few in
    let there : slice_get (edges_of edges) known.place ≡ Some old.items =
    slice_get-map (λ (nodes : Vec ℕ). nodes.items) edges known.place ∙ ap (option_map (λ (nodes : Vec ℕ). nodes.items)) (slice_get_read edges (length edges) known.place old refl within read) in
    let inside : known.place < length (edges_of edges) = omega (arith, length-map edges (λ (nodes : Vec ℕ). nodes.items)) in
    subst (AreEdges count (heads ++ head ∷ []) names) (sym (edges_set edges known.place new))
    (edges_more (edges_of edges) known.place old.items new.items there inside count heads head names placed gains made)
