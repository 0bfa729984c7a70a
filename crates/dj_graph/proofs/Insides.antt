-- Each edge leads to a node: the lists of targets are looked at one after the other.
use Rattle.std.proofs.Common.{◌≡◌, ℕ, ◌+◌, ◌<◌, ◌≤◌, List, [], length, get_or, All, sym, ◌∙◌, subst, inl, inr, arith}
use Rattle.std.specs.Global.{Vec}
use Rattle.std.proofs.lemmas.Option.{same_Some, slice_get-get_or, get_or_from_slice_get}
use Rattle.dj_graph.specs.Graphs.{IsInside, edges_of}
use Rattle.dj_graph.proofs.Lists.{At, same_or_not}
use Rattle.dj_graph.proofs.EdgeLists.{edges_count, targets_at}

-- the targets of the first k nodes are nodes
pub record AreInside (lists : List (Vec ℕ)) (k : ℕ) : Type 0 where
  pub inside : (a : ℕ) (targets : List ℕ) → a < k → At (edges_of lists) a targets → All (λ target. target < length lists) targets

pub inside_none : (lists : List (Vec ℕ)) → AreInside lists 0
inside_none lists = record { inside = λ a targets lt at. absurd (omega (arith, lt)) }

pub inside_more : (lists : List (Vec ℕ)) (k : ℕ) (targets : Vec ℕ) → AreInside lists k → k < length lists → targets ≡ get_or lists k targets → All (λ target. target < length lists) targets.items → AreInside lists (k + 1)
inside_more lists k targets so_far within is all = record {
  inside = λ a others lt at. elim (same_or_not a k) [
    | inl same ↦
        let here : At (edges_of lists) k targets.items = targets_at lists k targets within is in
        let one : targets.items ≡ others = same_Some targets.items others (sym here ∙ subst (λ j. At (edges_of lists) j others) same at) in
        subst (λ ts. All (λ target. target < length lists) ts) one all
    | inr other ↦ so_far.inside a others (omega (arith, lt, other)) at
  ];
}

pub inside_all : (lists : List (Vec ℕ)) (k : ℕ) → AreInside lists k → length lists ≤ k → IsInside (edges_of lists)
inside_all lists k so_far past a d within =
    let count = edges_count lists in
    let here : At (edges_of lists) a (get_or (edges_of lists) a d) = slice_get-get_or (edges_of lists) a d within in
    let all = so_far.inside a (get_or (edges_of lists) a d) (omega (arith, within, count, past)) here in
    subst (λ n. All (λ target. target < n) (get_or (edges_of lists) a d)) (sym count) all

pub not_inside : (lists : List (Vec ℕ)) (k : ℕ) (targets : Vec ℕ) → k < length lists → targets ≡ get_or lists k targets → (All (λ target. target < length lists) targets.items → ⊥) → IsInside (edges_of lists) → ⊥
not_inside lists k targets within is apart inside =
    let count = edges_count lists in
    let here : At (edges_of lists) k targets.items = targets_at lists k targets within is in
    let list : get_or (edges_of lists) k [] ≡ targets.items = get_or_from_slice_get (edges_of lists) k targets.items [] here in
    let all = inside k [] (omega (arith, within, count)) in
    apart (subst (λ n. All (λ target. target < n) targets.items) count (subst (λ ts. All (λ target. target < length (edges_of lists)) ts) list all))
