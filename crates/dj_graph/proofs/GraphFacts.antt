-- Graphs at plain values, and which numbers are those of their components.
use Rattle.std.proofs.Common.{◌≡◌, ℕ, zero, suc, ◌+◌, ◌<◌, ◌≤◌, List, [], ◌∷◌, length, get_or, refl, sym, subst, lit<, lit≤, arith}
use Rattle.std.proofs.lemmas.Option.{none-some, same_Some, get_or_from_slice_get}
use Rattle.dj_graph.specs.Graphs.{Edges, HasEdge, Reaches, Here, Along, AreComponents, IsInside, edges_of}
use Rattle.dj_graph.proofs.Lists.{At}
use Rattle.dj_graph.proofs.Reaching.{stays_within, edge_parts, then_reaches}

-- a ring of three, with a node before it and one after it
abbrev ring : Edges
ring = (1 ∷ []) ∷ (2 ∷ []) ∷ (3 ∷ []) ∷ (1 ∷ 4 ∷ []) ∷ [] ∷ []

abbrev two_rings : Edges
two_rings = (1 ∷ []) ∷ (0 ∷ 2 ∷ []) ∷ (3 ∷ []) ∷ (2 ∷ []) ∷ []

-- the first node has an edge to itself, and one to the second
abbrev own : Edges
own = (0 ∷ 1 ∷ []) ∷ [] ∷ []

-- ---- edges

edge_there : HasEdge ring 3 4
edge_there = (1, lit< tt, refl)

no_edge : HasEdge ring 4 3 → ⊥
no_edge edge = omega (arith, edge.1)

no_node : HasEdge ring 5 0 → ⊥
no_node edge = edge

inside : IsInside own
inside zero d lt zero d' lt' = lit< tt
inside zero d lt (suc zero) d' lt' = lit< tt
inside zero d lt (suc (suc e)) d' lt' = absurd (omega (arith, lt'))
inside (suc zero) d lt e d' lt' = absurd (omega (arith, lt'))
inside (suc (suc a)) d lt e d' lt' = absurd (omega (arith, lt))

outside : IsInside ((1 ∷ []) ∷ []) → ⊥
outside all = let h : 1 < 1 = all 0 [] (lit< tt) 0 0 (lit< tt) in omega (arith, h)

none_held : edges_of [] ≡ []
none_held = refl

-- ---- ranks that never rise along an edge rise along no way

abbrev AreLow : List ℕ → ℕ → List ℕ → Type 0
AreLow ranks n [] = Unit {0}
AreLow ranks n (target ∷ targets) = (get_or ranks target 0 ≤ n) × AreLow ranks n targets

abbrev AllLow : List ℕ → List ℕ → Edges → Type 0
AllLow ranks rest [] = Unit {0}
AllLow ranks [] (targets ∷ edges) = AreLow ranks 0 targets × AllLow ranks [] edges
AllLow ranks (n ∷ rest) (targets ∷ edges) = AreLow ranks n targets × AllLow ranks rest edges

low_at : (ranks : List ℕ) (n e b : ℕ) (targets : List ℕ) → AreLow ranks n targets → At targets e b → get_or ranks b 0 ≤ n
low_at ranks n e b [] low at = absurd (none-some b at)
low_at ranks n zero b (target ∷ targets) low at = subst (λ x. get_or ranks x 0 ≤ n) (same_Some target b at) low.0
low_at ranks n (suc e) b (target ∷ targets) low at = low_at ranks n e b targets low.1 at

all_low_at : (ranks rest : List ℕ) (edges : Edges) (a e b : ℕ) (targets : List ℕ) → AllLow ranks rest edges → At edges a targets → At targets e b → get_or ranks b 0 ≤ get_or rest a 0
all_low_at ranks rest [] a e b targets low node edge = absurd (none-some targets node)
all_low_at ranks [] (first ∷ edges) zero e b targets low node edge = low_at ranks 0 e b first low.0 (subst (λ ts. At ts e b) (sym (same_Some first targets node)) edge)
all_low_at ranks [] (first ∷ edges) (suc a) e b targets low node edge = all_low_at ranks [] edges a e b targets low.1 node edge
all_low_at ranks (n ∷ rest) (first ∷ edges) zero e b targets low node edge = low_at ranks n e b first low.0 (subst (λ ts. At ts e b) (sym (same_Some first targets node)) edge)
all_low_at ranks (n ∷ rest) (first ∷ edges) (suc a) e b targets low node edge = all_low_at ranks rest edges a e b targets low.1 node edge

no_way_up : (ranks : List ℕ) (edges : Edges) (a b : ℕ) → AllLow ranks ranks edges → Reaches edges a b → get_or ranks b 0 ≤ get_or ranks a 0
no_way_up ranks edges a b low way =
    let P : ℕ → Type 0 = λ x. get_or ranks x 0 ≤ get_or ranks a 0 in
    let step : (x y : ℕ) → P x → HasEdge edges x y → P y = λ x y here edge.
    (let parts = edge_parts edges x y edge in
    let le : get_or ranks y 0 ≤ get_or ranks x 0 = all_low_at ranks ranks edges x parts.1 y parts.0 low parts.2 parts.3 in
    omega (arith, le, here)) in
    let start : P a = omega arith in
    stays_within P step way start

-- each node from a on reaches the node of its number, and is reached from it
abbrev AreNear : Edges → List ℕ → ℕ → List ℕ → Type 0
AreNear edges nodes a [] = Unit {0}
AreNear edges nodes a (m ∷ numbers) = (Reaches edges a (get_or nodes m 0) × Reaches edges (get_or nodes m 0) a) × AreNear edges nodes (suc a) numbers

near_at : (edges : Edges) (nodes : List ℕ) (a i m : ℕ) (numbers : List ℕ) → AreNear edges nodes a numbers → At numbers i m → Reaches edges (a + i) (get_or nodes m 0) × Reaches edges (get_or nodes m 0) (a + i)
near_at edges nodes a i m [] near at = absurd (none-some m at)
near_at edges nodes a zero m (n ∷ numbers) near at =
    let here : n ≡ m = same_Some n m at in
    let spot : a ≡ a + 0 = omega arith in
    subst (λ x. Reaches edges x (get_or nodes m 0) × Reaches edges (get_or nodes m 0) x) spot (subst (λ x. Reaches edges a (get_or nodes x 0) × Reaches edges (get_or nodes x 0) a) here near.0)
near_at edges nodes a (suc i) m (n ∷ numbers) near at =
    let spot : suc a + i ≡ a + suc i = omega arith in
    subst (λ x. Reaches edges x (get_or nodes m 0) × Reaches edges (get_or nodes m 0) x) spot (near_at edges nodes (suc a) i m numbers near.1 at)

known : (edges : Edges) (nodes numbers : List ℕ) (a m : ℕ) → AreNear edges nodes 0 numbers → At numbers a m → Reaches edges a (get_or nodes m 0) × Reaches edges (get_or nodes m 0) a
known edges nodes numbers a m near at =
    let spot : 0 + a ≡ a = omega arith in
    subst (λ x. Reaches edges x (get_or nodes m 0) × Reaches edges (get_or nodes m 0) x) spot (near_at edges nodes 0 a m numbers near at)

-- numbers that are ranks, too, and differ where the nodes do
by_ranks : (edges : Edges) (numbers nodes : List ℕ) → length numbers ≡ length edges → AllLow numbers numbers edges → AreNear edges nodes 0 numbers → AreComponents edges numbers
by_ranks edges numbers nodes count low near = record {
  all = count;
  each = λ a b m n at_a at_b.
      let near_a = known edges nodes numbers a m near at_a in
      let near_b = known edges nodes numbers b n near at_b in (
        λ same. (then_reaches near_a.0 (subst (λ x. Reaches edges (get_or nodes x 0) b) (sym same) near_b.1), then_reaches near_b.0 (subst (λ x. Reaches edges (get_or nodes x 0) a) same near_a.1)),
        λ both.
            let there = no_way_up numbers edges a b low both.0 in
            let back = no_way_up numbers edges b a low both.1 in
            let is_a = get_or_from_slice_get numbers a m 0 at_a in
            let is_b = get_or_from_slice_get numbers b n 0 at_b in
            omega (arith, there, back, is_a, is_b),
      );
}

-- ---- what reaches what

edge_to : (edges : Edges) (a b c : ℕ) → HasEdge edges a b → Reaches edges b c → Reaches edges a c
edge_to edges a b c edge rest = Along edge rest

one_two : Reaches ring 1 2
one_two = edge_to ring 1 2 2 (0, lit< tt, refl) Here

three_one : Reaches ring 3 1
three_one = edge_to ring 3 1 1 (0, lit< tt, refl) Here

two_one : Reaches ring 2 1
two_one = edge_to ring 2 3 1 (0, lit< tt, refl) three_one

one_three : Reaches ring 1 3
one_three = edge_to ring 1 2 3 (0, lit< tt, refl) (edge_to ring 2 3 3 (0, lit< tt, refl) Here)

ring_low : AllLow (2 ∷ 1 ∷ 1 ∷ 1 ∷ 0 ∷ []) (2 ∷ 1 ∷ 1 ∷ 1 ∷ 0 ∷ []) ring
ring_low = ((lit≤ tt, tt), ((lit≤ tt, tt), ((lit≤ tt, tt), ((lit≤ tt, (lit≤ tt, tt)), (tt, tt)))))

-- the node after the ring reaches no node of it, nor does the ring the node before it
four_not_three : Reaches ring 4 3 → ⊥
four_not_three way = let h : 1 ≤ 0 = no_way_up (2 ∷ 1 ∷ 1 ∷ 1 ∷ 0 ∷ []) ring 4 3 ring_low way in omega (arith, h)

one_not_zero : Reaches ring 1 0 → ⊥
one_not_zero way = let h : 2 ≤ 1 = no_way_up (2 ∷ 1 ∷ 1 ∷ 1 ∷ 0 ∷ []) ring 1 0 ring_low way in omega (arith, h)

rings_low : AllLow (1 ∷ 1 ∷ 0 ∷ 0 ∷ []) (1 ∷ 1 ∷ 0 ∷ 0 ∷ []) two_rings
rings_low = ((lit≤ tt, tt), ((lit≤ tt, (lit≤ tt, tt)), ((lit≤ tt, tt), ((lit≤ tt, tt), tt))))

own_low : AllLow (1 ∷ 0 ∷ []) (1 ∷ 0 ∷ []) own
own_low = ((lit≤ tt, (lit≤ tt, tt)), (tt, tt))

-- ---- components

ring_components : AreComponents ring (2 ∷ 1 ∷ 1 ∷ 1 ∷ 0 ∷ [])
ring_components =
    by_ranks ring (2 ∷ 1 ∷ 1 ∷ 1 ∷ 0 ∷ []) (4 ∷ 1 ∷ 0 ∷ []) refl ring_low ((Here, Here), ((Here, Here), ((two_one, one_two), ((three_one, one_three), ((Here, Here), tt)))))

two_components : AreComponents two_rings (1 ∷ 1 ∷ 0 ∷ 0 ∷ [])
two_components =
    let one_zero : Reaches two_rings 1 0 = edge_to two_rings 1 0 0 (0, lit< tt, refl) Here in
    let zero_one : Reaches two_rings 0 1 = edge_to two_rings 0 1 1 (0, lit< tt, refl) Here in
    let three_two : Reaches two_rings 3 2 = edge_to two_rings 3 2 2 (0, lit< tt, refl) Here in
    let two_three : Reaches two_rings 2 3 = edge_to two_rings 2 3 3 (0, lit< tt, refl) Here in
    by_ranks two_rings (1 ∷ 1 ∷ 0 ∷ 0 ∷ []) (2 ∷ 0 ∷ []) refl rings_low ((Here, Here), ((one_zero, zero_one), ((Here, Here), ((three_two, two_three), tt))))

own_components : AreComponents own (1 ∷ 0 ∷ [])
own_components = by_ranks own (1 ∷ 0 ∷ []) (1 ∷ 0 ∷ []) refl own_low ((Here, Here), ((Here, Here), tt))

no_components : AreComponents [] []
no_components = record { all = refl; each = λ a b m n at_a. absurd (none-some m at_a) }

-- not a ring as three
ring_as_three : AreComponents ring (4 ∷ 3 ∷ 2 ∷ 1 ∷ 0 ∷ []) → ⊥
ring_as_three are = let same : 3 ≡ 2 = (are.each 1 2 3 2 refl refl).1 (one_two, two_one) in omega (arith, same)

-- nor two rings as one
rings_as_one : AreComponents two_rings (0 ∷ 0 ∷ 0 ∷ 0 ∷ []) → ⊥
rings_as_one are =
    let both = (are.each 0 2 0 0 refl refl).0 refl in
    let h : 1 ≤ 0 = no_way_up (1 ∷ 1 ∷ 0 ∷ 0 ∷ []) two_rings 2 0 rings_low both.1 in
    omega (arith, h)

-- a node too few
too_few : AreComponents own (1 ∷ []) → ⊥
too_few are = let count : 1 ≡ 2 = are.all in omega (arith, count)
