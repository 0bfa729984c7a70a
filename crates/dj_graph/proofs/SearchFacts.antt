-- The state of a search at plain values: two nodes that lead to each other were found and are open, the third isn't found.
use Rattle.std.proofs.Common.{◌≡◌, ℕ, zero, suc, ◌<◌, ◌≤◌, List, [], ◌∷◌, length, refl, ap, inl, inr, lit<, lit≤, arith}
use Rattle.std.proofs.lemmas.Option.{none-some, same_Some}
use Rattle.dj_graph.specs.declared.mark.NodeMark.{NodeMark}
use Rattle.dj_graph.specs.declared.mark.NodeMark.TheVariants.{Unfound, Open, Closed}
use Rattle.dj_graph.specs.declared.search.Search.{Search}
use Rattle.dj_graph.specs.Graphs.{Edges, HasEdge, Here, Along}
use Rattle.dj_graph.specs.Searches.{IsClosed, AllClosed, Rises, NoStart, IsSettled, IsLeft, IsPath, IsLinked, AreStarts, ArePlaces, AreWhole, KeepsFound, edges_left, Numbers, IsNew, Opens, Joins, Closes, Follows, Steps, IsLast, Explores}
use Rattle.dj_graph.proofs.Lists.{At}
use Rattle.dj_graph.proofs.Reaching.{stays_within}

abbrev marks : List NodeMark
marks = Open 0 ∷ Open 1 ∷ Unfound ∷ Closed 3 ∷ []

abbrev edges : Edges
edges = (1 ∷ []) ∷ (0 ∷ 2 ∷ []) ∷ [] ∷ [] ∷ []

-- ---- marks and lists

closed : IsClosed marks 3
closed = (3, refl)

not_closed : IsClosed marks 1 → ⊥
not_closed is = let e = same_Some (Open 1) (Closed is.0) is.1 in absurd cc

all_closed : AllClosed (Closed 3 ∷ [])
all_closed zero lt = (3, refl)
all_closed (suc a) lt = absurd (omega (arith, lt))

not_all_closed : AllClosed marks → ⊥
not_all_closed all = not_closed (all 1 (lit< tt))

rises : Rises (2 ∷ 5 ∷ [])
rises zero (suc zero) x y lt first second = let e = same_Some 2 x first in let f = same_Some 5 y second in omega (arith, e, f)
rises zero (suc (suc j)) x y lt first second = absurd (none-some y second)
rises (suc zero) (suc (suc j)) x y lt first second = absurd (none-some y second)
rises (suc (suc i)) j x y lt first second = absurd (none-some x first)
rises i zero x y lt first second = absurd (omega (arith, lt))
rises (suc zero) (suc zero) x y lt first second = absurd (omega (arith, lt))

does_not_rise : Rises (2 ∷ 2 ∷ []) → ⊥
does_not_rise up = let h : 2 < 2 = up 0 1 2 2 (lit< tt) refl refl in omega (arith, h)

last : IsLast (2 ∷ 5 ∷ []) 5
last = (lit< tt, refl)

not_last : IsLast (2 ∷ 5 ∷ []) 2 → ⊥
not_last is = let e : 5 ≡ 2 = same_Some 5 2 is.1 in omega (arith, e)

none_last : (x : ℕ) → IsLast [] x → ⊥
none_last x is = omega (arith, is.0)

-- one list of starts cuts 0 from 1, the other doesn't
one_start : NoStart (0 ∷ []) 0 1
one_start zero x at above most = let e = same_Some 0 x at in omega (arith, e, above)
one_start (suc s) x at above most = absurd (none-some x at)

a_start : NoStart (0 ∷ 1 ∷ []) 0 1 → ⊥
a_start none = none 1 1 refl (lit< tt) (lit≤ tt)

-- ---- the edge from the second node to the first is dealt with once the two are one component

settled : IsSettled marks (0 ∷ []) 1 0
settled = inr (0, refl, one_start)

settled_closed : IsSettled marks (0 ∷ 1 ∷ []) 1 3
settled_closed = inl closed

not_settled : IsSettled marks (0 ∷ 1 ∷ []) 1 0 → ⊥
not_settled is =
    elim is [
      | inl now ↦ (let e = same_Some (Open 0) (Closed now.0) now.1 in absurd cc)
      | inr open_ ↦ (let e : Open 0 ≡ Open open_.0 = same_Some (Open 0) (Open open_.0) open_.1 in let place : open_.0 ≡ 0 = cc in open_.2 1 1 refl (omega (arith, place)) (lit≤ tt))
    ]

-- nor is one to a node that wasn't found
not_settled_unfound : IsSettled marks (0 ∷ []) 1 2 → ⊥
not_settled_unfound is =
    elim is [
      | inl now ↦ (let e = same_Some Unfound (Closed now.0) now.1 in absurd cc)
      | inr open_ ↦ (let e = same_Some Unfound (Open open_.0) open_.1 in absurd cc)
    ]

left : IsLeft (1 ∷ 1 ∷ []) (0 ∷ 1 ∷ []) 1 1 1
left = (1, 1, refl, refl, lit≤ tt)

not_left : IsLeft (1 ∷ 1 ∷ []) (0 ∷ 1 ∷ []) 1 1 0 → ⊥
not_left is = let e : 1 ≡ is.1 = same_Some 1 is.1 is.3 in omega (arith, e, is.4)

left_count : edges_left edges (1 ∷ 1 ∷ 0 ∷ 0 ∷ []) ≡ 1
left_count = refl

none_left : edges_left edges (1 ∷ 2 ∷ 0 ∷ 0 ∷ []) ≡ 0
none_left = refl

-- ---- the parts of a sound search, and what breaks each

misplaced : IsPath marks (1 ∷ 0 ∷ []) → ⊥
misplaced is = let e : Open 1 ≡ Open 0 = same_Some (Open 1) (Open 0) (is.placed 0 1 refl) in let same : ◌≡◌ {A = ℕ} 1 0 = cc in omega (arith, same)

unlisted : IsPath marks (0 ∷ []) → ⊥
unlisted is = none-some 1 (is.listed 1 1 refl)

no_edges : (x y : ℕ) → HasEdge ([] ∷ [] ∷ []) x y → ⊥
no_edges zero y edge = omega (arith, edge.1)
no_edges (suc zero) y edge = omega (arith, edge.1)
no_edges (suc (suc x)) y edge = edge

unlinked : IsLinked ([] ∷ [] ∷ []) (0 ∷ 1 ∷ []) (0 ∷ []) → ⊥
unlinked linked =
    let P : ℕ → Type 0 = λ x. x ≡ 0 in
    let e : 1 ≡ 0 = stays_within P (λ x y here edge. absurd (no_edges x y edge)) (linked.onward 0 1 0 1 (lit≤ tt) refl refl) refl in
    omega (arith, e)

late_start : AreStarts (0 ∷ 1 ∷ []) (1 ∷ []) → ⊥
late_start are = let e : 1 ≡ 0 = same_Some 1 0 (are.first (lit< tt)) in omega (arith, e)

far_start : AreStarts (0 ∷ 1 ∷ []) (0 ∷ 2 ∷ []) → ⊥
far_start are = let h : 2 < 2 = are.inside 1 2 refl in omega (arith, h)

far_place : ArePlaces (0 ∷ 1 ∷ []) (0 ∷ 2 ∷ []) → ⊥
far_place are = let h : 2 < 2 = are.inside 1 2 refl in omega (arith, h)

-- a closed node has an edge to one that isn't
leaky : AreWhole edges (Closed 0 ∷ Open 0 ∷ Unfound ∷ Unfound ∷ []) → ⊥
leaky whole =
    let there = whole.onward 0 1 0 refl (0, lit< tt, refl) in
    let e = same_Some (Open 0) (Closed there.0) there.1 in
    absurd cc

-- two nodes that reach each other have two numbers
parted : AreWhole edges (Closed 0 ∷ Closed 1 ∷ Closed 2 ∷ Closed 3 ∷ []) → ⊥
parted whole = let e : 0 ≡ 1 = whole.same 0 1 0 1 refl refl (Along {b = 1} (0, lit< tt, refl) Here) (Along {b = 0} (0, lit< tt, refl) Here) in omega (arith, e)

keeps : KeepsFound marks marks
keeps a at = at

forgets : KeepsFound marks (Unfound ∷ []) → ⊥
forgets kept = let e = same_Some (Open 0) Unfound (kept 0 refl) in absurd cc

-- ---- what the parts of a step do

numbered : Numbers (1 ∷ []) 1 (Open 0 ∷ Open 1 ∷ []) (Open 0 ∷ Open 1 ∷ []) → ⊥
numbered numbers = let e = same_Some (Open 1) (Closed 1) (numbers.among 0 1 refl) in absurd cc

others_kept : Numbers [] 1 (Open 0 ∷ []) (Closed 1 ∷ []) → ⊥
others_kept numbers = let e = same_Some (Closed 1) (Open 0) (numbers.others 0 (λ i at. none-some 0 at)) in absurd cc

joins : Joins 0 (0 ∷ 1 ∷ []) (0 ∷ [])
joins = record { count = lit≤ tt; before = joins_before; below = joins_below; kept = joins_kept }
  where
    joins_before : (s x : ℕ) → At (0 ∷ []) s x → At (0 ∷ 1 ∷ []) s x
    joins_before zero x at = at
    joins_before (suc s) x at = absurd (none-some x at)

    joins_below : (s x : ℕ) → At (0 ∷ []) s x → x ≤ 0
    joins_below zero x at = let e = same_Some 0 x at in omega (arith, e)
    joins_below (suc s) x at = absurd (none-some x at)

    joins_kept : (s x : ℕ) → At (0 ∷ 1 ∷ []) s x → x ≤ 0 → At (0 ∷ []) s x
    joins_kept zero x at le = at
    joins_kept (suc zero) x at le = let e = same_Some 1 x at in absurd (omega (arith, e, le))
    joins_kept (suc (suc s)) x at le = absurd (none-some x at)

not_joined : Joins 0 (0 ∷ 1 ∷ []) (0 ∷ 1 ∷ []) → ⊥
not_joined are = let h : 1 ≤ 0 = are.below 1 1 refl in omega (arith, h)

joined_too_far : Joins 0 (0 ∷ 1 ∷ []) [] → ⊥
joined_too_far are = none-some 0 (are.kept 0 0 refl (lit≤ tt))

-- one that has opened a node isn't new, and opens nothing by staying as it is
not_new : (search : Search) → search.path.items ≡ 0 ∷ [] → IsNew 1 search → ⊥
not_new search path new = let e = new.path in absurd cc

opens_nothing : (search : Search) → search.path.items ≡ [] → Opens 0 search search → ⊥
opens_nothing search path opens = let e = ap length opens.path in let f = ap length path in absurd (cc)

closes_nothing : (search : Search) → search.path.items ≡ 0 ∷ [] → Closes 0 search search → ⊥
closes_nothing search path closes = let e = ap length closes.path in let f = ap length path in absurd (cc)

-- a step leaves less
no_step : (search : Search) → Steps edges search search → ⊥
no_step search steps = let h = steps.less in omega (arith, h)

-- a node that isn't found yet wasn't followed, nor explored from
not_followed : (old new : Search) → At new.marks.items 0 Unfound → Follows edges 0 old new → ⊥
not_followed old new at follows = follows.target_found at

not_explored : (old new : Search) → At new.marks.items 0 Unfound → Explores edges 0 old new → ⊥
not_explored old new at explores = explores.root_found at
