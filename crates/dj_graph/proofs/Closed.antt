-- The last component is closed: the closed nodes are whole, and the rest of the search is sound.
use Rattle.std.proofs.Common.{◌≡◌, ℕ, ◌-◌, ◌<◌, ◌≤◌, List, length, take, drop, sym, ◌∙◌, subst, inl, inr, arith}
use Rattle.std.proofs.lemmas.Bool.{cases_lt}
use Rattle.dj_graph.specs.declared.mark.NodeMark.{NodeMark}
use Rattle.dj_graph.specs.declared.mark.NodeMark.TheVariants.{Open, Closed}
use Rattle.dj_graph.specs.Graphs.{Edges, HasEdge, Reaches}
use Rattle.dj_graph.specs.Searches.{IsClosed, IsSettled, AreWhole, IsSound, Numbers, IsLast}
use Rattle.dj_graph.proofs.Lists.{At, one_at, of_take}
use Rattle.dj_graph.proofs.Reaching.{stays_within, edge_parts}
use Rattle.dj_graph.proofs.Joined.{fewer_starts}
use Rattle.dj_graph.proofs.Closing.{IsClosing, closing, closed_still, closed_path, closed_linked, closed_starts, closed_work, before_last}

-- an edge from a node of the last component leads to a closed node, or to one of that component
closed_edge : (edges : Edges) (marks new : List NodeMark) (looked path starts work : List ℕ) (start number i a b : ℕ) → IsSound edges marks looked path starts work → IsLast starts start → ((s x : ℕ) → At work s x → x < start) → IsClosing start number marks new → At marks a (Open i) → start ≤ i → HasEdge edges a b → IsClosed new b
closed_edge edges marks new looked path starts work start number i a b sound last low closes at le edge =
    let parts = edge_parts edges a b edge in
    elim (sound.settled i a parts.1 b parts.0 (sound.path_is.listed i a at) parts.2 parts.3) [
      | inl settled ↦ elim settled [
        | inl closed ↦ closed_still start number b marks new closes closed
        | inr open_ ↦ elim (cases_lt open_.0 start) [
          | inl before ↦ absurd (open_.2 (length starts - 1) start last.1 before le)
          | inr after ↦ (number, closes.above b open_.0 open_.1 after)
        ]
      ]
      | inr left ↦ let lt = low left.0 i left.2 in absurd (omega (arith, lt, le))
    ]

-- each node of the last component is reached from the first and reaches it
closed_named : (edges : Edges) (marks new : List NodeMark) (looked path starts work : List ℕ) (start number i a : ℕ) → IsSound edges marks looked path starts work → IsLast starts start → At path start number → At marks a (Open i) → start ≤ i → Reaches edges a number × Reaches edges number a
closed_named edges marks new looked path starts work start number i a sound last first at le =
    let there = sound.path_is.listed i a at in (
      sound.linked.back start i number a le first there (λ s x start_at above most. let h = before_last starts start s x sound.starts_are.rising last start_at in omega (arith, h, above)),
      sound.linked.onward start i number a le first there,
    )

-- a closed node reaches no open one
not_open : (edges : Edges) (marks : List NodeMark) (a b m i : ℕ) → AreWhole edges marks → At marks a (Closed m) → At marks b (Open i) → Reaches edges a b → ⊥
not_open edges marks a b m i whole closed open_ reaches =
    let there : IsClosed marks b = stays_within (IsClosed marks) (λ x y here edge. whole.onward x y here.0 here.1 edge) reaches (m, closed) in
    let e : Closed there.0 ≡ Open i = one_at marks b (Closed there.0) (Open i) there.1 open_ in
    absurd cc

closed_whole : (edges : Edges) (marks new : List NodeMark) (looked path starts work : List ℕ) (start number : ℕ) → IsSound edges marks looked path starts work → IsLast starts start → ((s x : ℕ) → At work s x → x < start) → At path start number → IsClosing start number marks new → AreWhole edges new
closed_whole edges marks new looked path starts work start number sound last low first closes = record {
  onward = λ a b m at edge. elim (closes.was_closed a m at) [
    | inl old ↦ closed_still start number b marks new closes (sound.whole.onward a b m old edge)
    | inr now ↦ closed_edge edges marks new looked path starts work start number now.0 a b sound last low closes now.1 now.2 edge
  ];
  named = λ a m at. elim (closes.was_closed a m at) [
    | inl old ↦ sound.whole.named a m old
    | inr now ↦ subst (λ x. Reaches edges a x × Reaches edges x a) (sym now.3) (closed_named edges marks new looked path starts work start number now.0 a sound last first now.1 now.2)
  ];
  same = λ a b m n at_a at_b there back. elim (closes.was_closed a m at_a) [
    | inl old_a ↦ elim (closes.was_closed b n at_b) [
      | inl old_b ↦ sound.whole.same a b m n old_a old_b there back
      | inr now_b ↦ absurd (not_open edges marks a b m now_b.0 sound.whole old_a now_b.1 there)
    ]
    | inr now_a ↦ elim (closes.was_closed b n at_b) [
      | inl old_b ↦ absurd (not_open edges marks b a n now_a.0 sound.whole old_b now_a.1 back)
      | inr now_b ↦ now_a.3 ∙ sym now_b.3
    ]
  ];
}

closed_settled : (marks new : List NodeMark) (starts : List ℕ) (start number i b : ℕ) → IsClosing start number marks new → IsSettled marks starts i b → IsSettled new (take (length starts - 1) starts) i b
closed_settled marks new starts start number i b closes settled =
    elim settled [
      | inl closed ↦ inl (closed_still start number b marks new closes closed)
      | inr open_ ↦ elim (cases_lt open_.0 start) [
        | inl before ↦ inr (open_.0, closes.below b open_.0 open_.1 before, fewer_starts starts (take (length starts - 1) starts) open_.0 i (λ s x at. (of_take (length starts - 1) starts s x at).1) open_.2)
        | inr after ↦ inl (number, closes.above b open_.0 open_.1 after)
      ]
    ]

pub closed_sound : (edges : Edges) (marks new : List NodeMark) (looked path starts work : List ℕ) (start number : ℕ) → IsSound edges marks looked path starts work → IsLast starts start → ((s x : ℕ) → At work s x → x < start) → At path start number → Numbers (drop start path) number marks new → IsSound edges new looked (take start path) (take (length starts - 1) starts) work
closed_sound edges marks new looked path starts work start number sound last low first numbers =
    let closes : IsClosing start number marks new = closing path start number marks new sound.path_is numbers in
    record {
      marks_count = numbers.count ∙ sound.marks_count;
      looked_count = sound.looked_count;
      path_is = closed_path path start number marks new sound.path_is closes;
      linked = closed_linked edges path starts start sound.linked last;
      starts_are = closed_starts path starts start sound.starts_are last;
      work_is = closed_work path work start sound.work_is low;
      whole = closed_whole edges marks new looked path starts work start number sound last low first closes;
      fresh = λ a at. sound.fresh a (closes.was_unfound a at);
      settled = λ i a e b targets at node_edges edge. elim (sound.settled i a e b targets (of_take start path i a at).1 node_edges edge) [
        | inl settled ↦ inl (closed_settled marks new starts start number i b closes settled)
        | inr left ↦ inr left
      ];
    }
