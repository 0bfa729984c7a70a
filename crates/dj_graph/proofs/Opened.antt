-- A node is opened at the end of the path: what held holds still.
use Rattle.std.proofs.Common.{◌≡◌, ℕ, suc, ◌+◌, ◌<◌, List, [], ◌∷◌, ◌++◌, length, set, refl, sym, ◌∙◌, subst, inl, inr, arith, length-append}
use Rattle.std.proofs.Math.ListN.{length-set}
use Rattle.dj_graph.specs.declared.mark.NodeMark.{NodeMark}
use Rattle.dj_graph.specs.declared.mark.NodeMark.TheVariants.{Unfound, Open, Closed}
use Rattle.dj_graph.specs.Graphs.{Edges, Reaches, Here}
use Rattle.dj_graph.specs.Searches.{Rises, IsSettled, IsPath, IsLinked, AreStarts, ArePlaces, AreWhole, IsSound, AllReach}
use Rattle.dj_graph.proofs.Lists.{At, at_within, push_cases, push_old, push_new, set_same, set_other, set_cases, one_at}

pub push_rises : (xs : List ℕ) (y : ℕ) → Rises xs → ((s x : ℕ) → At xs s x → x < y) → Rises (xs ++ y ∷ [])
push_rises xs y rises below i j a b lt first second =
    elim (push_cases xs y i a first) [
      | inl old_i ↦ elim (push_cases xs y j b second) [
        | inl old_j ↦ rises i j a b lt old_i old_j
        | inr new_j ↦ let h = below i a old_i in omega (arith, h, new_j.1)
      ]
      | inr new_i ↦ elim (push_cases xs y j b second) [
        | inl old_j ↦ let h = at_within xs j b old_j in absurd (omega (arith, h, lt, new_i.0))
        | inr new_j ↦ absurd (omega (arith, lt, new_i.0, new_j.0))
      ]
    ]

push_inside : (path xs : List ℕ) (node : ℕ) → ((s x : ℕ) → At xs s x → x < length path) → (s x : ℕ) → At (xs ++ length path ∷ []) s x → x < length (path ++ node ∷ [])
push_inside path xs node inside s x at =
    let longer : length (path ++ node ∷ []) ≡ length path + 1 = length-append path (node ∷ []) in
    elim (push_cases xs (length path) s x at) [
      | inl old ↦ let h = inside s x old in omega (arith, h, longer)
      | inr new ↦ omega (arith, new.1, longer)
    ]

opened_first : (path starts : List ℕ) (node : ℕ) → AreStarts path starts → At (starts ++ length path ∷ []) 0 0
opened_first [] [] node are = refl
opened_first [] (x ∷ starts) node are = let h = are.inside 0 x refl in absurd (omega (arith, h))
opened_first (a ∷ path) starts node are = push_old starts (suc (length path)) 0 0 (are.first (omega arith))

opened_starts : (path starts : List ℕ) (node : ℕ) → AreStarts path starts → AreStarts (path ++ node ∷ []) (starts ++ length path ∷ [])
opened_starts path starts node are = record {
  rising = push_rises starts (length path) are.rising are.inside;
  inside = push_inside path starts node are.inside;
  first = λ some. opened_first path starts node are;
}

opened_work : (path work : List ℕ) (node : ℕ) → ArePlaces path work → ArePlaces (path ++ node ∷ []) (work ++ length path ∷ [])
opened_work path work node are = record {
  rising = push_rises work (length path) are.rising are.inside;
  inside = push_inside path work node are.inside;
}

opened_path : (marks : List NodeMark) (path : List ℕ) (node : ℕ) → IsPath marks path → At marks node Unfound → IsPath (set marks node (Open (length path))) (path ++ node ∷ [])
opened_path marks path node is unfound = record {
  placed = λ i a at. elim (push_cases path node i a at) [
    | inl old ↦
        let there = is.placed i a old in
        set_other marks node a (Open (length path)) (Open i) (λ same. let e : Open i ≡ Unfound = one_at marks node (Open i) Unfound (subst (λ x. At marks x (Open i)) same there) unfound in absurd cc) there
    | inr new ↦
        let here = set_same marks node (Open (length path)) (at_within marks node Unfound unfound) in
        subst (λ x. At (set marks node (Open (length path))) x (Open i)) (sym new.1) (subst (λ j. At (set marks node (Open (length path))) node (Open j)) (sym new.0) here)
  ];
  listed = λ i a at. elim (set_cases marks node a (Open (length path)) (Open i) at) [
    | inl same ↦
        let place : i ≡ length path = (let e = same.1 in cc) in
        subst (λ j. At (path ++ node ∷ []) j a) (sym place) (subst (λ x. At (path ++ node ∷ []) (length path) x) (sym same.0) (push_new path node))
    | inr other ↦ push_old path node i a (is.listed i a other.1)
  ];
}

opened_linked : (edges : Edges) (path starts : List ℕ) (node : ℕ) → IsLinked edges path starts → AllReach edges path node → IsLinked edges (path ++ node ∷ []) (starts ++ length path ∷ [])
opened_linked edges path starts node linked reached = record {
  onward = λ i j a b le first second. elim (push_cases path node i a first) [
    | inl old_i ↦ elim (push_cases path node j b second) [
      | inl old_j ↦ linked.onward i j a b le old_i old_j
      | inr new_j ↦ subst (Reaches edges a) (sym new_j.1) (reached i a old_i)
    ]
    | inr new_i ↦ elim (push_cases path node j b second) [
      | inl old_j ↦ let h = at_within path j b old_j in absurd (omega (arith, h, le, new_i.0))
      | inr new_j ↦ subst (Reaches edges a) (new_i.1 ∙ sym new_j.1) Here
    ]
  ];
  back = λ i j a b le first second none. elim (push_cases path node i a first) [
    | inl old_i ↦ elim (push_cases path node j b second) [
      | inl old_j ↦ linked.back i j a b le old_i old_j (λ s x at. none s x (push_old starts (length path) s x at))
      | inr new_j ↦ let h = at_within path i a old_i in absurd (none (length starts) (length path) (push_new starts (length path)) h (omega (arith, new_j.0)))
    ]
    | inr new_i ↦ elim (push_cases path node j b second) [
      | inl old_j ↦ let h = at_within path j b old_j in absurd (omega (arith, h, le, new_i.0))
      | inr new_j ↦ subst (Reaches edges b) (new_j.1 ∙ sym new_i.1) Here
    ]
  ];
}

-- closed nodes that stay so, with no new one
pub same_whole : (edges : Edges) (old new : List NodeMark) → ((a m : ℕ) → At old a (Closed m) → At new a (Closed m)) → ((a m : ℕ) → At new a (Closed m) → At old a (Closed m)) → AreWhole edges old → AreWhole edges new
same_whole edges old new kept none whole = record {
  onward = λ a b m at edge. let there = whole.onward a b m (none a m at) edge in (there.0, kept b there.0 there.1);
  named = λ a m at. whole.named a m (none a m at);
  same = λ a b m n first second. whole.same a b m n (none a m first) (none b n second);
}

opened_kept : (marks : List NodeMark) (node place a : ℕ) (mark : NodeMark) → At marks node Unfound → At marks a mark → (mark ≡ Unfound → ⊥) → At (set marks node (Open place)) a mark
opened_kept marks node place a mark unfound at found =
    set_other marks node a (Open place) mark (λ same. found (one_at marks node mark Unfound (subst (λ x. At marks x mark) same at) unfound)) at

opened_whole : (edges : Edges) (marks : List NodeMark) (node place : ℕ) → At marks node Unfound → AreWhole edges marks → AreWhole edges (set marks node (Open place))
opened_whole edges marks node place unfound whole =
    same_whole edges marks (set marks node (Open place)) (λ a m at. opened_kept marks node place a (Closed m) unfound at (λ e. absurd cc)) (λ a m at. elim (set_cases marks node a (Open place) (Closed m) at) [
      | inl same ↦ let e = same.1 in absurd cc
      | inr other ↦ other.1
    ]) whole

opened_settled : (marks : List NodeMark) (path starts : List ℕ) (node i b : ℕ) → At marks node Unfound → i < length path → IsSettled marks starts i b → IsSettled (set marks node (Open (length path))) (starts ++ length path ∷ []) i b
opened_settled marks path starts node i b unfound within settled =
    elim settled [
      | inl closed ↦ inl (closed.0, opened_kept marks node (length path) b (Closed closed.0) unfound closed.1 (λ e. absurd cc))
      | inr open_ ↦ inr (
        open_.0,
        opened_kept marks node (length path) b (Open open_.0) unfound open_.1 (λ e. absurd cc),
        λ s x at above most. elim (push_cases starts (length path) s x at) [
          | inl old ↦ open_.2 s x old above most
          | inr new ↦ omega (arith, new.1, most, within)
        ],
      )
    ]

pub opened : (edges : Edges) (marks : List NodeMark) (looked path starts work : List ℕ) (node : ℕ) → IsSound edges marks looked path starts work → At marks node Unfound → AllReach edges path node → IsSound edges (set marks node (Open (length path))) looked (path ++ node ∷ []) (starts ++ length path ∷ []) (work ++ length path ∷ [])
opened edges marks looked path starts work node sound unfound reached = record {
  marks_count = length-set marks node (Open (length path)) ∙ sound.marks_count;
  looked_count = sound.looked_count;
  path_is = opened_path marks path node sound.path_is unfound;
  linked = opened_linked edges path starts node sound.linked reached;
  starts_are = opened_starts path starts node sound.starts_are;
  work_is = opened_work path work node sound.work_is;
  whole = opened_whole edges marks node (length path) unfound sound.whole;
  fresh = λ a at. elim (set_cases marks node a (Open (length path)) Unfound at) [ inl same ↦ let e = same.1 in absurd cc | inr other ↦ sound.fresh a other.1 ];
  settled = λ i a e b targets place node_edges edge. elim (push_cases path node i a place) [
    | inl old ↦ elim (sound.settled i a e b targets old node_edges edge) [
      | inl done ↦ inl (opened_settled marks path starts node i b unfound (at_within path i a old) done)
      | inr left ↦ inr (left.0, left.1, push_old work (length path) left.0 i left.2, left.3, left.4)
    ]
    | inr new ↦ inr (length work, 0, subst (λ j. At (work ++ length path ∷ []) (length work) j) (sym new.0) (push_new work (length path)), subst (λ x. At looked x 0) (sym new.1) (sound.fresh node unfound), omega arith)
  ];
}
