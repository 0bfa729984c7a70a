-- An edge was looked at, or a node has none left: what held holds still.
use Rattle.std.proofs.Common.{◌≡◌, ℕ, ◌+◌, ◌-◌, ◌<◌, ◌≤◌, ◌⊎◌, List, length, take, set, sym, ◌∙◌, subst, inl, inr, arith}
use Rattle.std.proofs.Math.ListN.{length-set}
use Rattle.dj_graph.specs.declared.mark.NodeMark.{NodeMark}
use Rattle.dj_graph.specs.declared.mark.NodeMark.TheVariants.{Unfound, Open}
use Rattle.dj_graph.specs.Graphs.{Edges}
use Rattle.dj_graph.specs.Searches.{IsSettled, IsLeft, IsSound, IsPath, IsLast}
use Rattle.dj_graph.proofs.Lists.{At, at_within, one_at, set_same, set_other, same_or_not, of_take, in_take, earlier}

same_place : (marks : List NodeMark) (path : List ℕ) (i j a b : ℕ) → IsPath marks path → At path i a → At path j b → a ≡ b → i ≡ j
same_place marks path i j a b is first second same =
    let e : Open i ≡ Open j = one_at marks b (Open i) (Open j) (subst (λ x. At marks x (Open i)) same (is.placed i a first)) (is.placed j b second) in
    cc

-- edge e of the node was looked at; edge k of any node is as it was, or that one
looked_left : (looked work : List ℕ) (node e i a k : ℕ) → At looked node e → (a ≡ node → k ≡ e → ⊥) → IsLeft looked work i a k → IsLeft (set looked node (e + 1)) work i a k
looked_left looked work node e i a k now apart left =
    elim (same_or_not a node) [
      | inl same ↦
          let count : left.1 ≡ e = one_at looked node left.1 e (subst (λ x. At looked x left.1) same left.3) now in
          let not_e : k ≡ e → ⊥ = apart same in
          (left.0, e + 1, left.2, subst (λ x. At (set looked node (e + 1)) x (e + 1)) (sym same) (set_same looked node (e + 1) (at_within looked node e now)), omega (arith, count, left.4, not_e))
      | inr other ↦ (left.0, left.1, left.2, set_other looked node a (e + 1) left.1 other left.3, left.4)
    ]

looked_settled : (edges : Edges) (marks : List NodeMark) (looked path starts work : List ℕ) (place node e target : ℕ) (targets : List ℕ) → IsSound edges marks looked path starts work → At path place node → At edges node targets → At targets e target → At looked node e → IsSettled marks starts place target → (i a k b : ℕ) (others : List ℕ) → At path i a → At edges a others → At others k b → IsSettled marks starts i b ⊎ IsLeft (set looked node (e + 1)) work i a k
looked_settled edges marks looked path starts work place node e target targets sound here node_edges edge now done i a k b others at other_edges other =
    elim (sound.settled i a k b others at other_edges other) [
      | inl settled ↦ inl settled
      | inr left ↦ elim (same_or_not a node) [
        | inl same ↦ elim (same_or_not k e) [
          | inl that ↦
              let spot : i ≡ place = same_place marks path i place a node sound.path_is at here same in
              let one_list : others ≡ targets = one_at edges node others targets (subst (λ x. At edges x others) same other_edges) node_edges in
              let that_one : At targets e b = subst (λ x. At targets x b) that (subst (λ xs. At xs k b) one_list other) in
              let end : b ≡ target = one_at targets e b target that_one edge in
              inl (subst (λ x. IsSettled marks starts x b) (sym spot) (subst (IsSettled marks starts place) (sym end) done))
          | inr not_that ↦ inr (looked_left looked work node e i a k now (λ _ e_same. not_that e_same) left)
        ]
        | inr apart ↦ inr (looked_left looked work node e i a k now (λ same _. apart same) left)
      ]
    ]

pub looked_sound : (edges : Edges) (marks : List NodeMark) (looked path starts work : List ℕ) (place node e target : ℕ) (targets : List ℕ) → IsSound edges marks looked path starts work → At path place node → At edges node targets → At targets e target → At looked node e → IsSettled marks starts place target → IsSound edges marks (set looked node (e + 1)) path starts work
looked_sound edges marks looked path starts work place node e target targets sound here node_edges edge now done = record {
  marks_count = sound.marks_count;
  looked_count = length-set looked node (e + 1) ∙ sound.looked_count;
  path_is = sound.path_is;
  linked = sound.linked;
  starts_are = sound.starts_are;
  work_is = sound.work_is;
  whole = sound.whole;
  fresh = λ a at.
      let not_node : a ≡ node → ⊥ = λ same. (let e : Unfound ≡ Open place = one_at marks node Unfound (Open place) (subst (λ x. At marks x Unfound) same at) (sound.path_is.placed place node here) in absurd cc) in
      set_other looked node a (e + 1) 0 not_node (sound.fresh a at);
  settled = looked_settled edges marks looked path starts work place node e target targets sound here node_edges edge now done;
}

-- the last place of the work has no edge left
pub done_sound : (edges : Edges) (marks : List NodeMark) (looked path starts work : List ℕ) (place node e : ℕ) (targets : List ℕ) → IsSound edges marks looked path starts work → IsLast work place → At path place node → At edges node targets → At looked node e → length targets ≤ e → IsSound edges marks looked path starts (take (length work - 1) work)
done_sound edges marks looked path starts work place node e targets sound last here node_edges now none = record {
  marks_count = sound.marks_count;
  looked_count = sound.looked_count;
  path_is = sound.path_is;
  linked = sound.linked;
  starts_are = sound.starts_are;
  work_is = record {
    rising = λ i j x y lt first second. sound.work_is.rising i j x y lt (of_take (length work - 1) work i x first).1 (of_take (length work - 1) work j y second).1;
    inside = λ s x at. sound.work_is.inside s x (of_take (length work - 1) work s x at).1;
  };
  whole = sound.whole;
  fresh = sound.fresh;
  settled = λ i a k b others at other_edges other. elim (sound.settled i a k b others at other_edges other) [
    | inl settled ↦ inl settled
    | inr left ↦
        let apart : i ≡ place → ⊥ = λ same.
        (let node_same : a ≡ node = one_at path place a node (subst (λ x. At path x a) same at) here in
        let one_list : others ≡ targets = one_at edges node others targets (subst (λ x. At edges x others) node_same other_edges) node_edges in
        let count : left.1 ≡ e = one_at looked node left.1 e (subst (λ x. At looked x left.1) node_same left.3) now in
        let within : k < length targets = subst (λ xs. k < length xs) one_list (at_within others k b other) in
        omega (arith, count, within, left.4, none)) in
        let within = at_within work left.0 i left.2 in
        let lt : left.0 < length work - 1 = earlier work (length work - 1) left.0 i place last.1 left.2 (omega (arith, within)) apart in
        inr (left.0, left.1, in_take (length work - 1) work left.0 i lt left.2, left.3, left.4)
  ];
}
