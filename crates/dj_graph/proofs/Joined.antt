-- The last components become one with that of an open node which they all reach: what held holds still.
use Rattle.std.proofs.Common.{ℕ, List, inl, inr, arith}
use Rattle.std.proofs.lemmas.Bool.{cases_lt}
use Rattle.dj_graph.specs.declared.mark.NodeMark.{NodeMark}
use Rattle.dj_graph.specs.declared.mark.NodeMark.TheVariants.{Open}
use Rattle.dj_graph.specs.Graphs.{Edges, Reaches}
use Rattle.dj_graph.specs.Searches.{NoStart, IsSettled, IsLinked, AreStarts, IsSound, AllReach, Joins}
use Rattle.dj_graph.proofs.Lists.{At}
use Rattle.dj_graph.proofs.Reaching.{then_reaches}

-- fewer starts cut fewer places apart
pub fewer_starts : (old new : List ℕ) (i j : ℕ) → ((s x : ℕ) → At new s x → At old s x) → NoStart old i j → NoStart new i j
fewer_starts old new i j before none s x at above most = none s x (before s x at) above most

joined_linked : (edges : Edges) (path old new : List ℕ) (node place : ℕ) → IsLinked edges path old → At path place node → AllReach edges path node → Joins place old new → IsLinked edges path new
joined_linked edges path old new node place linked here reached joins = record {
  onward = linked.onward;
  back = λ i j a b le first second none. elim (cases_lt j place) [
    | inl before ↦ linked.back i j a b le first second (λ s x at above most. none s x (joins.kept s x at (omega (arith, before, most))) above most)
    | inr after ↦ elim (cases_lt i place) [
      | inl low ↦
          let home : Reaches edges node a = linked.back i place a node (omega (arith, low)) first here (λ s x at above most. none s x (joins.kept s x at most) above (omega (arith, most, after))) in
          then_reaches (reached j b second) home
      | inr high ↦ then_reaches (reached j b second) (linked.onward place i node a high here first)
    ]
  ];
}

joined_starts : (path old new : List ℕ) (place : ℕ) → AreStarts path old → Joins place old new → AreStarts path new
joined_starts path old new place are joins = record {
  rising = λ i j x y lt first second. are.rising i j x y lt (joins.before i x first) (joins.before j y second);
  inside = λ s x at. are.inside s x (joins.before s x at);
  first = λ some. joins.kept 0 0 (are.first some) (omega arith);
}

pub still_settled : (marks : List NodeMark) (old new : List ℕ) (i b : ℕ) → ((s x : ℕ) → At new s x → At old s x) → IsSettled marks old i b → IsSettled marks new i b
still_settled marks old new i b before settled =
    elim settled [
      | inl closed ↦ inl closed
      | inr open_ ↦ inr (open_.0, open_.1, fewer_starts old new open_.0 i before open_.2)
    ]

pub joined_sound : (edges : Edges) (marks : List NodeMark) (looked path old new work : List ℕ) (node place : ℕ) → IsSound edges marks looked path old work → At marks node (Open place) → AllReach edges path node → Joins place old new → IsSound edges marks looked path new work
joined_sound edges marks looked path old new work node place sound here reached joins = record {
  marks_count = sound.marks_count;
  looked_count = sound.looked_count;
  path_is = sound.path_is;
  linked = joined_linked edges path old new node place sound.linked (sound.path_is.listed place node here) reached joins;
  starts_are = joined_starts path old new place sound.starts_are joins;
  work_is = sound.work_is;
  whole = sound.whole;
  fresh = sound.fresh;
  settled = λ i a e b targets at node_edges edge. elim (sound.settled i a e b targets at node_edges edge) [
    | inl done ↦ inl (still_settled marks old new i b joins.before done)
    | inr left ↦ inr left
  ];
}

-- from any place the node is now in the same component or in a later one
pub joined_settled : (marks : List NodeMark) (old new : List ℕ) (node place i : ℕ) → At marks node (Open place) → Joins place old new → IsSettled marks new i node
joined_settled marks old new node place i here joins = inr (place, here, λ s x at above most. let h = joins.below s x at in omega (arith, h, above))
