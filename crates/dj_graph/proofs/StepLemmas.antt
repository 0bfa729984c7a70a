-- The parts of a step: each leaves a sound search, and less of it.
use Rattle.std.proofs.Common.{◌≡◌, ℕ, ◌+◌, ◌-◌, ◌<◌, ◌≤◌, List, [], ◌∷◌, ◌++◌, length, take, set, refl, sym, ◌∙◌, ap, subst, inl, inr, arith, length-append, get_or, vec_len}
use Rattle.std.specs.Global.{Vec}
use Rattle.std.proofs.lemmas.List.{length-take}
use Rattle.std.proofs.lemmas.Bool.{cases_lt}
use Rattle.dj_graph.specs.declared.mark.NodeMark.{NodeMark}
use Rattle.dj_graph.specs.declared.mark.NodeMark.TheVariants.{Unfound, Open, Closed}
use Rattle.dj_graph.specs.declared.search.Search.{Search}
use Rattle.dj_graph.specs.Graphs.{Edges, HasEdge}
use Rattle.dj_graph.specs.Searches.{IsSound, IsSearch, AllReach, Opens, Joins, Closes, Follows, Steps, IsLast, Rises, Numbers, edges_left}
use Rattle.dj_graph.proofs.Lists.{At, at_within, one_at, push_old, set_same, set_cases}
use Rattle.dj_graph.proofs.Reaching.{by_edge, then_reaches}
use Rattle.dj_graph.proofs.Opened.{opened}
use Rattle.dj_graph.proofs.Joined.{joined_sound, joined_settled}
use Rattle.dj_graph.proofs.Looked.{looked_sound, done_sound}
use Rattle.dj_graph.proofs.Closing.{IsClosing, closing, before_last}
use Rattle.dj_graph.proofs.Closed.{closed_sound}
use Rattle.dj_graph.proofs.Effort.{one_less}
use Rattle.dj_graph.proofs.EdgeLists.{read_at}

pub replaced : (edges : Edges) (m m' : List NodeMark) (l l' p p' s s' w w' : List ℕ) → m' ≡ m → l' ≡ l → p' ≡ p → s' ≡ s → w' ≡ w → IsSound edges m l p s w → IsSound edges m' l' p' s' w'
replaced edges m m' l l' p p' s s' w w' em el ep es ew sound =
    subst (λ x. IsSound edges x l' p' s' w') (sym em) (subst (λ x. IsSound edges m x p' s' w') (sym el) (subst (λ x. IsSound edges m l x s' w') (sym ep) (subst (λ x. IsSound edges m l p x w') (sym es) (subst (λ x. IsSound edges m l p s x) (sym ew) sound))))

-- a node of the path is a node of the graph
pub node_known : (edges : Edges) (search : Search) (place node : ℕ) → IsSearch edges search → At search.path.items place node → node < length edges
node_known edges search place node sound at =
    let within = at_within search.marks.items node (Open place) (sound.path_is.placed place node at) in
    omega (arith, within, sound.marks_count)

-- ---- an edge is followed

opened_found : (old new : Search) (target a : ℕ) → Opens target old new → At new.marks.items a Unfound → At old.marks.items a Unfound
opened_found old new target a opens at =
    elim (set_cases old.marks.items target a (Open (length old.path.items)) Unfound (subst (λ ms. At ms a Unfound) opens.marks at)) [
      | inl same ↦ let e = same.1 in absurd cc
      | inr other ↦ other.1
    ]

pub follows_opened : (edges : Edges) (target : ℕ) (old new : Search) → IsSearch edges old → At old.marks.items target Unfound → AllReach edges old.path.items target → Opens target old new → Follows edges target old new
follows_opened edges target old new sound unfound reached opens =
    let place : ℕ = length old.path.items in
    let there : At new.marks.items target (Open place) = subst (λ ms. At ms target (Open place)) (sym opens.marks) (set_same old.marks.items target (Open place) (at_within old.marks.items target Unfound unfound)) in
    record {
      sound = replaced edges (set old.marks.items target (Open place)) new.marks.items old.looked.items new.looked.items (old.path.items ++ target ∷ []) new.path.items (old.starts.items ++ place ∷ []) new.starts.items (old.work.items ++ place ∷ []) new.work.items opens.marks opens.looked opens.path opens.starts opens.work (opened edges old.marks.items old.looked.items old.path.items old.starts.items old.work.items target sound unfound reached);
      found = λ a at. opened_found old new target a opens at;
      target_found = λ at. let e : Open place ≡ Unfound = one_at new.marks.items target (Open place) Unfound there at in absurd cc;
      looked = opens.looked;
      path = λ i a at. subst (λ xs. At xs i a) (sym opens.path) (push_old old.path.items target i a at);
      settled = λ i within. inr (place, there, λ s x at above most. omega (arith, above, most, within));
      effort =
          let work = ap length opens.work ∙ length-append old.work.items (place ∷ []) in
          let starts = ap length opens.starts ∙ length-append old.starts.items (place ∷ []) in
          omega (arith, work, starts);
    }

pub follows_joined : (edges : Edges) (target place : ℕ) (old : Search) (starts : Vec ℕ) → IsSearch edges old → At old.marks.items target (Open place) → AllReach edges old.path.items target → Joins place old.starts.items starts.items → Follows edges target old (record { marks = old.marks; looked = old.looked; path = old.path; starts = starts; work = old.work })
follows_joined edges target place old starts sound here reached joins = record {
  sound = joined_sound edges old.marks.items old.looked.items old.path.items old.starts.items starts.items old.work.items target place sound here reached joins;
  found = λ a at. at;
  target_found = λ at. let e : Open place ≡ Unfound = one_at old.marks.items target (Open place) Unfound here at in absurd cc;
  looked = refl;
  path = λ i a at. at;
  settled = λ i within. joined_settled old.marks.items old.starts.items starts.items target place i here joins;
  effort = let count = joins.count in omega (arith, count);
}

pub follows_closed : (edges : Edges) (target number : ℕ) (old : Search) → IsSearch edges old → At old.marks.items target (Closed number) → Follows edges target old old
follows_closed edges target number old sound here = record {
  sound = sound;
  found = λ a at. at;
  target_found = λ at. let e : Closed number ≡ Unfound = one_at old.marks.items target (Closed number) Unfound here at in absurd cc;
  looked = refl;
  path = λ i a at. at;
  settled = λ i within. inl (number, here);
  effort = omega arith;
}

-- ---- the steps

-- where no component starts after a node of the path, the whole path reaches what it has an edge to
pub all_reach : (edges : Edges) (search : Search) (place node target : ℕ) → IsSearch edges search → ((s x : ℕ) → At search.starts.items s x → x ≤ place) → At search.path.items place node → HasEdge edges node target → AllReach edges search.path.items target
all_reach edges search place node target sound last here edge i a at =
    elim (cases_lt i place) [
      | inl before ↦ then_reaches (sound.linked.onward i place a node (omega (arith, before)) at here) (by_edge edge)
      | inr after ↦ then_reaches (sound.linked.back place i node a after here at (λ s x start above most. let le = last s x start in omega (arith, le, above))) (by_edge edge)
    ]

pub steps_looked : (edges : Edges) (old mid : Search) (looked : Vec ℕ) (place node next target : ℕ) (targets : List ℕ) → At old.path.items place node → At edges node targets → At targets next target → At old.looked.items node next → Follows edges target old mid → looked.items ≡ set mid.looked.items node (next + 1) → Steps edges old (record { marks = mid.marks; looked = looked; path = mid.path; starts = mid.starts; work = mid.work })
steps_looked edges old mid looked place node next target targets here node_edges edge now follows written =
    let now_mid : At mid.looked.items node next = subst (λ xs. At xs node next) (sym follows.looked) now in
    let settled = follows.settled place (at_within old.path.items place node here) in
    let less : edges_left edges (set mid.looked.items node (next + 1)) + 1 ≡ edges_left edges mid.looked.items = one_less edges mid.looked.items node next targets node_edges now_mid (at_within targets next target edge) in
    let left : edges_left edges looked.items ≡ edges_left edges (set mid.looked.items node (next + 1)) = ap (edges_left edges) written in
    let was : edges_left edges mid.looked.items ≡ edges_left edges old.looked.items = ap (edges_left edges) follows.looked in
    record {
      sound = subst (λ xs. IsSound edges mid.marks.items xs mid.path.items mid.starts.items mid.work.items) (sym written) (looked_sound edges mid.marks.items mid.looked.items mid.path.items mid.starts.items mid.work.items place node next target targets follows.sound (follows.path place node here) node_edges edge now_mid settled);
      found = follows.found;
      less = omega (arith, less, left, was, follows.effort);
    }

pub steps_done : (edges : Edges) (old : Search) (work : Vec ℕ) (place node next : ℕ) (targets : List ℕ) → IsSearch edges old → IsLast old.work.items place → At old.path.items place node → At edges node targets → At old.looked.items node next → length targets ≤ next → work.items ≡ take (length old.work.items - 1) old.work.items → Steps edges old (record { marks = old.marks; looked = old.looked; path = old.path; starts = old.starts; work = work })
steps_done edges old work place node next targets sound last here node_edges now none popped =
    let count : length work.items ≡ length (take (length old.work.items - 1) old.work.items) = ap length popped in
    let taken = length-take (length old.work.items - 1) old.work.items in
    record {
      sound = subst (λ xs. IsSound edges old.marks.items old.looked.items old.path.items old.starts.items xs) (sym popped) (done_sound edges old.marks.items old.looked.items old.path.items old.starts.items old.work.items place node next targets sound last here node_edges now none);
      found = λ a at. at;
      less = omega (arith, count, taken, last.0);
    }

pub steps_closed : (edges : Edges) (old new : Search) (start : ℕ) → IsSearch edges old → IsLast old.starts.items start → ((s x : ℕ) → At old.work.items s x → x < start) → Closes start old new → Steps edges old new
steps_closed edges old new start sound last low closes =
    let count : length new.starts.items ≡ length (take (length old.starts.items - 1) old.starts.items) = ap length closes.starts in
    let taken = length-take (length old.starts.items - 1) old.starts.items in
    let work : length new.work.items ≡ length old.work.items = ap length closes.work in
    let left : edges_left edges new.looked.items ≡ edges_left edges old.looked.items = ap (edges_left edges) closes.looked in
    let after : IsClosing start closes.number old.marks.items new.marks.items = closing old.path.items start closes.number old.marks.items new.marks.items sound.path_is closes.marks in
    record {
      sound = replaced edges new.marks.items new.marks.items old.looked.items new.looked.items (take start old.path.items) new.path.items (take (length old.starts.items - 1) old.starts.items) new.starts.items old.work.items new.work.items refl closes.looked closes.path closes.starts closes.work (closed_sound edges old.marks.items new.marks.items old.looked.items old.path.items old.starts.items old.work.items start closes.number sound last low closes.first closes.marks);
      found = λ a at. after.was_unfound a at;
      less = omega (arith, count, taken, work, left, last.0);
    }

-- ---- what the code reads

-- the node at the last place of the work
pub node_at : (edges : Edges) (search : Search) (place node : ℕ) → IsSearch edges search → IsLast search.work.items place → node ≡ get_or search.path.items place node → At search.path.items place node
node_at edges search place node sound last is = read_at search.path.items place node (sound.work_is.inside (length search.work.items - 1) place last.1) is

pub looked_at : (edges : Edges) (search : Search) (node next : ℕ) → IsSearch edges search → node < length edges → next ≡ get_or search.looked.items node next → At search.looked.items node next
looked_at edges search node next sound known is = read_at search.looked.items node next (omega (arith, known, sound.looked_count)) is

-- a list without its last item
pub popped : (old new : Vec ℕ) → new.items ≡ take (vec_len old - 1) old.items → new.items ≡ take (length old.items - 1) old.items
popped old new rest = rest ∙ ap (λ n. take (n - 1) old.items) old.ok.0

-- a last item below a bound bounds all, and so does none
pub all_low : (work : List ℕ) (place start : ℕ) → Rises work → IsLast work place → place < start → (s x : ℕ) → At work s x → x < start
all_low work place start rises last low s x at = let h = before_last work place s x rises last at in omega (arith, h, low)

pub none_low : (work : List ℕ) (start : ℕ) → length work ≡ 0 → (s x : ℕ) → At work s x → x < start
none_low work start none s x at = let h = at_within work s x at in absurd (omega (arith, h, none))

pub numbers_as : (number : ℕ) (nodes nodes' : List ℕ) (old old' new new' : List NodeMark) → nodes ≡ nodes' → old ≡ old' → new ≡ new' → Numbers nodes number old new → Numbers nodes' number old' new'
numbers_as number nodes nodes' old old' new new' en eo ew numbers =
    subst (λ x. Numbers x number old' new') en (subst (λ x. Numbers nodes number x new') eo (subst (λ x. Numbers nodes number old x) ew numbers))
