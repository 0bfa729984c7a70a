-- All that a node reaches is explored.
use Rattle.std.proofs.Common.{◌≡◌, ℕ, ◌+◌, ◌<◌, ◌≤◌, List, [], ◌∷◌, length, replicate, refl, subst, inl, inr, arith}
use Rattle.std.proofs.lemmas.Option.{none-some}
use Rattle.dj_graph.specs.declared.mark.NodeMark.TheVariants.{Unfound}
use Rattle.dj_graph.specs.declared.search.Search.{Search}
use Rattle.dj_graph.specs.Graphs.{Edges}
use Rattle.dj_graph.specs.Searches.{IsSound, IsSearch, IsNew, AllClosed, AreStarts, AllReach, KeepsFound, Follows, Steps, Explores}
use Rattle.dj_graph.proofs.Lists.{At, same_or_not}
use Rattle.dj_graph.proofs.Ends.{new_sound, all_closed}
use Rattle.dj_graph.proofs.StepLemmas.{replaced}

-- a search under way from a root
pub record IsExploring (edges : Edges) (root : ℕ) (old now : Search) : Type 0 where
  pub sound : IsSearch edges now
  pub found : KeepsFound old.marks.items now.marks.items
  pub root_found : At now.marks.items root Unfound → ⊥

pub none_reach : (edges : Edges) (path : List ℕ) (target : ℕ) → path ≡ [] → AllReach edges path target
none_reach edges path target none i a at = absurd (none-some a (subst (λ xs. At xs i a) none at))

pub exploring_starts : (edges : Edges) (root : ℕ) (old now : Search) → Follows edges root old now → IsExploring edges root old now
exploring_starts edges root old now follows = record { sound = follows.sound; found = follows.found; root_found = follows.target_found }

pub exploring_goes_on : (edges : Edges) (root : ℕ) (old now next : Search) → IsExploring edges root old now → Steps edges now next → IsExploring edges root old next
exploring_goes_on edges root old now next so_far steps = record {
  sound = steps.sound;
  found = λ a at. so_far.found a (steps.found a at);
  root_found = λ at. so_far.root_found (steps.found root at);
}

no_path : (path starts : List ℕ) → AreStarts path starts → length starts ≡ 0 → path ≡ []
no_path [] starts are none = refl
no_path (a ∷ path) [] are none = absurd (none-some 0 (are.first (omega arith)))
no_path (a ∷ path) (x ∷ starts) are none = absurd (omega (arith, none))

pub exploring_ends : (edges : Edges) (root : ℕ) (old now : Search) → IsExploring edges root old now → length now.starts.items ≡ 0 → Explores edges root old now
exploring_ends edges root old now so_far none = record {
  sound = so_far.sound;
  found = so_far.found;
  root_found = so_far.root_found;
  idle = no_path now.path.items now.starts.items so_far.sound.starts_are none;
}

-- all nodes before this one are found, and none is open
pub record IsCovering (edges : Edges) (count : ℕ) (now : Search) : Type 0 where
  pub sound : IsSearch edges now
  pub idle : now.path.items ≡ []
  pub found : (a : ℕ) → a < count → At now.marks.items a Unfound → ⊥

pub covers_none : (edges : Edges) (count : ℕ) (now : Search) → count ≡ length edges → IsNew count now → IsCovering edges 0 now
covers_none edges count now size new = record {
  sound = replaced edges (replicate count Unfound) now.marks.items (replicate count 0) now.looked.items [] now.path.items [] now.starts.items [] now.work.items new.marks new.looked new.path new.starts new.work (new_sound edges count size);
  idle = new.path;
  found = λ a lt. absurd (omega (arith, lt));
}

pub covers_more : (edges : Edges) (root : ℕ) (old now : Search) → IsCovering edges root old → Explores edges root old now → IsCovering edges (root + 1) now
covers_more edges root old now so_far explores = record {
  sound = explores.sound;
  idle = explores.idle;
  found = λ a lt at. elim (same_or_not a root) [
    | inl same ↦ explores.root_found (subst (λ x. At now.marks.items x Unfound) same at)
    | inr other ↦ so_far.found a (omega (arith, lt, other)) (explores.found a at)
  ];
}

pub covers_all : (edges : Edges) (count : ℕ) (now : Search) → IsCovering edges count now → length edges ≤ count → AllClosed now.marks.items
covers_all edges count now covers all =
    all_closed edges now.marks.items now.looked.items now.starts.items now.work.items (subst (λ xs. IsSound edges now.marks.items now.looked.items xs now.starts.items now.work.items) covers.idle covers.sound) (λ a lt. covers.found a (let size = covers.sound.marks_count in omega (arith, lt, size, all)))
