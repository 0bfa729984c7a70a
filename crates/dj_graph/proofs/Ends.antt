-- A search that has found nothing, and one that has found all.
use Rattle.std.proofs.Common.{◌≡◌, ℕ, ◌<◌, List, [], map, length, replicate, slice_get, option_map, sym, ◌∙◌, ap, subst, arith}
use Rattle.std.proofs.lemmas.Option.{none-some, slice_get-map}
use Rattle.std.proofs.lemmas.List.{length-replicate, length-map}
use Rattle.dj_graph.specs.declared.mark.NodeMark.{NodeMark}
use Rattle.dj_graph.specs.declared.mark.NodeMark.TheVariants.{Unfound, Open, Closed}
use Rattle.dj_graph.specs.Graphs.{Edges, Reaches, AreComponents}
use Rattle.dj_graph.specs.Searches.{IsClosed, AllClosed, IsSound, AreWhole}
use Rattle.dj_graph.proofs.Lists.{At, at_within, at_some, of_replicate, in_replicate}
use Rattle.dj_graph.proofs.Reaching.{then_reaches}

new_whole : (edges : Edges) (n : ℕ) → AreWhole edges (replicate n Unfound)
new_whole edges n = record {
  onward = λ a b m at edge. let e = of_replicate n Unfound a (Closed m) at in absurd cc;
  named = λ a m at. let e = of_replicate n Unfound a (Closed m) at in absurd cc;
  same = λ a b m n' at. let e = of_replicate n Unfound a (Closed m) at in absurd cc;
}

pub new_sound : (edges : Edges) (n : ℕ) → n ≡ length edges → IsSound edges (replicate n Unfound) (replicate n 0) [] [] []
new_sound edges n count = record {
  marks_count = length-replicate n Unfound ∙ count;
  looked_count = length-replicate n 0 ∙ count;
  path_is = record { placed = λ i a at. absurd (none-some a at); listed = λ i a at. let e = of_replicate n Unfound a (Open i) at in absurd cc };
  linked = record { onward = λ i j a b le first. absurd (none-some a first); back = λ i j a b le first. absurd (none-some a first) };
  starts_are = record { rising = λ i j x y lt first. absurd (none-some x first); inside = λ s x at. absurd (none-some x at); first = λ some. absurd (omega (arith, some)) };
  work_is = record { rising = λ i j x y lt first. absurd (none-some x first); inside = λ s x at. absurd (none-some x at) };
  whole = new_whole edges n;
  fresh = λ a at. in_replicate n 0 a (let within = at_within (replicate n Unfound) a Unfound at in let size = length-replicate {A = NodeMark} n Unfound in omega (arith, within, size));
  settled = λ i a e b targets at. absurd (none-some a at);
}

found_closed : (edges : Edges) (marks : List NodeMark) (looked starts work : List ℕ) (a : ℕ) (mark : NodeMark) → IsSound edges marks looked [] starts work → (At marks a Unfound → ⊥) → At marks a mark → IsClosed marks a
found_closed edges marks looked starts work a Unfound sound found at = absurd (found at)
found_closed edges marks looked starts work a (Open i) sound found at = absurd (none-some a (sound.path_is.listed i a at))
found_closed edges marks looked starts work a (Closed m) sound found at = (m, at)

-- where no node is open and each was found, each is closed
pub all_closed : (edges : Edges) (marks : List NodeMark) (looked starts work : List ℕ) → IsSound edges marks looked [] starts work → ((a : ℕ) → a < length marks → At marks a Unfound → ⊥) → AllClosed marks
all_closed edges marks looked starts work sound found a lt =
    let mark = at_some marks a lt in
    found_closed edges marks looked starts work a mark.0 sound (found a lt) mark.1

marked : (numbers : List ℕ) (marks : List NodeMark) (a m : ℕ) → map (λ (n : ℕ). Closed n) numbers ≡ marks → At numbers a m → At marks a (Closed m)
marked numbers marks a m are at = ap (λ ms. slice_get ms a) (sym are) ∙ slice_get-map (λ (n : ℕ). Closed n) numbers a ∙ ap (λ found. option_map (λ (n : ℕ). Closed n) found) at

-- the numbers of the closed nodes are those of the components
pub are_components : (edges : Edges) (marks : List NodeMark) (numbers : List ℕ) → length marks ≡ length edges → AreWhole edges marks → map (λ (n : ℕ). Closed n) numbers ≡ marks → AreComponents edges numbers
are_components edges marks numbers count whole are = record {
  all = sym (length-map numbers (λ (n : ℕ). Closed n)) ∙ ap length are ∙ count;
  each = λ a b m n at_a at_b.
      let mark_a = marked numbers marks a m are at_a in
      let mark_b = marked numbers marks b n are at_b in
      let name_a = whole.named a m mark_a in
      let name_b = whole.named b n mark_b in (
        λ same. (then_reaches name_a.0 (subst (λ x. Reaches edges x b) (sym same) name_b.1), then_reaches name_b.0 (subst (λ x. Reaches edges x a) same name_a.1)),
        λ both. whole.same a b m n mark_a mark_b both.0 both.1,
      );
}
