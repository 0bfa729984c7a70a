-- How much of a search is left.
use Rattle.std.proofs.Common.{◌≡◌, ℕ, zero, suc, ◌+◌, ◌<◌, List, [], ◌∷◌, length, set, ap, arith}
use Rattle.std.proofs.lemmas.Option.{none-some, same_Some}
use Rattle.dj_graph.specs.Graphs.{Edges}
use Rattle.dj_graph.specs.Searches.{edges_left}
use Rattle.dj_graph.proofs.Lists.{At}

-- one edge less is left
pub one_less : (edges : Edges) (looked : List ℕ) (node e : ℕ) (targets : List ℕ) → At edges node targets → At looked node e → e < length targets → edges_left edges (set looked node (e + 1)) + 1 ≡ edges_left edges looked
one_less [] looked node e targets at now lt = absurd (none-some targets at)
one_less (first ∷ edges) [] node e targets at now lt = absurd (none-some e now)
one_less (first ∷ edges) (n ∷ looked) zero e targets at now lt =
    let list : first ≡ targets = same_Some first targets at in
    let count : n ≡ e = same_Some n e now in
    let long : length first ≡ length targets = ap length list in
    omega (arith, long, count, lt)
one_less (first ∷ edges) (n ∷ looked) (suc node) e targets at now lt =
    let rest : edges_left edges (set looked node (e + 1)) + 1 ≡ edges_left edges looked = one_less edges looked node e targets at now lt in
    omega (arith, rest)
