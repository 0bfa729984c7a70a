-- Marks: nodes that are given the number of their component, one after the other.
use Rattle.std.proofs.Common.{◌≡◌, ℕ, ◌+◌, ◌<◌, List, [], length, take, set, Some, refl, sym, ◌∙◌, ap, subst, inl, inr, arith}
use Rattle.std.proofs.lemmas.Option.{none-some}
use Rattle.std.proofs.Math.ListN.{length-set}
use Rattle.dj_graph.specs.declared.mark.NodeMark.{NodeMark}
use Rattle.dj_graph.specs.declared.mark.NodeMark.TheVariants.{Closed}
use Rattle.dj_graph.specs.Searches.{Numbers}
use Rattle.dj_graph.proofs.Lists.{At, of_take, in_take, set_same, set_elsewhere, same_or_not, earlier}

pub numbers_none : (number : ℕ) (marks : List NodeMark) → Numbers [] number marks marks
numbers_none number marks = record { count = refl; among = λ i a at. absurd (none-some a at); others = λ a apart. refl }

-- the first k nodes have the number, and now the next one too
pub numbers_more : (nodes : List ℕ) (k a number : ℕ) (old now : List NodeMark) → Numbers (take k nodes) number old now → At nodes k a → a < length old → Numbers (take (k + 1) nodes) number old (set now a (Closed number))
numbers_more nodes k a number old now so_far here within = record {
  count = length-set now a (Closed number) ∙ so_far.count;
  among = λ i b at.
      let found = of_take (k + 1) nodes i b at in
      let lt : a < length now = omega (arith, so_far.count, within) in
      elim (same_or_not b a) [
        | inl same ↦ subst (λ x. At (set now a (Closed number)) x (Closed number)) (sym same) (set_same now a (Closed number) lt)
        | inr apart ↦ set_elsewhere now a b (Closed number) apart ∙ so_far.among i b (in_take k nodes i b (earlier nodes k i b a here found.1 found.0 apart) found.1)
      ];
  others = λ b apart.
      let not_a : b ≡ a → ⊥ = λ same. apart k (in_take (k + 1) nodes k b (omega arith) (here ∙ ap Some (sym same))) in
      set_elsewhere now a b (Closed number) not_a ∙ so_far.others b (λ i at. let found = of_take k nodes i b at in apart i (in_take (k + 1) nodes i b (omega (arith, found.0)) found.1));
}
